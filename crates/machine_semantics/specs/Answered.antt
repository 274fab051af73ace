-- The next operation of the machine, and the machine after the reply to it.
use Rattle.std.specs.Prelude.{ℕ, suc, List, [], ◌∷◌, true, false, drop, nat_lt}
use Rattle.lisp_base.specs.declared.condition.Class.TheVariants.{UnboundVariable}
use Rattle.lisp_base.specs.declared.value.Node.TheVariants.{Symbol}
use Rattle.lisp_base.specs.declared.word.Operand.TheVariants.{Value as ValueOperand}
use Rattle.form_points.specs.declared.act.Question.{Question}
use Rattle.form_points.specs.declared.act.Question.TheVariants.{CompareAndSwap, Define, EndThread, IsBound, Print, Read, Serve, Write}
use Rattle.lisp_code.specs.Lines.{Line, Asks, Tests}
use Rattle.world_semantics.specs.declared.op.Reply.{Reply}
use Rattle.world_semantics.specs.declared.op.Reply.TheVariants.{Truth, Unbound, Value}
use Rattle.thread_semantics.specs.Next.{Local, Next, Operation, Over as NothingMore, asked, within_limit}
use Rattle.thread_semantics.specs.State.{Base, Target, ToFrame}
use Rattle.world_semantics.specs.declared.op.Op.TheVariants.{Finish}
use Rattle.machine_semantics.specs.Links.{raises_class, runs_at}
use Rattle.machine_semantics.specs.Machine.{Link, Machine, Over}

-- what comes next at a line
abbrev pub line_next : Line → Machine → Next
line_next (Asks question) m = asked question m.operands m.bindings
line_next (Tests question to) m = asked question m.operands m.bindings
line_next other m = Local

-- an exit leaves a frame; where none is left, an exit to the base ends the thread
abbrev pub exit_next : Target → List Link → Next
exit_next (Base ending) [] = Operation (Finish ending)
exit_next (ToFrame outside value) [] = NothingMore
exit_next target (l ∷ ls) = Local

-- a machine that has points left does what comes next
abbrev pub limited : Machine → Next → Next
limited m next = within_limit (nat_lt m.points m.limits.steps) next

-- the machine whose thread has ended
abbrev pub ended : Machine → Machine
ended m = record m { doing = Over }

-- the reply to the read of a global value
abbrev pub read_answered : Reply → (next : ℕ) → Machine → Machine
read_answered (Value v) next m = runs_at next (ValueOperand v ∷ m.operands) m
read_answered Unbound next m = raises_class UnboundVariable m
read_answered reply next m = m

-- the reply to a question
abbrev pub question_answered : Question → Reply → (next : ℕ) → Machine → Machine
question_answered (Print printing) reply next m = runs_at next m.operands m
question_answered (Read symbol) reply next m = read_answered reply next m
question_answered (Write symbol) reply next m = runs_at next m.operands m
question_answered (IsBound symbol) reply next m = m
question_answered (Define symbol) reply next m = runs_at next (ValueOperand (Symbol symbol) ∷ drop 1 m.operands) m
question_answered (CompareAndSwap symbol) reply next m = m
question_answered (Serve service step) reply next m = m
question_answered EndThread reply next m = ended m

-- the reply to whether a variable has a value: where it has one, the machine goes on at `to`
abbrev pub bound_answered : Reply → (symbol to next : ℕ) → Machine → Machine
bound_answered (Truth true) symbol to next m = runs_at to (ValueOperand (Symbol symbol) ∷ m.operands) m
bound_answered (Truth false) symbol to next m = runs_at next m.operands m
bound_answered reply symbol to next m = m

-- the reply to a question that may settle the matter
abbrev pub test_answered : Question → Reply → (to next : ℕ) → Machine → Machine
test_answered (IsBound symbol) reply to next m = bound_answered reply symbol to next m
test_answered question reply to next m = m

-- the reply at a line
abbrev pub answered : Line → Reply → (position : ℕ) → Machine → Machine
answered (Asks question) reply position m = question_answered question reply (suc position) m
answered (Tests question to) reply position m = test_answered question reply to (suc position) m
answered other reply position m = m
