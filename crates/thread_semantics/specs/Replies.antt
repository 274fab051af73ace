-- The state of a thread after the reply to its next operation.
use Rattle.std.specs.Prelude.{ℕ, zero, suc, ◌-◌, List, ◌∷◌, true, false, drop}
use Rattle.lisp_base.specs.declared.condition.Class.TheVariants.{UnboundVariable}
use Rattle.lisp_base.specs.declared.value.Node.TheVariants.{Symbol}
use Rattle.lisp_base.specs.declared.word.Operand.{Operand}
use Rattle.lisp_base.specs.declared.word.Operand.TheVariants.{Value as ValueOperand}
use Rattle.form_points.specs.Points.{Points, Ask, Test, joined}
use Rattle.form_points.specs.declared.act.Question.{Question}
use Rattle.form_points.specs.declared.act.Question.TheVariants.{CompareAndSwap, Define, EndThread, IsBound, Print, Read, Serve, Write}
use Rattle.world_semantics.specs.declared.op.Reply.{Reply}
use Rattle.world_semantics.specs.declared.op.Reply.TheVariants.{Truth, Unbound, Value}
use Rattle.thread_semantics.specs.Frames.{goes_on, signal_class}
use Rattle.thread_semantics.specs.Next.{Local, Next, Operation, OutOfPoints, Over, next_of}
use Rattle.thread_semantics.specs.State.{At, Control, Ended, Exit, Setting, ThreadState}
use Rattle.thread_semantics.specs.Step.{local_step_of}

-- a global value that was read comes before the other operands; where there is none, `unbound-variable` is signalled
abbrev pub read_reply : Reply → Points → List Operand → ThreadState → ThreadState
read_reply (Value v) after vs s = goes_on after (ValueOperand v ∷ vs) s
read_reply Unbound after vs s = signal_class UnboundVariable s
read_reply reply after vs s = s

-- the thread has ended
abbrev pub over : ThreadState → ThreadState
over s = record s { control = Ended }

-- `print` and `setq` give their value, `defvar` and `defparameter` the symbol, and a thread that finished has ended
abbrev pub question_reply : Question → Reply → Points → List Operand → ThreadState → ThreadState
question_reply (Print printing) reply after vs s = goes_on after vs s
question_reply (Read symbol) reply after vs s = read_reply reply after vs s
question_reply (Write symbol) reply after vs s = goes_on after vs s
question_reply (IsBound symbol) reply after vs s = s
question_reply (Define symbol) reply after vs s = goes_on after (ValueOperand (Symbol symbol) ∷ drop 1 vs) s
question_reply (CompareAndSwap symbol) reply after vs s = s
question_reply (Serve service step) reply after vs s = s
question_reply EndThread reply after vs s = over s

-- where the variable of a `defvar` has a value, the symbol is given, else the points of its value come next
abbrev pub bound_reply : Reply → (symbol : ℕ) → (more after : Points) → List Operand → ThreadState → ThreadState
bound_reply (Truth true) symbol more after vs s = goes_on after (ValueOperand (Symbol symbol) ∷ vs) s
bound_reply (Truth false) symbol more after vs s = goes_on (joined more after) vs s
bound_reply reply symbol more after vs s = s

-- the reply to a question that may settle the matter
abbrev pub test_reply : Question → Reply → (more after : Points) → List Operand → ThreadState → ThreadState
test_reply (IsBound symbol) reply more after vs s = bound_reply reply symbol more after vs s
test_reply question reply more after vs s = s

abbrev pub points_reply : Points → List Operand → Reply → ThreadState → ThreadState
points_reply (Ask question place after) vs reply s = question_reply question reply after vs s
points_reply (Test question place more after) vs reply s = test_reply question reply more after vs s
points_reply other vs reply s = s

abbrev pub reply_by : Control → Reply → ThreadState → ThreadState
reply_by (At points vs) reply s = points_reply points vs reply s
reply_by (Exit target) reply s = over s
reply_by Ended reply s = s

-- the state after the reply to its next operation, which is one point
abbrev pub after_reply : Reply → ThreadState → ThreadState
after_reply reply s = record (reply_by s.control reply s) { points = suc s.points }

abbrev pub going_on : Next → Setting → ThreadState → (ThreadState → ThreadState) → ThreadState
going_on Local setting s go = go (local_step_of setting s)
going_on (Operation op) setting s go = s
going_on OutOfPoints setting s go = s
going_on Over setting s go = s

-- at most n local points, and no operation
abbrev pub advanced : ℕ → Setting → ThreadState → ThreadState
advanced zero setting s = s
advanced (suc n) setting s = going_on (next_of setting s) setting s (λ t. advanced n setting t)

-- the thread goes on by local points as far as it can: to an operation, to its end, or to its limit of points
abbrev pub closed : Setting → ThreadState → ThreadState
closed setting s = advanced (setting.limits.steps - s.points) setting s
