-- The machine after one line.
use Rattle.std.specs.Prelude.{ℕ, suc, ◌++◌, List, ◌∷◌, Bool, true, false, Option, Some, None, Result, Ok, Err, ◌==◌, if◌then◌else◌, length, map, reverse, slice_get, take, drop, unwrap_or}
use Rattle.lisp_base.specs.declared.condition.Class.{Class}
use Rattle.lisp_base.specs.declared.condition.Class.TheVariants.{ProgramError, StorageCondition, TypeError, UndefinedFunction}
use Rattle.lisp_base.specs.declared.value.Node.{Node}
use Rattle.lisp_base.specs.declared.value.Node.TheVariants.{Thread}
use Rattle.lisp_base.specs.declared.word.Operand.{Operand}
use Rattle.lisp_base.specs.declared.word.Operand.TheVariants.{Value, Function as FunctionOperand}
use Rattle.environment_semantics.specs.Environment.{bound, value_of as bound_value, written}
use Rattle.form_points.specs.Operands.{operands_of}
use Rattle.form_points.specs.Primitives as primitives
use Rattle.form_points.specs.declared.act.Act.{Act}
use Rattle.form_points.specs.declared.act.Act.TheVariants.{AbortThread, Apply, BindLocal, Call, Discard, ForgetLocal, Push, PushFunction, PushThread, ReadLocal, ReturnFrom, ReturnFromThread, Signal, Throw, WriteLocal}
use Rattle.form_points.specs.declared.act.Opening.{Opening}
use Rattle.form_points.specs.declared.act.Opening.TheVariants.{Bind, Block, Catch}
use Rattle.form_points.specs.declared.act.Question.{Question}
use Rattle.form_points.specs.declared.act.Question.TheVariants.{Read, Write}
use Rattle.lisp_code.specs.Lines.{Line, Does, Calls, Asks, Tests, Branches, LoopTests, JumpsTo, Enters, EntersProtect, EntersHandler, Leaves, LeavesProtect, LeavesCleanup, LeavesHandler}
use Rattle.lisp_code.specs.declared.code.FunctionCode.{FunctionCode}
use Rattle.lisp_code.specs.declared.instr.Clause.{Clause as Start}
use Rattle.world_semantics.specs.declared.phase.Ending.TheVariants.{Aborted, Returned}
use Rattle.thread_semantics.specs.Acts.{entry_operand, is_false, is_tag, nil_operand, top, value_of, without}
use Rattle.thread_semantics.specs.Exits.{is_block, is_catch}
use Rattle.thread_semantics.specs.State.{Base}
use Rattle.thread_semantics.specs.Step.{is_openable}
use Rattle.machine_semantics.specs.Links.{closes, has_space, heads_to, opens, padded, raises, raises_class, read_at, runs_at, sets_out, sought, written_at}
use Rattle.machine_semantics.specs.Machine.{BindLink, BlockLink, CallLink, CatchLink, Code, HandlerLink, Machine, ProtectLink}

-- a function of the language gives its value in place of its operands, or signals
abbrev pub applied_at : Result Node Class → (position : ℕ) → List Operand → Machine → Machine
applied_at (Ok v) position operands m = runs_at position (Value v ∷ operands) m
applied_at (Err class) position operands m = raises_class class m

-- Where there is room, a call opens its frame. Its variables come after those of the caller, and its arguments are the first.
abbrev pub call_begun : Bool → (count place back : ℕ) → FunctionCode → Machine → Machine
call_begun false count place back f m = raises_class StorageCondition m
call_begun true count place back f m =
    record (opens (CallLink back m.base) place f.entry (drop count m.operands) 0 m) {
      variables = m.variables ++ padded f.height (reverse (take count m.operands));
      base = length m.variables;
    }

-- a call of a function with so many operands, after which the caller goes on at a position
abbrev pub call_of : Option FunctionCode → (count place back : ℕ) → Machine → Machine
call_of None count place back m = raises_class UndefinedFunction m
call_of (Some f) count place back m =
    if f.params == count then call_begun (has_space m) count place back f m else raises_class ProgramError m

-- a `throw` to a tag with a value; what can be no tag signals `type-error`
abbrev pub thrown : Bool → (tag value : Operand) → Machine → Machine
thrown false tag value m = raises_class TypeError m
thrown true tag value m = heads_to (sought (is_catch tag) m.chain) value m

-- what the line of each act does, with the position after it; that of a call stands only where there is no such function
abbrev pub act_done : Act → (next : ℕ) → Machine → Machine
act_done (Push v) next m = runs_at next (Value v ∷ m.operands) m
act_done (PushFunction f) next m = runs_at next (FunctionOperand f ∷ m.operands) m
act_done PushThread next m = runs_at next (Value (Thread m.thread) ∷ m.operands) m
act_done (ReadLocal x) next m = runs_at next (read_at x m ∷ m.operands) m
act_done (WriteLocal x) next m = runs_at next m.operands (written_at x (top m.operands) m)
act_done (BindLocal x above) next m = runs_at next (without above m.operands) (written_at x (top (drop above m.operands)) m)
act_done ForgetLocal next m = runs_at next m.operands m
act_done Discard next m = runs_at next (drop 1 m.operands) m
act_done (Apply f) next m =
    applied_at (primitives.value_of f (map value_of (reverse (take (operands_of f) m.operands)))) next (drop (operands_of f) m.operands) m
act_done (Call f count) next m = raises_class UndefinedFunction m
act_done (ReturnFrom b) next m = heads_to (sought (is_block (read_at b m)) m.chain) (top m.operands) m
act_done Throw next m = thrown (is_tag (value_of (top (drop 1 m.operands)))) (top (drop 1 m.operands)) (top m.operands) m
act_done (Signal condition) next m = raises condition m
act_done AbortThread next m = sets_out (Base (Aborted None)) m
act_done ReturnFromThread next m = sets_out (Base (Returned (value_of (top m.operands)))) m

-- a binding: the operands before its value go into the body
abbrev pub binding_opened : (symbol above place next : ℕ) → Machine → Machine
binding_opened symbol above place next m =
    record (opens (BindLink (length m.bindings)) place next (without above m.operands) above m) {
      bindings = (bound symbol (top (drop above m.operands)) m.bindings m.store).0;
      store = (bound symbol (top (drop above m.operands)) m.bindings m.store).1;
    }

-- A frame is opened. An exit that reaches it goes on at `back`. No program that is run has one of the openings of the last line yet.
abbrev pub frame_opened : Opening → (place back next : ℕ) → Machine → Machine
frame_opened (Bind symbol above) place back next m = binding_opened symbol above place next m
frame_opened (Block x) place back next m =
    opens (BlockLink m.pushed back) place next m.operands 0 (written_at x (entry_operand m.pushed) m)
frame_opened Catch place back next m = opens (CatchLink (top m.operands) back) place next (drop 1 m.operands) 0 m
frame_opened other place back next m = m

-- where there is no room, nothing is opened, and `storage-condition` is signalled
abbrev pub opened_where : Bool → Opening → (place back next : ℕ) → Machine → Machine
opened_where true opening place back next m = frame_opened opening place back next m
opened_where false opening place back next m = raises_class StorageCondition m

-- what an opening does; the tag of a `catch` is judged before the room
abbrev pub entered : Bool → Opening → (place back next : ℕ) → Machine → Machine
entered true opening place back next m = opened_where (has_space m) opening place back next m
entered false opening place back next m = raises_class TypeError m

-- the frame of a form that is protected, or that has handlers, is opened
abbrev pub protected : Bool → (place cleanup next : ℕ) → Machine → Machine
protected true place cleanup next m = opens (ProtectLink cleanup) place next m.operands 0 m
protected false place cleanup next m = raises_class StorageCondition m

abbrev pub handled : Bool → (place : ℕ) → List Start → (next : ℕ) → Machine → Machine
handled true place starts next m = opens (HandlerLink starts) place next m.operands 0 m
handled false place starts next m = raises_class StorageCondition m

-- the position after a test: the first where its value is NIL, else the next
abbrev pub branched : Bool → (to next : ℕ) → ℕ
branched true to next = to
branched false to next = next

-- the turn of a loop: where the value of its test is NIL, the loop gives NIL and goes on at `to`
abbrev pub loop_turned : Bool → (to next : ℕ) → List Operand → Machine → Machine
loop_turned true to next operands m = runs_at to (nil_operand ∷ operands) m
loop_turned false to next operands m = runs_at next operands m

-- a special variable that is bound in this thread is read and written there; the other questions are operations
abbrev pub question_done : Question → (next : ℕ) → Machine → Machine
question_done (Read symbol) next m = runs_at next (unwrap_or (bound_value symbol m.bindings m.store) nil_operand ∷ m.operands) m
question_done (Write symbol) next m =
    record (runs_at next m.operands m) { store = written symbol (top m.operands) m.bindings m.store }
question_done other next m = m

-- one line, with its place and its position
abbrev pub ran : Code → Line → (place position : ℕ) → Machine → Machine
ran code (Does act) place position m = act_done act (suc position) m
ran code (Calls function count) place position m = call_of (slice_get code.functions function) count place (suc position) m
ran code (Asks question) place position m = question_done question (suc position) m
ran code (Tests question to) place position m = m
ran code (Branches to) place position m = runs_at (branched (is_false (top m.operands)) to (suc position)) (drop 1 m.operands) m
ran code (LoopTests to) place position m = loop_turned (is_false (top m.operands)) to (suc position) (drop 1 m.operands) m
ran code (JumpsTo to) place position m = runs_at to m.operands m
ran code (Enters opening back) place position m = entered (is_openable opening m.operands) opening place back (suc position) m
ran code (EntersProtect cleanup) place position m = protected (has_space m) place cleanup (suc position) m
ran code (EntersHandler starts) place position m = handled (has_space m) place starts (suc position) m
ran code Leaves place position m = closes (suc position) m.chain m
ran code LeavesProtect place position m = closes (suc position) m.chain m
ran code LeavesCleanup place position m = closes (suc position) m.chain m
ran code (LeavesHandler to) place position m = closes to m.chain m
