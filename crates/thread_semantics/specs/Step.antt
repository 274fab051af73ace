-- The state of a thread after one local point.
use Rattle.std.specs.Prelude.{ℕ, suc, List, [], ◌∷◌, Bool, true, false, Option, Some, None, Result, Ok, Err, ◌==◌, if◌then◌else◌, map, reverse, take, drop, unwrap_or}
use Rattle.lisp_base.specs.declared.condition.Class.{Class}
use Rattle.lisp_base.specs.declared.condition.Class.TheVariants.{ProgramError, StorageCondition, TypeError, UndefinedFunction}
use Rattle.lisp_base.specs.declared.value.Node.{Node}
use Rattle.lisp_base.specs.declared.value.Node.TheVariants.{Thread}
use Rattle.lisp_base.specs.declared.word.Operand.{Operand}
use Rattle.lisp_base.specs.declared.word.Operand.TheVariants.{Value, Function as FunctionOperand}
use Rattle.lisp_program.specs.Program.{Function}
use Rattle.environment_semantics.specs.Environment.{bound, value_of as bound_value, written}
use Rattle.form_points.specs.Operands.{operands_of}
use Rattle.form_points.specs.Points.{Points, Done, Do, Ask, Test, Choose, Loop, Turn, Enter, Protect, Handle, When, body_of, joined}
use Rattle.form_points.specs.Primitives as primitives
use Rattle.form_points.specs.Table.{points_of}
use Rattle.form_points.specs.declared.act.Act.{Act}
use Rattle.form_points.specs.declared.act.Act.TheVariants.{AbortThread, Apply, BindLocal, Call, Discard, ForgetLocal, Push, PushFunction, PushThread, ReadLocal, ReturnFrom, ReturnFromThread, Signal, Throw, WriteLocal}
use Rattle.form_points.specs.declared.act.Opening.{Opening}
use Rattle.form_points.specs.declared.act.Opening.TheVariants.{Bind, Block, Catch}
use Rattle.form_points.specs.declared.act.Question.{Question}
use Rattle.form_points.specs.declared.act.Question.TheVariants.{Read, Write}
use Rattle.world_semantics.specs.declared.phase.Ending.TheVariants.{Aborted, Returned}
use Rattle.thread_semantics.specs.Acts.{entry_operand, function_named, is_false, is_tag, nil_operand, put, top, value_of, variable, without}
use Rattle.thread_semantics.specs.Exits.{found, is_block, is_catch}
use Rattle.thread_semantics.specs.Frames.{exit_step, exit_to, goes_on, has_room, leave_step, leaves_to, signal, signal_class, within}
use Rattle.thread_semantics.specs.State.{At, Base, BindFrame, BlockFrame, CallFrame, CatchFrame, Clause, Control, Ended, Exit, HandlerFrame, ProtectFrame, Setting, ThreadState}

-- a function of the language gives its value in place of its operands, or signals
abbrev pub applied : Result Node Class → Points → List Operand → ThreadState → ThreadState
applied (Ok v) after vs s = goes_on after (Value v ∷ vs) s
applied (Err class) after vs s = signal_class class s

-- Where there is room, a call opens its frame, which keeps the variables of the caller, and the body begins with the arguments as
-- variables. Else `storage-condition` is signalled.
abbrev pub called : Bool → (args : List Operand) → (place : ℕ) → (after : Points) → (values : List Operand) → Function → ThreadState → ThreadState
called false args place after vs f s = signal_class StorageCondition s
called true args place after vs f s =
    record (within (CallFrame s.variables) place after vs (body_of f.place (points_of f.body)) [] s) { variables = args }

-- A call of a function with so many operands: where there is no such function, `undefined-function` is signalled; where it takes
-- another number of arguments, `program-error`.
abbrev pub call_step : Option Function → (count place : ℕ) → Points → List Operand → ThreadState → ThreadState
call_step None count place after vs s = signal_class UndefinedFunction s
call_step (Some f) count place after vs s =
    if f.params == count then called (has_room s) (reverse (take count vs)) place after (drop count vs) f s else signal_class ProgramError s

-- a `throw` to a tag with a value; what can be no tag signals `type-error`
abbrev pub throw_step : Bool → (tag value : Operand) → ThreadState → ThreadState
throw_step false tag value s = signal_class TypeError s
throw_step true tag value s = exit_to (found (is_catch tag) s.frames) value s

-- what each act does
abbrev pub act_step : Setting → Act → (place : ℕ) → (after : Points) → List Operand → ThreadState → ThreadState
act_step setting (Push v) place after vs s = goes_on after (Value v ∷ vs) s
act_step setting (PushFunction f) place after vs s = goes_on after (FunctionOperand f ∷ vs) s
act_step setting PushThread place after vs s = goes_on after (Value (Thread s.thread) ∷ vs) s
act_step setting (ReadLocal x) place after vs s = goes_on after (variable x s.variables ∷ vs) s
act_step setting (WriteLocal x) place after vs s = goes_on after vs (record s { variables = put x (top vs) s.variables })
act_step setting (BindLocal x above) place after vs s =
    goes_on after (without above vs) (record s { variables = put x (top (drop above vs)) s.variables })
act_step setting ForgetLocal place after vs s = goes_on after vs s
act_step setting Discard place after vs s = goes_on after (drop 1 vs) s
act_step setting (Apply f) place after vs s =
    applied (primitives.value_of f (map value_of (reverse (take (operands_of f) vs)))) after (drop (operands_of f) vs) s
act_step setting (Call f count) place after vs s = call_step (function_named f setting.functions) count place after vs s
act_step setting (ReturnFrom b) place after vs s = exit_to (found (is_block (variable b s.variables)) s.frames) (top vs) s
act_step setting Throw place after vs s = throw_step (is_tag (value_of (top (drop 1 vs)))) (top (drop 1 vs)) (top vs) s
act_step setting (Signal condition) place after vs s = signal condition s
act_step setting AbortThread place after vs s = leaves_to (Base (Aborted None)) s
act_step setting ReturnFromThread place after vs s = leaves_to (Base (Returned (value_of (top vs)))) s

-- a binding: the operands before its value go into the body, and those after it wait with the frame, which holds the map at its entry
abbrev pub bind_step : (symbol above place : ℕ) → (body after : Points) → List Operand → ThreadState → ThreadState
bind_step symbol above place body after vs s =
    record (within (BindFrame s.environment.bindings) place after (drop (suc above) vs) body (take above vs) s) {
      environment = record s.environment { bindings = (bound symbol (top (drop above vs)) s.environment.bindings s.store).0 };
      store = (bound symbol (top (drop above vs)) s.environment.bindings s.store).1;
    }

-- A frame is opened, where there is room. A block writes the number of its entry to its variable. No program that is run has one of the
-- openings of the last line yet.
abbrev pub opened : Opening → (place : ℕ) → (body after : Points) → List Operand → ThreadState → ThreadState
opened (Bind symbol above) place body after vs s = bind_step symbol above place body after vs s
opened (Block x) place body after vs s =
    record (within (BlockFrame s.pushed) place after vs body [] s) { variables = put x (entry_operand s.pushed) s.variables }
opened Catch place body after vs s = within (CatchFrame (top vs)) place after (drop 1 vs) body [] s
opened other place body after vs s = s

-- where there is no room, nothing is opened, and `storage-condition` is signalled
abbrev pub opened_in : Bool → Opening → (place : ℕ) → (body after : Points) → List Operand → ThreadState → ThreadState
opened_in true opening place body after vs s = opened opening place body after vs s
opened_in false opening place body after vs s = signal_class StorageCondition s

-- the operand of a `catch` can be its tag; other frames want none
abbrev pub is_openable : Opening → List Operand → Bool
is_openable Catch vs = is_tag (value_of (top vs))
is_openable other vs = true

-- what an opening does; the tag is judged before the room
abbrev pub enter_step : Bool → Opening → (place : ℕ) → (body after : Points) → List Operand → ThreadState → ThreadState
enter_step true opening place body after vs s = opened_in (has_room s) opening place body after vs s
enter_step false opening place body after vs s = signal_class TypeError s

-- the frame of a form that is protected is opened
abbrev pub protect_step : Bool → (place : ℕ) → (body cleanup after : Points) → List Operand → ThreadState → ThreadState
protect_step true place body cleanup after vs s = within (ProtectFrame cleanup) place after vs body [] s
protect_step false place body cleanup after vs s = signal_class StorageCondition s

-- the clauses that points tell
abbrev pub clauses_of : Points → List Clause
clauses_of (When class is_given chosen others) = (record { class = class; is_given = is_given; chosen = chosen }) ∷ clauses_of others
clauses_of other = []

-- the frame of a form with handlers is opened
abbrev pub handle_step : Bool → (place : ℕ) → (body clauses after : Points) → List Operand → ThreadState → ThreadState
handle_step true place body clauses after vs s = within (HandlerFrame (clauses_of clauses)) place after vs body [] s
handle_step false place body clauses after vs s = signal_class StorageCondition s

-- the points that a value chooses: the second where it is NIL
abbrev pub chosen : Bool → (first second : Points) → Points
chosen true first second = second
chosen false first second = first

-- The turn of a loop: where the value of its test is NIL, the loop gives NIL and is done. Else its body comes next, whose value is
-- forgotten, and then the loop again.
abbrev pub turn_step : Bool → (place : ℕ) → (test body after : Points) → List Operand → ThreadState → ThreadState
turn_step true place test body after vs s = goes_on after (nil_operand ∷ vs) s
turn_step false place test body after vs s = goes_on (joined body (Do Discard place (Loop place test body after))) vs s

-- A special variable that is bound in this thread is read and written there, at a local point. The other questions are operations.
abbrev pub ask_step : Question → (after : Points) → List Operand → ThreadState → ThreadState
ask_step (Read symbol) after vs s = goes_on after (unwrap_or (bound_value symbol s.environment.bindings s.store) nil_operand ∷ vs) s
ask_step (Write symbol) after vs s = goes_on after vs (record s { store = written symbol (top vs) s.environment.bindings s.store })
ask_step other after vs s = s

-- a local point of a stretch; where it is done, its frame is left
abbrev pub points_step : Setting → Points → List Operand → ThreadState → ThreadState
points_step setting Done vs s = leave_step s.frames vs s
points_step setting (Do act place after) vs s = act_step setting act place after vs s
points_step setting (Ask question place after) vs s = ask_step question after vs s
points_step setting (Test question place more after) vs s = s
points_step setting (Choose place first second after) vs s = goes_on (joined (chosen (is_false (top vs)) first second) after) (drop 1 vs) s
points_step setting (Loop place test body after) vs s = s
points_step setting (Turn place test body after) vs s = turn_step (is_false (top vs)) place test body after (drop 1 vs) s
points_step setting (Enter opening place body after) vs s = enter_step (is_openable opening vs) opening place body after vs s
points_step setting (Protect place body cleanup after) vs s = protect_step (has_room s) place body cleanup after vs s
points_step setting (Handle place body clauses after) vs s = handle_step (has_room s) place body clauses after vs s
points_step setting (When class is_given chosen others) vs s = s

-- what a thread does by its control
abbrev pub step_by : Setting → Control → ThreadState → ThreadState
step_by setting (At points vs) s = points_step setting points vs s
step_by setting (Exit target) s = exit_step target s.frames s
step_by setting Ended s = s

-- the state after one local point
abbrev pub local_step_of : Setting → ThreadState → ThreadState
local_step_of setting s = record (step_by setting s.control s) { points = suc s.points }
