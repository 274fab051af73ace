-- What a thread does next, and its state after that.
use Rattle.std.specs.Prelude.{ℕ, zero, suc, ◌+◌, ◌-◌, List, [], ◌∷◌, Option, Some, None, Result, Ok, Err, Bool, true, false, ◌&&◌, nat_lt, unwrap_or, slice_get, length, take, drop}
use Rattle.lisp_base.specs.Value.{nil}
use Rattle.lisp_base.specs.declared.condition.Class.{Class}
use Rattle.lisp_base.specs.declared.condition.Class.TheVariants.{UnboundVariable, StorageCondition}
use Rattle.lisp_base.specs.declared.condition.Condition.{Condition}
use Rattle.lisp_base.specs.declared.value.Node.{Node}
use Rattle.lisp_base.specs.declared.value.Node.TheVariants.{Symbol}
use Rattle.environment_semantics.specs.Environment.{Binding, place_of, value_of, bound, written}
use Rattle.plain_program.specs.declared.act.Opening.{Opening}
use Rattle.plain_program.specs.declared.act.Opening.TheVariants.{Bind}
use Rattle.plain_program.specs.declared.act.Question.{Question}
use Rattle.plain_program.specs.declared.act.Question.TheVariants.{Print as AskPrint, Read, Write, Define, EndThread}
use Rattle.plain_program.specs.Points.{Points, Done, Do, Ask, Test, Enter, joined}
use Rattle.world_semantics.specs.declared.op.Op.{Op}
use Rattle.world_semantics.specs.declared.op.Op.TheVariants.{Get, Set, Boundp, Out, Finish}
use Rattle.world_semantics.specs.declared.op.Printed.TheVariants.{Print}
use Rattle.world_semantics.specs.declared.op.Reply.{Reply}
use Rattle.world_semantics.specs.declared.op.Reply.TheVariants.{Okay, Value, Unbound, Truth}
use Rattle.world_semantics.specs.declared.phase.Ending.TheVariants.{Returned, Aborted}
use Rattle.plain_threads.specs.declared.next.Next.{Next}
use Rattle.plain_threads.specs.declared.next.Next.TheVariants.{Local, Operation, Nothing}
use Rattle.plain_threads.specs.Acts.{top, result_of}
use Rattle.plain_threads.specs.State.{FrameKind, BindFrame, Frame, Target, Base, Control, At, Exit, Ended, ThreadState}

-- A condition that is signalled goes to the first handler in force for it. No form has a handler yet, so the thread
-- leaves to its base, and is aborted with the condition.
abbrev pub signal : Condition → ThreadState → ThreadState
signal condition s = record s { control = Exit (Base (Aborted (Some condition))) }

-- a thread goes on after an act with the new values, or the act signals
abbrev pub acted : Result (List Node) Class → Points → ThreadState → ThreadState
acted (Ok vs) after s = record s { control = At after vs }
acted (Err class) after s = signal (record { class = class; text = None }) s

-- A special variable that is bound in this thread is read and written there, at a local point. The other questions are
-- operations always.
abbrev pub ask_step : Question → Points → List Node → ThreadState → ThreadState
ask_step AskPrint after vs s = s
ask_step (Read symbol) after vs s = record s { control = At after (unwrap_or (value_of symbol s.environment.bindings s.store) nil ∷ vs) }
ask_step (Write symbol) after vs s = record s { control = At after vs; store = written symbol (top vs) s.environment.bindings s.store }
ask_step (Define symbol) after vs s = s
ask_step EndThread after vs s = s

-- there may be 4,096 frames and 4,096 bindings
abbrev pub has_room : ThreadState → Bool
has_room s = nat_lt (length s.frames) 4096 && nat_lt (length s.environment.bindings) 4096

-- the value that has so many others before it
abbrev pub value_behind : ℕ → List Node → Node
value_behind above vs = unwrap_or (slice_get vs above) nil

-- A variable is bound to its value. The values before that one go into the body, and those after it wait with the frame,
-- which holds the map at its entry.
abbrev pub opened : Opening → ℕ → Points → Points → List Node → ThreadState → ThreadState
opened (Bind symbol above) place body after vs s =
    record s {
      control = At body (take above vs);
      frames = (record { kind = BindFrame s.environment.bindings; place = place; after = after; values = drop (above + 1) vs }) ∷ s.frames;
      environment = record s.environment { bindings = (bound symbol (value_behind above vs) s.environment.bindings s.store).0 };
      store = (bound symbol (value_behind above vs) s.environment.bindings s.store).1;
    }

-- where there is no room, nothing is opened, and `storage-condition` is signalled
abbrev pub enter_step : Bool → Opening → ℕ → Points → Points → List Node → ThreadState → ThreadState
enter_step true opening place body after vs s = opened opening place body after vs s
enter_step false opening place body after vs s = signal (record { class = StorageCondition; text = None }) s

-- a frame that is left puts back the map that it holds
abbrev pub put_back : FrameKind → ThreadState → ThreadState
put_back (BindFrame bindings) s = record s { environment = record s.environment { bindings = bindings } }

-- the innermost frame is left with the first value, which goes to the points that waited
abbrev pub leave_step : List Frame → List Node → ThreadState → ThreadState
leave_step [] vs s = s
leave_step (f ∷ fs) vs s = put_back f.kind (record s { control = At f.after (top vs ∷ f.values); frames = fs })

-- an exit leaves the innermost frame
abbrev pub pop_step : List Frame → ThreadState → ThreadState
pop_step [] s = s
pop_step (f ∷ fs) s = put_back f.kind (record s { frames = fs })

-- a local point of a stretch
abbrev pub points_step : Points → List Node → ThreadState → ThreadState
points_step Done vs s = leave_step s.frames vs s
points_step (Do act place after) vs s = acted (result_of act vs) after s
points_step (Ask question place after) vs s = ask_step question after vs s
points_step (Test symbol place value after) vs s = s
points_step (Enter opening place body after) vs s = enter_step (has_room s) opening place body after vs s

abbrev pub step_by : Control → ThreadState → ThreadState
step_by (At points vs) s = points_step points vs s
step_by (Exit target) s = pop_step s.frames s
step_by Ended s = s

-- the state after one local point
abbrev pub local_step_of : ThreadState → ThreadState
local_step_of s = step_by s.control (record s { points = suc s.points })

-- where the variable is bound in this thread a local point, else an operation
abbrev pub unless_bound : Option ℕ → Op → Next
unless_bound None op = Operation op
unless_bound (Some place) op = Local

-- what comes next at a question: an operation, or for a bound variable a local point
abbrev pub asked : Question → List Node → List Binding → Next
asked AskPrint vs bindings = Operation (Out (Print (top vs)))
asked (Read symbol) vs bindings = unless_bound (place_of symbol bindings) (Get symbol)
asked (Write symbol) vs bindings = unless_bound (place_of symbol bindings) (Set symbol (top vs))
asked (Define symbol) vs bindings = Operation (Set symbol (top vs))
asked EndThread vs bindings = Operation (Finish (Returned (top vs)))

-- what comes next where a stretch is done: its frame is left, if it is in one
abbrev pub next_of_end : List Frame → Next
next_of_end [] = Nothing
next_of_end (f ∷ fs) = Local

abbrev pub next_in : Points → List Node → List Frame → List Binding → Next
next_in Done vs fs bindings = next_of_end fs
next_in (Do act place after) vs fs bindings = Local
next_in (Ask question place after) vs fs bindings = asked question vs bindings
next_in (Test symbol place value after) vs fs bindings = Operation (Boundp symbol)
next_in (Enter opening place body after) vs fs bindings = Local

-- an exit leaves a frame; where none is left the thread finishes
abbrev pub next_of_exit : Target → List Frame → Next
next_of_exit (Base ending) [] = Operation (Finish ending)
next_of_exit (Base ending) (f ∷ fs) = Local

abbrev pub next_by : Control → List Frame → List Binding → Next
next_by (At points vs) fs bindings = next_in points vs fs bindings
next_by (Exit target) fs bindings = next_of_exit target fs
next_by Ended fs bindings = Nothing

-- what comes next for a thread
abbrev pub next_of : ThreadState → Next
next_of s = next_by s.control s.frames s.environment.bindings

-- a global value that was read comes before the other values; where there is none, `unbound-variable` is signalled
abbrev pub read_reply : Reply → Points → List Node → ThreadState → ThreadState
read_reply (Value v) after vs s = record s { control = At after (v ∷ vs) }
read_reply Unbound after vs s = signal (record { class = UnboundVariable; text = None }) s
read_reply Okay after vs s = s
read_reply (Truth b) after vs s = s

-- `print` and `setq` give their value, `defvar` its symbol, and a thread that finished has ended
abbrev pub question_reply : Question → Reply → Points → List Node → ThreadState → ThreadState
question_reply AskPrint reply after vs s = record s { control = At after vs }
question_reply (Read symbol) reply after vs s = read_reply reply after vs s
question_reply (Write symbol) reply after vs s = record s { control = At after vs }
question_reply (Define symbol) reply after vs s = record s { control = At after (Symbol symbol ∷ drop 1 vs) }
question_reply EndThread reply after vs s = record s { control = Ended }

-- where the variable of a `defvar` has a value, the symbol is given, else the points of its value come next
abbrev pub test_reply : Reply → ℕ → Points → Points → List Node → ThreadState → ThreadState
test_reply (Truth true) symbol value after vs s = record s { control = At after (Symbol symbol ∷ vs) }
test_reply (Truth false) symbol value after vs s = record s { control = At (joined value after) vs }
test_reply Okay symbol value after vs s = s
test_reply (Value v) symbol value after vs s = s
test_reply Unbound symbol value after vs s = s

abbrev pub points_reply : Points → List Node → Reply → ThreadState → ThreadState
points_reply Done vs reply s = s
points_reply (Do act place after) vs reply s = s
points_reply (Ask question place after) vs reply s = question_reply question reply after vs s
points_reply (Test symbol place value after) vs reply s = test_reply reply symbol value after vs s
points_reply (Enter opening place body after) vs reply s = s

abbrev pub reply_by : Control → Reply → ThreadState → ThreadState
reply_by (At points vs) reply s = points_reply points vs reply s
reply_by (Exit target) reply s = record s { control = Ended }
reply_by Ended reply s = s

-- the state after the reply to its next operation, which is one point
abbrev pub after_reply : Reply → ThreadState → ThreadState
after_reply reply s = reply_by s.control reply (record s { points = suc s.points })

abbrev pub going_on : Next → ThreadState → (ThreadState → ThreadState) → ThreadState
going_on Local s go = go (local_step_of s)
going_on (Operation op) s go = s
going_on Nothing s go = s

-- at most n local points, and no operation
abbrev pub advanced : ℕ → ThreadState → ThreadState
advanced zero s = s
advanced (suc n) s = going_on (next_of s) s (λ t. advanced n t)

-- the thread goes on by local points as far as it can: to an operation, to its end, or to its limit of points
abbrev pub closed : ℕ → ThreadState → ThreadState
closed limit s = advanced (limit - s.points) s
