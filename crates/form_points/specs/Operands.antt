-- How many operands the points of a form take, and how many values they leave in their place.
use Rattle.std.specs.Prelude.{ℕ, zero, suc, ◌+◌, List, [], ◌∷◌, Bool, true, false}
use Rattle.lisp_base.specs.Value.{nil}
use Rattle.lisp_program.specs.declared.function.Primitive.{Primitive}
use Rattle.lisp_program.specs.declared.function.Primitive.TheVariants.{Increment, Decrement, Abs, Zerop, Not, Null, Symbolp, Integerp, Stringp, MainThread, ThreadYield}
use Rattle.lisp_program.specs.declared.function.Printing.{Printing}
use Rattle.lisp_program.specs.declared.function.Printing.TheVariants.{Print as PrintLine, Prin1, Princ, Terpri, Format}
use Rattle.lisp_program.specs.declared.function.Service.{Service}
use Rattle.lisp_program.specs.declared.function.Service.TheVariants.{MakeThread, JoinThread, InterruptThread, ThreadAlive, MakeMutex, MakeWaitqueue, GrabMutex, ReleaseMutex, MutexOwner, HoldingMutex, ConditionWait, ConditionNotify, ConditionBroadcast, Sleep, MakeTimer, ScheduleTimer, UnscheduleTimer}
use Rattle.form_points.specs.declared.act.Act.{Act}
use Rattle.form_points.specs.declared.act.Act.TheVariants.{Push, WriteLocal, BindLocal, ForgetLocal, Discard, Apply, Call, ReturnFrom, Throw, ReturnFromThread}
use Rattle.form_points.specs.declared.act.Opening.{Opening}
use Rattle.form_points.specs.declared.act.Opening.TheVariants.{Bind, Catch, Deadline}
use Rattle.form_points.specs.declared.act.Question.{Question}
use Rattle.form_points.specs.declared.act.Question.TheVariants.{Print, Read, Write, IsBound, Define, CompareAndSwap, Serve, EndThread}
use Rattle.form_points.specs.declared.act.Step.TheVariants.{Clock, Begin}
use Rattle.form_points.specs.Points.{Points, Done, Do, Enter, joined, body_of}

-- how many of these are written
abbrev pub one_of : Bool → ℕ
one_of true = 1
one_of false = 0

abbrev pub written : Bool → Bool → ℕ
written a b = one_of a + one_of b

-- how many arguments a function with local points has
abbrev pub operands_of : Primitive → ℕ
operands_of Increment = 1
operands_of Decrement = 1
operands_of Abs = 1
operands_of Zerop = 1
operands_of Not = 1
operands_of Null = 1
operands_of Symbolp = 1
operands_of Integerp = 1
operands_of Stringp = 1
operands_of MainThread = 0
operands_of ThreadYield = 0
operands_of _ = 2

-- how many arguments a function that prints has
abbrev pub printed_of : Printing → ℕ
printed_of PrintLine = 1
printed_of Prin1 = 1
printed_of Princ = 1
printed_of Terpri = 0
printed_of (Format control count) = count

-- how many arguments a service has: those that it must have, and those of the keywords that are written
abbrev pub served_of : Service → ℕ
served_of (MakeThread name arguments) = 1 + written name arguments
served_of (JoinThread default timeout) = 1 + written default timeout
served_of InterruptThread = 2
served_of ThreadAlive = 1
served_of (MakeMutex name) = one_of name
served_of (MakeWaitqueue name) = one_of name
served_of (GrabMutex waitp timeout) = 1 + written waitp timeout
served_of (ReleaseMutex rule) = 1 + one_of rule
served_of MutexOwner = 1
served_of HoldingMutex = 1
served_of (ConditionWait timeout) = 2 + one_of timeout
served_of (ConditionNotify count) = 1 + one_of count
served_of ConditionBroadcast = 1
served_of Sleep = 1
served_of (MakeTimer name thread) = 1 + written name thread
served_of (ScheduleTimer repeat catch_up) = 2 + written repeat catch_up
served_of UnscheduleTimer = 1

-- how many operands an act takes away
abbrev pub act_takes : Act → ℕ
act_takes (WriteLocal x) = 1
act_takes (BindLocal x above) = suc above
act_takes Discard = 1
act_takes (Apply f) = operands_of f
act_takes (Call f count) = count
act_takes (ReturnFrom b) = 1
act_takes Throw = 2
act_takes ReturnFromThread = 1
act_takes _ = 0

-- how many it leaves in their place: those that stand before the value of a binding are the same as before; an act after which
-- the thread goes on elsewhere counts as one that gives a value
abbrev pub act_leaves : Act → ℕ
act_leaves (BindLocal x above) = above
act_leaves ForgetLocal = 0
act_leaves Discard = 0
act_leaves _ = 1

-- how many operands a question takes away
abbrev pub question_takes : Question → ℕ
question_takes (Print printing) = printed_of printing
question_takes (Read s) = 0
question_takes (Write s) = 1
question_takes (IsBound s) = 0
question_takes (Define s) = 1
question_takes (CompareAndSwap s) = 2
question_takes (Serve service step) = served_of service
question_takes EndThread = 1

-- How many it leaves in their place. Each step of a service but the last keeps its operands. A question of `Test` that does not
-- settle the matter keeps its operands too, and leaves so many where it settles it.
abbrev pub question_leaves : Question → ℕ
question_leaves (Serve service Clock) = served_of service
question_leaves (Serve service Begin) = served_of service
question_leaves _ = 1

-- how many operands a point that opens a frame takes away
abbrev pub opening_takes : Opening → ℕ
opening_takes (Bind s above) = suc above
opening_takes Catch = 1
opening_takes (Deadline seconds replaces) = written seconds replaces
opening_takes _ = 0

-- how many it leaves in their place: those that stand before the value of a binding
abbrev pub opening_leaves : Opening → ℕ
opening_leaves (Bind s above) = above
opening_leaves _ = 0

-- the first of these points, which are those of forms at hand, or the constant NIL where there is none
abbrev pub first_of : ℕ → List Points → Points
first_of p [] = Do (Push nil) p Done
first_of p (f ∷ fs) = f

-- all but the first
abbrev pub others_of : List Points → List Points
others_of [] = []
others_of (f ∷ fs) = fs

-- the points of the first n forms, with the constant NIL for one that is missing; other forms are passed over
abbrev pub operands : ℕ → ℕ → List Points → Points
operands zero p fs = Done
operands (suc n) p fs = joined (first_of p fs) (operands n p (others_of fs))

-- the first n forms as operands, and then a frame in which the others are a body
abbrev pub entered : ℕ → Opening → ℕ → List Points → Points
entered p opening zero fs = Enter opening p (body_of p fs) Done
entered p opening (suc n) fs = joined (first_of p fs) (entered p opening n (others_of fs))
