-- The points of each form, in order: the table of points.
use Rattle.std.specs.Prelude.{ℕ, List, [], ◌∷◌, Bool, true, false, length}
use Rattle.lisp_base.specs.Forest.{NoTrees, Tree}
use Rattle.lisp_base.specs.declared.value.Node.TheVariants.{Symbol}
use Rattle.lisp_program.specs.declared.form.CoreKind.{CoreKind}
use Rattle.lisp_program.specs.declared.form.CoreKind.TheVariants.{Constant, CurrentThread, Function, Local, Special, SetLocal, SetSpecial, Defvar, Defparameter, Defun, CompareAndSwap, Progn, If, While, Let, BindLocal, BindSpecial, Call, Apply, Print, Serve, Block, ReturnFrom, Catch, Throw, UnwindProtect, WithoutInterrupts, AllowWithInterrupts, WithInterrupts, HandlerCase, Clause, ClauseWith, Signal, WithDeadline, AbortThread, ReturnFromThread}
use Rattle.lisp_program.specs.declared.function.Service.{Service}
use Rattle.lisp_program.specs.declared.function.Service.TheVariants.{MakeThread, JoinThread, InterruptThread, ThreadAlive, MakeMutex, MakeWaitqueue, GrabMutex, ReleaseMutex, MutexOwner, HoldingMutex, ConditionWait, ConditionNotify, ConditionBroadcast, Sleep, MakeTimer, ScheduleTimer, UnscheduleTimer}
use Rattle.lisp_program.specs.Forms.{Forms}
use Rattle.form_points.specs.declared.act.Act.TheVariants.{Push, PushFunction, PushThread, ReadLocal, WriteLocal, BindLocal as BindingAct, ForgetLocal, Apply as ApplyAct, Call as CallAct, ReturnFrom as ReturnAct, Throw as ThrowAct, Signal as SignalAct, AbortThread as AbortAct, ReturnFromThread as ReturnThreadAct}
use Rattle.form_points.specs.declared.act.Opening.TheVariants.{Bind as OpenBind, Block as OpenBlock, Catch as OpenCatch, WithoutInterrupts as OpenWithout, AllowWithInterrupts as OpenAllow, WithInterrupts as OpenWith, Deadline as OpenDeadline}
use Rattle.form_points.specs.declared.act.Question.TheVariants.{Print as AskPrint, Read, Write, IsBound, Define, CompareAndSwap as Swap, Serve as AskService, EndThread}
use Rattle.form_points.specs.declared.act.Step.{Step}
use Rattle.form_points.specs.declared.act.Step.TheVariants.{Clock, Main, Try, Begin, Wake, Regrab}
use Rattle.form_points.specs.Operands.{entered, first_of, operands, operands_of, others_of, printed_of, served_of, written}
use Rattle.form_points.specs.Points.{Points, Done, Do, Ask, Test, Choose, Loop, Enter, Protect, Handle, When, all_of, body_of, joined}

-- one operation of a service
abbrev pub one : Service → ℕ → Step → Points
one s p step = Ask (AskService s step) p Done

-- the clock's reading, and then the operation
abbrev pub timed : Service → ℕ → Points
timed s p = Ask (AskService s Clock) p (one s p Main)

-- a try; where that does not settle the matter, these
abbrev pub tried : Service → ℕ → Points → Points
tried s p more = Test (AskService s Try) p more Done

-- the operations of `join-thread`: a poll comes first where a timeout is written
abbrev pub join_of : Service → ℕ → (timeout : Bool) → Points
join_of s p true = tried s p (timed s p)
join_of s p false = one s p Main

-- the operations of `grab-mutex`: a try comes first where a timeout or a `:waitp` is written
abbrev pub grab_of : Service → ℕ → (waitp timeout : Bool) → Points
grab_of s p waitp true = tried s p (timed s p)
grab_of s p true false = tried s p (one s p Main)
grab_of s p false false = one s p Main

-- the operations of `condition-wait`: the clock's reading where a timeout is written; it waits to be notified, and then waits for the mutex
abbrev pub woken : Service → ℕ → Points
woken s p = Test (AskService s Wake) p (one s p Regrab) Done

abbrev pub wait_of : Service → ℕ → (timeout : Bool) → Points
wait_of s p true = Test (AskService s Clock) p (one s p Begin) (woken s p)
wait_of s p false = Ask (AskService s Begin) p (woken s p)

-- the operations of a service, in order
abbrev pub service_of : Service → ℕ → Points
service_of (JoinThread default timeout) p = join_of (JoinThread default timeout) p timeout
service_of (GrabMutex waitp timeout) p = grab_of (GrabMutex waitp timeout) p waitp timeout
service_of (ConditionWait timeout) p = wait_of (ConditionWait timeout) p timeout
service_of Sleep p = timed Sleep p
service_of (ScheduleTimer repeat catch_up) p = timed (ScheduleTimer repeat catch_up) p
service_of (MakeThread name arguments) p = one (MakeThread name arguments) p Main
service_of InterruptThread p = one InterruptThread p Main
service_of ThreadAlive p = one ThreadAlive p Main
service_of (MakeMutex name) p = one (MakeMutex name) p Main
service_of (MakeWaitqueue name) p = one (MakeWaitqueue name) p Main
service_of (ReleaseMutex rule) p = one (ReleaseMutex rule) p Main
service_of MutexOwner p = one MutexOwner p Main
service_of HoldingMutex p = one HoldingMutex p Main
service_of (ConditionNotify count) p = one (ConditionNotify count) p Main
service_of ConditionBroadcast p = one ConditionBroadcast p Main
service_of (MakeTimer name thread) p = one (MakeTimer name thread) p Main
service_of UnscheduleTimer p = one UnscheduleTimer p Main

-- The points of a form of this kind at this place, from the points of the forms under it. A form has as many operands as its line
-- says: a missing one is the constant NIL, and others are passed over.
abbrev pub table : CoreKind → ℕ → List Points → Points
-- a constant, `*current-thread*`, what stands in a function's seat, a lexical variable: 1 point
table (Constant v) p fs = Do (Push v) p Done
table CurrentThread p fs = Do PushThread p Done
table (Function name) p fs = Do (PushFunction name) p Done
table (Local x) p fs = Do (ReadLocal x) p Done
-- a special variable: 1 point
table (Special s) p fs = Ask (Read s) p Done
-- `setq`: its value, and 1 point
table (SetLocal x) p fs = joined (operands 1 p fs) (Do (WriteLocal x) p Done)
table (SetSpecial s) p fs = joined (operands 1 p fs) (Ask (Write s) p Done)
-- `defvar`: the operation `boundp`; where the reply is NIL, its value and the operation `set`
table (Defvar s) p fs = Test (IsBound s) p (joined (operands 1 p fs) (Ask (Define s) p Done)) Done
-- `defparameter`: its value, and the operation `set`
table (Defparameter s) p fs = joined (operands 1 p fs) (Ask (Define s) p Done)
-- `defun`: 1 point, which gives the symbol
table (Defun f) p fs = Do (Push (Symbol f)) p Done
-- `compare-and-swap`: two values, and 1 point
table (CompareAndSwap s) p fs = joined (operands 2 p fs) (Ask (Swap s) p Done)
-- `progn`: its forms as a body
table Progn p fs = body_of p fs
-- `if`: the test, 1 point, and the chosen branch
table If p fs = joined (first_of p fs) (Choose p (first_of p (others_of fs)) (first_of p (others_of (others_of fs))) Done)
-- a loop: the test, 1 point, the body, 1 point, and again
table While p fs = Loop p (first_of p fs) (body_of p (others_of fs)) Done
-- `let`: the values in order; then 1 point for each variable in order, the body, and 1 point for each variable, last first
table Let p fs = all_of fs
table (BindLocal x above) p fs = Do (BindingAct x above) p (joined (body_of p fs) (Do ForgetLocal p Done))
table (BindSpecial s above) p fs = Enter (OpenBind s above) p (body_of p fs) Done
-- a call of a function of the program: the arguments, and 1 point, which opens the frame for its body
table (Call f) p fs = joined (all_of fs) (Do (CallAct f (length fs)) p Done)
-- a function: the arguments, and 1 point, or its operations
table (Apply f) p fs = joined (operands (operands_of f) p fs) (Do (ApplyAct f) p Done)
table (Print printing) p fs = joined (operands (printed_of printing) p fs) (Ask (AskPrint printing) p Done)
table (Serve service) p fs = joined (operands (served_of service) p fs) (service_of service p)
-- `block`: 1 point, the body, 1 point
table (Block b) p fs = Enter (OpenBlock b) p (body_of p fs) Done
-- `return-from`: the value, and 1 point
table (ReturnFrom b) p fs = joined (operands 1 p fs) (Do (ReturnAct b) p Done)
-- `catch`: the tag, 1 point, the body, 1 point
table Catch p fs = entered p OpenCatch 1 fs
-- `throw`: the tag, the value, and 1 point
table Throw p fs = joined (operands 2 p fs) (Do ThrowAct p Done)
-- `unwind-protect`: 1 point, the protected form, 1 point, the cleanup forms as a body, 1 point
table UnwindProtect p fs = Protect p (first_of p fs) (body_of p (others_of fs)) Done
-- the three regions: 1 point, the body, 1 point
table (WithoutInterrupts r) p fs = Enter (OpenWithout r) p (body_of p fs) Done
table (AllowWithInterrupts r) p fs = Enter (OpenAllow r) p (body_of p fs) Done
table WithInterrupts p fs = Enter OpenWith p (body_of p fs) Done
-- `handler-case`: 1 point, the form, 1 point
table HandlerCase p fs = Handle p (first_of p fs) (all_of (others_of fs)) Done
-- a chosen clause: 1 point where it has a variable, the body, 1 point where it has a variable
table (Clause class) p fs = When class false (body_of p fs) Done
table (ClauseWith class x) p fs = When class true (Do (BindingAct x 0) p (joined (body_of p fs) (Do ForgetLocal p Done))) Done
-- `error`: 1 point, which signals
table (Signal condition) p fs = Do (SignalAct condition) p Done
-- `with-deadline`: the seconds and the override that are written, 1 point, the body, 1 point
table (WithDeadline seconds replaces) p fs = entered p (OpenDeadline seconds replaces) (written seconds replaces) fs
-- `abort-thread`, `return-from-thread`: the value where there is one, and 1 point
table AbortThread p fs = Do AbortAct p Done
table ReturnFromThread p fs = joined (operands 1 p fs) (Do ReturnThreadAct p Done)

-- the points of each form
abbrev pub points_of : Forms → List Points
points_of NoTrees = []
points_of (Tree k p under beside) = table k p (points_of under) ∷ points_of beside

-- main evaluates the top-level forms as a body, and ends
abbrev pub main_points : Forms → Points
main_points f = joined (body_of 0 (points_of f)) (Ask EndThread 0 Done)
