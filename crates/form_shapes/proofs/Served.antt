-- A service other than `condition-notify` has its keywords.
use Rattle.std.proofs.Common.{◌≡◌, ℕ, List, Bool, refl}
use Rattle.lisp_program.specs.declared.function.Service.{Service}
use Rattle.lisp_program.specs.declared.function.Service.TheVariants.{MakeThread, JoinThread, InterruptThread, ThreadAlive, MakeMutex, MakeWaitqueue, GrabMutex, ReleaseMutex, MutexOwner, HoldingMutex, ConditionWait, ConditionNotify, ConditionBroadcast, Sleep, MakeTimer, ScheduleTimer, UnscheduleTimer}
use Rattle.lisp_data.specs.Data.{Data}
use Rattle.form_shapes.specs.Shapes.{keyed_shape, serve_shape}

-- no service but that one is served otherwise
pub keyed_otherwise : (names : List (List ℕ)) (p : ℕ) (service : Service) (args : Data) → ((count : Bool) → service ≡ ConditionNotify count → ⊥)
    → keyed_shape names p service args ≡ serve_shape names p service args
keyed_otherwise names p (ConditionNotify count) args h = absurd (h count refl)
keyed_otherwise names p (MakeThread name arguments) args h = refl
keyed_otherwise names p (JoinThread default timeout) args h = refl
keyed_otherwise names p InterruptThread args h = refl
keyed_otherwise names p ThreadAlive args h = refl
keyed_otherwise names p (MakeMutex name) args h = refl
keyed_otherwise names p (MakeWaitqueue name) args h = refl
keyed_otherwise names p (GrabMutex waitp timeout) args h = refl
keyed_otherwise names p (ReleaseMutex rule) args h = refl
keyed_otherwise names p MutexOwner args h = refl
keyed_otherwise names p HoldingMutex args h = refl
keyed_otherwise names p (ConditionWait timeout) args h = refl
keyed_otherwise names p ConditionBroadcast args h = refl
keyed_otherwise names p Sleep args h = refl
keyed_otherwise names p (MakeTimer name thread) args h = refl
keyed_otherwise names p (ScheduleTimer repeat catch_up) args h = refl
keyed_otherwise names p UnscheduleTimer args h = refl
