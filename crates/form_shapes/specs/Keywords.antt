-- Keywords among arguments, and what arguments are for.
use Rattle.std.specs.Prelude.{ℕ, ◌-◌, zero, suc, List, Bool, true, false, ◌&&◌, ◌==◌, not, Option, Some, None, if◌then◌else◌, nat_lt, codes}
use Rattle.lisp_program.specs.declared.function.Service.{Service}
use Rattle.lisp_program.specs.declared.function.Service.TheVariants.{MakeThread, JoinThread, InterruptThread, ThreadAlive, MakeMutex, MakeWaitqueue, GrabMutex, ReleaseMutex, MutexOwner, HoldingMutex, ConditionWait, ConditionNotify, ConditionBroadcast, Sleep, MakeTimer, ScheduleTimer, UnscheduleTimer}
use Rattle.lisp_data.specs.Data.{Data, behind, count_of}
use Rattle.form_shapes.specs.declared.keywords.Keys.{Keys}
use Rattle.form_shapes.specs.declared.keywords.Role.{Role}
use Rattle.form_shapes.specs.declared.keywords.Role.TheVariants.{Value, Seat, Skipped}
use Rattle.form_shapes.specs.declared.keywords.Roles.{Roles}
use Rattle.form_shapes.specs.declared.keywords.Roles.TheVariants.{From, Just, Keyed, KeyedFunction, ThenFunction, Values}
use Rattle.form_shapes.specs.Bindings.{is_named}
use Rattle.form_shapes.specs.Scopes.{first_symbol}

-- these begin with this keyword and a value
abbrev pub begins_with : List (List ℕ) → List ℕ → Data → Bool
begins_with names key d = is_named names key (first_symbol d) && nat_lt 1 (count_of d)

-- the data after a keyword and its value, where these are written; else all
abbrev pub behind_key : Bool → Data → Data
behind_key true d = behind 2 d
behind_key false d = d

-- which keywords are written, where no other data are left
abbrev pub if_all : Data → Bool → Bool → Option Keys
if_all left first second = if count_of left == 0 then Some (record { first = first; second = second }) else None

-- which of two keywords are written, each at most once and in this order, where there are no other data
abbrev pub keys_in : List (List ℕ) → List ℕ → List ℕ → Data → Option Keys
keys_in names first second d =
    let one : Bool = begins_with names first d in
    let two : Bool = begins_with names second (behind_key one d) in
    if_all (behind_key two (behind_key one d)) one two

-- how many arguments of a service come before its keywords
abbrev pub positional : Service → ℕ
positional (MakeThread name arguments) = 1
positional (JoinThread default timeout) = 1
positional InterruptThread = 2
positional ThreadAlive = 1
positional (MakeMutex name) = 0
positional (MakeWaitqueue name) = 0
positional (GrabMutex waitp timeout) = 1
positional (ReleaseMutex rule) = 1
positional MutexOwner = 1
positional HoldingMutex = 1
positional (ConditionWait timeout) = 2
positional (ConditionNotify count) = 1
positional ConditionBroadcast = 1
positional Sleep = 1
positional (MakeTimer name thread) = 1
positional (ScheduleTimer repeat catch_up) = 2
positional UnscheduleTimer = 1

-- the first keyword of a service; the empty text, which is no name, where it has none
abbrev pub first_key : Service → List ℕ
first_key (MakeThread name arguments) = codes ":NAME"
first_key (JoinThread default timeout) = codes ":DEFAULT"
first_key InterruptThread = codes ""
first_key ThreadAlive = codes ""
first_key (MakeMutex name) = codes ":NAME"
first_key (MakeWaitqueue name) = codes ":NAME"
first_key (GrabMutex waitp timeout) = codes ":WAITP"
first_key (ReleaseMutex rule) = codes ":IF-NOT-OWNER"
first_key MutexOwner = codes ""
first_key HoldingMutex = codes ""
first_key (ConditionWait timeout) = codes ":TIMEOUT"
first_key (ConditionNotify count) = codes ""
first_key ConditionBroadcast = codes ""
first_key Sleep = codes ""
first_key (MakeTimer name thread) = codes ":NAME"
first_key (ScheduleTimer repeat catch_up) = codes ":REPEAT-INTERVAL"
first_key UnscheduleTimer = codes ""

-- the second keyword of a service; the empty text where it has none
abbrev pub second_key : Service → List ℕ
second_key (MakeThread name arguments) = codes ":ARGUMENTS"
second_key (JoinThread default timeout) = codes ":TIMEOUT"
second_key InterruptThread = codes ""
second_key ThreadAlive = codes ""
second_key (MakeMutex name) = codes ""
second_key (MakeWaitqueue name) = codes ""
second_key (GrabMutex waitp timeout) = codes ":TIMEOUT"
second_key (ReleaseMutex rule) = codes ""
second_key MutexOwner = codes ""
second_key HoldingMutex = codes ""
second_key (ConditionWait timeout) = codes ""
second_key (ConditionNotify count) = codes ""
second_key ConditionBroadcast = codes ""
second_key Sleep = codes ""
second_key (MakeTimer name thread) = codes ":THREAD"
second_key (ScheduleTimer repeat catch_up) = codes ":CATCH-UP"
second_key UnscheduleTimer = codes ""

-- a service with the keywords that are written
abbrev pub with_keys : Service → Bool → Bool → Service
with_keys (MakeThread name arguments) a b = MakeThread a b
with_keys (JoinThread default timeout) a b = JoinThread a b
with_keys InterruptThread a b = InterruptThread
with_keys ThreadAlive a b = ThreadAlive
with_keys (MakeMutex name) a b = MakeMutex a
with_keys (MakeWaitqueue name) a b = MakeWaitqueue a
with_keys (GrabMutex waitp timeout) a b = GrabMutex a b
with_keys (ReleaseMutex rule) a b = ReleaseMutex a
with_keys MutexOwner a b = MutexOwner
with_keys HoldingMutex a b = HoldingMutex
with_keys (ConditionWait timeout) a b = ConditionWait a
with_keys (ConditionNotify count) a b = ConditionNotify a
with_keys ConditionBroadcast a b = ConditionBroadcast
with_keys Sleep a b = Sleep
with_keys (MakeTimer name thread) a b = MakeTimer a b
with_keys (ScheduleTimer repeat catch_up) a b = ScheduleTimer a b
with_keys UnscheduleTimer a b = UnscheduleTimer

-- what the arguments of a service are for
abbrev pub roles_of : Service → Roles
roles_of (MakeThread name arguments) = KeyedFunction
roles_of (JoinThread default timeout) = Keyed 1
roles_of InterruptThread = ThenFunction
roles_of ThreadAlive = Keyed 1
roles_of (MakeMutex name) = Keyed 0
roles_of (MakeWaitqueue name) = Keyed 0
roles_of (GrabMutex waitp timeout) = Keyed 1
roles_of (ReleaseMutex rule) = Keyed 1
roles_of MutexOwner = Keyed 1
roles_of HoldingMutex = Keyed 1
roles_of (ConditionWait timeout) = Keyed 2
roles_of (ConditionNotify count) = From 0
roles_of ConditionBroadcast = Keyed 1
roles_of Sleep = Keyed 1
roles_of (MakeTimer name thread) = KeyedFunction
roles_of (ScheduleTimer repeat catch_up) = Keyed 2
roles_of UnscheduleTimer = Keyed 1

-- what the argument with this number is for where keywords and values take turns, a keyword first
abbrev pub pair_role : ℕ → Role
pair_role zero = Skipped
pair_role (suc zero) = Value
pair_role (suc (suc i)) = pair_role i

-- for a value where this holds, else for no form
abbrev pub value_if : Bool → Role
value_if true = Value
value_if false = Skipped

-- what the argument with this number is for, from 0
abbrev pub role_at : Roles → ℕ → Role
role_at (From n) i = value_if (not (nat_lt i n))
role_at (Just n) i = value_if (i == n)
role_at (Keyed n) i = if nat_lt i n then Value else pair_role (i - n)
role_at KeyedFunction i = if i == 0 then Seat else pair_role (i - 1)
role_at ThenFunction i = if i == 1 then Seat else Value
role_at (Values n) i = if nat_lt i n then Skipped else pair_role (i - n)

-- one more part, where an argument has one
abbrev pub counted : Role → ℕ → ℕ
counted Value n = suc n
counted Seat n = suc n
counted Skipped n = n

-- how many parts so many arguments have, of which the first has this number
abbrev pub part_count : Roles → ℕ → ℕ → ℕ
part_count roles i zero = 0
part_count roles i (suc n) = counted (role_at roles i) (part_count roles (suc i) n)
