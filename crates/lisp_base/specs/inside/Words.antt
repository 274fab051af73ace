-- How a word holds what a form gives: as a number, in a range for each kind that is as large as the kind.
use Rattle.std.specs.Prelude.{ℕ, ℤ, pos, nat_abs, ◌+◌, ◌-◌, ◌*◌, ◌/◌, ◌%◌, ◌^◌, ◌+ℤ◌, ◌-ℤ◌, List, [], ◌∷◌, Option, Some, None, if◌then◌else◌, nat_lt, ◌==◌, slice_index_or}
use Rattle.lisp_base.specs.Equality.{class_number}
use Rattle.lisp_base.specs.Timers.{TimerNumbers}
use Rattle.lisp_base.specs.declared.condition.Class.{Class}
use Rattle.lisp_base.specs.declared.condition.Class.TheVariants.{Condition, SeriousCondition, Error, StorageCondition, SimpleError, TypeError, ProgramError, ControlError, CellError, UnboundVariable, UndefinedFunction, ArithmeticError, DivisionByZero, IntegerRange, ThreadError, InterruptThreadError, JoinThreadError, NotOwner, RecursiveLock, Timeout, DeadlineTimeout}
use Rattle.lisp_base.specs.declared.condition.Condition.{Condition as ACondition}
use Rattle.lisp_base.specs.declared.id.FunctionName.{FunctionName}
use Rattle.lisp_base.specs.declared.id.FunctionName.TheVariants.{Named, At, AbortThread}
use Rattle.lisp_base.specs.declared.value.Node.{Node}
use Rattle.lisp_base.specs.declared.value.Node.TheVariants.{Int, Symbol, Text, Time, Cond, Thread, Mutex, Queue, Timer}
use Rattle.lisp_base.specs.declared.word.Operand.{Operand}
use Rattle.lisp_base.specs.declared.word.Operand.TheVariants.{Value, Function}

-- where the numbers of each kind begin; those of integers begin at 0
abbrev pub times : ℕ
times = 2 ^ 63

abbrev pub symbols : ℕ
symbols = 2 ^ 63 + (2 ^ 62 + 2 ^ 52)

abbrev pub texts : ℕ
texts = symbols + 2 ^ 31

abbrev pub threads : ℕ
threads = texts + 2 ^ 32

abbrev pub mutexes : ℕ
mutexes = threads + 32

abbrev pub queues : ℕ
queues = mutexes + 256

abbrev pub timers : ℕ
timers = queues + 256

abbrev pub conditions : ℕ
conditions = timers + 4096 * 32

abbrev pub names : ℕ
names = conditions + 21 * (2 ^ 32 + 1)

abbrev pub places : ℕ
places = names + 2 ^ 31

abbrev pub aborting : ℕ
aborting = places + 2 ^ 32

-- the integers are moved up, so that the least is 0
abbrev pub integer_number : ℤ → ℕ
integer_number z = nat_abs (z +ℤ pos (2 ^ 62))

abbrev pub integer_at : ℕ → ℤ
integer_at n = pos n -ℤ pos (2 ^ 62)

-- a timer, by its number and its thread
abbrev pub timer_number : TimerNumbers → ℕ
timer_number t = t.number * 32 + t.thread

abbrev pub timer_at : ℕ → TimerNumbers
timer_at n = record { number = n / 32; thread = n % 32 }

-- the classes, in the order of their numbers
abbrev pub classes : List Class
classes =
    Condition ∷ SeriousCondition ∷ Error ∷ StorageCondition ∷ SimpleError ∷ TypeError ∷ ProgramError ∷ ControlError ∷ CellError ∷ UnboundVariable
    ∷ UndefinedFunction ∷ ArithmeticError ∷ DivisionByZero ∷ IntegerRange ∷ ThreadError ∷ InterruptThreadError ∷ JoinThreadError ∷ NotOwner
    ∷ RecursiveLock ∷ Timeout ∷ DeadlineTimeout ∷ []

abbrev pub class_at : ℕ → Class
class_at n = slice_index_or classes n Condition

-- the text of a condition, with 0 for none
abbrev pub text_number : Option ℕ → ℕ
text_number None = 0
text_number (Some s) = s + 1

abbrev pub text_at : ℕ → Option ℕ
text_at n = if n == 0 then None else Some (n - 1)

-- a condition, by its class and its text
abbrev pub condition_number : ACondition → ℕ
condition_number c = class_number c.class * (2 ^ 32 + 1) + text_number c.text

abbrev pub condition_at : ℕ → ACondition
condition_at n = record { class = class_at (n / (2 ^ 32 + 1)); text = text_at (n % (2 ^ 32 + 1)) }

-- the number of a value, and the value with a number
abbrev pub node_number : Node → ℕ
node_number (Int z) = integer_number z
node_number (Time t) = times + t
node_number (Symbol s) = symbols + s
node_number (Text s) = texts + s
node_number (Thread t) = threads + t
node_number (Mutex m) = mutexes + m
node_number (Queue q) = queues + q
node_number (Timer t) = timers + timer_number t
node_number (Cond c) = conditions + condition_number c

abbrev pub node_at : ℕ → Node
node_at n =
    if nat_lt n times then Int (integer_at n)
    else if nat_lt n symbols then Time (n - times)
    else if nat_lt n texts then Symbol (n - symbols)
    else if nat_lt n threads then Text (n - texts)
    else if nat_lt n mutexes then Thread (n - threads)
    else if nat_lt n queues then Mutex (n - mutexes)
    else if nat_lt n timers then Queue (n - queues)
    else if nat_lt n conditions then Timer (timer_at (n - timers))
    else Cond (condition_at (n - conditions))

-- the number of a function, and the function with a number
abbrev pub name_number : FunctionName → ℕ
name_number (Named s) = names + s
name_number (At p) = places + p
name_number AbortThread = aborting

abbrev pub name_at : ℕ → FunctionName
name_at n = if nat_lt n places then Named (n - names) else if nat_lt n aborting then At (n - places) else AbortThread

-- the number of what a form gives, and what a form gives with a number
abbrev pub coded : Operand → ℕ
coded (Value v) = node_number v
coded (Function f) = name_number f

abbrev pub decoded : ℕ → Operand
decoded n = if nat_lt n names then Value (node_at n) else Function (name_at n)
