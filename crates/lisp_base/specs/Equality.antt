-- When two values are the same: they are of one kind, with the same contents.
use Rattle.std.specs.Prelude.{ℕ, ℤ, pos, negsuc, Bool, true, false, ◌&&◌, ◌==◌, Option, Some, None}
use Rattle.lisp_base.specs.declared.condition.Class.{Class}
use Rattle.lisp_base.specs.declared.condition.Class.TheVariants.{Condition, SeriousCondition, Error, StorageCondition, SimpleError, TypeError, ProgramError, ControlError, CellError, UnboundVariable, UndefinedFunction, ArithmeticError, DivisionByZero, IntegerRange, ThreadError, InterruptThreadError, JoinThreadError, NotOwner, RecursiveLock, Timeout, DeadlineTimeout}
use Rattle.lisp_base.specs.declared.value.Node.{Node}
use Rattle.lisp_base.specs.declared.value.Node.TheVariants.{Int, Symbol, Text, Time, Cond, Thread, Mutex, Queue, Timer}

-- the classes in order, each with its number
abbrev pub class_number : Class → ℕ
class_number Condition = 0
class_number SeriousCondition = 1
class_number Error = 2
class_number StorageCondition = 3
class_number SimpleError = 4
class_number TypeError = 5
class_number ProgramError = 6
class_number ControlError = 7
class_number CellError = 8
class_number UnboundVariable = 9
class_number UndefinedFunction = 10
class_number ArithmeticError = 11
class_number DivisionByZero = 12
class_number IntegerRange = 13
class_number ThreadError = 14
class_number InterruptThreadError = 15
class_number JoinThreadError = 16
class_number NotOwner = 17
class_number RecursiveLock = 18
class_number Timeout = 19
class_number DeadlineTimeout = 20

-- two integers are the same
abbrev pub same_integer : ℤ → ℤ → Bool
same_integer (pos m) (pos n) = m == n
same_integer (negsuc m) (negsuc n) = m == n
same_integer _ _ = false

-- two conditions have the same text, or none
abbrev pub same_text : Option ℕ → Option ℕ → Bool
same_text (Some s) (Some t) = s == t
same_text None None = true
same_text _ _ = false

-- two values are the same
abbrev pub same_value : Node → Node → Bool
same_value (Int y) (Int z) = same_integer y z
same_value (Symbol m) (Symbol n) = m == n
same_value (Text m) (Text n) = m == n
same_value (Time m) (Time n) = m == n
same_value (Cond c) (Cond d) = class_number c.class == class_number d.class && same_text c.text d.text
same_value (Thread m) (Thread n) = m == n
same_value (Mutex m) (Mutex n) = m == n
same_value (Queue m) (Queue n) = m == n
same_value (Timer x) (Timer y) = x.number == y.number && x.thread == y.thread
same_value _ _ = false
