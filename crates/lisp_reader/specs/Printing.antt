-- How values are printed.
use Rattle.std.specs.Prelude.{ℕ, List, [], ◌∷◌, ◌++◌, ◌/◌, ◌%◌, ◌==◌, Bool, true, false, ◌||◌, if◌then◌else◌, Option, Some, None, codes, slice_get, unwrap_or, nat_lt}
use Rattle.lisp_base.specs.Bytes.{backslash, quotation_mark}
use Rattle.std.specs.Fmt.{decimal, signed_decimal}
use Rattle.std.specs.List.{flat_map}
use Rattle.lisp_base.specs.declared.condition.Class.{Class}
use Rattle.lisp_base.specs.declared.condition.Class.TheVariants.{Condition as AnyCondition, SeriousCondition, Error, StorageCondition, SimpleError, TypeError, ProgramError, ControlError, CellError, UnboundVariable, UndefinedFunction, ArithmeticError, DivisionByZero, IntegerRange, ThreadError, InterruptThreadError, JoinThreadError, NotOwner, RecursiveLock, Timeout, DeadlineTimeout}
use Rattle.lisp_base.specs.declared.condition.Condition.{Condition}
use Rattle.lisp_base.specs.declared.value.Node.{Node}
use Rattle.lisp_base.specs.declared.value.Node.TheVariants.{Int, Symbol, Text, Time, Cond, Thread, Mutex, Queue, Timer}

-- a symbol prints as its name among these; a number without one prints as `?`
abbrev pub symbol_text : List (List ℕ) → ℕ → List ℕ
symbol_text names s = unwrap_or (slice_get names s) (codes "?")

-- a byte of a string, with a `\` before `"` and `\`
abbrev pub escaped_byte : ℕ → List ℕ
escaped_byte b = if (b == quotation_mark) || (b == backslash) then backslash ∷ b ∷ [] else b ∷ []

-- the characters of a string in `"`, with a `\` before `"` and `\`
abbrev pub escaped_string : List ℕ → List ℕ
escaped_string characters = codes "\"" ++ flat_map escaped_byte characters ++ codes "\""

-- a string prints escaped or as its characters; a number without any prints as `?`
abbrev pub string_text : (escape : Bool) → Option (List ℕ) → List ℕ
string_text escape None = codes "?"
string_text true (Some characters) = escaped_string characters
string_text false (Some characters) = characters

-- the name of a class
abbrev pub class_name : Class → List ℕ
class_name AnyCondition = codes "CONDITION"
class_name SeriousCondition = codes "SERIOUS-CONDITION"
class_name Error = codes "ERROR"
class_name StorageCondition = codes "STORAGE-CONDITION"
class_name SimpleError = codes "SIMPLE-ERROR"
class_name TypeError = codes "TYPE-ERROR"
class_name ProgramError = codes "PROGRAM-ERROR"
class_name ControlError = codes "CONTROL-ERROR"
class_name CellError = codes "CELL-ERROR"
class_name UnboundVariable = codes "UNBOUND-VARIABLE"
class_name UndefinedFunction = codes "UNDEFINED-FUNCTION"
class_name ArithmeticError = codes "ARITHMETIC-ERROR"
class_name DivisionByZero = codes "DIVISION-BY-ZERO"
class_name IntegerRange = codes "INTEGER-RANGE"
class_name ThreadError = codes "THREAD-ERROR"
class_name InterruptThreadError = codes "INTERRUPT-THREAD-ERROR"
class_name JoinThreadError = codes "JOIN-THREAD-ERROR"
class_name NotOwner = codes "NOT-OWNER"
class_name RecursiveLock = codes "RECURSIVE-LOCK"
class_name Timeout = codes "TIMEOUT"
class_name DeadlineTimeout = codes "DEADLINE-TIMEOUT"

-- a space and the text of a condition, escaped, where it has a text
abbrev pub reason_text : (literals : List (List ℕ)) → Option ℕ → List ℕ
reason_text literals None = []
reason_text literals (Some s) = codes " " ++ string_text true (slice_get literals s)

-- the class of a condition, and its text where it has one, in `#<` and `>`
abbrev pub class_text : (literals : List (List ℕ)) → Condition → List ℕ
class_text literals c = codes "#<" ++ class_name c.class ++ reason_text literals c.text ++ codes ">"

-- how a condition prints plain: as its text alone, and where it has no text as it prints escaped
abbrev pub plain_condition : (literals : List (List ℕ)) → Condition → Option ℕ → List ℕ
plain_condition literals c None = class_text literals c
plain_condition literals c (Some s) = string_text false (slice_get literals s)

-- how a condition prints
abbrev pub condition_text : (escape : Bool) → (literals : List (List ℕ)) → Condition → List ℕ
condition_text true literals c = class_text literals c
condition_text false literals c = plain_condition literals c c.text

-- the zeros that make a number below 1,000,000 six digits long
abbrev pub zeros_before : ℕ → List ℕ
zeros_before n =
    if nat_lt n 10 then codes "00000"
    else if nat_lt n 100 then codes "0000"
    else if nat_lt n 1000 then codes "000"
    else if nat_lt n 10000 then codes "00"
    else if nat_lt n 100000 then codes "0"
    else []

-- a time of so many microseconds prints as seconds, a dot and six digits
abbrev pub time_text : ℕ → List ℕ
time_text t = decimal (t / 1000000) ++ codes "." ++ zeros_before (t % 1000000) ++ decimal (t % 1000000)

-- an object prints as its kind and its number in `#<` and `>`
abbrev pub object_text : List ℕ → ℕ → List ℕ
object_text kind n = codes "#<" ++ kind ++ codes " " ++ decimal n ++ codes ">"

-- The text of a value, with the names of symbols and the texts of string literals. Only strings and conditions differ by
-- `escape`.
abbrev pub printed : (escape : Bool) → (symbols literals : List (List ℕ)) → Node → List ℕ
printed escape symbols literals (Int z) = signed_decimal z
printed escape symbols literals (Symbol s) = symbol_text symbols s
printed escape symbols literals (Text s) = string_text escape (slice_get literals s)
printed escape symbols literals (Time t) = time_text t
printed escape symbols literals (Cond c) = condition_text escape literals c
printed escape symbols literals (Thread t) = object_text (codes "THREAD") t
printed escape symbols literals (Mutex m) = object_text (codes "MUTEX") m
printed escape symbols literals (Queue q) = object_text (codes "WAITQUEUE") q
printed escape symbols literals (Timer t) = object_text (codes "TIMER") t.number
