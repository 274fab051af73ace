-- What names mean.
use Rattle.std.specs.Prelude.{ℕ, List, Bool, false, ◌||◌, ◌==◌, Option, Some, None, if◌then◌else◌, get_or, codes}
use Rattle.lisp_base.specs.Bytes.{colon}
use Rattle.std.specs.Str.{bytes_eq}
use Rattle.lisp_base.specs.declared.condition.Class.{Class}
use Rattle.lisp_base.specs.declared.condition.Class.TheVariants as c
use Rattle.lisp_program.specs.declared.function.Primitive.TheVariants.{Add, Subtract, Multiply, Max, Min, Increment, Decrement, Abs, Floor, Truncate, Mod, Rem, Equals, Differs, Less, Greater, AtMost, AtLeast, Zerop, Eq, Eql, Equal, Not, Null, Symbolp, Integerp, Stringp, MainThread, ThreadYield}
use Rattle.lisp_program.specs.declared.function.Printing.TheVariants.{Print as AsPrint, Prin1 as AsPrin1, Princ as AsPrinc, Terpri as AsTerpri}
use Rattle.lisp_program.specs.declared.function.Service.TheVariants.{MakeThread, JoinThread, InterruptThread, ThreadAlive, MakeMutex, MakeWaitqueue, GrabMutex, ReleaseMutex, MutexOwner, HoldingMutex, ConditionWait, ConditionNotify, ConditionBroadcast, Sleep, MakeTimer, ScheduleTimer, UnscheduleTimer}
use Rattle.form_shapes.specs.declared.operator.Operator.{Operator}
use Rattle.form_shapes.specs.declared.operator.Operator.TheVariants.{Quote, Function, Lambda, Progn, If, Let, LetStar, Setq, CompareAndSwap, Declare, Block, ReturnFrom, Return, Catch, Throw, UnwindProtect, HandlerCase, IgnoreErrors, Error, WithoutInterrupts, AllowWithInterrupts, WithInterrupts, WithLocalInterrupts, WithDeadline, WithTimeout, WithMutex, WithRecursiveLock, AbortThread, ReturnFromThread, TerminateThread, When, Unless, Cond, And, Or, Prog1, Incf, Decf, Loop, Dotimes, Defvar, Defparameter, Defun, Ignored, Format, Fold, Apply, Print, Serve}

-- the operators of values, variables and sequences
abbrev pub basic_named : List ℕ → Option Operator
basic_named name =
    if bytes_eq name (codes "QUOTE") then Some Quote
    else if bytes_eq name (codes "FUNCTION") then Some Function
    else if bytes_eq name (codes "LAMBDA") then Some Lambda
    else if bytes_eq name (codes "PROGN") then Some Progn
    else if bytes_eq name (codes "IF") then Some If
    else if bytes_eq name (codes "LET") then Some Let
    else if bytes_eq name (codes "LET*") then Some LetStar
    else if bytes_eq name (codes "SETQ") then Some Setq
    else if bytes_eq name (codes "SETF") then Some Setq
    else if bytes_eq name (codes "COMPARE-AND-SWAP") then Some CompareAndSwap
    else if bytes_eq name (codes "DECLARE") then Some Declare
    else None

-- the operators of blocks, catches, cleanups and handlers
abbrev pub control_named : List ℕ → Option Operator
control_named name =
    if bytes_eq name (codes "BLOCK") then Some Block
    else if bytes_eq name (codes "RETURN-FROM") then Some ReturnFrom
    else if bytes_eq name (codes "RETURN") then Some Return
    else if bytes_eq name (codes "CATCH") then Some Catch
    else if bytes_eq name (codes "THROW") then Some Throw
    else if bytes_eq name (codes "UNWIND-PROTECT") then Some UnwindProtect
    else if bytes_eq name (codes "HANDLER-CASE") then Some HandlerCase
    else if bytes_eq name (codes "IGNORE-ERRORS") then Some IgnoreErrors
    else if bytes_eq name (codes "ERROR") then Some Error
    else None

-- the operators of regions, times, mutexes and ends of threads
abbrev pub region_named : List ℕ → Option Operator
region_named name =
    if bytes_eq name (codes "WITHOUT-INTERRUPTS") then Some WithoutInterrupts
    else if bytes_eq name (codes "ALLOW-WITH-INTERRUPTS") then Some AllowWithInterrupts
    else if bytes_eq name (codes "WITH-INTERRUPTS") then Some WithInterrupts
    else if bytes_eq name (codes "WITH-LOCAL-INTERRUPTS") then Some WithLocalInterrupts
    else if bytes_eq name (codes "WITH-DEADLINE") then Some WithDeadline
    else if bytes_eq name (codes "WITH-TIMEOUT") then Some WithTimeout
    else if bytes_eq name (codes "WITH-MUTEX") then Some WithMutex
    else if bytes_eq name (codes "WITH-RECURSIVE-LOCK") then Some WithRecursiveLock
    else if bytes_eq name (codes "ABORT-THREAD") then Some AbortThread
    else if bytes_eq name (codes "RETURN-FROM-THREAD") then Some ReturnFromThread
    else if bytes_eq name (codes "TERMINATE-THREAD") then Some TerminateThread
    else None

-- the operators of choices and loops
abbrev pub choice_named : List ℕ → Option Operator
choice_named name =
    if bytes_eq name (codes "WHEN") then Some When
    else if bytes_eq name (codes "UNLESS") then Some Unless
    else if bytes_eq name (codes "COND") then Some Cond
    else if bytes_eq name (codes "AND") then Some And
    else if bytes_eq name (codes "OR") then Some Or
    else if bytes_eq name (codes "PROG1") then Some Prog1
    else if bytes_eq name (codes "INCF") then Some Incf
    else if bytes_eq name (codes "DECF") then Some Decf
    else if bytes_eq name (codes "LOOP") then Some Loop
    else if bytes_eq name (codes "DOTIMES") then Some Dotimes
    else None

-- the operators of the top level
abbrev pub top_named : List ℕ → Option Operator
top_named name =
    if bytes_eq name (codes "DEFVAR") then Some Defvar
    else if bytes_eq name (codes "DEFPARAMETER") then Some Defparameter
    else if bytes_eq name (codes "DEFUN") then Some Defun
    else if bytes_eq name (codes "IN-PACKAGE") then Some Ignored
    else if bytes_eq name (codes "DECLAIM") then Some Ignored
    else if bytes_eq name (codes "USE-PACKAGE") then Some Ignored
    else None

-- the functions of numbers
abbrev pub number_named : List ℕ → Option Operator
number_named name =
    if bytes_eq name (codes "+") then Some (Fold Add)
    else if bytes_eq name (codes "*") then Some (Fold Multiply)
    else if bytes_eq name (codes "-") then Some (Fold Subtract)
    else if bytes_eq name (codes "MAX") then Some (Fold Max)
    else if bytes_eq name (codes "MIN") then Some (Fold Min)
    else if bytes_eq name (codes "1+") then Some (Apply Increment 1)
    else if bytes_eq name (codes "1-") then Some (Apply Decrement 1)
    else if bytes_eq name (codes "ABS") then Some (Apply Abs 1)
    else if bytes_eq name (codes "FLOOR") then Some (Apply Floor 2)
    else if bytes_eq name (codes "TRUNCATE") then Some (Apply Truncate 2)
    else if bytes_eq name (codes "MOD") then Some (Apply Mod 2)
    else if bytes_eq name (codes "REM") then Some (Apply Rem 2)
    else None

-- the tests of numbers
abbrev pub order_named : List ℕ → Option Operator
order_named name =
    if bytes_eq name (codes "=") then Some (Apply Equals 2)
    else if bytes_eq name (codes "/=") then Some (Apply Differs 2)
    else if bytes_eq name (codes "<") then Some (Apply Less 2)
    else if bytes_eq name (codes ">") then Some (Apply Greater 2)
    else if bytes_eq name (codes "<=") then Some (Apply AtMost 2)
    else if bytes_eq name (codes ">=") then Some (Apply AtLeast 2)
    else if bytes_eq name (codes "ZEROP") then Some (Apply Zerop 1)
    else None

-- the other tests
abbrev pub test_named : List ℕ → Option Operator
test_named name =
    if bytes_eq name (codes "EQ") then Some (Apply Eq 2)
    else if bytes_eq name (codes "EQL") then Some (Apply Eql 2)
    else if bytes_eq name (codes "EQUAL") then Some (Apply Equal 2)
    else if bytes_eq name (codes "NOT") then Some (Apply Not 1)
    else if bytes_eq name (codes "NULL") then Some (Apply Null 1)
    else if bytes_eq name (codes "SYMBOLP") then Some (Apply Symbolp 1)
    else if bytes_eq name (codes "INTEGERP") then Some (Apply Integerp 1)
    else if bytes_eq name (codes "STRINGP") then Some (Apply Stringp 1)
    else None

-- the functions of printing
abbrev pub printing_named : List ℕ → Option Operator
printing_named name =
    if bytes_eq name (codes "PRINT") then Some (Print AsPrint 1)
    else if bytes_eq name (codes "PRIN1") then Some (Print AsPrin1 1)
    else if bytes_eq name (codes "PRINC") then Some (Print AsPrinc 1)
    else if bytes_eq name (codes "TERPRI") then Some (Print AsTerpri 0)
    else if bytes_eq name (codes "FORMAT") then Some Format
    else None

-- the functions of threads
abbrev pub thread_named : List ℕ → Option Operator
thread_named name =
    if bytes_eq name (codes "MAIN-THREAD") then Some (Apply MainThread 0)
    else if bytes_eq name (codes "THREAD-YIELD") then Some (Apply ThreadYield 0)
    else if bytes_eq name (codes "MAKE-THREAD") then Some (Serve (MakeThread false false))
    else if bytes_eq name (codes "JOIN-THREAD") then Some (Serve (JoinThread false false))
    else if bytes_eq name (codes "INTERRUPT-THREAD") then Some (Serve InterruptThread)
    else if bytes_eq name (codes "THREAD-ALIVE-P") then Some (Serve ThreadAlive)
    else None

-- the functions of mutexes and waitqueues
abbrev pub lock_named : List ℕ → Option Operator
lock_named name =
    if bytes_eq name (codes "MAKE-MUTEX") then Some (Serve (MakeMutex false))
    else if bytes_eq name (codes "MAKE-WAITQUEUE") then Some (Serve (MakeWaitqueue false))
    else if bytes_eq name (codes "GRAB-MUTEX") then Some (Serve (GrabMutex false false))
    else if bytes_eq name (codes "RELEASE-MUTEX") then Some (Serve (ReleaseMutex false))
    else if bytes_eq name (codes "MUTEX-OWNER") then Some (Serve MutexOwner)
    else if bytes_eq name (codes "HOLDING-MUTEX-P") then Some (Serve HoldingMutex)
    else if bytes_eq name (codes "CONDITION-WAIT") then Some (Serve (ConditionWait false))
    else if bytes_eq name (codes "CONDITION-NOTIFY") then Some (Serve (ConditionNotify false))
    else if bytes_eq name (codes "CONDITION-BROADCAST") then Some (Serve ConditionBroadcast)
    else None

-- the functions of time and timers
abbrev pub time_named : List ℕ → Option Operator
time_named name =
    if bytes_eq name (codes "SLEEP") then Some (Serve Sleep)
    else if bytes_eq name (codes "MAKE-TIMER") then Some (Serve (MakeTimer false false))
    else if bytes_eq name (codes "SCHEDULE-TIMER") then Some (Serve (ScheduleTimer false false))
    else if bytes_eq name (codes "UNSCHEDULE-TIMER") then Some (Serve UnscheduleTimer)
    else None

-- the first of two, where there is one
abbrev pub or_else : Option Operator → Option Operator → Option Operator
or_else (Some operator) other = Some operator
or_else None other = other

-- the operator with this name
abbrev pub operator_only : List ℕ → Option Operator
operator_only name = or_else (basic_named name) (or_else (control_named name) (or_else (region_named name) (or_else (choice_named name) (top_named name))))

-- the function with this name
abbrev pub function_named : List ℕ → Option Operator
function_named name =
    or_else (number_named name) (or_else (order_named name) (or_else (test_named name) (or_else (printing_named name) (or_else (thread_named name) (or_else (lock_named name) (time_named name))))))

-- the operator or function with this name
abbrev pub operator_named : List ℕ → Option Operator
operator_named name =
    or_else (operator_only name) (function_named name)

-- the classes of arithmetic, threads and times
abbrev pub lower_class : List ℕ → Option Class
lower_class name =
    if bytes_eq name (codes "ARITHMETIC-ERROR") then Some c.ArithmeticError
    else if bytes_eq name (codes "DIVISION-BY-ZERO") then Some c.DivisionByZero
    else if bytes_eq name (codes "INTEGER-RANGE") then Some c.IntegerRange
    else if bytes_eq name (codes "THREAD-ERROR") then Some c.ThreadError
    else if bytes_eq name (codes "INTERRUPT-THREAD-ERROR") then Some c.InterruptThreadError
    else if bytes_eq name (codes "JOIN-THREAD-ERROR") then Some c.JoinThreadError
    else if bytes_eq name (codes "NOT-OWNER") then Some c.NotOwner
    else if bytes_eq name (codes "RECURSIVE-LOCK") then Some c.RecursiveLock
    else if bytes_eq name (codes "TIMEOUT") then Some c.Timeout
    else if bytes_eq name (codes "DEADLINE-TIMEOUT") then Some c.DeadlineTimeout
    else None

-- the class of conditions with this name
abbrev pub class_named : List ℕ → Option Class
class_named name =
    if bytes_eq name (codes "CONDITION") then Some c.Condition
    else if bytes_eq name (codes "SERIOUS-CONDITION") then Some c.SeriousCondition
    else if bytes_eq name (codes "ERROR") then Some c.Error
    else if bytes_eq name (codes "STORAGE-CONDITION") then Some c.StorageCondition
    else if bytes_eq name (codes "SIMPLE-ERROR") then Some c.SimpleError
    else if bytes_eq name (codes "TYPE-ERROR") then Some c.TypeError
    else if bytes_eq name (codes "PROGRAM-ERROR") then Some c.ProgramError
    else if bytes_eq name (codes "CONTROL-ERROR") then Some c.ControlError
    else if bytes_eq name (codes "CELL-ERROR") then Some c.CellError
    else if bytes_eq name (codes "UNBOUND-VARIABLE") then Some c.UnboundVariable
    else if bytes_eq name (codes "UNDEFINED-FUNCTION") then Some c.UndefinedFunction
    else lower_class name

-- a symbol that stands for itself: NIL, T or a keyword
abbrev pub is_constant : List ℕ → Bool
is_constant name = bytes_eq name (codes "NIL") || bytes_eq name (codes "T") || (get_or name 0 0 == colon)

-- the present thread
abbrev pub is_current_thread : List ℕ → Bool
is_current_thread name = bytes_eq name (codes "*CURRENT-THREAD*")
