-- What the language names is no function of the program.
use Rattle.std.proofs.Common.{ℕ, List, Bool, true, false, Option, Some, None, if◌then◌else◌, codes}
use Rattle.std.specs.Str.{bytes_eq}
use Rattle.lisp_program.specs.declared.function.Primitive.TheVariants.{Add, Subtract, Multiply, Max, Min, Increment, Decrement, Abs, Floor, Truncate, Mod, Rem, Equals, Differs, Less, Greater, AtMost, AtLeast, Zerop, Eq, Eql, Equal, Not, Null, Symbolp, Integerp, Stringp, MainThread, ThreadYield}
use Rattle.lisp_program.specs.declared.function.Printing.TheVariants.{Print as AsPrint, Prin1 as AsPrin1, Princ as AsPrinc, Terpri as AsTerpri}
use Rattle.lisp_program.specs.declared.function.Service.TheVariants.{MakeThread, JoinThread, InterruptThread, ThreadAlive, MakeMutex, MakeWaitqueue, GrabMutex, ReleaseMutex, MutexOwner, HoldingMutex, ConditionWait, ConditionNotify, ConditionBroadcast, Sleep, MakeTimer, ScheduleTimer, UnscheduleTimer}
use Rattle.form_shapes.specs.declared.operator.Operator.{Operator}
use Rattle.form_shapes.specs.declared.operator.Operator.TheVariants.{Quote, Function, Lambda, Progn, If, Let, LetStar, Setq, CompareAndSwap, Declare, Block, ReturnFrom, Return, Catch, Throw, UnwindProtect, HandlerCase, IgnoreErrors, Error, WithoutInterrupts, AllowWithInterrupts, WithInterrupts, WithLocalInterrupts, WithDeadline, WithTimeout, WithMutex, WithRecursiveLock, AbortThread, ReturnFromThread, TerminateThread, When, Unless, Cond, And, Or, Prog1, Incf, Decf, Loop, Dotimes, Defvar, Defparameter, Defun, Ignored, Format, Fold, Apply, Print, Serve, Own}
use Rattle.form_shapes.specs.Operators.{basic_named, choice_named, control_named, function_named, lock_named, number_named, operator_named, operator_only, or_else, order_named, printing_named, region_named, test_named, thread_named, time_named, top_named}

-- no function of the program
abbrev pub IsBuiltIn : Option Operator → Type 0
IsBuiltIn None = Unit {0}
IsBuiltIn (Some (Own x)) = ⊥
IsBuiltIn (Some _) = Unit {0}

-- either of two
if-built : (t : Bool) (a b : Option Operator) → IsBuiltIn a → IsBuiltIn b → IsBuiltIn (if t then a else b)
if-built true a b h k = h
if-built false a b h k = k

-- one with this name, or else another
is-other : (name text : List ℕ) (o : Operator) (rest : Option Operator) → IsBuiltIn (Some o) → IsBuiltIn rest
    → IsBuiltIn (if bytes_eq name text then Some o else rest)
is-other name text o rest h k = if-built (bytes_eq name text) (Some o) rest h k

else-built : (a b : Option Operator) → IsBuiltIn a → IsBuiltIn b → IsBuiltIn (or_else a b)
else-built None b h k = k
else-built (Some a) b h k = h

basic-built : (name : List ℕ) → IsBuiltIn (basic_named name)
basic-built name =
    is-other name (codes "QUOTE") Quote _ tt (
    is-other name (codes "FUNCTION") Function _ tt (
    is-other name (codes "LAMBDA") Lambda _ tt (
    is-other name (codes "PROGN") Progn _ tt (
    is-other name (codes "IF") If _ tt (
    is-other name (codes "LET") Let _ tt (
    is-other name (codes "LET*") LetStar _ tt (
    is-other name (codes "SETQ") Setq _ tt (
    is-other name (codes "SETF") Setq _ tt (
    is-other name (codes "COMPARE-AND-SWAP") CompareAndSwap _ tt (
    is-other name (codes "DECLARE") Declare _ tt tt))))))))))

control-built : (name : List ℕ) → IsBuiltIn (control_named name)
control-built name =
    is-other name (codes "BLOCK") Block _ tt (
    is-other name (codes "RETURN-FROM") ReturnFrom _ tt (
    is-other name (codes "RETURN") Return _ tt (
    is-other name (codes "CATCH") Catch _ tt (
    is-other name (codes "THROW") Throw _ tt (
    is-other name (codes "UNWIND-PROTECT") UnwindProtect _ tt (
    is-other name (codes "HANDLER-CASE") HandlerCase _ tt (
    is-other name (codes "IGNORE-ERRORS") IgnoreErrors _ tt (
    is-other name (codes "ERROR") Error _ tt tt))))))))

region-built : (name : List ℕ) → IsBuiltIn (region_named name)
region-built name =
    is-other name (codes "WITHOUT-INTERRUPTS") WithoutInterrupts _ tt (
    is-other name (codes "ALLOW-WITH-INTERRUPTS") AllowWithInterrupts _ tt (
    is-other name (codes "WITH-INTERRUPTS") WithInterrupts _ tt (
    is-other name (codes "WITH-LOCAL-INTERRUPTS") WithLocalInterrupts _ tt (
    is-other name (codes "WITH-DEADLINE") WithDeadline _ tt (
    is-other name (codes "WITH-TIMEOUT") WithTimeout _ tt (
    is-other name (codes "WITH-MUTEX") WithMutex _ tt (
    is-other name (codes "WITH-RECURSIVE-LOCK") WithRecursiveLock _ tt (
    is-other name (codes "ABORT-THREAD") AbortThread _ tt (
    is-other name (codes "RETURN-FROM-THREAD") ReturnFromThread _ tt (
    is-other name (codes "TERMINATE-THREAD") TerminateThread _ tt tt))))))))))

choice-built : (name : List ℕ) → IsBuiltIn (choice_named name)
choice-built name =
    is-other name (codes "WHEN") When _ tt (
    is-other name (codes "UNLESS") Unless _ tt (
    is-other name (codes "COND") Cond _ tt (
    is-other name (codes "AND") And _ tt (
    is-other name (codes "OR") Or _ tt (
    is-other name (codes "PROG1") Prog1 _ tt (
    is-other name (codes "INCF") Incf _ tt (
    is-other name (codes "DECF") Decf _ tt (
    is-other name (codes "LOOP") Loop _ tt (
    is-other name (codes "DOTIMES") Dotimes _ tt tt)))))))))

top-built : (name : List ℕ) → IsBuiltIn (top_named name)
top-built name =
    is-other name (codes "DEFVAR") Defvar _ tt (
    is-other name (codes "DEFPARAMETER") Defparameter _ tt (
    is-other name (codes "DEFUN") Defun _ tt (
    is-other name (codes "IN-PACKAGE") Ignored _ tt (
    is-other name (codes "DECLAIM") Ignored _ tt (
    is-other name (codes "USE-PACKAGE") Ignored _ tt tt)))))

number-built : (name : List ℕ) → IsBuiltIn (number_named name)
number-built name =
    is-other name (codes "+") (Fold Add) _ tt (
    is-other name (codes "*") (Fold Multiply) _ tt (
    is-other name (codes "-") (Fold Subtract) _ tt (
    is-other name (codes "MAX") (Fold Max) _ tt (
    is-other name (codes "MIN") (Fold Min) _ tt (
    is-other name (codes "1+") (Apply Increment 1) _ tt (
    is-other name (codes "1-") (Apply Decrement 1) _ tt (
    is-other name (codes "ABS") (Apply Abs 1) _ tt (
    is-other name (codes "FLOOR") (Apply Floor 2) _ tt (
    is-other name (codes "TRUNCATE") (Apply Truncate 2) _ tt (
    is-other name (codes "MOD") (Apply Mod 2) _ tt (
    is-other name (codes "REM") (Apply Rem 2) _ tt tt)))))))))))

order-built : (name : List ℕ) → IsBuiltIn (order_named name)
order-built name =
    is-other name (codes "=") (Apply Equals 2) _ tt (
    is-other name (codes "/=") (Apply Differs 2) _ tt (
    is-other name (codes "<") (Apply Less 2) _ tt (
    is-other name (codes ">") (Apply Greater 2) _ tt (
    is-other name (codes "<=") (Apply AtMost 2) _ tt (
    is-other name (codes ">=") (Apply AtLeast 2) _ tt (
    is-other name (codes "ZEROP") (Apply Zerop 1) _ tt tt))))))

test-built : (name : List ℕ) → IsBuiltIn (test_named name)
test-built name =
    is-other name (codes "EQ") (Apply Eq 2) _ tt (
    is-other name (codes "EQL") (Apply Eql 2) _ tt (
    is-other name (codes "EQUAL") (Apply Equal 2) _ tt (
    is-other name (codes "NOT") (Apply Not 1) _ tt (
    is-other name (codes "NULL") (Apply Null 1) _ tt (
    is-other name (codes "SYMBOLP") (Apply Symbolp 1) _ tt (
    is-other name (codes "INTEGERP") (Apply Integerp 1) _ tt (
    is-other name (codes "STRINGP") (Apply Stringp 1) _ tt tt)))))))

printing-built : (name : List ℕ) → IsBuiltIn (printing_named name)
printing-built name =
    is-other name (codes "PRINT") (Print AsPrint 1) _ tt (
    is-other name (codes "PRIN1") (Print AsPrin1 1) _ tt (
    is-other name (codes "PRINC") (Print AsPrinc 1) _ tt (
    is-other name (codes "TERPRI") (Print AsTerpri 0) _ tt (
    is-other name (codes "FORMAT") Format _ tt tt))))

thread-built : (name : List ℕ) → IsBuiltIn (thread_named name)
thread-built name =
    is-other name (codes "MAIN-THREAD") (Apply MainThread 0) _ tt (
    is-other name (codes "THREAD-YIELD") (Apply ThreadYield 0) _ tt (
    is-other name (codes "MAKE-THREAD") (Serve (MakeThread false false)) _ tt (
    is-other name (codes "JOIN-THREAD") (Serve (JoinThread false false)) _ tt (
    is-other name (codes "INTERRUPT-THREAD") (Serve InterruptThread) _ tt (
    is-other name (codes "THREAD-ALIVE-P") (Serve ThreadAlive) _ tt tt)))))

lock-built : (name : List ℕ) → IsBuiltIn (lock_named name)
lock-built name =
    is-other name (codes "MAKE-MUTEX") (Serve (MakeMutex false)) _ tt (
    is-other name (codes "MAKE-WAITQUEUE") (Serve (MakeWaitqueue false)) _ tt (
    is-other name (codes "GRAB-MUTEX") (Serve (GrabMutex false false)) _ tt (
    is-other name (codes "RELEASE-MUTEX") (Serve (ReleaseMutex false)) _ tt (
    is-other name (codes "MUTEX-OWNER") (Serve MutexOwner) _ tt (
    is-other name (codes "HOLDING-MUTEX-P") (Serve HoldingMutex) _ tt (
    is-other name (codes "CONDITION-WAIT") (Serve (ConditionWait false)) _ tt (
    is-other name (codes "CONDITION-NOTIFY") (Serve (ConditionNotify false)) _ tt (
    is-other name (codes "CONDITION-BROADCAST") (Serve ConditionBroadcast) _ tt tt))))))))

time-built : (name : List ℕ) → IsBuiltIn (time_named name)
time-built name =
    is-other name (codes "SLEEP") (Serve Sleep) _ tt (
    is-other name (codes "MAKE-TIMER") (Serve (MakeTimer false false)) _ tt (
    is-other name (codes "SCHEDULE-TIMER") (Serve (ScheduleTimer false false)) _ tt (
    is-other name (codes "UNSCHEDULE-TIMER") (Serve UnscheduleTimer) _ tt tt)))

-- what has this name
pub named-built : (name : List ℕ) → IsBuiltIn (operator_named name)
named-built name =
    else-built (operator_only name) (function_named name)
    (else-built (basic_named name) _ (basic-built name)
    (else-built (control_named name) _ (control-built name)
    (else-built (region_named name) _ (region-built name) (else-built (choice_named name) _ (choice-built name) (top-built name)))))
    (else-built (number_named name) _ (number-built name)
    (else-built (order_named name) _ (order-built name)
    (else-built (test_named name) _ (test-built name)
    (else-built (printing_named name) _ (printing-built name)
    (else-built (thread_named name) _ (thread-built name) (else-built (lock_named name) _ (lock-built name) (time-built name)))))))
