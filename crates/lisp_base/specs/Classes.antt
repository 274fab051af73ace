-- The tree of the classes of conditions.
use Rattle.std.specs.Prelude.{◌≡◌, ℕ, zero, suc, ◌⊎◌, Option, Some, None}
use Rattle.lisp_base.specs.declared.condition.Class.{Class}
use Rattle.lisp_base.specs.declared.condition.Class.TheVariants.{Condition, SeriousCondition, Error, StorageCondition, SimpleError, TypeError, ProgramError, ControlError, CellError, UnboundVariable, UndefinedFunction, ArithmeticError, DivisionByZero, IntegerRange, ThreadError, InterruptThreadError, JoinThreadError, NotOwner, RecursiveLock, Timeout, DeadlineTimeout}

-- the class directly above a class; the root has none
abbrev pub above : Class → Option Class
above Condition = None
above SeriousCondition = Some Condition
above Error = Some SeriousCondition
above StorageCondition = Some SeriousCondition
above SimpleError = Some Error
above TypeError = Some Error
above ProgramError = Some Error
above ControlError = Some Error
above CellError = Some Error
above UnboundVariable = Some CellError
above UndefinedFunction = Some CellError
above ArithmeticError = Some Error
above DivisionByZero = Some ArithmeticError
above IntegerRange = Some ArithmeticError
above ThreadError = Some Error
above InterruptThreadError = Some ThreadError
above JoinThreadError = Some ThreadError
above NotOwner = Some ThreadError
above RecursiveLock = Some ThreadError
above Timeout = Some Error
above DeadlineTimeout = Some Timeout

-- a class is reached from another, where there is one, by at most so many steps upwards
abbrev pub IsReached : Class → ℕ → Option Class → Type 0
IsReached class steps None = ⊥
IsReached class zero (Some other) = other ≡ class
IsReached class (suc steps) (Some other) = (other ≡ class) ⊎ IsReached class steps (above other)

-- no class is more than four steps below the root
abbrev pub depth : ℕ
depth = 4

-- a class covers itself and the classes below it
abbrev pub Covers : Class → Class → Type 0
Covers class other = IsReached class depth (Some other)

-- covering is a partial order
pub record IsPartialOrder (Below : Class → Class → Type 0) : Type 0 where
  pub reflexive : (a : Class) → Below a a
  pub antisymmetric : (a b : Class) → Below a b → Below b a → a ≡ b
  pub transitive : (a b c : Class) → Below a b → Below b c → Below a c
