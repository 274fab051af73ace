-- The order of the classes of conditions.
use Rattle.std.proofs.Common.{◌≡◌, refl, sym, ℕ, zero, suc, ◌≤◌, inl, inr, Option, Some, None, subst, arith}
use Rattle.lisp_base.specs.Classes.{above, IsReached, Covers, IsPartialOrder}
use Rattle.lisp_base.specs.declared.condition.Class.{Class}
use Rattle.lisp_base.specs.declared.condition.Class.TheVariants.{Condition, SeriousCondition, Error, StorageCondition, SimpleError, TypeError, ProgramError, ControlError, CellError, UnboundVariable, UndefinedFunction, ArithmeticError, DivisionByZero, IntegerRange, ThreadError, InterruptThreadError, JoinThreadError, NotOwner, RecursiveLock, Timeout, DeadlineTimeout}

-- how many classes stand above a class
abbrev pub height : Class → ℕ
height Condition = 0
height SeriousCondition = 1
height Error = 2
height StorageCondition = 2
height SimpleError = 3
height TypeError = 3
height ProgramError = 3
height ControlError = 3
height CellError = 3
height UnboundVariable = 4
height UndefinedFunction = 4
height ArithmeticError = 3
height DivisionByZero = 4
height IntegerRange = 4
height ThreadError = 3
height InterruptThreadError = 4
height JoinThreadError = 4
height NotOwner = 4
height RecursiveLock = 4
height Timeout = 3
height DeadlineTimeout = 4

-- how many classes there are from this one upwards
abbrev pub height_from : Option Class → ℕ
height_from None = 0
height_from (Some class) = suc (height class)

-- a class stands one higher than the one above it
pub one_higher : (class : Class) → height class ≡ height_from (above class)
one_higher Condition = refl
one_higher SeriousCondition = refl
one_higher Error = refl
one_higher StorageCondition = refl
one_higher SimpleError = refl
one_higher TypeError = refl
one_higher ProgramError = refl
one_higher ControlError = refl
one_higher CellError = refl
one_higher UnboundVariable = refl
one_higher UndefinedFunction = refl
one_higher ArithmeticError = refl
one_higher DivisionByZero = refl
one_higher IntegerRange = refl
one_higher ThreadError = refl
one_higher InterruptThreadError = refl
one_higher JoinThreadError = refl
one_higher NotOwner = refl
one_higher RecursiveLock = refl
one_higher Timeout = refl
one_higher DeadlineTimeout = refl

-- no class has more than four above it
pub four_at_most : (class : Class) → height class ≤ 4
four_at_most Condition = omega arith
four_at_most SeriousCondition = omega arith
four_at_most Error = omega arith
four_at_most StorageCondition = omega arith
four_at_most SimpleError = omega arith
four_at_most TypeError = omega arith
four_at_most ProgramError = omega arith
four_at_most ControlError = omega arith
four_at_most CellError = omega arith
four_at_most UnboundVariable = omega arith
four_at_most UndefinedFunction = omega arith
four_at_most ArithmeticError = omega arith
four_at_most DivisionByZero = omega arith
four_at_most IntegerRange = omega arith
four_at_most ThreadError = omega arith
four_at_most InterruptThreadError = omega arith
four_at_most JoinThreadError = omega arith
four_at_most NotOwner = omega arith
four_at_most RecursiveLock = omega arith
four_at_most Timeout = omega arith
four_at_most DeadlineTimeout = omega arith

-- what is reached has fewer classes above it
lower : (class : Class) (steps : ℕ) (from : Option Class) → IsReached class steps from → suc (height class) ≤ height_from from
lower class steps None h = absurd h
lower class zero (Some other) h = subst (λ c. suc (height c) ≤ suc (height other)) h (omega arith)
lower class (suc steps) (Some other) (inl h) = subst (λ c. suc (height c) ≤ suc (height other)) h (omega arith)
lower class (suc steps) (Some other) (inr r) = omega (arith, one_higher other, lower class steps (above other) r)

-- one more step reaches no less
more : (class : Class) (steps : ℕ) (from : Option Class) → IsReached class steps from → IsReached class (suc steps) from
more class steps None h = h
more class zero (Some other) h = inl h
more class (suc steps) (Some other) (inl h) = inl h
more class (suc steps) (Some other) (inr r) = inr (more class steps (above other) r)

-- the last step reaches nothing where the root comes before
fewer : (class : Class) (steps : ℕ) (from : Option Class) → height_from from ≤ suc steps → IsReached class (suc steps) from → IsReached class steps from
fewer class steps None le h = h
fewer class zero (Some other) le (inl h) = h
fewer class zero (Some other) le (inr r) = absurd (omega (arith, le, one_higher other, lower class zero (above other) r))
fewer class (suc steps) (Some other) le (inl h) = inl h
fewer class (suc steps) (Some other) le (inr r) = inr (fewer class steps (above other) (omega (arith, le, one_higher other)) r)

-- so many steps and so many more
abbrev both : ℕ → ℕ → ℕ
both zero later = later
both (suc steps) later = suc (both steps later)

-- steps after steps
onward : (class middle : Class) (steps later : ℕ) (from : Option Class) → IsReached middle steps from → IsReached class later (Some middle) → IsReached class (both steps later) from
onward class middle steps later None h r = absurd h
onward class middle zero later (Some other) h r = subst (λ c. IsReached class later (Some c)) (sym h) r
onward class middle (suc steps) later (Some other) (inl h) r = further (suc steps) (subst (λ c. IsReached class later (Some c)) (sym h) r) where
  further : (n : ℕ) → IsReached class later (Some other) → IsReached class (both n later) (Some other)
  further zero q = q
  further (suc n) q = more class (both n later) (Some other) (further n q)
onward class middle (suc steps) later (Some other) (inr h) r = inr (onward class middle steps later (above other) h r)

-- two classes that cover each other are one
one_of_both : (a b : Class) → Covers a b → Covers b a → a ≡ b
one_of_both a b (inl h) back = sym h
one_of_both a b (inr r) back = absurd (omega (arith, one_higher b, lower a 3 (above b) r, lower b 4 (Some a) back))

-- what a covered class covers is covered
through : (a b c : Class) → Covers a b → Covers b c → Covers a c
through a b c ab bc =
    let le = four_at_most c in
    fewer a 4 (Some c) (omega (arith, le)) (fewer a 5 (Some c) (omega (arith, le)) (fewer a 6 (Some c) (omega (arith, le)) (fewer a 7 (Some c) (omega (arith, le)) (onward a b 4 4 (Some c) bc ab))))

pub covers_order : IsPartialOrder Covers
covers_order = record { reflexive = λ a. inl refl; antisymmetric = one_of_both; transitive = through }
