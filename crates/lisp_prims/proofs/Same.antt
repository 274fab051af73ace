-- Two values are the same exactly where they are equal.
use Rattle.std.proofs.Common.{◌≡◌, ◌==◌, ◌↔◌, ℕ, ℤ, pos, negsuc, refl, sym, subst, ap, ◌∙◌, IsTrue, Bool, true, false, Option, Some, None, ◌&&◌, arith}
use Rattle.std.proofs.lemmas.Bool.Decides.{nat_tests}
use Rattle.lisp_base.specs.Equality.{class_number, same_integer, same_text, same_value}
use Rattle.lisp_base.specs.declared.condition.Class.{Class}
use Rattle.lisp_base.specs.Timers.{TimerNumbers}
use Rattle.lisp_base.specs.declared.condition.Condition.{Condition as ACondition}
use Rattle.lisp_base.specs.declared.value.Node.{Node}
use Rattle.lisp_base.specs.declared.value.Node.TheVariants.{Int, Symbol, Text, Time, Cond, Thread, Mutex, Queue, Timer}
use Rattle.lisp_base.specs.inside.Words.{class_at}
use Rattle.lisp_base.specs.declared.condition.Class.TheVariants.{Condition, SeriousCondition, Error, StorageCondition, SimpleError, TypeError, ProgramError, ControlError, CellError, UnboundVariable, UndefinedFunction, ArithmeticError, DivisionByZero, IntegerRange, ThreadError, InterruptThreadError, JoinThreadError, NotOwner, RecursiveLock, Timeout, DeadlineTimeout}

-- the same integers, and the same texts
integers : (y z : ℤ) → same_integer y z ≡ true → y ≡ z
integers (pos m) (pos n) h = ap pos (grind (arith, nat_tests))
integers (negsuc m) (negsuc n) h = ap negsuc (grind (arith, nat_tests))
integers (pos m) (negsuc n) h = cc
integers (negsuc m) (pos n) h = cc

same_integers : (z : ℤ) → same_integer z z ≡ true
same_integers (pos m) = grind (arith, nat_tests)
same_integers (negsuc m) = grind (arith, nat_tests)

texts : (s t : Option ℕ) → same_text s t ≡ true → s ≡ t
texts (Some m) (Some n) h = ap Some (grind (arith, nat_tests))
texts None None h = refl
texts (Some m) None h = cc
texts None (Some n) h = cc

same_texts : (s : Option ℕ) → same_text s s ≡ true
same_texts (Some m) = grind (arith, nat_tests)
same_texts None = refl

-- both tests hold where both together do
both : (p q : Bool) → (p && q) ≡ true → (p ≡ true) × (q ≡ true)
both true true h = (refl, refl)
both true false h = cc
both false q h = cc

-- the condition and the timer with these parts
abbrev condition_of : Class → Option ℕ → ACondition
condition_of class text = record { class = class; text = text }

abbrev timer_of : ℕ → ℕ → TimerNumbers
timer_of number thread = record { number = number; thread = thread }

-- a number is that of one class
at_number : (a : Class) → class_at (class_number a) ≡ a
at_number Condition = refl
at_number SeriousCondition = refl
at_number Error = refl
at_number StorageCondition = refl
at_number SimpleError = refl
at_number TypeError = refl
at_number ProgramError = refl
at_number ControlError = refl
at_number CellError = refl
at_number UnboundVariable = refl
at_number UndefinedFunction = refl
at_number ArithmeticError = refl
at_number DivisionByZero = refl
at_number IntegerRange = refl
at_number ThreadError = refl
at_number InterruptThreadError = refl
at_number JoinThreadError = refl
at_number NotOwner = refl
at_number RecursiveLock = refl
at_number Timeout = refl
at_number DeadlineTimeout = refl

-- values that are the same are equal
same_then : (a b : Node) → same_value a b ≡ true → a ≡ b
same_then (Int y) (Int z) h = ap Int (integers y z h)
same_then (Symbol m) (Symbol n) h = ap Symbol (grind (arith, nat_tests))
same_then (Text m) (Text n) h = ap Text (grind (arith, nat_tests))
same_then (Time m) (Time n) h = ap Time (grind (arith, nat_tests))
same_then (Thread m) (Thread n) h = ap Thread (grind (arith, nat_tests))
same_then (Mutex m) (Mutex n) h = ap Mutex (grind (arith, nat_tests))
same_then (Queue m) (Queue n) h = ap Queue (grind (arith, nat_tests))
same_then (Cond c) (Cond d) h =
    let parts : (class_number c.class == class_number d.class ≡ true) × (same_text c.text d.text ≡ true) = both _ _ h in
    let numbers : class_number c.class ≡ class_number d.class = grind (arith, nat_tests, parts.0) in
    let classes : c.class ≡ d.class = sym (at_number c.class) ∙ ap class_at numbers ∙ at_number d.class in
    ap (λ k. Cond (condition_of k c.text)) classes ∙ ap (λ t. Cond (condition_of d.class t)) (texts c.text d.text parts.1)
same_then (Timer x) (Timer y) h =
    let parts : (x.number == y.number ≡ true) × (x.thread == y.thread ≡ true) = both _ _ h in
    let numbers : x.number ≡ y.number = grind (arith, nat_tests, parts.0) in
    let threads : x.thread ≡ y.thread = grind (arith, nat_tests, parts.1) in
    ap (λ n. Timer (timer_of n x.thread)) numbers ∙ ap (λ t. Timer (timer_of y.number t)) threads
same_then a b h = cc

-- a value is the same as itself
itself : (a : Node) → same_value a a ≡ true
itself (Int y) = same_integers y
itself (Symbol m) = grind (arith, nat_tests)
itself (Text m) = grind (arith, nat_tests)
itself (Time m) = grind (arith, nat_tests)
itself (Thread m) = grind (arith, nat_tests)
itself (Mutex m) = grind (arith, nat_tests)
itself (Queue m) = grind (arith, nat_tests)
itself (Cond c) = grind (arith, nat_tests, same_texts)
itself (Timer x) = grind (arith, nat_tests)

-- what tells equal values tells the same ones
pub told_by : (a b : Node) (r : Bool) → IsTrue r ↔ (a ≡ b) → r ≡ same_value a b
told_by a b true h = sym (subst (λ v. same_value a v ≡ true) (h.0 refl) (itself a))
told_by a b false h = unless (same_value a b) refl where
  unless : (s : Bool) → same_value a b ≡ s → false ≡ s
  unless false e = refl
  unless true e = h.1 (same_then a b e)
