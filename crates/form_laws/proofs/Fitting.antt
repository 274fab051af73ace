-- What is open by a scope is open round the forms that are read by it.
use Rattle.std.proofs.Common.{◌≡◌, inl, inr, ℕ, suc, ◌+◌, List, [], ◌∷◌, Bool, true, false, Option, Some, None, if◌then◌else◌, length, replicate, refl, ap, subst, arith}
use Rattle.form_shapes.specs.declared.levels.Level.{Level}
use Rattle.form_shapes.specs.declared.levels.Level.TheVariants as level
use Rattle.form_shapes.specs.declared.levels.Numbered.{Numbered}
use Rattle.form_shapes.specs.Bindings.{opened, opened_by as opened_with, received, received_by}
use Rattle.form_shapes.specs.Levels.{is_level, number_of}
use Rattle.form_shapes.specs.Scopes.{Scope, deeper, has, inside, with_open}
use Rattle.form_shapes.specs.Seats.{scope_within}
use Rattle.form_laws.specs.Scoping.{Opening, Variable, IsOpen}
use Rattle.form_laws.specs.inside.Openings.{AreOpen, Fits, opening_of}
use Rattle.form_laws.specs.inside.Parts.{with_variable, with_variables}

-- what is open stays open in one more
open-more : (o : Opening) (os : List Opening) (ls : List Numbered) → AreOpen os ls → AreOpen (o ∷ os) ls
open-more o os [] h = tt
open-more o os (l ∷ ls) h = (inr h.0, open-more o os ls h.1)

-- one more that no program can name
pub fits-deeper : (o : Opening) (os : List Opening) (s : Scope) → Fits os s → Fits (o ∷ os) (deeper s)
fits-deeper o os s f = (ap suc f.0, open-more o os s.levels f.1)

-- one more that can be named
pub fits-inside : (os : List Opening) (s : Scope) (l : Level) → Fits os s → Fits (opening_of l ∷ os) (inside s l)
fits-inside os s l f = (ap suc f.0, (inl (refl, f.0), open-more (opening_of l) os s.levels f.1))

-- a variable of a `let`
pub fits-variable : (os : List Opening) (s : Scope) (x : ℕ) → Fits os s → Fits (with_variable os s x) (opened_with s x)
fits-variable os s x f = by (has s.specials x)
  where
    by : (t : Bool) → Fits (if t then os else Variable ∷ os) (if t then s else inside s (level.Variable x))
    by true = f
    by false = fits-inside os s (level.Variable x) f

-- and these
pub fits-variables : (os : List Opening) (s : Scope) (xs : List ℕ) → Fits os s → Fits (with_variables os s xs) (opened s xs)
fits-variables os s [] f = f
fits-variables os s (x ∷ xs) f = fits-variables (with_variable os s x) (opened_with s x) xs (fits-variable os s x f)

-- a parameter, or the variable of a clause
pub fits-received : (os : List Opening) (s : Scope) (x : ℕ) → Fits os s → Fits (Variable ∷ os) (received_by s x)
fits-received os s x f = by (has s.specials x)
  where
    by : (t : Bool) → Fits (Variable ∷ os) (if t then deeper s else inside s (level.Variable x))
    by true = fits-deeper Variable os s f
    by false = fits-inside os s (level.Variable x) f

-- all parameters
fits-parameters : (n : ℕ) (s : Scope) (xs : List ℕ) → Fits (replicate n Variable) s → Fits (replicate (n + length xs) Variable) (received s xs)
fits-parameters n s [] f =
    let same : n ≡ n + 0 = omega arith in
    subst (λ m. Fits (replicate m Variable) s) same f
fits-parameters n s (x ∷ xs) f =
    let same : suc n + length xs ≡ n + suc (length xs) = omega arith in
    subst (λ m. Fits (replicate m Variable) (received (received_by s x) xs)) same
    (fits-parameters (suc n) (received_by s x) xs (fits-received (replicate n Variable) s x f))

-- the body of a function
pub fits-within : (s : Scope) (xs : List ℕ) → Fits (replicate (length xs) Variable) (scope_within s xs)
fits-within s xs =
    let same : 0 + length xs ≡ length xs = omega arith in
    subst (λ m. Fits (replicate m Variable) (scope_within s xs)) same (fits-parameters 0 (with_open s [] 0) xs (refl, tt))

-- this is a number of an opening of this kind, where there is one
abbrev pub IsNumberIn : Opening → List Opening → Option ℕ → Type 0
IsNumberIn o os None = Unit {0}
IsNumberIn o os (Some n) = IsOpen o os n

-- a level that is sought is an opening of its kind
same-opening : (sought l : Level) → is_level sought l ≡ true → opening_of l ≡ opening_of sought
same-opening (level.Variable x) (level.Variable y) h = refl
same-opening (level.Variable x) (level.Block b) h = absurd (cc)
same-opening (level.Variable x) level.Region h = absurd (cc)
same-opening (level.Block b) (level.Variable y) h = absurd (cc)
same-opening (level.Block b) (level.Block c) h = refl
same-opening (level.Block b) level.Region h = absurd (cc)
same-opening level.Region (level.Variable y) h = absurd (cc)
same-opening level.Region (level.Block c) h = absurd (cc)
same-opening level.Region level.Region h = refl

-- what is found among the levels is open
pub number-open : (os : List Opening) (sought : Level) (ls : List Numbered) → AreOpen os ls → IsNumberIn (opening_of sought) os (number_of sought ls)
number-open os sought [] h = tt
number-open os sought (l ∷ ls) h = by (is_level sought l.level) refl (number-open os sought ls h.1)
  where
    by : (t : Bool) → is_level sought l.level ≡ t → IsNumberIn (opening_of sought) os (number_of sought ls)
        → IsNumberIn (opening_of sought) os (if t then Some l.number else number_of sought ls)
    by true e rest = subst (λ o. IsOpen o os l.number) (same-opening sought l.level e) h.0
    by false e rest = rest
