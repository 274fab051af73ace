-- What stands as it should, put together and taken apart.
use Rattle.std.proofs.Common.{◌≡◌, ℕ, zero, suc, ◌+◌, List, [], ◌∷◌, Bool, true, false, ◌==◌, if◌then◌else◌, refl, subst, arith}
use Rattle.std.proofs.lemmas.Bool.Decides.{nat_tests}
use Rattle.lisp_base.specs.Forest.{NoTrees, Tree, append, count_of}
use Rattle.lisp_program.specs.Program.{Program}
use Rattle.lisp_program.specs.WellMade.{Binds, Bound, Clauses, Each, Empty, Gives, Guarded, Handles, Misplaced, Role, Seat, Stand, Stands, Values, standing}
use Rattle.form_shapes.specs.Bindings.{opened, opened_by, received, received_by}
use Rattle.form_shapes.specs.Scopes.{Scope, deeper, has, inside, with_open}
use Rattle.form_shapes.specs.Seats.{scope_within}
use Rattle.form_shapes.specs.declared.expanded.Expanded.{Expanded}
use Rattle.form_shapes.specs.declared.levels.Level.TheVariants.{Variable}
use Rattle.lisp_forms.specs.Trees.{Expansion, Single, in_front, only, both, first, others}
use Rattle.lisp_forms.specs.inside.Standing.{AreStanding, IsGiver, IsStanding, Suits, role_in}

-- what gives a value may stand where each does
stand-each : (r : Role) (under beside : Seat → Type 0) → IsGiver r under → beside Each → Stand (standing Each r) under beside
stand-each (Gives u) under beside h k = (h, k)
stand-each (Binds above) under beside h k = absurd h
stand-each Handles under beside h k = absurd h

-- and where values do
stand-value : (n : ℕ) (r : Role) (under beside : Seat → Type 0) → IsGiver r under → beside (Values (suc n)) → Stand (standing (Values n) r) under beside
stand-value n (Gives u) under beside h k = (h, k)
stand-value n (Binds above) under beside h k = absurd h
stand-value n Handles under beside h k = absurd h

-- and before clauses
stand-guarded : (r : Role) (under beside : Seat → Type 0) → IsGiver r under → beside Clauses → Stand (standing Guarded r) under beside
stand-guarded (Gives u) under beside h k = (h, k)
stand-guarded (Binds above) under beside h k = absurd h
stand-guarded Handles under beside h k = absurd h

-- and in a body
stand-body : (r : Role) (under beside : Seat → Type 0) → Stand (standing Each r) under beside → Stand (standing (Bound zero) r) under beside
stand-body (Gives u) under beside h = h
stand-body (Binds above) under beside h = absurd h
stand-body Handles under beside h = absurd h

-- what stands where each gives a value does
stood-each : (r : Role) (under beside : Seat → Type 0) → Stand (standing Each r) under beside → IsGiver r under × beside Each
stood-each (Gives u) under beside h = h
stood-each (Binds above) under beside h = absurd h
stood-each Handles under beside h = absurd h

-- one before others
pub front-standing : (w : Program) (a : Single) (fs : Expansion) → IsStanding w a → AreStanding w Each fs → AreStanding w Each (in_front a fs)
front-standing w a fs h k = (h.0, stand-each (role_in a.kind) (λ s. AreStanding w s a.under) (λ s. AreStanding w s fs) h.1 k)

pub only-standing : (w : Program) (a : Single) → IsStanding w a → AreStanding w Each (only a)
only-standing w a h = front-standing w a NoTrees h tt

pub both-standing : (w : Program) (a b : Single) → IsStanding w a → IsStanding w b → AreStanding w Each (both a b)
both-standing w a b h k = front-standing w a (only b) h (only-standing w b k)

-- a value before others and what binds them
pub value-standing : (w : Program) (n : ℕ) (a : Single) (fs : Expansion) → IsStanding w a → AreStanding w (Values (suc n)) fs → AreStanding w (Values n) (in_front a fs)
value-standing w n a fs h k = (h.0, stand-value n (role_in a.kind) (λ s. AreStanding w s a.under) (λ s. AreStanding w s fs) h.1 k)

-- a form before its clauses
pub guarded-standing : (w : Program) (a : Single) (fs : Expansion) → IsStanding w a → AreStanding w Clauses fs → AreStanding w Guarded (in_front a fs)
guarded-standing w a fs h k = (h.0, stand-guarded (role_in a.kind) (λ s. AreStanding w s a.under) (λ s. AreStanding w s fs) h.1 k)

-- the first of these, and one alone
pub one-standing : (w : Program) (kind : Expanded) (p : ℕ) (under beside : Expansion) → AreStanding w Each (Tree kind p under beside)
    → IsStanding w (record { kind = kind; place = p; under = under })
one-standing w kind p under beside h = (h.0, (stood-each (role_in kind) (λ s. AreStanding w s under) (λ s. AreStanding w s beside) h.1).0)

pub beside-standing : (w : Program) (kind : Expanded) (p : ℕ) (under beside : Expansion) → AreStanding w Each (Tree kind p under beside) → AreStanding w Each beside
beside-standing w kind p under beside h = (stood-each (role_in kind) (λ s. AreStanding w s under) (λ s. AreStanding w s beside) h.1).1

pub first-standing : (w : Program) (p : ℕ) (fs : Expansion) → AreStanding w Each fs → IsStanding w (first p fs)
first-standing w p NoTrees h = (tt, tt)
first-standing w p (Tree kind q under beside) h = one-standing w kind q under beside h

-- the others
pub others-standing : (w : Program) (fs : Expansion) → AreStanding w Each fs → AreStanding w Each (others fs)
others-standing w NoTrees h = tt
others-standing w (Tree kind q under beside) h = beside-standing w kind q under beside h

-- forms before others
pub append-standing : (w : Program) (fs gs : Expansion) → AreStanding w Each fs → AreStanding w Each gs → AreStanding w Each (append fs gs)
append-standing w NoTrees gs h k = k
append-standing w (Tree kind q under beside) gs h k =
    front-standing w (record { kind = kind; place = q; under = under }) (append beside gs) (one-standing w kind q under beside h)
    (append-standing w beside gs (beside-standing w kind q under beside h) k)

-- values before what binds them
pub values-standing : (w : Program) (n total : ℕ) (fs gs : Expansion) → total ≡ n + count_of fs → AreStanding w Each fs → AreStanding w (Values total) gs
    → AreStanding w (Values n) (append fs gs)
values-standing w n total NoTrees gs e h k = let all : total ≡ n = omega (arith, e) in subst (λ m. AreStanding w (Values m) gs) all k
values-standing w n total (Tree kind q under beside) gs e h k =
    value-standing w n (record { kind = kind; place = q; under = under }) (append beside gs) (one-standing w kind q under beside h)
    (values-standing w (suc n) total beside gs (omega (arith, e)) (beside-standing w kind q under beside h) k)

-- a body
pub body-standing : (w : Program) (fs : Expansion) → AreStanding w Each fs → AreStanding w (Bound 0) fs
body-standing w NoTrees h = refl
body-standing w (Tree kind q under beside) h = (h.0, stand-body (role_in kind) (λ s. AreStanding w s under) (λ s. AreStanding w s beside) h.1)

-- what binds a variable to the value that it takes
pub stand-here : (n m above : ℕ) (under beside : Seat → Type 0) → n ≡ m → under (Bound above) → beside Empty
    → Stand (if n == m then Stands (Bound above) Empty else Misplaced) under beside
stand-here n m above under beside e h k = by (n == m) refl
  where
    by : (t : Bool) → (n == m) ≡ t → Stand (if t then Stands (Bound above) Empty else Misplaced) under beside
    by true is = (h, k)
    by false is = absurd (grind (arith, nat_tests, e))

-- scopes
pub suits-opened_by : (w : Program) (s : Scope) (x : ℕ) → Suits w s → Suits w (opened_by s x)
suits-opened_by w s x h = by (has s.specials x)
  where
    by : (t : Bool) → Suits w (if t then s else inside s (Variable x))
    by true = h
    by false = h

pub suits-opened : (w : Program) (s : Scope) (xs : List ℕ) → Suits w s → Suits w (opened s xs)
suits-opened w s [] h = h
suits-opened w s (x ∷ xs) h = suits-opened w (opened_by s x) xs (suits-opened_by w s x h)

pub suits-received_by : (w : Program) (s : Scope) (x : ℕ) → Suits w s → Suits w (received_by s x)
suits-received_by w s x h = by (has s.specials x)
  where
    by : (t : Bool) → Suits w (if t then deeper s else inside s (Variable x))
    by true = h
    by false = h

suits-received : (w : Program) (s : Scope) (xs : List ℕ) → Suits w s → Suits w (received s xs)
suits-received w s [] h = h
suits-received w s (x ∷ xs) h = suits-received w (received_by s x) xs (suits-received_by w s x h)

pub suits-within : (w : Program) (s : Scope) (xs : List ℕ) → Suits w s → Suits w (scope_within s xs)
suits-within w s xs h = suits-received w (with_open s [] 0) xs h
