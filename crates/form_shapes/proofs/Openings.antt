-- What variables and parameters open, one by one.
use Rattle.std.proofs.Common.{◌≡◌, ℕ, suc, ◌+◌, ◌<◌, List, ◌∷◌, true, false, Result, Ok, Err, OnOk, length, get_or, drop, ap, sym, ◌∙◌, drop-cons, add-one}
use Rattle.lisp_base.specs.declared.memory.Memory.{Memory}
use Rattle.form_shapes.proofs.Chosen.{first_of, other_of}
use Rattle.form_shapes.specs.declared.levels.Level.TheVariants.{Variable}
use Rattle.form_shapes.specs.declared.scope.Opened.{Opened}
use Rattle.form_shapes.specs.Bindings.{opened, opened_by, received, received_by}
use Rattle.form_shapes.specs.inside.Contexts.{with_opened}
use Rattle.form_shapes.specs.Scopes.{Scope, deeper, has, inside}

-- what holds of all scopes holds of those with these special variables
pub opened_so : (r : Result Unit Memory) (specials : List ℕ) (f g : Scope → Scope) (new old : Opened)
    → ((s : Scope) → specials ≡ s.specials → f (with_opened s old) ≡ g (with_opened s old))
    → OnOk r ((s : Scope) → with_opened s new ≡ f (with_opened s old))
    → OnOk r ((s : Scope) → specials ≡ s.specials → with_opened s new ≡ g (with_opened s old))
opened_so (Ok u) specials f g new old same h = λ s e. h s ∙ same s e
opened_so (Err e) specials f g new old same h = tt

-- a special variable opens nothing, another one itself
pub opens_variable : (specials : List ℕ) (x : ℕ) (old : Opened) → has specials x ≡ false
    → (s : Scope) → specials ≡ s.specials → inside (with_opened s old) (Variable x) ≡ opened_by (with_opened s old) x
opens_variable specials x old h s e =
    sym (other_of (has s.specials x) (with_opened s old) (inside (with_opened s old) (Variable x)) (ap (λ xs. has xs x) (sym e) ∙ h))

-- a special parameter opens a hidden variable, another one itself
pub receives_special : (specials : List ℕ) (x : ℕ) (old : Opened) → has specials x ≡ true
    → (s : Scope) → specials ≡ s.specials → deeper (with_opened s old) ≡ received_by (with_opened s old) x
receives_special specials x old h s e =
    sym (first_of (has s.specials x) (deeper (with_opened s old)) (inside (with_opened s old) (Variable x)) (ap (λ xs. has xs x) (sym e) ∙ h))

pub receives_variable : (specials : List ℕ) (x : ℕ) (old : Opened) → has specials x ≡ false
    → (s : Scope) → specials ≡ s.specials → inside (with_opened s old) (Variable x) ≡ received_by (with_opened s old) x
receives_variable specials x old h s e =
    sym (other_of (has s.specials x) (deeper (with_opened s old)) (inside (with_opened s old) (Variable x)) (ap (λ xs. has xs x) (sym e) ∙ h))

-- a symbol with those behind it
pub next_of : (xs : List ℕ) (i x : ℕ) → i < length xs → x ≡ get_or xs i x → drop i xs ≡ x ∷ drop (i + 1) xs
next_of xs i x h e = drop-cons xs i x h ∙ ap (λ y. y ∷ drop (suc i) xs) (sym e) ∙ ap (λ k. x ∷ drop k xs) (sym (add-one i))

-- the next variable is opened
pub opened_next : (s t : Scope) (xs : List ℕ) (i x : ℕ) → i < length xs → x ≡ get_or xs i x → t ≡ opened_by s x
    → opened t (drop (i + 1) xs) ≡ opened s (drop i xs)
opened_next s t xs i x h e o = ap (λ u. opened u (drop (i + 1) xs)) o ∙ sym (ap (opened s) (next_of xs i x h e))

-- the next parameter is received
pub received_next : (s t : Scope) (xs : List ℕ) (i x : ℕ) → i < length xs → x ≡ get_or xs i x → t ≡ received_by s x
    → received t (drop (i + 1) xs) ≡ received s (drop i xs)
received_next s t xs i x h e o = ap (λ u. received u (drop (i + 1) xs)) o ∙ sym (ap (received s) (next_of xs i x h e))
