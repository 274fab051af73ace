-- What is true of each element of a list.
use Rattle.std.proofs.Common.{◌≡◌, ◌↔◌, ◌<◌, ◌≤◌, ◌+◌, ℕ, Bool, true, IsTrue, All, List, [], ◌∷◌, length, take, get_or, refl, sym, subst}
use Rattle.std.proofs.lemmas.List.{take_all}
use Rattle.std.proofs.lemmas.List.Elements.{All-nil, All-cons, All-head, All-tail, All-more, All-same}
use Rattle.lisp_code.specs.Parts.{Parts}
use Rattle.lisp_code.specs.Validity.{Going, Lies}
use Rattle.lisp_code.specs.inside.Lying.{EachLies}

-- each of these positions lies where it should, in std's word
pub all_lie : (p : Parts) (gs : List Going) → EachLies p gs → All (Lies p) gs
all_lie p [] each = All-nil (Lies p)
all_lie p (g ∷ gs) each = All-cons (Lies p) g gs each.0 (all_lie p gs each.1)

pub each_lies : (p : Parts) (gs : List Going) → All (Lies p) gs → EachLies p gs
each_lies p [] all = tt
each_lies p (g ∷ gs) all = (All-head (Lies p) g gs all, each_lies p gs (All-tail (Lies p) g gs all))

-- one more that is so
pub one_more : {X : Type 0} (P : X → Type 0) (xs : List X) (i : ℕ) (x : X) (r : Bool) → i < length xs → x ≡ get_or xs i x → (IsTrue r ↔ P x) → r ≡ true → All P (take i xs) → All P (take (i + 1) xs)
one_more P xs i x r inside is e passes so = All-more P xs i x inside so (subst P is (e.0 passes))

-- all are so
pub all_so : {X : Type 0} (P : X → Type 0) (xs : List X) (i : ℕ) → length xs ≤ i → All P (take i xs) → (IsTrue true ↔ All P xs)
all_so P xs i end so = (λ t. All-same P xs (take i xs) (sym (take_all i xs end)) so, λ all. refl)
