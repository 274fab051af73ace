-- What is written in several steps.
use Rattle.std.proofs.Common.{◌≡◌, ℕ, zero, suc, ◌+◌, ◌<◌, List, [], ◌∷◌, ◌++◌, Option, Some, None, length, get_or, take, flat_map, refl, ap, subst, sym, ◌∙◌, arith, add-one, append_assoc, append-nil}
use Rattle.std.specs.Bool.{⊤}
use Rattle.lisp_base.specs.Writing.{Wrote}

-- these, and then those
pub wrote_both : {A : Type 0} (old mid new : Option (List A)) (x y : List A) → Wrote old mid x → Wrote mid new y → Wrote old new (x ++ y)
wrote_both old mid None x y first second = tt
wrote_both old None (Some c) x y first second = absurd second
wrote_both None (Some b) (Some c) x y first second = absurd first
wrote_both (Some a) (Some b) (Some c) x y first second = second ∙ ap (λ ns. ns ++ y) first ∙ append_assoc a x y

-- the same, said otherwise
pub wrote_same : {A : Type 0} (old new : Option (List A)) (x y : List A) → Wrote old new x → x ≡ y → Wrote old new y
wrote_same old new x y h e = subst (λ ns. Wrote old new ns) e h

-- nothing
pub wrote_none : {A : Type 0} (old : Option (List A)) → Wrote old old []
wrote_none None = tt
wrote_none (Some a) = sym (append-nil a)

-- what is written so far, with what is left, is all: unless memory ran out
abbrev pub Writes : {A : Type 0} → (old now : Option (List A)) → (left all : List A) → Type 0
Writes old None left all = ⊤
Writes None (Some b) left all = ⊥
Writes (Some a) (Some b) left all = b ++ left ≡ a ++ all

-- at first all is left
pub writes_all : {A : Type 0} (old : Option (List A)) (all : List A) → Writes old old all all
writes_all None all = tt
writes_all (Some a) all = refl

-- one step more
pub writes_next : {A : Type 0} (old now new : Option (List A)) (x left others all : List A) → Writes old now left all → Wrote now new x → left ≡ x ++ others
    → Writes old new others all
writes_next old now None x left others all so_far written e = tt
writes_next old None (Some c) x left others all so_far written e = absurd written
writes_next None (Some b) (Some c) x left others all so_far written e = absurd so_far
writes_next (Some a) (Some b) (Some c) x left others all so_far written e =
    ap (λ ns. ns ++ others) written ∙ append_assoc b x others ∙ ap (λ ns. b ++ ns) (sym e) ∙ so_far

-- the end, where these are left
pub wrote_all : {A : Type 0} (old now new : Option (List A)) (left all : List A) → Writes old now left all → Wrote now new left → Wrote old new all
wrote_all old now None left all so_far written = tt
wrote_all old None (Some c) left all so_far written = absurd written
wrote_all None (Some b) (Some c) left all so_far written = absurd so_far
wrote_all (Some a) (Some b) (Some c) left all so_far written = written ∙ so_far

-- the end, where none is left
pub writes_done : {A : Type 0} (old now : Option (List A)) (left all : List A) → Writes old now left all → left ≡ [] → Wrote old now all
writes_done old None left all so_far none = tt
writes_done None (Some b) left all so_far none = absurd so_far
writes_done (Some a) (Some b) left all so_far none = sym (append-nil b) ∙ sym (ap (λ ns. b ++ ns) none) ∙ so_far

-- all that a new writer wrote
pub written_whole : {A : Type 0} (begun whole : Option (List A)) (items all : List A) → begun ≡ Some [] → whole ≡ Some items → Wrote begun whole all → items ≡ all
written_whole begun whole items all empty full h = subst (λ w. Wrote (Some []) w all) full (subst (λ n. Wrote n whole all) empty h)

-- what is written for each of several, one more of them
flat-more : {A B : Type 0} (f : B → List A) (xs : List B) (i : ℕ) (x : B) → i < length xs → x ≡ get_or xs i x → flat_map f (take i xs) ++ f x ≡ flat_map f (take (suc i) xs)
flat-more f [] i x h is = absurd (omega arith)
flat-more f (y ∷ ys) zero x h is = ap f is ∙ sym (append-nil (f y))
flat-more f (y ∷ ys) (suc i) x h is = append_assoc (f y) (flat_map f (take i ys)) (f x) ∙ ap (λ ns. f y ++ ns) (flat-more f ys i x (omega arith) is)

pub wrote_more : {A B : Type 0} (f : B → List A) (old now new : Option (List A)) (xs : List B) (i : ℕ) (x : B) → i < length xs → x ≡ get_or xs i x
    → Wrote old now (flat_map f (take i xs)) → Wrote now new (f x) → Wrote old new (flat_map f (take (i + 1) xs))
wrote_more f old now new xs i x h is so_far written =
    wrote_same old new (flat_map f (take i xs) ++ f x) (flat_map f (take (i + 1) xs)) (wrote_both old now new (flat_map f (take i xs)) (f x) so_far written)
    (flat-more f xs i x h is ∙ ap (λ n. flat_map f (take n xs)) (sym (add-one i)))
