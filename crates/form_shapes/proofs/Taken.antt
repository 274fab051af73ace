-- The arguments of a control, byte by byte.
use Rattle.std.proofs.Common.{◌≡◌, ℕ, ◌+◌, ◌<◌, List, ◌∷◌, Bool, true, false, nat_eq, Option, Some, None, if◌then◌else◌, length, get_or, drop, refl, ap, ◌∙◌, arith, drop-cons, add-one, sym}
use Rattle.form_shapes.specs.Controls.{one_more, taken_by, takes_argument, takes_nothing}
use Rattle.form_shapes.proofs.Chosen.{first_of, other_of}

-- so many more
abbrev pub more : ℕ → Option ℕ → Option ℕ
more n None = None
more n (Some m) = Some (n + m)

-- one more of what is left is one more
more-one_more : (n : ℕ) (o : Option ℕ) → more n (one_more o) ≡ more (n + 1) o
more-one_more n None = refl
more-one_more n (Some m) = ap Some (omega arith)

-- a byte that is in no directive opens one or not
plain : (b : ℕ) (bs : List ℕ) → taken_by false (b ∷ bs) ≡ taken_by (nat_eq b 126) bs
plain b bs = by (nat_eq b 126)
  where
    by : (t : Bool) → (if t then taken_by true bs else taken_by false bs) ≡ taken_by t bs
    by true = refl
    by false = refl

-- a directive with an argument
argued : (b : ℕ) (bs : List ℕ) → takes_argument b ≡ true → taken_by true (b ∷ bs) ≡ one_more (taken_by false bs)
argued b bs h = first_of (takes_argument b) (one_more (taken_by false bs)) (if takes_nothing b then taken_by false bs else None) h

-- a directive with none
ended : (b : ℕ) (bs : List ℕ) → takes_argument b ≡ false → takes_nothing b ≡ true → taken_by true (b ∷ bs) ≡ taken_by false bs
ended b bs h h' =
    other_of (takes_argument b) (one_more (taken_by false bs)) (if takes_nothing b then taken_by false bs else None) h ∙ first_of (takes_nothing b) (taken_by false bs) None h'

-- the bytes from a number on
from : (bs : List ℕ) (i : ℕ) → i < length bs → drop i bs ≡ get_or bs i 0 ∷ drop (i + 1) bs
from bs i h = drop-cons bs i 0 h ∙ ap (λ k. get_or bs i 0 ∷ drop k bs) (sym (add-one i))

-- the next byte outside a directive
pub plain_next : (n : ℕ) (bs : List ℕ) (i : ℕ) → i < length bs
    → more n (taken_by false (drop i bs)) ≡ more n (taken_by (nat_eq (get_or bs i 0) 126) (drop (i + 1) bs))
plain_next n bs i h = ap (λ cs. more n (taken_by false cs)) (from bs i h) ∙ ap (more n) (plain (get_or bs i 0) (drop (i + 1) bs))

-- the next byte inside one: it takes an argument, or none
pub argued_next : (n : ℕ) (bs : List ℕ) (i : ℕ) → i < length bs → takes_argument (get_or bs i 0) ≡ true
    → more n (taken_by true (drop i bs)) ≡ more (n + 1) (taken_by false (drop (i + 1) bs))
argued_next n bs i h t =
    ap (λ cs. more n (taken_by true cs)) (from bs i h) ∙ ap (more n) (argued (get_or bs i 0) (drop (i + 1) bs) t) ∙ more-one_more n (taken_by false (drop (i + 1) bs))

pub ended_next : (n : ℕ) (bs : List ℕ) (i : ℕ) → i < length bs → takes_argument (get_or bs i 0) ≡ false → takes_nothing (get_or bs i 0) ≡ true
    → more n (taken_by true (drop i bs)) ≡ more n (taken_by false (drop (i + 1) bs))
ended_next n bs i h f t = ap (λ cs. more n (taken_by true cs)) (from bs i h) ∙ ap (more n) (ended (get_or bs i 0) (drop (i + 1) bs) f t)
