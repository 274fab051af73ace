-- Which of two is chosen, where the answer of the test is known.
use Rattle.std.proofs.Common.{◌≡◌, Bool, true, false, if◌then◌else◌, refl}

-- the first of two
pub first_of : {A : Type 0} (t : Bool) (x y : A) → t ≡ true → (if t then x else y) ≡ x
first_of true x y h = refl
first_of false x y h = cc

-- the other of two
pub other_of : {A : Type 0} (t : Bool) (x y : A) → t ≡ false → (if t then x else y) ≡ y
other_of true x y h = cc
other_of false x y h = refl
