-- Letters that are the same in lower case are the same in upper case.
use Rattle.std.specs.Char.{to_ascii_lowercase, to_ascii_uppercase}
use Rattle.std.specs.Prelude.{IsTrue, ◌↔◌}
use Rattle.std.specs.Str.{bytes_eq}
use Rattle.std.proofs.Common.{◌≡◌, ℕ, List, [], ◌∷◌, map, get_or, drop, Bool, arith, refl, ap}
use Rattle.std.proofs.lemmas.Bool.Decides.{nat_tests, same_from_decides}
use Rattle.std.proofs.lemmas.Slice.Eq.{bytes_eq-Decides}

-- one letter
pub same_upper : (x y : ℕ) → to_ascii_lowercase x ≡ to_ascii_lowercase y → to_ascii_uppercase x ≡ to_ascii_uppercase y
same_upper x y h = grind (arith, nat_tests)

-- and the other way round
pub same_lower : (x y : ℕ) → to_ascii_uppercase x ≡ to_ascii_uppercase y → to_ascii_lowercase x ≡ to_ascii_lowercase y
same_lower x y h = grind (arith, nat_tests)

-- rows of letters, one by one
pub same_uppers : (xs ys : List ℕ) → map to_ascii_lowercase xs ≡ map to_ascii_lowercase ys → map to_ascii_uppercase xs ≡ map to_ascii_uppercase ys
same_uppers [] [] h = refl
same_uppers [] (y ∷ ys) h = absurd (grind arith)
same_uppers (x ∷ xs) [] h = absurd (grind arith)
same_uppers (x ∷ xs) (y ∷ ys) h = rw (same_upper x y (ap (λ l. get_or l 0 0) h), same_uppers xs ys (ap (drop 1) h)) refl

-- and the other way round
pub same_lowers : (xs ys : List ℕ) → map to_ascii_uppercase xs ≡ map to_ascii_uppercase ys → map to_ascii_lowercase xs ≡ map to_ascii_lowercase ys
same_lowers [] [] h = refl
same_lowers [] (y ∷ ys) h = absurd (grind arith)
same_lowers (x ∷ xs) [] h = absurd (grind arith)
same_lowers (x ∷ xs) (y ∷ ys) h = rw (same_lower x y (ap (λ l. get_or l 0 0) h), same_lowers xs ys (ap (drop 1) h)) refl

-- a test of the one is a test of the other
pub same_folded : (xs ys : List ℕ) (r : Bool) → IsTrue r ↔ (map to_ascii_lowercase xs ≡ map to_ascii_lowercase ys)
    → r ≡ bytes_eq (map to_ascii_uppercase xs) (map to_ascii_uppercase ys)
same_folded xs ys r h =
    same_from_decides r (bytes_eq (map to_ascii_uppercase xs) (map to_ascii_uppercase ys))
    (λ yes. same_uppers xs ys (h.0 yes), λ same. h.1 (same_lowers xs ys same)) (bytes_eq-Decides _ _)
