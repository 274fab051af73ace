-- Lists without their first items, and reversed lists.
use Rattle.std.proofs.Common.{◌≡◌, ℕ, zero, suc, ◌+◌, ◌-◌, ◌≤◌, min, Bool, true, false, nat_le, List, [], ◌∷◌, ◌++◌, length, take, drop, reverse, refl, ap, sym, ◌∙◌, arith}
use lib.Seq.{drop-drop}
use Rattle.std.proofs.lemmas.Bool.Decides.{nat_tests}
use Rattle.std.proofs.lemmas.List.{length-reverse, length-drop, reverse-append, take-append-drop}

-- one more item left out is the first of the rest left out
pub drop-one_more : {T : Type 0} (at : ℕ) (xs : List T) → drop (suc at) xs ≡ drop 1 (drop at xs)
drop-one_more zero xs = refl
drop-one_more (suc n) [] = refl
drop-one_more (suc n) (x ∷ xs) = drop-one_more n xs

pub length_reversed : {T : Type 0} (xs : List T) → length (reverse xs) ≡ length xs
length_reversed xs = length-reverse xs

take-of_front : {T : Type 0} (n : ℕ) (xs ys : List T) → length xs ≡ n → take n (xs ++ ys) ≡ xs
take-of_front zero [] ys e = refl
take-of_front zero (x ∷ xs) ys e = absurd (omega arith)
take-of_front (suc n) [] ys e = absurd (omega arith)
take-of_front (suc n) (x ∷ xs) ys e = ap (λ zs. x ∷ zs) (take-of_front n xs ys (omega arith))

drop-of_front : {T : Type 0} (n : ℕ) (xs ys : List T) → length xs ≡ n → drop n (xs ++ ys) ≡ ys
drop-of_front zero [] ys e = refl
drop-of_front zero (x ∷ xs) ys e = absurd (omega arith)
drop-of_front (suc n) [] ys e = absurd (omega arith)
drop-of_front (suc n) (x ∷ xs) ys e = drop-of_front n xs ys (omega arith)

-- the items kept after others were cut off the end, reversed
split : {T : Type 0} (kept : ℕ) (xs : List T) → reverse (drop kept xs) ++ reverse (take kept xs) ≡ reverse xs
split kept xs = sym (reverse-append (take kept xs) (drop kept xs)) ∙ ap (λ ys. reverse ys) (take-append-drop kept xs)

length-cut : {T : Type 0} (count : ℕ) (xs : List T) → length xs ≤ count → take count xs ≡ xs
length-cut zero [] h = refl
length-cut zero (x ∷ xs) h = absurd (omega arith)
length-cut (suc n) [] h = refl
length-cut (suc n) (x ∷ xs) h = ap (λ ys. x ∷ ys) (length-cut n xs (omega arith))

drop-past : {T : Type 0} (count : ℕ) (xs : List T) → length xs ≤ count → drop count xs ≡ []
drop-past zero [] h = refl
drop-past zero (x ∷ xs) h = absurd (omega arith)
drop-past (suc n) [] h = refl
drop-past (suc n) (x ∷ xs) h = drop-past n xs (omega arith)

-- so many items off the end are so many off the front of the reversed list
pub front_reversed : {T : Type 0} (count : ℕ) (xs : List T) → reverse (drop (length xs - count) xs) ≡ take count (reverse xs)
front_reversed count xs = by_length (length xs - count) refl
  where
    by_length : (kept : ℕ) → kept ≡ length xs - count → reverse (drop kept xs) ≡ take count (reverse xs)
    by_length zero e = sym (length-cut count (reverse xs) (omega (arith, length-reverse xs)))
    by_length (suc n) e =
        let fits : length (reverse (drop (suc n) xs)) ≡ count = length-reverse (drop (suc n) xs) ∙ length-drop (suc n) xs ∙ omega arith in
        sym (take-of_front count (reverse (drop (suc n) xs)) (reverse (take (suc n) xs)) fits) ∙ ap (λ ys. take count ys) (split (suc n) xs)

pub rest_reversed : {T : Type 0} (count : ℕ) (xs : List T) → reverse (take (length xs - count) xs) ≡ drop count (reverse xs)
rest_reversed count xs = by_length (length xs - count) refl
  where
    by_length : (kept : ℕ) → kept ≡ length xs - count → reverse (take kept xs) ≡ drop count (reverse xs)
    by_length zero e = sym (drop-past count (reverse xs) (omega (arith, length-reverse xs)))
    by_length (suc n) e =
        let fits : length (reverse (drop (suc n) xs)) ≡ count = length-reverse (drop (suc n) xs) ∙ length-drop (suc n) xs ∙ omega arith in
        sym (drop-of_front count (reverse (drop (suc n) xs)) (reverse (take (suc n) xs)) fits) ∙ ap (λ ys. drop count ys) (split (suc n) xs)

at_most : (m n : ℕ) → nat_le m n ≡ true → min m n ≡ m
at_most m n e = grind (arith, nat_tests)

above-min : (m n : ℕ) → nat_le m n ≡ false → n ≤ min m n
above-min m n e = grind (arith, nat_tests)

above : (m n : ℕ) → nat_le m n ≡ false → n ≤ m
above m n e = grind (arith, nat_tests)

-- no more are left out than there are
drop-min : {T : Type 0} (count : ℕ) (xs : List T) → drop (min count (length xs)) xs ≡ drop count xs
drop-min count xs = by_test (nat_le count (length xs)) refl
  where
    by_test : (t : Bool) → nat_le count (length xs) ≡ t → drop (min count (length xs)) xs ≡ drop count xs
    by_test true e = ap (λ k. drop k xs) (at_most count (length xs) e)
    by_test false e = drop-past (min count (length xs)) xs (above-min count (length xs) e) ∙ sym (drop-past count xs (above count (length xs) e))

pub drop_min : {T : Type 0} (at count : ℕ) (xs : List T) → drop (at + min count (length xs - at)) xs ≡ drop count (drop at xs)
drop_min at count xs =
    sym (drop-drop (min count (length xs - at)) at xs) ∙ ap (λ n. drop (min count n) (drop at xs)) (sym (length-drop at xs)) ∙ drop-min count (drop at xs)
