-- Sizes that are counted up to one that no integer has, and what times of digits come to.
use Rattle.std.specs.Char.{is_ascii_digit, digit_value}
use Rattle.std.specs.List.{list_all, prefix_len}
use Rattle.std.specs.Str.Parse.{digits_value, AllDigits}
use Rattle.std.proofs.Common.{◌≡◌, ℕ, suc, ◌+◌, ◌-◌, ◌*◌, ◌^◌, ◌<◌, ◌≤◌, min, Bool, true, List, [], ◌∷◌, length, get_or, take, arith, refl, sym, ap, ◌∙◌, inl, inr}
use Rattle.std.proofs.Math.Nat.{one-le-pow, mul-le-mul_left}
use Rattle.std.proofs.lemmas.Bool.{false≢true, true_from_ne_false, and_parts, cases_Bool}
use Rattle.std.proofs.lemmas.Bool.Decides.{nat_tests}
use Rattle.std.proofs.lemmas.Int.Digits.{digits_value_more, digits_value-lt}
use Rattle.std.proofs.lemmas.List.Folds.{list_all_at}
use Rattle.std.proofs.lemmas.Nat.{pow-add}
use Rattle.lisp_reader.specs.Meanings.{behind_dot, digits_before, is_time, micros_in}
use Rattle.lisp_reader.specs.declared.meaning.TheConstants.{TOO_LARGE}

-- an element of a list whose elements are all digits
pub digit_at : (letters : List ℕ) (i : ℕ) → i < length letters → list_all is_ascii_digit letters ≡ true → is_ascii_digit (get_or letters i 0) ≡ true
digit_at letters i inside digits =
    true_from_ne_false _ (λ no. false≢true (sym (list_all_at is_ascii_digit letters i 0 inside no) ∙ digits))

-- one more digit, counted so far and no further
pub counted_on : (value digit : ℕ) → digit < 10
    → min (min (min (min TOO_LARGE value * 10) (2 ^ 64 - 1) + digit) (2 ^ 64 - 1)) TOO_LARGE ≡ min TOO_LARGE (value * 10 + digit)
counted_on value digit below = omega arith

-- one more digit of a number
pub size_more : (letters : List ℕ) (i size times sum : ℕ) → i < length letters → list_all is_ascii_digit letters ≡ true
    → size ≡ min TOO_LARGE (digits_value 10 (take i letters)) → times ≡ min (size * 10) (2 ^ 64 - 1)
    → sum ≡ min (times + (get_or letters i 0 - 48)) (2 ^ 64 - 1) → min sum TOO_LARGE ≡ min TOO_LARGE (digits_value 10 (take (i + 1) letters))
size_more letters i size times sum inside digits before more last =
    let digit : is_ascii_digit (get_or letters i 0) ≡ true = digit_at letters i inside digits in
    let worth : digit_value (get_or letters i 0) ≡ get_or letters i 0 - 48 = grind (arith, nat_tests) in
    let below : get_or letters i 0 - 48 < 10 = grind (arith, nat_tests) in
    rw (last, more, before, digits_value_more 10 letters i inside, worth) (counted_on (digits_value 10 (take i letters)) (get_or letters i 0 - 48) below)

-- the longest front that passes does pass
pub front_passes : (test : ℕ → Bool) (xs : List ℕ) → list_all test (take (prefix_len test xs) xs) ≡ true
front_passes test [] = refl
front_passes test (x ∷ xs) =
    let more : 1 + prefix_len test xs ≡ suc (prefix_len test xs) = omega arith in
    elim (cases_Bool (test x)) [ inl passes ↦ rw (passes, more, passes, front_passes test xs) refl | inr fails ↦ rw fails refl ]

-- a list of digits, by its parts
pub all_digits : (digits : List ℕ) → list_all is_ascii_digit digits ≡ true → AllDigits 10 digits
all_digits [] h = tt
all_digits (d ∷ ds) h =
    let parts : (is_ascii_digit d ≡ true) × (list_all is_ascii_digit ds ≡ true) = and_parts _ _ h in
    let first : is_ascii_digit d ≡ true = parts.0 in
    (grind (arith, nat_tests), all_digits ds parts.1)

-- up to six digits behind the dot are less than a second
pub less_than_second : (digits : List ℕ) → list_all is_ascii_digit digits ≡ true → length digits ≤ 6
    → digits_value 10 digits * 10 ^ (6 - length digits) < 1000000
less_than_second digits h few =
    let small : digits_value 10 digits < 10 ^ length digits = digits_value-lt 10 digits (all_digits digits h) in
    let more : (digits_value 10 digits + 1) * 10 ^ (6 - length digits) ≤ 10 ^ length digits * 10 ^ (6 - length digits) = grind arith in
    let parts : 10 ^ (length digits + (6 - length digits)) ≡ 10 ^ length digits * 10 ^ (6 - length digits) = pow-add 10 (length digits) (6 - length digits) in
    let whole : length digits + (6 - length digits) ≡ 6 = omega arith in
    let all : 10 ^ length digits * 10 ^ (6 - length digits) ≡ 1000000 = sym parts ∙ ap (λ n. 10 ^ n) whole in
    let some : 1 ≤ 10 ^ (6 - length digits) = one-le-pow (6 - length digits) 10 (omega arith) in
    omega arith

-- behind the dot of a time are one to six digits
pub decimals_are : (letters : List ℕ) → is_time letters ≡ true → (list_all is_ascii_digit (behind_dot letters) ≡ true) × (length (behind_dot letters) ≤ 6)
decimals_are letters h = grind (arith, nat_tests)

-- the decimals in microseconds, by what was counted of them
pub counted_decimals : (digits : List ℕ) (size scale : ℕ) → list_all is_ascii_digit digits ≡ true → length digits ≤ 6
    → size ≡ min TOO_LARGE (digits_value 10 digits) → scale ≡ 10 ^ (6 - length digits)
    → (size * scale ≡ digits_value 10 digits * 10 ^ (6 - length digits)) × (size * scale < 1000000)
counted_decimals digits size scale h few counted scaled =
    let less : digits_value 10 digits * 10 ^ (6 - length digits) < 1000000 = less_than_second digits h few in
    let some : 1 ≤ 10 ^ (6 - length digits) = one-le-pow (6 - length digits) 10 (omega arith) in
    let more : digits_value 10 digits * 1 ≤ digits_value 10 digits * 10 ^ (6 - length digits) = mul-le-mul_left (digits_value 10 digits) some in
    let same : size ≡ digits_value 10 digits = omega arith in
    rw (same, scaled) (refl, less)

-- the microseconds of a time, by what was counted of it
pub micros_are : (letters : List ℕ) (seconds size scale : ℕ) → is_time letters ≡ true
    → seconds ≡ min TOO_LARGE (digits_value 10 (take (digits_before letters) letters)) → seconds ≤ 4000000000
    → size ≡ min TOO_LARGE (digits_value 10 (behind_dot letters)) → scale ≡ 10 ^ (6 - length (behind_dot letters))
    → (seconds * 1000000 + size * scale ≡ micros_in letters) × (size * scale < 1000000)
micros_are letters seconds size scale h counted few decimals scaled =
    let is : (list_all is_ascii_digit (behind_dot letters) ≡ true) × (length (behind_dot letters) ≤ 6) = decimals_are letters h in
    let parts : (size * scale ≡ digits_value 10 (behind_dot letters) * 10 ^ (6 - length (behind_dot letters))) × (size * scale < 1000000) =
    counted_decimals (behind_dot letters) size scale is.0 is.1 decimals scaled
    in
    let whole : seconds ≡ digits_value 10 (take (digits_before letters) letters) = omega arith in
    (rw (parts.0, whole) refl, parts.1)
