-- The letters of names are in ASCII, and so they are in upper case.
use Rattle.std.specs.Char.{is_ascii}
use Rattle.std.specs.List.{list_all}
use Rattle.std.specs.Str.{bytes_eq}
use Rattle.std.specs.Str.Parse.{digits_value}
use Rattle.std.proofs.Common.{◌≡◌, ℕ, zero, suc, IsUtf8, IsAscii, neg_ℤ, ◌<◌, ◌^◌, Bool, true, false, IsTrue, ◌&&◌, ◌||◌, ◌==◌, nat_lt, nat_le, if◌then◌else◌, List, [], ◌∷◌, length, get_or, take, drop, codes, refl, ap, sym, subst, ◌∙◌, arith, pos}
use Rattle.std.proofs.lemmas.Bool.Decides.{nat_tests}
use Rattle.std.proofs.lemmas.Slice.Eq.{bytes_eq-Decides}
use Rattle.std.proofs.lemmas.Str.{IsUtf8-from_ascii}
use Rattle.lisp_reader.specs.declared.meaning.Meaning.{Meaning}
use Rattle.lisp_reader.specs.declared.meaning.Meaning.TheVariants.{Integer, Time, Symbol, Keyword, TooLarge, Bad}
use Rattle.lisp_reader.specs.Meanings.{are_digits, before_colon, begins_as_number, behind_colons, integer_of, is_name_letter, is_package, is_symbol_name, is_time, keyword_in, meaning_in, micros_in, named, symbol_at, time_of, unsigned, upper}

-- two tests that hold
both : (a b : Bool) → (a && b) ≡ true → (a ≡ true) × (b ≡ true)
both true b h = (refl, h)
both false b h = cc

-- a letter in ASCII is small
ascii_small : (b : ℕ) → is_ascii b ≡ true → b < 128
ascii_small b h = grind (arith, nat_tests)

-- so are all
all_small : (letters : List ℕ) → list_all is_ascii letters ≡ true → IsAscii letters
all_small [] h i = omega arith
all_small (b ∷ bs) h zero = ascii_small b (both (is_ascii b) (list_all is_ascii bs) h).0
all_small (b ∷ bs) h (suc i) = all_small bs (both (is_ascii b) (list_all is_ascii bs) h).1 i

-- letters in ASCII are UTF-8
pub ascii_utf8 : (letters : List ℕ) → IsTrue (list_all is_ascii letters) → IsUtf8 letters
ascii_utf8 letters h = IsUtf8-from_ascii letters (all_small letters h)

-- a letter of names is in ASCII
name_letter_small : (b : ℕ) → is_name_letter b ≡ true → is_ascii b ≡ true
name_letter_small b h = grind (arith, nat_tests)

-- letters of names are
names_small : (letters : List ℕ) → list_all is_name_letter letters ≡ true → list_all is_ascii letters ≡ true
names_small [] h = refl
names_small (b ∷ bs) h =
    let parts = both (is_name_letter b) (list_all is_name_letter bs) h in
    rw (name_letter_small b parts.0, names_small bs parts.1) refl

-- so is a name
name_small : (letters : List ℕ) → is_symbol_name letters ≡ true → list_all is_ascii letters ≡ true
name_small letters h = names_small letters (both (nat_lt 0 (length letters)) (list_all is_name_letter letters) h).1

-- the name that a meaning gives a token, if it does, is in ASCII
abbrev HasSmallName : List ℕ → Meaning → Type 0
HasSmallName letters (Integer z) = Unit {0}
HasSmallName letters (Time t) = Unit {0}
HasSmallName letters (Symbol start) = list_all is_ascii (drop start letters) ≡ true
HasSmallName letters Keyword = list_all is_ascii letters ≡ true
HasSmallName letters TooLarge = Unit {0}
HasSmallName letters Bad = Unit {0}

-- either of two meanings
either : (letters : List ℕ) (b : Bool) (x y : Meaning) → (b ≡ true → HasSmallName letters x) → (b ≡ false → HasSmallName letters y)
    → HasSmallName letters (if b then x else y)
either letters true x y f g = f refl
either letters false x y f g = g refl

-- an integer
small_integer : (letters : List ℕ) (below : Bool) (size : ℕ) → HasSmallName letters (integer_of below size)
small_integer letters below size =
    either letters below _ _ (λ _. either letters (nat_le size (2 ^ 62)) (Integer (neg_ℤ (pos size))) TooLarge (λ _. tt) (λ _. tt))
    (λ _. either letters (nat_lt size (2 ^ 62)) (Integer (pos size)) TooLarge (λ _. tt) (λ _. tt))

-- a time
small_time : (letters : List ℕ) (micros : ℕ) → HasSmallName letters (time_of micros)
small_time letters micros = either letters (nat_le micros 4000000000000000) (Time micros) TooLarge (λ _. tt) (λ _. tt)

-- a symbol whose name begins somewhere
small_symbol : (letters : List ℕ) (start : ℕ) → HasSmallName letters (symbol_at start letters)
small_symbol letters start =
    either letters (is_symbol_name (drop start letters)) (Symbol start) Bad (λ h. name_small (drop start letters) h) (λ _. tt)

-- a token with a name
small_named : (letters : List ℕ) → HasSmallName letters (named letters)
small_named letters =
    either letters (before_colon letters == length letters) (symbol_at 0 letters) _ (λ _. small_symbol letters 0)
    (λ _. either letters (is_package (upper (take (before_colon letters) letters))) (symbol_at (behind_colons letters) letters) Bad
    (λ _. small_symbol letters (behind_colons letters)) (λ _. tt))

-- a keyword
small_keyword : (letters : List ℕ) → get_or letters 0 0 ≡ 58 → HasSmallName letters (keyword_in letters)
small_keyword [] colon = absurd (omega arith)
small_keyword (b ∷ bs) colon =
    either (b ∷ bs) (is_symbol_name bs) Keyword Bad
    (λ h. let first : is_ascii b ≡ true = grind (arith, nat_tests) in rw (first, name_small bs h) refl) (λ _. tt)

-- the symbols `1+` and `1-`
small_one : (letters : List ℕ) → (bytes_eq letters (codes "1+") || bytes_eq letters (codes "1-")) ≡ true → list_all is_ascii letters ≡ true
small_one letters h = by (bytes_eq letters (codes "1+")) refl
  where
    by : (b : Bool) → bytes_eq letters (codes "1+") ≡ b → list_all is_ascii letters ≡ true
    by true e = rw ((bytes_eq-Decides letters (codes "1+")).0 e) refl
    by false e =
        let minus : bytes_eq letters (codes "1-") ≡ true = sym (ap (λ v. v || bytes_eq letters (codes "1-")) e) ∙ h in
        rw ((bytes_eq-Decides letters (codes "1-")).0 minus) refl

-- any token
small_name : (letters : List ℕ) → HasSmallName letters (meaning_in letters)
small_name letters =
    either letters (are_digits (unsigned letters)) _ _ (λ _. small_integer letters (get_or letters 0 0 == 45) (digits_value 10 (unsigned letters)))
    (λ _. either letters (is_time letters) _ _ (λ _. small_time letters (micros_in letters))
    (λ _. either letters (bytes_eq letters (codes "1+") || bytes_eq letters (codes "1-")) (Symbol 0) _ (λ h. small_one letters h)
    (λ _. either letters (begins_as_number letters) Bad _ (λ _. tt)
    (λ _. either letters (get_or letters 0 0 == 58) (keyword_in letters) (named letters)
    (λ h. let colon : get_or letters 0 0 ≡ 58 = grind (arith, nat_tests) in small_keyword letters colon) (λ _. small_named letters)))))

-- the letters of the name of a symbol
pub symbol_small : (letters : List ℕ) (start : ℕ) → meaning_in letters ≡ Symbol start → list_all is_ascii (drop start letters) ≡ true
symbol_small letters start is = subst (HasSmallName letters) is (small_name letters)

-- those of a keyword
pub keyword_small : (letters : List ℕ) → meaning_in letters ≡ Keyword → list_all is_ascii letters ≡ true
keyword_small letters is = subst (HasSmallName letters) is (small_name letters)
