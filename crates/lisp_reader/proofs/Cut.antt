-- Where a text may be cut: at a byte that is no token letter or ends a line, and right behind a byte of ASCII.
use Rattle.lisp_reader.specs.Parts.{is_token_letter}
use Rattle.std.specs.List.{prefix_len}
use Rattle.std.specs.Str.{IsUtf8}
use Rattle.std.proofs.Common.{◌≡◌, ℕ, ◌+◌, ◌<◌, ◌≤◌, Bool, true, false, ◌==◌, List, ◌∷◌, ◌++◌, length, get_or, drop, refl, ap, subst, arith, sym, ◌∙◌, length-append, length-drop, ⊎_elim}
use Rattle.std.proofs.lemmas.Bool.{cases_lt}
use Rattle.std.proofs.lemmas.Bool.Decides.{nat_tests}
use Rattle.std.proofs.lemmas.List.{drop_all, drop_at, drop-drop, get_or-drop, get_or_at, take_at}
use Rattle.std.proofs.lemmas.List.Sums.{prefix_len_stops}
use Rattle.std.proofs.lemmas.Str.{IsUtf8-append, IsUtf8-drop, IsUtf8-nil, IsUtf8-take, IsCharBoundary-after_ascii, IsCharBoundary-before_ascii}
use Rattle.lisp_reader.specs.inside.Scanning.{is_on_line}

-- a byte past ASCII is none of ASCII
differs : (b k : ℕ) → 128 ≤ b → k < 128 → (b == k) ≡ false
differs b k h small = grind (arith, nat_tests)

-- so it is a letter
pub wide_letter : (b : ℕ) → 128 ≤ b → is_token_letter b ≡ true
wide_letter b h =
    rw (
      differs b 32 h (omega arith),
      differs b 9 h (omega arith),
      differs b 10 h (omega arith),
      differs b 13 h (omega arith),
      differs b 12 h (omega arith),
      differs b 59 h (omega arith),
      differs b 34 h (omega arith),
      differs b 40 h (omega arith),
      differs b 41 h (omega arith),
      differs b 39 h (omega arith),
    ) refl

-- and within a line
wide_on_line : (b : ℕ) → 128 ≤ b → is_on_line b ≡ true
wide_on_line b h = rw (differs b 10 h (omega arith)) refl

-- a text may be cut where the longest front of it ends whose bytes pass a test that all bytes past ASCII pass
cut_behind : (test : ℕ → Bool) (wide : (b : ℕ) → 128 ≤ b → test b ≡ true) (bs : List ℕ) → IsUtf8 bs → IsUtf8 (drop (prefix_len test bs) bs)
cut_behind test wide bs whole =
    ⊎_elim
    (λ inside. IsUtf8-drop bs (prefix_len test bs) whole
    (IsCharBoundary-before_ascii bs (prefix_len test bs) inside
    (⊎_elim (λ small. small)
    (λ large. let passes = wide _ large in let stops = prefix_len_stops test bs 0 inside in cc)
    (cases_lt (get_or bs (prefix_len test bs) 0) 128))))
    (λ end. rw (drop_all (prefix_len test bs) bs end) IsUtf8-nil)
    (cases_lt (prefix_len test bs) (length bs))

-- behind a token
pub cut_behind_token : (text : List ℕ) (at n : ℕ) → IsUtf8 (drop at text) → n ≡ prefix_len is_token_letter (drop at text) → IsUtf8 (drop (at + n) text)
cut_behind_token text at n whole is = rw (is, ← drop-drop) (cut_behind is_token_letter wide_letter (drop at text) whole)

-- behind a line
pub cut_behind_line : (text : List ℕ) (at n : ℕ) → IsUtf8 (drop at text) → n ≡ prefix_len is_on_line (drop at text) → IsUtf8 (drop (at + n) text)
cut_behind_line text at n whole is = rw (is, ← drop-drop) (cut_behind is_on_line wide_on_line (drop at text) whole)

-- behind a byte of ASCII
pub cut_behind_ascii : (text : List ℕ) (at : ℕ) → at < length text → get_or text at 0 < 128 → IsUtf8 (drop at text) → IsUtf8 (drop (at + 1) text)
cut_behind_ascii text at inside small whole =
    let long = length-drop at text in
    let same : at + 0 ≡ at = omega arith in
    let first : get_or (drop at text) 0 0 < 128 = rw (get_or-drop at text 0 0, same) small in
    rw (← drop-drop) (IsUtf8-drop (drop at text) (0 + 1) whole (IsCharBoundary-after_ascii (drop at text) 0 whole (omega arith) first))

-- a text with a byte of ASCII inside is whole before it
pub before_ascii : (xs ys : List ℕ) (c : ℕ) → c < 128 → IsUtf8 (xs ++ c ∷ ys) → IsUtf8 xs
before_ascii xs ys c small whole =
    let long = length-append xs (c ∷ ys) in
    let first : get_or (xs ++ c ∷ ys) (length xs) 0 < 128 = rw (get_or_at xs c ys 0 (length xs) refl) small in
    subst IsUtf8 (take_at xs (c ∷ ys) (length xs) refl)
    (IsUtf8-take (xs ++ c ∷ ys) (length xs) whole (IsCharBoundary-before_ascii (xs ++ c ∷ ys) (length xs) (omega arith) first))

-- and behind it
pub behind_ascii : (xs ys : List ℕ) (c : ℕ) → c < 128 → IsUtf8 (xs ++ c ∷ ys) → IsUtf8 ys
behind_ascii xs ys c small whole =
    let long = length-append xs (c ∷ ys) in
    let first : get_or (xs ++ c ∷ ys) (length xs) 0 < 128 = rw (get_or_at xs c ys 0 (length xs) refl) small in
    subst IsUtf8 (sym (drop-drop 1 (length xs) (xs ++ c ∷ ys)) ∙ ap (drop 1) (drop_at xs (c ∷ ys) (length xs) refl))
    (IsUtf8-drop (xs ++ c ∷ ys) (length xs + 1) whole (IsCharBoundary-after_ascii (xs ++ c ∷ ys) (length xs) whole (omega arith) first))

-- it stays whole without the byte
pub without_ascii : (xs ys : List ℕ) (c : ℕ) → c < 128 → IsUtf8 (xs ++ c ∷ ys) → IsUtf8 (xs ++ ys)
without_ascii xs ys c small whole = IsUtf8-append xs ys (before_ascii xs ys c small whole) (behind_ascii xs ys c small whole)
