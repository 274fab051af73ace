-- What is scanned at a place, and that the text goes on whole behind it.
use Rattle.std.specs.List.{prefix_len}
use Rattle.std.specs.Str.{IsUtf8}
use Rattle.std.proofs.Common.{◌≡◌, ◌≢◌, ℕ, ◌+◌, ◌<◌, true, false, ◌&&◌, ◌==◌, List, ◌∷◌, length, get_or, take, drop, refl, ap, arith, sym, ◌∙◌, ⊎_elim}
use Rattle.std.proofs.lemmas.Bool.{cases_lt, false≢true}
use Rattle.std.proofs.lemmas.Bool.Decides.{nat_tests}
use Rattle.std.proofs.lemmas.List.{get_or-drop, get_or_past}
use Rattle.lisp_reader.specs.Parts.{Between, Opens, Closes, Quotes, Token', begins_with_quote, parts_from, is_token_letter}
use Rattle.lisp_reader.specs.Parts.{is_separator}
use Rattle.lisp_reader.specs.inside.Scanning.{GoesOn, is_on_line}
use Rattle.lisp_reader.proofs.Blanks.{by_first_byte, close_at, comment_at, line_length, line_within, open_at, quote_at, separator_at, sharp_at}
use Rattle.lisp_reader.proofs.Cut.{cut_behind_ascii, cut_behind_line, cut_behind_token, wide_letter}
use Rattle.lisp_reader.proofs.Parted.{token_at, token_length, token_within}

-- a text goes on behind a byte of ASCII
one_more : (text : List ℕ) (at : ℕ) → at < length text → get_or text at 0 < 128 → IsUtf8 (drop at text) → GoesOn text at (at + 1)
one_more text at inside small whole =
    record { further = omega arith; inside = omega arith; whole = cut_behind_ascii text at inside small whole }

-- a separator is in ASCII
separator_small : (b : ℕ) → is_separator b ≡ true → b < 128
separator_small b h =
    ⊎_elim (λ small. small)
    (λ large. let other : is_token_letter b ≡ false = rw h refl in absurd (false≢true (sym other ∙ wide_letter b large)))
    (cases_lt b 128)

-- a separator is scanned
pub separator_scanned : (text : List ℕ) (at : ℕ) → at < length text → IsUtf8 (drop at text) → is_separator (get_or text at 0) ≡ true
    → GoesOn text at (at + 1) × (parts_from Between at (drop at text) ≡ parts_from Between (at + 1) (drop (at + 1) text))
separator_scanned text at inside whole h = (one_more text at inside (separator_small _ h) whole, separator_at text at inside h)

-- an opening parenthesis
pub open_scanned : (text : List ℕ) (at : ℕ) → at < length text → IsUtf8 (drop at text) → get_or text at 0 ≡ 40
    → GoesOn text at (at + 1) × (parts_from Between at (drop at text) ≡ Opens at ∷ parts_from Between (at + 1) (drop (at + 1) text))
open_scanned text at inside whole h = (one_more text at inside (omega arith) whole, open_at text at inside h)

-- a closing one
pub close_scanned : (text : List ℕ) (at : ℕ) → at < length text → IsUtf8 (drop at text) → get_or text at 0 ≡ 41
    → GoesOn text at (at + 1) × (parts_from Between at (drop at text) ≡ Closes at ∷ parts_from Between (at + 1) (drop (at + 1) text))
close_scanned text at inside whole h = (one_more text at inside (omega arith) whole, close_at text at inside h)

-- a quote
pub quote_scanned : (text : List ℕ) (at : ℕ) → at < length text → IsUtf8 (drop at text) → get_or text at 0 ≡ 39
    → GoesOn text at (at + 1) × (parts_from Between at (drop at text) ≡ Quotes false at ∷ parts_from Between (at + 1) (drop (at + 1) text))
quote_scanned text at inside whole h = (one_more text at inside (omega arith) whole, quote_at text at inside h)

-- two tests that hold
both : (a b m n : ℕ) → ((a == m) && (b == n)) ≡ true → (a ≡ m) × (b ≡ n)
both a b m n h = (grind (arith, nat_tests), grind (arith, nat_tests))

-- no step from a place
by_zero : (text : List ℕ) (at : ℕ) → get_or text at 0 ≡ get_or text (at + 0) 0
by_zero text at =
    let same : at + 0 ≡ at = omega arith in
    rw same refl

-- a byte of the rest of a text
of_rest : (text bs : List ℕ) (at k : ℕ) → bs ≡ drop at text → get_or bs k 0 ≡ get_or text (at + k) 0
of_rest text bs at k rest = rw rest (get_or-drop at text k 0)

-- a byte that is not 0 is within the text
within : (text : List ℕ) (at b : ℕ) → get_or text at 0 ≡ b → 0 < b → at < length text
within text at b h some =
    ⊎_elim (λ inside. inside) (λ past. let none = get_or_past text at 0 past in omega arith) (cases_lt at (length text))

-- a quote of a function
pub sharp_scanned : (text bs : List ℕ) (at : ℕ) → at < length text → IsUtf8 (drop at text) → ((get_or bs 0 0 == 35) && (get_or bs 1 0 == 39)) ≡ true → bs ≡ drop at text
    → GoesOn text at (at + 2) × (parts_from Between at (drop at text) ≡ Quotes true at ∷ parts_from Between (at + 2) (drop (at + 2) text))
sharp_scanned text bs at here whole h rest =
    let sharp : get_or text at 0 ≡ 35 = by_zero text at ∙ sym (of_rest text bs at 0 rest) ∙ (both (get_or bs 0 0) (get_or bs 1 0) 35 39 h).0 in
    let quote : get_or text (at + 1) 0 ≡ 39 = sym (of_rest text bs at 1 rest) ∙ (both (get_or bs 0 0) (get_or bs 1 0) 35 39 h).1 in
    let inside : at + 1 < length text = within text (at + 1) 39 quote (omega arith) in
    let two : at + 2 ≡ at + 1 + 1 = omega arith in
    let next = cut_behind_ascii text at here (omega arith) whole in (
      record { further = omega arith; inside = omega arith; whole = rw two (cut_behind_ascii text (at + 1) inside (omega arith) next) },
      sharp_at text at inside sharp quote,
    )

-- a comment
pub comment_scanned : (text bs : List ℕ) (at n : ℕ) → at < length text → IsUtf8 (drop at text) → get_or text at 0 ≡ 59
    → n ≡ prefix_len is_on_line bs → bs ≡ drop at text
    → GoesOn text at (at + n) × (parts_from Between at (drop at text) ≡ parts_from Between (at + n) (drop (at + n) text))
comment_scanned text bs at n inside whole h len rest =
    let is = len ∙ ap (prefix_len is_on_line) rest in (
      record {
        further = omega (arith, is, line_length text at inside h);
        inside = omega (arith, is, line_within text at (omega arith));
        whole = cut_behind_line text at n whole is;
      },
      comment_at text at n inside h is,
    )

-- a token
pub token_scanned : (text bs : List ℕ) (at n : ℕ) → at < length text → IsUtf8 (drop at text) → is_token_letter (get_or text at 0) ≡ true
    → ((get_or bs 0 0 == 35) && (get_or bs 1 0 == 39)) ≡ false → n ≡ prefix_len is_token_letter bs → bs ≡ drop at text
    → GoesOn text at (at + n) × (parts_from Between at (drop at text) ≡ Token' at (take n (drop at text)) ∷ parts_from Between (at + n) (drop (at + n) text))
token_scanned text bs at n inside whole h no_quote len rest =
    let is = len ∙ ap (prefix_len is_token_letter) rest in
    let no_sharp : ((get_or text at 0 == 35) && begins_with_quote (drop (at + 1) text)) ≡ false =
    rw (by_first_byte, get_or-drop (at + 1) text 0 0, ← by_zero text (at + 1), by_zero text at, ← of_rest text bs at 0 rest, ← of_rest text bs at 1 rest) no_quote in (
      record {
        further = omega (arith, is, token_length text at inside h);
        inside = omega (arith, is, token_within text at (omega arith));
        whole = cut_behind_token text at n whole is;
      },
      token_at text at n inside h no_sharp is,
    )

-- a byte that passes no test is a letter
pub letter_test : (b : ℕ) → is_separator b ≡ false → b ≢ 59 → b ≢ 34 → b ≢ 40 → b ≢ 41 → b ≢ 39 → is_token_letter b ≡ true
letter_test b h semi text open' close quote =
    let no_semi : (b == 59) ≡ false = grind (arith, nat_tests) in
    let no_text : (b == 34) ≡ false = grind (arith, nat_tests) in
    let no_open : (b == 40) ≡ false = grind (arith, nat_tests) in
    let no_close : (b == 41) ≡ false = grind (arith, nat_tests) in
    let no_quote : (b == 39) ≡ false = grind (arith, nat_tests) in
    rw (h, no_semi, no_text, no_open, no_close, no_quote) refl
