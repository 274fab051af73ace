-- How separators, comments, parentheses and quotes fall out of a text.
use Rattle.std.specs.List.{prefix_len}
use Rattle.std.proofs.Common.{◌≡◌, ℕ, suc, ◌+◌, ◌<◌, ◌≤◌, Bool, true, false, not, cond, ◌==◌, List, [], ◌∷◌, length, get_or, drop, refl, ap, arith, ◌∙◌, add-one, length-drop}
use Rattle.std.proofs.lemmas.Bool.Decides.{nat_tests}
use Rattle.std.proofs.lemmas.List.{drop_more, drop-drop}
use Rattle.std.proofs.lemmas.List.Sums.{prefix_len-le-length}
use Rattle.lisp_reader.specs.Parts.{Between, Comment, Opens, Closes, Quotes, begins_with_quote, parts_from}
use Rattle.lisp_reader.specs.Parts.{is_separator}
use Rattle.lisp_reader.specs.inside.Scanning.{is_on_line}

-- a comment by whether its next byte ends the line
comment_goes_on : (p b : ℕ) (bs : List ℕ) (v : Bool) → (b == 10) ≡ v
    → parts_from Comment (suc p) bs ≡ parts_from Between (suc p + prefix_len is_on_line bs) (drop (prefix_len is_on_line bs) bs)
    → cond v (parts_from Between (suc p) bs) (parts_from Comment (suc p) bs)
    ≡ parts_from Between (p + cond (not v) (1 + prefix_len is_on_line bs) 0) (drop (cond (not v) (1 + prefix_len is_on_line bs) 0) (b ∷ bs))
comment_goes_on p b bs true newline later =
    let same : b ≡ 10 = grind (arith, nat_tests) in
    let next : p + 0 ≡ p = omega arith in
    rw (next, same) refl
comment_goes_on p b bs false other later =
    let one : 1 + prefix_len is_on_line bs ≡ suc (prefix_len is_on_line bs) = omega arith in
    let next : p + suc (prefix_len is_on_line bs) ≡ suc p + prefix_len is_on_line bs = omega arith in
    rw (one, next) later

-- a comment goes to the end of its line
pub comment_in_front : (p : ℕ) (bs : List ℕ)
    → parts_from Comment p bs ≡ parts_from Between (p + prefix_len is_on_line bs) (drop (prefix_len is_on_line bs) bs)
comment_in_front p [] = refl
comment_in_front p (b ∷ bs) = comment_goes_on p b bs (b == 10) refl (comment_in_front (suc p) bs)

-- a comment begins with its first byte
comment_begins : (p : ℕ) (bs cs : List ℕ) → bs ≡ 59 ∷ cs → parts_from Between p bs ≡ parts_from Between (p + prefix_len is_on_line bs) (drop (prefix_len is_on_line bs) bs)
comment_begins p bs cs h =
    let one : 1 + prefix_len is_on_line cs ≡ suc (prefix_len is_on_line cs) = omega arith in
    let next : p + suc (prefix_len is_on_line cs) ≡ suc p + prefix_len is_on_line cs = omega arith in
    rw (h, one, next) (comment_in_front (suc p) cs)

-- what a text is from a place on: a separator there
pub separator_at : (text : List ℕ) (at : ℕ) → at < length text → is_separator (get_or text at 0) ≡ true
    → parts_from Between at (drop at text) ≡ parts_from Between (at + 1) (drop (at + 1) text)
separator_at text at inside h = rw (drop_more text at 0 inside, h, add-one at) refl

-- a comment there, which begins with a byte that does not end its line
pub comment_at : (text : List ℕ) (at n : ℕ) → at < length text → get_or text at 0 ≡ 59 → n ≡ prefix_len is_on_line (drop at text)
    → parts_from Between at (drop at text) ≡ parts_from Between (at + n) (drop (at + n) text)
comment_at text at n inside h is =
    rw (is, ← drop-drop) (comment_begins at (drop at text) (drop (at + 1) text) (drop_more text at 0 inside ∙ ap (λ b. b ∷ drop (at + 1) text) h))

-- an opening parenthesis there
pub open_at : (text : List ℕ) (at : ℕ) → at < length text → get_or text at 0 ≡ 40
    → parts_from Between at (drop at text) ≡ Opens at ∷ parts_from Between (at + 1) (drop (at + 1) text)
open_at text at inside h = rw (drop_more text at 0 inside, h, add-one at) refl

-- a closing one
pub close_at : (text : List ℕ) (at : ℕ) → at < length text → get_or text at 0 ≡ 41
    → parts_from Between at (drop at text) ≡ Closes at ∷ parts_from Between (at + 1) (drop (at + 1) text)
close_at text at inside h = rw (drop_more text at 0 inside, h, add-one at) refl

-- a quote
pub quote_at : (text : List ℕ) (at : ℕ) → at < length text → get_or text at 0 ≡ 39
    → parts_from Between at (drop at text) ≡ Quotes false at ∷ parts_from Between (at + 1) (drop (at + 1) text)
quote_at text at inside h = rw (drop_more text at 0 inside, h, add-one at) refl

-- a quote of a function
pub sharp_at : (text : List ℕ) (at : ℕ) → at + 1 < length text → get_or text at 0 ≡ 35 → get_or text (at + 1) 0 ≡ 39
    → parts_from Between at (drop at text) ≡ Quotes true at ∷ parts_from Between (at + 2) (drop (at + 2) text)
sharp_at text at inside h quote =
    let here : at < length text = omega arith in
    let two : at + 2 ≡ suc (suc at) = omega arith in
    let next : at + 1 + 1 ≡ suc (suc at) = omega arith in
    rw (drop_more text at 0 here, h, drop_more text (at + 1) 0 inside, quote, two, next) refl

-- whether a text begins with a quote, by its first byte
pub by_first_byte : (bs : List ℕ) → begins_with_quote bs ≡ (get_or bs 0 0 == 39)
by_first_byte [] = refl
by_first_byte (b ∷ bs) = refl

-- a line ends within the text
pub line_within : (text : List ℕ) (at : ℕ) → at ≤ length text → at + prefix_len is_on_line (drop at text) ≤ length text
line_within text at inside = omega (arith, prefix_len-le-length is_on_line (drop at text), length-drop at text)

-- a comment has a byte
pub line_length : (text : List ℕ) (at : ℕ) → at < length text → get_or text at 0 ≡ 59 → 0 < prefix_len is_on_line (drop at text)
line_length text at inside h = rw (drop_more text at 0 inside, h) (omega arith)
