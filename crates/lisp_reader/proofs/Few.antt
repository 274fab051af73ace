-- A text has no more parts than bytes.
use Rattle.std.proofs.Common.{ℕ, suc, ◌+◌, ◌≤◌, ◌==◌, ◌&&◌, Bool, true, false, if◌then◌else◌, List, [], ◌∷◌, ◌++◌, length, arith}
use Rattle.lisp_base.specs.Bytes.{apostrophe, backslash, left_parenthesis, newline, number_sign, quotation_mark, right_parenthesis, semicolon}
use Rattle.lisp_reader.specs.Parts.{Part, Opens, Closes, Quotes, Literal, OpenLiteral, Token', Where', Between, Within, Sharp, Comment, Inside, Escaped, begins_with_quote, is_separator, parts_from, with_token_letter}

-- how many parts have begun already
abbrev begun_parts : Where' → ℕ
begun_parts Between = 0
begun_parts Within = 0
begun_parts Sharp = 0
begun_parts Comment = 0
begun_parts (Inside start so_far) = 1
begun_parts (Escaped start so_far) = 1

-- both are short enough
either : (b : Bool) (x y : List Part) (n : ℕ) → length x ≤ n → length y ≤ n → length (if b then x else y) ≤ n
either true x y n h k = h
either false x y n h k = k

-- a letter makes at most one token more
letter_length : (p b : ℕ) (ps : List Part) → length (with_token_letter p b ps) ≤ suc (length ps)
letter_length p b [] = omega arith
letter_length p b (Token' q bs ∷ ps) = either (q == suc p) _ _ _ (omega arith) (omega arith)
letter_length p b (Opens q ∷ ps) = omega arith
letter_length p b (Closes q ∷ ps) = omega arith
letter_length p b (Quotes function q ∷ ps) = omega arith
letter_length p b (Literal q characters ∷ ps) = omega arith
letter_length p b (OpenLiteral q ∷ ps) = omega arith

-- no more parts come than there are bytes left, but for the one that has begun
pub parts_length : (w : Where') (p : ℕ) (bs : List ℕ) → length (parts_from w p bs) ≤ length bs + begun_parts w
parts_length Between p [] = omega arith
parts_length Within p [] = omega arith
parts_length Sharp p [] = omega arith
parts_length Comment p [] = omega arith
parts_length (Inside start so_far) p [] = omega arith
parts_length (Escaped start so_far) p [] = omega arith
parts_length Comment p (b ∷ bs) =
    either (b == newline) _ _ (suc (length bs) + 0) (omega (arith, parts_length Between (suc p) bs)) (omega (arith, parts_length Comment (suc p) bs))
parts_length (Inside start so_far) p (b ∷ bs) =
    either (b == quotation_mark) _ _ (suc (length bs) + 1) (omega (arith, parts_length Between (suc p) bs))
    (either (b == backslash) _ _ (suc (length bs) + 1) (omega (arith, parts_length (Escaped start so_far) (suc p) bs))
    (omega (arith, parts_length (Inside start (so_far ++ b ∷ [])) (suc p) bs)))
parts_length (Escaped start so_far) p (b ∷ bs) = omega (arith, parts_length (Inside start (so_far ++ b ∷ [])) (suc p) bs)
parts_length Sharp p (b ∷ bs) = omega (arith, parts_length Between (suc p) bs)
parts_length Between p (b ∷ bs) =
    let rest = parts_length Between (suc p) bs in
    either (is_separator b) _ _ (suc (length bs) + 0) (omega (arith, rest))
    (either (b == semicolon) _ _ (suc (length bs) + 0) (omega (arith, parts_length Comment (suc p) bs))
    (either (b == quotation_mark) _ _ (suc (length bs) + 0) (omega (arith, parts_length (Inside p []) (suc p) bs))
    (either (b == left_parenthesis) _ _ (suc (length bs) + 0) (omega (arith, rest))
    (either (b == right_parenthesis) _ _ (suc (length bs) + 0) (omega (arith, rest))
    (either (b == apostrophe) _ _ (suc (length bs) + 0) (omega (arith, rest))
    (either ((b == number_sign) && begins_with_quote bs) _ _ (suc (length bs) + 0) (omega (arith, parts_length Sharp (suc p) bs))
    (omega (arith, letter_length p b (parts_from Within (suc p) bs), parts_length Within (suc p) bs))))))))
parts_length Within p (b ∷ bs) =
    let rest = parts_length Between (suc p) bs in
    either (is_separator b) _ _ (suc (length bs) + 0) (omega (arith, rest))
    (either (b == semicolon) _ _ (suc (length bs) + 0) (omega (arith, parts_length Comment (suc p) bs))
    (either (b == quotation_mark) _ _ (suc (length bs) + 0) (omega (arith, parts_length (Inside p []) (suc p) bs))
    (either (b == left_parenthesis) _ _ (suc (length bs) + 0) (omega (arith, rest))
    (either (b == right_parenthesis) _ _ (suc (length bs) + 0) (omega (arith, rest))
    (either (b == apostrophe) _ _ (suc (length bs) + 0) (omega (arith, rest))
    (omega (arith, letter_length p b (parts_from Within (suc p) bs), parts_length Within (suc p) bs)))))))
