-- How a text falls into parts: parentheses, quotes, string literals and tokens.
use Rattle.std.specs.Prelude.{ℕ, suc, List, [], ◌∷◌, ◌++◌, Bool, true, false, ◌&&◌, ◌||◌, ◌==◌, if◌then◌else◌, not}
use Rattle.lisp_base.specs.Bytes.{apostrophe, backslash, carriage_return, form_feed, left_parenthesis, newline, number_sign, quotation_mark, right_parenthesis, semicolon, space, tab}

-- space, tab, newline, carriage return and form feed separate
abbrev pub is_separator : ℕ → Bool
is_separator b = (b == space) || (b == tab) || (b == newline) || (b == carriage_return) || (b == form_feed)

-- a byte that may belong to a token
abbrev pub is_token_letter : ℕ → Bool
is_token_letter b = not (is_separator b || (b == semicolon) || (b == quotation_mark) || (b == left_parenthesis) || (b == right_parenthesis) || (b == apostrophe))

-- A part, with the place of its first byte. A literal has its characters, without the `\` before one; an open literal has no end.
pub data Part : Type 0 where
  Opens : (place : ℕ) → Part
  Closes : (place : ℕ) → Part
  -- `'`, or `#'`
  Quotes : (function : Bool) (place : ℕ) → Part
  Literal : (place : ℕ) (characters : List ℕ) → Part
  OpenLiteral : (place : ℕ) → Part
  Token' : (place : ℕ) (letters : List ℕ) → Part

-- Where a text goes on: between parts, within a token, directly after the `#` of a `#'`, in a comment, in a literal that began at
-- a place and has these characters so far, or in such a literal after a `\`.
pub data Where' : Type 0 where
  Between : Where'
  Within : Where'
  Sharp : Where'
  Comment : Where'
  Inside : (start : ℕ) (so_far : List ℕ) → Where'
  Escaped : (start : ℕ) (so_far : List ℕ) → Where'

-- the first byte is `'`
abbrev pub begins_with_quote : List ℕ → Bool
begins_with_quote [] = false
begins_with_quote (b ∷ bs) = b == apostrophe

-- one more letter before a token that begins directly after it, or else as a token of its own
abbrev pub with_token_letter : ℕ → ℕ → List Part → List Part
with_token_letter p b [] = Token' p (b ∷ []) ∷ []
with_token_letter p b (Token' q bs ∷ ps) =
    if q == suc p then Token' p (b ∷ bs) ∷ ps else Token' p (b ∷ []) ∷ (Token' q bs ∷ ps)
with_token_letter p b (other ∷ ps) = Token' p (b ∷ []) ∷ (other ∷ ps)

-- the parts of a text that goes on so, whose first byte is at place p
abbrev pub parts_from : Where' → ℕ → List ℕ → List Part
parts_from (Inside start so_far) p [] = OpenLiteral start ∷ []
parts_from (Escaped start so_far) p [] = OpenLiteral start ∷ []
parts_from _ p [] = []
-- a comment goes to the end of its line
parts_from Comment p (b ∷ bs) = if b == newline then parts_from Between (suc p) bs else parts_from Comment (suc p) bs
-- a literal goes to the next `"`; a `\` takes the next character as it is
parts_from (Inside start so_far) p (b ∷ bs) =
    if b == quotation_mark then Literal start so_far ∷ parts_from Between (suc p) bs
    else if b == backslash then parts_from (Escaped start so_far) (suc p) bs
    else parts_from (Inside start (so_far ++ b ∷ [])) (suc p) bs
parts_from (Escaped start so_far) p (b ∷ bs) = parts_from (Inside start (so_far ++ b ∷ [])) (suc p) bs
parts_from Sharp p (b ∷ bs) = parts_from Between (suc p) bs
-- elsewhere each byte is a separator, begins a comment, a literal, a list or a quote, ends a list, or belongs to a token; a `#`
-- before `'` begins a quote where no token goes on
parts_from Between p (b ∷ bs) =
    if is_separator b then parts_from Between (suc p) bs
    else if b == semicolon then parts_from Comment (suc p) bs
    else if b == quotation_mark then parts_from (Inside p []) (suc p) bs
    else if b == left_parenthesis then Opens p ∷ parts_from Between (suc p) bs
    else if b == right_parenthesis then Closes p ∷ parts_from Between (suc p) bs
    else if b == apostrophe then Quotes false p ∷ parts_from Between (suc p) bs
    else if (b == number_sign) && begins_with_quote bs then Quotes true p ∷ parts_from Sharp (suc p) bs
    else with_token_letter p b (parts_from Within (suc p) bs)
parts_from Within p (b ∷ bs) =
    if is_separator b then parts_from Between (suc p) bs
    else if b == semicolon then parts_from Comment (suc p) bs
    else if b == quotation_mark then parts_from (Inside p []) (suc p) bs
    else if b == left_parenthesis then Opens p ∷ parts_from Between (suc p) bs
    else if b == right_parenthesis then Closes p ∷ parts_from Between (suc p) bs
    else if b == apostrophe then Quotes false p ∷ parts_from Between (suc p) bs
    else with_token_letter p b (parts_from Within (suc p) bs)

-- the parts of a text
abbrev pub parts_of : List ℕ → List Part
parts_of bytes = parts_from Between 0 bytes
