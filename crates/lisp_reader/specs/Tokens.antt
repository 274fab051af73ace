-- The laws of tokens: they are the longest runs of bytes that may belong to one.
use Rattle.std.specs.Prelude.{◌≡◌, ◌⊎◌, ◌<◌, ℕ, List, [], ◌∷◌, ◌++◌, Bool, true, false, not, ◌||◌, ◌==◌, length, reverse}
use Rattle.lisp_base.specs.Bytes.{number_sign, quotation_mark, semicolon}
use Rattle.std.specs.List.{Contains, list_all}
use Rattle.lisp_reader.specs.Parts.{Token', begins_with_quote, parts_of, is_token_letter}

-- the first of these bytes may belong to a token
abbrev pub begins_with_letter : List ℕ → Bool
begins_with_letter [] = false
begins_with_letter (b ∷ bs) = is_token_letter b

-- These letters stand at this place of a text. There is at least one, and each may belong to a token. The byte directly before
-- them and the byte directly after them, where there are such, may not.
pub record IsLongestRun (text : List ℕ) (place : ℕ) (letters : List ℕ) : Type 0 where
  pub before : List ℕ
  pub after : List ℕ
  pub stands : text ≡ before ++ letters ++ after
  pub at : length before ≡ place
  pub some : 0 < length letters
  pub all : list_all is_token_letter letters ≡ true
  pub none_before : begins_with_letter (reverse before) ≡ false
  pub none_after : begins_with_letter after ≡ false

-- each token of a text is such a run
abbrev pub TokensAreRuns : Type 0
TokensAreRuns = (text : List ℕ) (place : ℕ) (letters : List ℕ) → Contains (parts_of text) (Token' place letters) → IsLongestRun text place letters

-- a byte that begins neither a comment nor a string literal
abbrev pub is_plain : ℕ → Bool
is_plain b = not ((b == semicolon) || (b == quotation_mark))

-- in a text without such bytes each such run is a token, or it is the `#` of a `#'`
abbrev pub RunsAreTokens : Type 0
RunsAreTokens =
    (text : List ℕ) (place : ℕ) (letters : List ℕ) → list_all is_plain text ≡ true → (run : IsLongestRun text place letters)
    → Contains (parts_of text) (Token' place letters) ⊎ ((letters ≡ number_sign ∷ []) × (begins_with_quote run.after ≡ true))
