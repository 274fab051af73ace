-- The bindings in force as contracts see them: a list with the innermost first.
use Rattle.std.specs.Prelude.{ℕ, ◌==◌, List, [], ◌∷◌, length, Option, Some, None, if◌then◌else◌, nat_lt}

-- a binding of a symbol, which has this number, and the word that it holds
pub record Bound : Type 0 where
  pub symbol : ℕ
  pub word : ℕ

-- the word of the innermost binding of a symbol, where it is bound
abbrev pub word_of : ℕ → List Bound → Option ℕ
word_of symbol [] = None
word_of symbol (b ∷ bs) = if b.symbol == symbol then Some b.word else word_of symbol bs

-- a binding inside the others
abbrev pub with_binding : ℕ → ℕ → List Bound → List Bound
with_binding symbol word bs = record { symbol = symbol; word = word } ∷ bs

-- the bindings after a write to the innermost one of a symbol
abbrev pub with_word : ℕ → ℕ → List Bound → List Bound
with_word symbol word [] = []
with_word symbol word (b ∷ bs) = if b.symbol == symbol then record b { word = word } ∷ bs else b ∷ with_word symbol word bs

-- the outermost bindings, so many of them
abbrev pub kept : ℕ → List Bound → List Bound
kept height [] = []
kept height (b ∷ bs) = if nat_lt (length bs) height then b ∷ bs else kept height bs
