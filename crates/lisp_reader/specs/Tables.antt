-- Names in the order of their first uses.
use Rattle.std.specs.Prelude.{ℕ, List, [], ◌∷◌, ◌++◌, Bool, ◌||◌, if◌then◌else◌, nat_lt, length}
use Rattle.std.specs.List.{list_any, position_or_len}
use Rattle.std.specs.Str.{bytes_eq}
use Rattle.symbol_table.specs.declared.TheConstants.{NAMES}

-- the number of a name: how many names come before it
abbrev pub number_in : List (List ℕ) → List ℕ → ℕ
number_in names name = position_or_len (bytes_eq name) names

-- the names with one that is used: a new one comes after the others
abbrev pub grown : List (List ℕ) → List ℕ → List (List ℕ)
grown names name = if list_any (bytes_eq name) names then names else names ++ name ∷ []

-- a name may be used where it is there, or where there is room for it
abbrev pub has_room : List (List ℕ) → List ℕ → Bool
has_room names name = list_any (bytes_eq name) names || nat_lt (length names) NAMES

-- the symbols and the literals so far
pub record Tables : Type 0 where
  pub symbols : List (List ℕ)
  pub literals : List (List ℕ)

-- the tables with these symbols and these literals
abbrev pub tables_of : List (List ℕ) → List (List ℕ) → Tables
tables_of symbols literals = record { symbols = symbols; literals = literals }
