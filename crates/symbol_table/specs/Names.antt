-- Names in the order of their numbers, each as its bytes.
use Rattle.std.specs.Prelude.{◌≡◌, ℕ, ◌<◌, ◌≤◌, List, [], ◌∷◌, ◌++◌, length, slice_get, codes, Contains, Some, Result, Ok, Err, ◌⊎◌}
use Rattle.symbol_table.specs.declared.error.InternError.{InternError}
use Rattle.symbol_table.specs.declared.error.InternError.TheVariants.{TooMany, Memory}
use Rattle.symbol_table.specs.declared.TheConstants.{NAMES}

-- the symbols that are there at first
abbrev pub first_symbols : List (List ℕ)
first_symbols = codes "NIL" ∷ codes "T" ∷ codes ":WARN" ∷ codes ":PUNT" ∷ codes ":FORCE" ∷ []

-- no name has two numbers
abbrev pub AreDifferent : List (List ℕ) → Type 0
AreDifferent names = (i j : ℕ) (name : List ℕ) → slice_get names i ≡ Some name → slice_get names j ≡ Some name → i ≡ j

-- what holds of the names of every table
pub record IsTable (names : List (List ℕ)) : Type 0 where
  pub few : length names ≤ NAMES
  pub different : AreDifferent names

-- a name was there, and keeps its number
pub record IsKnown (old new : List (List ℕ)) (name : List ℕ) (id : ℕ) : Type 0 where
  pub found : slice_get old id ≡ Some name
  pub same : new ≡ old

-- a name was not there, and comes after the others
pub record IsAdded (old new : List (List ℕ)) (name : List ℕ) (id : ℕ) : Type 0 where
  pub unknown : ¬ Contains old name
  pub next : id ≡ length old
  pub room : length old < NAMES
  pub added : new ≡ old ++ name ∷ []

-- a name was not there, and the table is full
pub record IsFull (old new : List (List ℕ)) (name : List ℕ) : Type 0 where
  pub unknown : ¬ Contains old name
  pub full : length old ≡ NAMES
  pub same : new ≡ old

-- a name was not there, and there is no memory for it
pub record IsShort (old new : List (List ℕ)) (name : List ℕ) : Type 0 where
  pub unknown : ¬ Contains old name
  pub room : length old < NAMES
  pub same : new ≡ old

-- what interning a name makes of the old names, by what it returns
abbrev pub Interns : List (List ℕ) → List (List ℕ) → List ℕ → Result ℕ InternError → Type 0
Interns old new name (Ok id) = IsKnown old new name id ⊎ IsAdded old new name id
Interns old new name (Err TooMany) = IsFull old new name
Interns old new name (Err Memory) = IsShort old new name
