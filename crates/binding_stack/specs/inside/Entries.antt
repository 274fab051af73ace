-- How the code keeps the bindings: in order, the innermost last. No public clause says this.
use Rattle.std.specs.Prelude.{◌≡◌, ◌≢◌, ℕ, ◌<◌, ◌≤◌, suc, List, [], ◌∷◌, length, Option, Some, None, slice_index_or}
use Rattle.binding_stack.specs.declared.bindings.Entry.{Entry}
use Rattle.binding_stack.specs.Stack.{Bound, with_binding}

-- the bindings after those of the entries were made, the first entry first
abbrev pub stacked : List Bound → List Entry → List Bound
stacked bs [] = bs
stacked bs (e ∷ entries) = stacked (with_binding e.symbol e.word bs) entries

-- none of the entries from a place on is of the symbol
abbrev pub NoneFrom : ℕ → ℕ → List Entry → Type 0
NoneFrom symbol from entries = (k : ℕ) (d : Entry) → from ≤ k → k < length entries → (slice_index_or entries k d).symbol ≢ symbol

-- the place of the last entry of a symbol, if there is one
abbrev pub IsLast : ℕ → List Entry → Option ℕ → Type 0
IsLast symbol entries None = NoneFrom symbol 0 entries
IsLast symbol entries (Some at) = (at < length entries) × ((d : Entry) → (slice_index_or entries at d).symbol ≡ symbol) × NoneFrom symbol (suc at) entries
