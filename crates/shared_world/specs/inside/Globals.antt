-- Where a special variable stands among all of them.
use Rattle.std.specs.Prelude.{◌≡◌, ◌≢◌, ℕ, ◌<◌, List, length, Option, Some, None, slice_index_or}
use Rattle.world_semantics.specs.declared.global.Global.{Global}

-- none of those before a place is of the symbol
abbrev pub NoneBefore : ℕ → ℕ → List Global → Type 0
NoneBefore symbol to globals = (k : ℕ) (d : Global) → k < to → k < length globals → (slice_index_or globals k d).symbol ≢ symbol

-- the first place of the symbol, if there is one
abbrev pub IsFirst : ℕ → List Global → Option ℕ → Type 0
IsFirst symbol globals None = NoneBefore symbol (length globals) globals
IsFirst symbol globals (Some at) = (at < length globals) × ((d : Global) → (slice_index_or globals at d).symbol ≡ symbol) × NoneBefore symbol at globals
