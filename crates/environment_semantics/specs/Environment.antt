-- The bindings of special symbols. A map says which place a symbol names, and a store what each place holds.
-- Places are made in order from 0 and never used again: place p is item p of the store.
use Rattle.std.specs.Prelude.{ℕ, ◌==◌, List, [], ◌∷◌, ◌++◌, length, Option, Some, None, if◌then◌else◌, nat_lt, slice_get, slice_set}

-- a binding of a special symbol, which has this number, to a place
pub record Binding : Type 0 where
  pub symbol : ℕ
  pub place : ℕ

-- the place that a symbol names in a map, the newest binding first, where it is bound
abbrev pub place_of : ℕ → List Binding → Option ℕ
place_of symbol [] = None
place_of symbol (b ∷ map) = if b.symbol == symbol then Some b.place else place_of symbol map

-- a place holds what the store has there
abbrev pub held_at : {V : Type 0} → Option ℕ → List V → Option V
held_at None store = None
held_at (Some place) store = slice_get store place

-- the value of a symbol: what the place that it names holds
abbrev pub value_of : {V : Type 0} → ℕ → List Binding → List V → Option V
value_of symbol map store = held_at (place_of symbol map) store

-- binding a symbol makes a new place that holds the value, and the symbol names it from now on
abbrev pub bound : {V : Type 0} → ℕ → V → List Binding → List V → List Binding × List V
bound symbol value map store = (record { symbol = symbol; place = length store } ∷ map, store ++ value ∷ [])

-- the store after a write to a place, if there is one
abbrev pub stored : {V : Type 0} → Option ℕ → V → List V → List V
stored None value store = store
stored (Some place) value store = slice_set store place value

-- `setq` writes to the place that the symbol names, and writes nothing where it names none
abbrev pub written : {V : Type 0} → ℕ → V → List Binding → List V → List V
written symbol value map store = stored (place_of symbol map) value store

-- the map as it was when it had this many bindings; leaving a binding form puts it back, and does not change the store
abbrev pub outer : ℕ → List Binding → List Binding
outer height [] = []
outer height (b ∷ map) = if nat_lt (length map) height then b ∷ map else outer height map
