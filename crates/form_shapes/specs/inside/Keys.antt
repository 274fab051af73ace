-- The keys of levels, and how the code keeps them: in order, the innermost last. No public clause says this.
use Rattle.std.specs.Prelude.{ℕ, suc, ◌-◌, ◌<◌, ◌≤◌, ◌==◌, ◌≡◌, ◌≢◌, nat_lt, List, [], ◌∷◌, length, Option, Some, None, false, slice_index_or, if◌then◌else◌}
use Rattle.form_shapes.specs.declared.levels.Level.{Level}
use Rattle.form_shapes.specs.declared.levels.Level.TheVariants.{Variable, Block, Region}
use Rattle.form_shapes.specs.declared.levels.Numbered.{Numbered}
use Rattle.form_shapes.specs.declared.levels.TheConstants.{BLOCKS, REGION}
use Rattle.form_shapes.specs.Levels.{is_level}

-- the level that has this key
abbrev pub level_of : ℕ → Level
level_of key = if nat_lt key BLOCKS then Variable key else if key == REGION then Region else Block (key - BLOCKS)

-- the key is that of the level, and no other one is; or no key is
abbrev pub IsKey : Level → Option ℕ → Type 0
IsKey level None = (k : ℕ) → is_level level (level_of k) ≡ false
IsKey level (Some key) = (level_of key ≡ level) × ((k : ℕ) → is_level level (level_of k) ≡ (k == key))

-- the levels that have these keys and numbers, inside others
abbrev pub levels_of : List Numbered → List ℕ → List ℕ → List Numbered
levels_of ls [] ns = ls
levels_of ls (k ∷ ks) [] = ls
levels_of ls (k ∷ ks) (n ∷ ns) = levels_of (record { level = level_of k; number = n } ∷ ls) ks ns

-- none of the keys from a place on is this one
abbrev pub NoneFrom : ℕ → ℕ → List ℕ → Type 0
NoneFrom key from keys = (k d : ℕ) → from ≤ k → k < length keys → slice_index_or keys k d ≢ key

-- the place of the last of the keys that is this one, if there is one
abbrev pub IsLast : ℕ → List ℕ → Option ℕ → Type 0
IsLast key keys None = NoneFrom key 0 keys
IsLast key keys (Some at) = (at < length keys) × ((d : ℕ) → slice_index_or keys at d ≡ key) × NoneFrom key (suc at) keys
