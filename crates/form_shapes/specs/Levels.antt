-- What is open round a form and can be named.
use Rattle.std.specs.Prelude.{ℕ, List, [], ◌∷◌, Bool, true, false, ◌==◌, Option, Some, None, if◌then◌else◌}
use Rattle.form_shapes.specs.declared.levels.Level.{Level}
use Rattle.form_shapes.specs.declared.levels.Level.TheVariants.{Variable, Block, Region}
use Rattle.form_shapes.specs.declared.levels.Numbered.{Numbered}

-- a level is that of this variable
abbrev pub is_variable : ℕ → Level → Bool
is_variable x (Variable y) = x == y
is_variable x (Block b) = false
is_variable x Region = false

-- a level is that of a block with this name
abbrev pub is_block : ℕ → Level → Bool
is_block b (Variable y) = false
is_block b (Block c) = b == c
is_block b Region = false

-- a level is what a written `without-interrupts` remembers
abbrev pub is_region : Level → Bool
is_region (Variable y) = false
is_region (Block c) = false
is_region Region = true

-- a level is the one that is sought
abbrev pub is_level : Level → Level → Bool
is_level (Variable x) level = is_variable x level
is_level (Block b) level = is_block b level
is_level Region level = is_region level

-- the number of the innermost level that is sought
abbrev pub number_of : Level → List Numbered → Option ℕ
number_of sought [] = None
number_of sought (l ∷ ls) = if is_level sought l.level then Some l.number else number_of sought ls
