-- Lines that are written one after the other, with the clauses of their handlers apart.
use Rattle.std.specs.Prelude.{ℕ, List, [], ◌∷◌, max}
use Rattle.form_compiler.specs.declared.mark.Mark.{Mark}
use Rattle.form_compiler.specs.inside.Marks.{HasRow}

-- the row of each of these lines, if it has one, is one of so many
abbrev pub HaveRows : ℕ → List Mark → Type 0
HaveRows rows [] = Unit {0}
HaveRows rows (m ∷ ms) = HasRow rows m.instr × HaveRows rows ms

-- the most values that one of these lines holds
abbrev pub most_marked : List Mark → ℕ
most_marked [] = 0
most_marked (m ∷ ms) = max m.held (most_marked ms)
