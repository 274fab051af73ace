-- Where one comes to rest: jumps are followed to an instruction that is no jump.
use Rattle.std.specs.Prelude.{ℕ, suc, List, [], ◌∷◌, ◌==◌, if◌then◌else◌, nat_lt}
use Rattle.lisp_code.specs.declared.instr.Instr.{Instr}
use Rattle.lisp_code.specs.declared.instr.Instr.TheVariants.{Jump}

-- An instruction that is no jump rests where it stands. From a jump that goes on, one rests where its target does; one that goes back
-- lands on no jump.
abbrev pub rested : (at : ℕ) → Instr → (later : ℕ → ℕ) → ℕ
rested at (Jump to) later = if nat_lt at to then later to else to
rested at i later = at

-- where one rests from a position x, in instructions that begin at this position
abbrev pub resting_from : (begin : ℕ) → List Instr → (x : ℕ) → ℕ
resting_from begin [] x = x
resting_from begin (i ∷ is) x = if x == begin then rested begin i (resting_from (suc begin) is) else resting_from (suc begin) is x

-- where one rests from a position in these instructions
abbrev pub resting_of : List Instr → (x : ℕ) → ℕ
resting_of is x = resting_from 0 is x
