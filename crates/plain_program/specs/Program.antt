-- Whole programs.
use Rattle.std.specs.Prelude.{ℕ, List}
use Rattle.plain_program.specs.Forms.{PlainForms}

-- the top-level forms, and the special variables in order of definition
pub record PlainProgram : Type 0 where
  pub forms : PlainForms
  pub specials : List ℕ
