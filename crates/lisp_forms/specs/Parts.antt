-- What the rows of the table of forms are given of a list.
use Rattle.std.specs.Prelude.{ℕ}
use Rattle.form_shapes.specs.declared.keywords.Roles.{Roles}
use Rattle.form_shapes.specs.Scopes.{Scope}
use Rattle.lisp_forms.specs.Trees.{Expansion, Single}

-- The parts of a list that stand for forms, in each way in which some shape reads them: what a shape does not use does not
-- matter.
pub record Parts : Type 0 where
  -- the arguments as forms, by what they are for
  pub arguments : Roles → Expansion
  -- the arguments after so many as a body, and all as forms, where these are open
  pub body : Scope → ℕ → Expansion
  pub forms : Scope → Expansion
  -- the forms in the list that is the first argument, where these are open
  pub within : Scope → Roles → Expansion
  -- the values of the variables of a `let`, and of a `let*`
  pub values : Expansion
  pub values_in_turn : Expansion
  -- the pairs of a `setq`, the forms of an `or`, the clauses of a `cond`, and those of a `handler-case`
  pub pairs : Expansion
  pub ors : Single
  pub conds : Single
  pub clauses : Expansion
