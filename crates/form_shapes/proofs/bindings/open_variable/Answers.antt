use Rattle.std.proofs.Common.{◌∙◌, sym}
use Rattle.form_shapes.specs.declared.levels.Level.TheVariants.{Variable}
use Rattle.form_shapes.specs.Bindings
use Rattle.form_shapes.specs.Scopes
use Rattle.form_shapes.proofs.Openings.{opened_so, opens_variable}
use Rattle.form_shapes.proofs.bindings.open_variable.Goals as goal

pub returns : goal.returns
returns c = opened_so _ _ (λ s. Scopes.inside s (Variable c.args.variable)) (λ s. Bindings.opened_by s c.args.variable) _ _ (opens_variable _ _ _ (sym c.has.ensures ∙ c.if-has.false)) c.open.ensures
