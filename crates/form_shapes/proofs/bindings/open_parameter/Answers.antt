use Rattle.std.proofs.Common.{◌∙◌, sym}
use Rattle.form_shapes.specs.declared.levels.Level.TheVariants.{Variable}
use Rattle.form_shapes.specs.Bindings
use Rattle.form_shapes.specs.Scopes
use Rattle.form_shapes.proofs.Openings.{opened_so, receives_special, receives_variable}
use Rattle.form_shapes.proofs.bindings.open_parameter.Goals as goal

pub returns-then-has : goal.returns-then-has
returns-then-has c = opened_so _ _ Scopes.deeper (λ s. Bindings.received_by s c.args.parameter) _ _ (receives_special _ _ _ (sym c.has.ensures ∙ c.if-has.true)) c.deepen.ensures

pub returns : goal.returns
returns c = opened_so _ _ (λ s. Scopes.inside s (Variable c.args.parameter)) (λ s. Bindings.received_by s c.args.parameter) _ _ (receives_variable _ _ _ (sym c.has.ensures ∙ c.if-has.false)) c.open.ensures
