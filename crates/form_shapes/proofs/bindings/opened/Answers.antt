use Rattle.std.proofs.Common.{◌∙◌, refl}
use Rattle.form_shapes.specs.inside.Contexts.{scope_in, with_opened}
use Rattle.form_shapes.proofs.Openings.{opened_next}
use Rattle.form_shapes.proofs.bindings.opened.Goals as goal

pub loop-variable-preserved : goal.loop-variable-preserved
loop-variable-preserved c =
    opened_next (with_opened (scope_in c.args.context.now) c.loop-variable.opened) _ c.args.variables.now c.loop-variable.variable-index c.variable-item.result c.loop-variable-test.true c.variable-item.is
    (c.in_ok-open_variable.ensures (scope_in c.args.context.now) refl)
    ∙ c.loop-variable.invariant
