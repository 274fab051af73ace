use Rattle.std.proofs.Common.{◌∙◌, refl}
use Rattle.form_shapes.specs.inside.Contexts.{scope_in, with_opened}
use Rattle.form_shapes.proofs.Openings.{received_next}
use Rattle.form_shapes.proofs.bindings.received.Goals as goal

pub loop-parameter-preserved : goal.loop-parameter-preserved
loop-parameter-preserved c =
    received_next (with_opened (scope_in c.args.context.now) c.loop-parameter.opened) _ c.args.parameters.now c.loop-parameter.parameter-index c.parameter-item.result c.loop-parameter-test.true c.parameter-item.is
    (c.in_ok-open_parameter.ensures (scope_in c.args.context.now) refl)
    ∙ c.loop-parameter.invariant
