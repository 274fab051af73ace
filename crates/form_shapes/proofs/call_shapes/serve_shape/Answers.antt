use Rattle.std.proofs.Common.{◌∙◌}
use Rattle.form_shapes.proofs.Served.{keyed_otherwise}
use Rattle.form_shapes.proofs.call_shapes.serve_shape.Goals as goal

pub returns-in_default : goal.returns-in_default
returns-in_default c = c.keyed_shape.ensures ∙ keyed_otherwise c.args.symbols.now c.args.place c.args.service c.args.arguments.now c.in_default.not-ConditionNotify
