use Rattle.std.proofs.Common.{◌∙◌, ap}
use Rattle.form_shapes.specs.inside.Contexts.{scope_in}
use Rattle.form_shapes.specs.Scopes
use Rattle.form_shapes.proofs.scope.opened_with.Goals as goal

pub returns : goal.returns
returns c = c.in_ok-open.ensures (scope_in c.args.context.now) ∙ ap (λ s. Scopes.inside s c.args.level) c.in_ok-opened.ensures
