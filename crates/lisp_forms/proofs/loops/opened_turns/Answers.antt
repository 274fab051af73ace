use Rattle.std.proofs.Common.{◌∙◌, ap}
use Rattle.form_shapes.specs.inside.Contexts.{scope_at}
use Rattle.form_shapes.specs.Scopes.{Scope, deeper, inside}
use Rattle.form_shapes.specs.declared.levels.Level.TheVariants.{Block}
use Rattle.lisp_forms.proofs.loops.opened_turns.Goals as goal

pub returns : goal.returns
returns c =
    let s : Scope = scope_at c.args.within.base.now c.args.within.levels.now c.args.within.depth in
    c.in_ok-deepen-2.ensures s
    ∙ ap deeper (c.in_ok-deepen.ensures s ∙ ap deeper (c.in_ok-open.ensures ∙ ap (λ x. inside s (Block x)) c.nil.ensures))
