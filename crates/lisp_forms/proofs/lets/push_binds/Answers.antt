use Rattle.std.proofs.Common.{refl, subst, sym}
use Rattle.lisp_base.proofs.Writing.{Writes, writes_all}
use Rattle.form_shapes.specs.inside.Contexts.{scope_at}
use Rattle.lisp_forms.specs.inside.Written.{bind_nodes}
use Rattle.lisp_forms.proofs.Binds.{binds-same, binds_next}
use Rattle.lisp_forms.proofs.lets.push_binds.Goals as goal

pub loop-index-init : goal.loop-index-init
loop-index-init c =
    subst (λ ns. Writes c.args.nodes.now c.args.nodes.now ns (bind_nodes (scope_at c.args.within.base.now c.args.within.levels.now c.args.within.depth) c.args.place c.args.body c.args.variables.now))
    (sym (binds-same (scope_at c.args.within.base.now c.args.within.levels.now c.args.within.depth) c.args.place c.args.body c.args.variables.now)) (writes_all c.args.nodes.now _)

pub loop-index-preserved : goal.loop-index-preserved
loop-index-preserved c =
    binds_next c.args.within.base.now.specials.now c.args.variables.now c.args.place c.args.body c.loop-index.number c.loop-index.index c.index-variables-index.result _ c.forms_under.result
    c.in-Ok.behind c.bind_kind-kind.result c.args.nodes.now c.loop-index.nodes c.push_form.new.nodes _ c.loop-index-test.true c.index-variables-index.is refl
    (c.bind_kind-kind.ensures (scope_at c.args.within.base.now c.args.within.levels.now c.args.within.depth) refl) c.forms_under.ensures c.in-Ok.ensures c.push_form.ensures c.loop-index.invariant
