use Rattle.lisp_forms.proofs.Repeated.{repeated_more}
use Rattle.lisp_forms.proofs.nodes.push_forms.Goals as goal

pub loop-done-preserved : goal.loop-done-preserved
loop-done-preserved c = repeated_more _ _ c.args.nodes.now c.loop-done.nodes _ c.loop-done.invariant c.push_form.ensures
