use Rattle.std.proofs.Common.{arith, refl}
use Rattle.form_compiler.proofs.Walk.{walk_goes_on, walked_all, walked_out}
use Rattle.form_compiler.proofs.Known.{nothing}
use Rattle.form_compiler.proofs.sizes.under.Goals as goal
use Rattle.form_compiler.proofs.sizes.under.Goals.{then-loop-forms-test+else-at-nodes, else-loop-forms-test}

pub overflow_add-at : goal.overflow_add-at
overflow_add-at c =
    omega (arith, (walk_goes_on _ _ _ _ _ _ _ _ _ nothing _ c.loop-forms.invariant c.requires.known (omega (arith, c.requires.whole)) (omega arith) refl (rw c.saturating_sub.ensures at c.counted-lines.ensures)).inside)

pub loop-forms-preserved : goal.loop-forms-preserved
loop-forms-preserved c =
    walk_goes_on _ _ _ _ _ _ _ _ _ nothing _ c.loop-forms.invariant c.requires.known (omega (arith, c.requires.whole)) (omega arith) refl (rw c.saturating_sub.ensures at c.counted-lines.ensures)

pub returns : goal.returns
returns c = elim c.loop-forms-test.branch [
  | then-loop-forms-test+else-at-nodes w ↦ walked_out _ _ _ _ _ _ _ c.loop-forms.invariant (omega arith)
  | else-loop-forms-test w ↦ walked_all _ _ _ _ _ _ _ c.loop-forms.invariant (omega arith)
]
