use Rattle.lisp_data.proofs.Skipped.{one_skipped}
use Rattle.lisp_data.proofs.items.Items.skip.Goals as goal

pub loop-skipped-preserved : goal.loop-skipped-preserved
loop-skipped-preserved c =
    record { same = one_skipped c.args.number c.loop-skipped._skipped _ _ _ c.in-Some.field-0-0 c.loop-skipped-test.true c.in-Some.ensures.some c.loop-skipped.invariant.same }
