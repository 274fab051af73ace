use Rattle.std.proofs.Common.{arith, ap, ◌∙◌}
use Rattle.lisp_data.specs.Data.{data_of}
use Rattle.lisp_data.proofs.Ends.{one_datum, split_all, split_more}
use Rattle.lisp_data.proofs.split.split.Goals as goal

pub of-requires : goal.of-requires
of-requires c = one_datum _ _ _ c.requires.short c.loop-at-test.true c.end_of-end.ensures

pub loop-at-preserved : goal.loop-at-preserved
loop-at-preserved c =
    rw c.in_ok-push.ensures.items
    (split_more _ _ _ _ _ c.loop-at.invariant c.loop-at-test.true c.end_of-end.ensures c.of.ensures)

pub returns : goal.returns
returns c = split_all _ _ _ c.loop-at.invariant (omega arith)
