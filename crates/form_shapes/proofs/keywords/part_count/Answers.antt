use Rattle.std.proofs.Common.{◌∙◌, arith}
use Rattle.form_shapes.proofs.Counted.{counted_few, counted_next}
use Rattle.form_shapes.proofs.keywords.part_count.Goals as goal

pub loop-index-preserved : goal.loop-index-preserved
loop-index-preserved c = record {
  few = rw c.counted-parts.ensures (omega (arith, counted_few c.role_at.result c.loop-index.parts, c.loop-index.invariant.few));
  all = rw c.counted-parts.ensures (rw c.role_at.ensures (counted_next c.args.roles c.loop-index.index c.args.count c.loop-index.parts c.loop-index-test.true)) ∙ c.loop-index.invariant.all;
}
