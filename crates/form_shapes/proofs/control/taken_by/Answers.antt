use Rattle.std.proofs.Common.{◌∙◌, sym, arith}
use Rattle.form_shapes.proofs.Taken.{plain_next, argued_next, ended_next}
use Rattle.form_shapes.proofs.control.taken_by.Goals as goal
use Rattle.form_shapes.proofs.control.taken_by.Goals.{then-not-is_directive, else-not-is_directive+then-takes_argument, else-not-is_directive+else-takes_argument+then-takes_nothing}

pub loop-byte-preserved : goal.loop-byte-preserved
loop-byte-preserved c =
    elim c.if-not-is_directive.branch [
      | then-not-is_directive w ↦ (record {
        few = omega (arith, w.taken-is, c.loop-byte.invariant.few);
        all = rw w.taken-is (rw w.is_directive-is (rw w.if-not-is_directive.true at c.loop-byte.invariant.all ∙ plain_next c.loop-byte.taken _ c.loop-byte.byte-index c.loop-byte-test.true));
      })
      | else-not-is_directive+then-takes_argument w ↦ (record {
        few = omega (arith, w.taken-is, c.loop-byte.invariant.few);
        all = rw w.taken-is (rw w.is_directive-is (rw w.if-not-is_directive.false at c.loop-byte.invariant.all
            ∙ argued_next c.loop-byte.taken _ c.loop-byte.byte-index c.loop-byte-test.true (sym w.takes_argument.ensures ∙ w.if-takes_argument.true)));
      })
      | else-not-is_directive+else-takes_argument+then-takes_nothing w ↦ (record {
        few = omega (arith, w.taken-is, c.loop-byte.invariant.few);
        all = rw w.taken-is (rw w.is_directive-is (rw w.if-not-is_directive.false at c.loop-byte.invariant.all
            ∙ ended_next c.loop-byte.taken _ c.loop-byte.byte-index c.loop-byte-test.true (sym w.takes_argument.ensures ∙ w.if-takes_argument.false) (sym w.takes_nothing.ensures ∙ w.if-takes_nothing.true)));
      })
    ]
