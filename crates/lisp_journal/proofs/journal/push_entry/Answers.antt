use Rattle.lisp_base.proofs.Writing.{wrote_both}
use Rattle.lisp_journal.proofs.journal.push_entry.Goals as goal

pub returns : goal.returns
returns c =
    wrote_both _ _ _ _ _ (wrote_both _ _ _ _ _ (wrote_both _ _ _ _ _ (wrote_both _ _ _ _ _ (wrote_both _ _ _ _ _ (wrote_both _ _ _ _ _ (wrote_both _ _ _ _ _ (wrote_both _ _ _ _ _ (wrote_both _ _ _ _ _ c.push_decimal.ensures c.push_str.ensures) c.push_actor.ensures) c.push_str-2.ensures) c.push_decimal-2.ensures) c.push_str-3.ensures) c.push_op.ensures) c.push_str-4.ensures) c.push_reply.ensures) c.push_str-5.ensures
