use Rattle.std.proofs.Common.{sym}
use Rattle.lisp_session.proofs.Answered.{answered, answered_ok, no_words, some_words}
use Rattle.lisp_session.proofs.answer.answer_to.Goals as goal

pub returns-then-is_empty : goal.returns-then-is_empty
returns-then-is_empty c =
    answered_ok c.answer_bytes.result _ _ c.never_both.ensures c.one_refusal.ensures (no_words c.args.words.now (sym c.if-is_empty.ensures)) c.answer_bytes.ensures

pub returns-else-is_empty : goal.returns-else-is_empty
returns-else-is_empty c = answered c.never_both.ensures c.one_refusal.ensures _ _ _ (some_words c.args.words.now (sym c.if-is_empty.ensures))
