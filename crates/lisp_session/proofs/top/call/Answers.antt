use Rattle.std.proofs.Common.{refl, sym}
use Rattle.lisp_session.specs.inside.Ends.{is_stopped}
use Rattle.lisp_session.proofs.Answered.{no_words, some_words}
use Rattle.lisp_session.proofs.Promised.{keeps_all, read_ends, unread_ends}
use Rattle.lisp_session.proofs.top.call.Goals as goal

pub returns-then-not-is_empty-clause-ends : goal.returns-then-not-is_empty-clause-ends
returns-then-not-is_empty-clause-ends g c =
    unread_ends _ _ _ _ _ _ _ _ _ (some_words c.args.words.now (sym c.if-not-is_empty.ensures)) c.answer.ensures

pub returns-in-Ok-clause-ends : goal.returns-in-Ok-clause-ends
returns-in-Ok-clause-ends g c =
    read_ends _ _ _ _ _ _ _ _ _ _ _ (no_words c.args.words.now (sym c.if-not-is_empty.ensures)) c.in-Ok.ensures.text c.in-Ok.ensures.kept c.answer-in-Ok.ensures

pub returns-in-Err-clause-ends : goal.returns-in-Err-clause-ends
returns-in-Err-clause-ends g c =
    is_stopped c.in-Err.failure (no_words c.args.words.now (sym c.if-not-is_empty.ensures)) c.in-Err.ensures.failure (keeps_all _) refl c.stopped.ensures
