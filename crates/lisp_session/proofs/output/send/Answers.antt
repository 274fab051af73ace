use Rattle.lisp_session.proofs.Sent.{last_failed, passed_on, sent_page, stopped}
use Rattle.lisp_session.proofs.output.send.Goals as goal

pub loop-alloc-preserved-in-Continue-1 : goal.loop-alloc-preserved-in-Continue-1
loop-alloc-preserved-in-Continue-1 g c = sent_page _ _ _ _ _ _ _ _ _ _ _ _ c.loop-alloc.invariant c.loop-alloc-test.ensures c.in_ok-turn_page.ensures.whole

pub returns-in_err-turn_page-clause-failure : goal.returns-in_err-turn_page-clause-failure
returns-in_err-turn_page-clause-failure g c =
    passed_on c.from_residual.result c.in_err-turn_page.field-0.0 _ c.from_residual.ensures.1
    (stopped _ _ _ _ _ _ _ _ _ _ _ _ c.loop-alloc.invariant c.loop-alloc-test.ensures c.in_err-turn_page.ensures.failure)

pub returns-clause-failure : goal.returns-clause-failure
returns-clause-failure g c = last_failed c.turn_page-2.result _ _ _ _ _ _ _ _ _ _ _ c.loop-alloc.invariant c.loop-alloc-test.ensures c.turn_page-2.ensures.failure
