use Rattle.lisp_session.proofs.Promised.{promised}
use Rattle.lisp_session.proofs.top.run_one.Goals as goal

pub returns-clause-promise : goal.returns-clause-promise
returns-clause-promise g c = rw c.status_of.ensures (promised c.never_both.ensures _ _ _ _ _ _ _ _ _ _ c.call.ensures.ends)
