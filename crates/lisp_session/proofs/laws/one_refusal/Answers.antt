use Rattle.lisp_session.proofs.Once.{one_refusal}
use Rattle.lisp_session.proofs.laws.one_refusal.Goals as goal

pub returns : goal.returns
returns c = one_refusal c.one_reading.ensures c.one_refusal.ensures c.never_both.ensures
