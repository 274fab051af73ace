use Rattle.lisp_session.proofs.Once.{never_both}
use Rattle.lisp_session.proofs.laws.never_both.Goals as goal

pub returns : goal.returns
returns c = never_both c.one_reading.ensures c.never_both.ensures
