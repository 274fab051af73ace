use Rattle.lisp_session.proofs.Once.{one_program}
use Rattle.lisp_session.proofs.laws.one_program.Goals as goal

pub returns : goal.returns
returns c = one_program c.one_reading.ensures
