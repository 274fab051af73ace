use Rattle.lisp_session.proofs.Once.{program_or_refused}
use Rattle.lisp_session.proofs.laws.program_or_refused.Goals as goal

pub returns : goal.returns
returns c = program_or_refused c.read_or_refused.ensures
