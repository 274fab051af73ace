use Rattle.lisp_reader.proofs.Told.{read_or_refused}
use Rattle.lisp_reader.proofs.reader.read_or_refused.Goals as goal

pub returns : goal.returns
returns c = read_or_refused
