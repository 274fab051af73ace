use Rattle.lisp_reader.proofs.Laws.{one_reading}
use Rattle.lisp_reader.proofs.reader.one_reading.Goals as goal

pub returns : goal.returns
returns c = one_reading
