use Rattle.lisp_reader.proofs.Laws.{never_both}
use Rattle.lisp_reader.proofs.reader.never_both.Goals as goal

pub returns : goal.returns
returns c = never_both
