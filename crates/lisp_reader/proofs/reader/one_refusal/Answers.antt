use Rattle.lisp_reader.proofs.Laws.{one_refusal}
use Rattle.lisp_reader.proofs.reader.one_refusal.Goals as goal

pub returns : goal.returns
returns c = one_refusal
