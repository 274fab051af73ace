use Rattle.lisp_reader.proofs.Cased.{same_folded}
use Rattle.lisp_reader.proofs.meaning.are_same_folded.Goals as goal

pub returns : goal.returns
returns c = same_folded c.args.letters.now c.args.others.now c.eq_ignore_ascii_case.result c.eq_ignore_ascii_case.ensures.test
