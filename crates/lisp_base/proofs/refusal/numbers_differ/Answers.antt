use Rattle.lisp_base.proofs.Refusals.{numbers_differ}
use Rattle.lisp_base.proofs.refusal.numbers_differ.Goals as goal

pub returns : goal.returns
returns c = numbers_differ
