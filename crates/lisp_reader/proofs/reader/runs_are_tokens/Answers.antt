use Rattle.lisp_reader.proofs.Tokened.{runs_are_tokens}
use Rattle.lisp_reader.proofs.reader.runs_are_tokens.Goals as goal

pub returns : goal.returns
returns c = runs_are_tokens
