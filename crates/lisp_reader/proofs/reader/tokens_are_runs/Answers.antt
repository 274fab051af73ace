use Rattle.lisp_reader.proofs.Runs.{tokens_are_runs}
use Rattle.lisp_reader.proofs.reader.tokens_are_runs.Goals as goal

pub returns : goal.returns
returns c = tokens_are_runs
