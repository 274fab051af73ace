use Rattle.form_compiler.proofs.Whole.{code-valid}
use Rattle.form_compiler.proofs.laws.code_is_valid.Goals as goal

pub returns : goal.returns
returns c = code-valid
