use Rattle.form_compiler.proofs.Gives.{made-gives}
use Rattle.form_compiler.proofs.laws.made_forms_give.Goals as goal

pub returns : goal.returns
returns c = made-gives
