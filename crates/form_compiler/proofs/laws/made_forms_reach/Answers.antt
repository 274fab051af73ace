use Rattle.form_compiler.proofs.Reaches.{made-reaches}
use Rattle.form_compiler.proofs.laws.made_forms_reach.Goals as goal

pub returns : goal.returns
returns c = made-reaches
