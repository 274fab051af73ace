use Rattle.form_compiler.proofs.Fitting.{made-fit}
use Rattle.form_compiler.proofs.laws.made_forms_fit.Goals as goal

pub returns : goal.returns
returns c = made-fit
