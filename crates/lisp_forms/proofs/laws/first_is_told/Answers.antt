use Rattle.lisp_forms.proofs.Told.{first_is_told}
use Rattle.lisp_forms.proofs.laws.first_is_told.Goals as goal

pub returns : goal.returns
returns c = first_is_told
