use Rattle.lisp_forms.proofs.well.Programs.{programs_are_well_made}
use Rattle.lisp_forms.proofs.laws.programs_are_well_made.Goals as goal

pub returns : goal.returns
returns c = programs_are_well_made
