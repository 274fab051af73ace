use Rattle.form_laws.proofs.Programs.{programs_are_scoped}
use Rattle.form_laws.proofs.scoping.programs_are_scoped.Goals as goal

pub returns : goal.returns
returns c = programs_are_scoped
