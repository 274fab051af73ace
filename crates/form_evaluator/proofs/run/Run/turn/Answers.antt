use Rattle.form_evaluator.proofs.Turned.{nothing_left}
use Rattle.form_evaluator.proofs.run.Run.turn.Goals as goal

pub returns-in-Nothing : goal.returns-in-Nothing
returns-in-Nothing c = λ limit f taken r h. nothing_left limit taken f _ r c.in-Nothing.ensures
