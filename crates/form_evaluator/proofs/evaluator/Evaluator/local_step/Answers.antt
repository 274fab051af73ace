use Rattle.form_evaluator.proofs.Shown.{local_stands}
use Rattle.form_evaluator.proofs.evaluator.Evaluator.local_step.Goals as goal

pub returns : goal.returns
returns c s h = local_stands s c.args.self.now c.take_local.new.self h c.in_ok-take_local.ensures
