use Rattle.std.proofs.Common.{refl}
use Rattle.form_evaluator.proofs.Turned.{begun}
use Rattle.form_evaluator.proofs.run.Run.new.Goals as goal

pub returns : goal.returns
returns c = λ limit. begun limit _ _ (rw (← c.in_ok-steps.ensures) c.in_ok-new.ensures) c.in_ok-unbound_globals.ensures refl c.new-2.ensures
