use Rattle.form_evaluator.proofs.Advances.{drop_min}
use Rattle.form_evaluator.proofs.ahead.Ahead.skip.Goals as goal

pub returns : goal.returns
returns c = rw (← c.self.view_is, c.min.ensures, c.as_slice.ensures.value) (drop_min c.self.inside.at c.args.count c.self.inside.steps.items)
