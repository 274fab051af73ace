use Rattle.std.proofs.Common.{add-one}
use Rattle.form_evaluator.proofs.Advances.{drop-one_more}
use Rattle.form_evaluator.proofs.ahead.Ahead.advance.Goals as goal

pub returns-then-self-len : goal.returns-then-self-len
returns-then-self-len c = rw (← c.self.view_is, add-one) (drop-one_more c.self.inside.at c.self.inside.steps.items)
