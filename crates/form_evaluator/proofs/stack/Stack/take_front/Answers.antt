use Rattle.std.proofs.lemmas.List.{take_rest}
use Rattle.form_evaluator.proofs.Advances.{front_reversed}
use Rattle.form_evaluator.proofs.stack.Stack.take_front.Goals as goal

pub returns-clause-front : goal.returns-clause-front
returns-clause-front g c =
    rw (c.in_ok-front.ensures.items, take_rest, c.saturating_sub-kept.ensures, c.as_slice-items.ensures.value, ← c.self.view_is)
    (front_reversed c.args.count c.self.inside.items.items)
