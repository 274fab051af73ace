use Rattle.lisp_data.proofs.Beside.{few_items}
use Rattle.lisp_data.proofs.items.Items.count.Goals as goal

pub returns-clause-few : goal.returns-clause-few
returns-clause-few c = rw c.self.invariant.many (few_items _ _ c.self.invariant)
