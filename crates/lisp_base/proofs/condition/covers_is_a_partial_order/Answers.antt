use Rattle.lisp_base.proofs.Classes.{covers_order}
use Rattle.lisp_base.proofs.condition.covers_is_a_partial_order.Goals as goal

pub returns : goal.returns
returns c = covers_order
