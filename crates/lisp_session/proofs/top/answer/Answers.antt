use Rattle.lisp_session.specs.inside.Ends.{has_answer}
use Rattle.lisp_session.proofs.top.answer.Goals as goal

pub returns-in-Ok : goal.returns-in-Ok
returns-in-Ok g c = let h = rw c.as_slice.ensures.value at c.in-Ok.ensures in has_answer c.in-Ok.answer h.says c.write.ensures
