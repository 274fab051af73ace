use Rattle.std.proofs.Common.{refl}
use Rattle.lisp_session.proofs.answer.answer_reading.Goals as goal

pub returns-in-Ok : goal.returns-in-Ok
returns-in-Ok c = λ bytes h. (refl, c.left_by.ensures bytes _ h c.in-Ok.ensures)
