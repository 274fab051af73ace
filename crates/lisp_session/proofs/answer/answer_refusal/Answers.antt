use Rattle.std.proofs.Common.{refl}
use Rattle.lisp_session.proofs.answer.answer_refusal.Goals as goal

pub returns-in-Refused : goal.returns-in-Refused
returns-in-Refused c = λ bytes h. (refl, rw c.in-Refused.is at h)
