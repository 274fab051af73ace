use Rattle.lisp_session.proofs.answer.answer_bytes.Goals as goal

pub returns-in-Ok : goal.returns-in-Ok
returns-in-Ok c = c.answer_reading.ensures _ c.in-Ok.ensures.read

pub returns-in-Err : goal.returns-in-Err
returns-in-Err c = c.answer_refusal.ensures _ c.in-Err.ensures.refused
