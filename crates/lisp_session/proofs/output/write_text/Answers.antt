use Rattle.std.proofs.Common.{arith, length-drop, ◌∙◌}
use Rattle.std.proofs.lemmas.List.{take_rest}
use Rattle.lisp_session.proofs.Sent.{wrote_more}
use Rattle.lisp_session.proofs.output.write_text.Goals as goal

pub loop-at-preserved : goal.loop-at-preserved
loop-at-preserved g c =
    let b = rw take_rest at c.in-Took.ensures.bytes in
    record { within = omega (arith, b.1, length-drop c.loop-at.at c.args.text.now); written = wrote_more _ _ _ _ _ _ c.loop-at.invariant.written b.2; kept = b.3 ∙ c.loop-at.invariant.kept }
