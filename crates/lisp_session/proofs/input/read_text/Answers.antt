use Rattle.std.proofs.Common.{arith, length, length-append, length-take, take, ◌∙◌, ◌++◌, ◌≤◌}
use Rattle.lisp_session.proofs.Sent.{read_to_end, took_more}
use Rattle.lisp_session.proofs.input.read_text.Goals as goal

pub returns-then-is_err-clause-failure : goal.returns-then-is_err-clause-failure
returns-then-is_err-clause-failure g c = let b = c.in-Took.ensures.bytes in let piece = take c.in-Took.count c.read.new.buf in record {
  why = b.3 ∙ c.loop-block.invariant.kept;
  bytes = c.loop-block.text.items ++ piece;
  were = record {
    taken = took_more _ _ _ _ _ c.loop-block.invariant.taken b.2;
    few = omega (arith, length-append c.loop-block.text.items piece, length-take c.in-Took.count c.read.new.buf, c.read.auto.buf, length-take c.min-room.result c.loop-block.block);
  };
}

pub returns-in-End-clause-text : goal.returns-in-End-clause-text
returns-in-End-clause-text g c =
    read_to_end _ _ _ _ c.loop-block.invariant.taken (omega arith) c.in-End.ensures.bytes.0 c.in-End.ensures.bytes.1
