use Rattle.std.proofs.Common.{length}
use Rattle.lisp_session.specs.inside.Ends.{IsSending}
use Rattle.lisp_session.proofs.output.send.Given as goal

abbrev pub invariant-loop-alloc : goal.invariant-loop-alloc
invariant-loop-alloc g l =
    IsSending (g.K.Sink.held l.fn.sink) (g.K.Sink.held l.sink) (g.K.Sink.faults l.fn.sink) (g.K.Sink.faults l.sink) (g.L.Lines.left l.fn.lines) l.page (g.L.Lines.left l.lines)

abbrev pub decreases-loop-alloc : goal.decreases-loop-alloc
decreases-loop-alloc g l = length (g.L.Lines.left l.lines)
