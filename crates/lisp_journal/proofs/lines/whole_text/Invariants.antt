use Rattle.std.proofs.Common.{length}
use Rattle.lisp_journal.specs.Lines.{IsCut}
use Rattle.lisp_journal.proofs.lines.whole_text.Given as goal

abbrev pub invariant-loop-lines : goal.invariant-loop-lines
invariant-loop-lines g l = IsCut (g.L.Lines.left l.fn.lines) l.text (g.L.Lines.left l.lines)

abbrev pub decreases-loop-lines : goal.decreases-loop-lines
decreases-loop-lines g l = length (g.L.Lines.left l.lines)
