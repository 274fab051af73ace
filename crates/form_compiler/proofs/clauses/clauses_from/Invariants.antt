use Rattle.form_compiler.proofs.Begun.{Noting}
use Rattle.form_compiler.proofs.clauses.clauses_from.Given as goal

-- what is written down, with what is left, is all
abbrev pub invariant-loop-left : goal.invariant-loop-left
invariant-loop-left l = Noting l.nodes l.from l.start l.forms l.node l.at l.left l.row.items

abbrev pub decreases-loop-left : goal.decreases-loop-left
decreases-loop-left l = l.left
