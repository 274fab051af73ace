use Rattle.std.proofs.Common.{◌-◌, length}
use Rattle.lisp_data.proofs.Ends.{SplitAt}
use Rattle.lisp_data.proofs.split.split.Given as goal

-- what is split so far
abbrev pub invariant-loop-at : goal.invariant-loop-at
invariant-loop-at l = SplitAt l.nodes l.at l.«data».items

abbrev pub decreases-loop-at : goal.decreases-loop-at
decreases-loop-at l = length l.nodes - l.at
