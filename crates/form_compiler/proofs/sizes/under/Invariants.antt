use Rattle.std.proofs.Common.{◌-◌}
use Rattle.form_compiler.proofs.Walk.{Walking}
use Rattle.form_compiler.proofs.sizes.under.Given as goal

-- what is counted so far, with what is left, is all
abbrev pub invariant-loop-forms : goal.invariant-loop-forms
invariant-loop-forms l = Walking l.nodes l.from l.parts l.used l.at l.forms l.lines

abbrev pub decreases-loop-forms : goal.decreases-loop-forms
decreases-loop-forms l = l.parts - l.forms
