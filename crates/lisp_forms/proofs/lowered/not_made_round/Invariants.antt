use Rattle.std.proofs.Common.{◌≡◌, ◌≤◌, length, reverse, take}
use Rattle.lisp_forms.specs.Blocks
use Rattle.lisp_forms.proofs.lowered.not_made_round.Given as goal

-- those that are left say how many there are
abbrev pub invariant-loop-count : goal.invariant-loop-count
invariant-loop-count l = record {
  few : l.count ≤ length l.gone;
  same : Blocks.not_made_round (reverse (take l.count l.gone)) l.number ≡ Blocks.not_made_round (reverse l.gone) l.number;
}

abbrev pub decreases-loop-count : goal.decreases-loop-count
decreases-loop-count l = l.count
