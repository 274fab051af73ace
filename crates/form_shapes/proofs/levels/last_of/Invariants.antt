use Rattle.std.proofs.Common.{◌≡◌, ℕ, ◌<◌, ◌≤◌, length, slice_index_or}
use Rattle.form_shapes.specs.inside.Keys.{NoneFrom}
use Rattle.form_shapes.proofs.levels.last_of.Given as goal

-- what is left is the front of the keys, and none behind it is the one that is sought
abbrev pub invariant-loop-left : goal.invariant-loop-left
invariant-loop-left l = record {
  short : length l.left ≤ length l.keys;
  same : (k d : ℕ) → k < length l.left → slice_index_or l.left k d ≡ slice_index_or l.keys k d;
  none : NoneFrom l.sought (length l.left) l.keys;
}

abbrev pub decreases-loop-left : goal.decreases-loop-left
decreases-loop-left l = length l.left
