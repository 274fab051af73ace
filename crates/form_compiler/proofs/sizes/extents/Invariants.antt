use Rattle.std.proofs.Common.{◌≡◌, ◌≤◌, length, drop}
use Rattle.form_compiler.specs.inside.Extents.{extents_of}
use Rattle.form_compiler.proofs.sizes.extents.Given as goal

-- the extents from here on are known
abbrev pub invariant-loop-at : goal.invariant-loop-at
invariant-loop-at l = (l.at ≤ length l.nodes) × (length l.extents.items ≡ length l.nodes) × (drop l.at l.extents.items ≡ extents_of (drop l.at l.nodes))

abbrev pub decreases-loop-at : goal.decreases-loop-at
decreases-loop-at l = l.at
