use Rattle.std.proofs.Common.{◌≡◌}
use Rattle.form_shapes.specs.Shapes
use Rattle.form_shapes.specs.inside.Sizes.{size_of}
use Rattle.form_shapes.proofs.value_shapes.are_pairs.Given as goal

-- what is left says whether all are pairs
abbrev pub invariant-loop-first : goal.invariant-loop-first
invariant-loop-first l = Shapes.are_pairs l.symbols l.left ≡ Shapes.are_pairs l.symbols l.fn.items

abbrev pub decreases-loop-first : goal.decreases-loop-first
decreases-loop-first l = size_of l.left
