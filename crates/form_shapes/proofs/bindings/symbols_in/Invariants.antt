use Rattle.std.proofs.Common.{◌≡◌}
use Rattle.form_shapes.specs.Bindings.{symbols_in}
use Rattle.form_shapes.specs.inside.Sizes.{size_of}
use Rattle.form_shapes.proofs.Bound.{behind_these}
use Rattle.form_shapes.proofs.bindings.symbols_in.Given as goal

-- those so far, and those still to come, are all
abbrev pub invariant-loop-first : goal.invariant-loop-first
invariant-loop-first l = symbols_in l.fn.items ≡ behind_these l.symbols.items (symbols_in l.left)

abbrev pub decreases-loop-first : goal.decreases-loop-first
decreases-loop-first l = size_of l.left
