use Rattle.std.proofs.Common.{◌≡◌, ◌≤◌}
use Rattle.form_shapes.specs.Bindings
use Rattle.form_shapes.specs.inside.Sizes.{size_of}
use Rattle.form_shapes.proofs.bindings.after_declarations.Given as goal

-- the forms of what is left are those of all, and what is left is no larger
abbrev pub invariant-loop-first : goal.invariant-loop-first
invariant-loop-first l = record {
  same : Bindings.after_declarations l.symbols l.left ≡ Bindings.after_declarations l.symbols l.fn.items;
  smaller : size_of l.left ≤ size_of l.fn.items;
}

abbrev pub decreases-loop-first : goal.decreases-loop-first
decreases-loop-first l = size_of l.left
