use Rattle.std.proofs.Common.{◌≡◌, ◌+◌, ◌*◌, ◌≤◌}
use Rattle.lisp_data.specs.Data.{NoData}
use Rattle.lisp_data.specs.First.{with_first}
use Rattle.form_shapes.specs.Bindings
use Rattle.form_shapes.specs.inside.Sizes.{size_of}
use Rattle.form_shapes.proofs.bindings.+special.Given as goal

-- each call has fewer data left, or is a part of its caller's work on the same data
abbrev pub decreases-has_special : goal.decreases-has_special
decreases-has_special l = 2 * size_of l.items + 1

abbrev pub decreases-has_special_in : goal.decreases-has_special_in
decreases-has_special_in l = 2 * size_of (with_first l.first NoData)

-- what is left says whether SPECIAL stands in all
abbrev pub invariant-has_special-loop-first : goal.invariant-has_special-loop-first
invariant-has_special-loop-first l = record {
  smaller : size_of l.left ≤ size_of l.fn.items;
  same : Bindings.has_special l.symbols l.left ≡ Bindings.has_special l.symbols l.fn.items;
}

abbrev pub decreases-has_special-loop-first : goal.decreases-has_special-loop-first
decreases-has_special-loop-first l = size_of l.left
