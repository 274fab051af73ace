use Rattle.std.proofs.Common.{◌≡◌}
use Rattle.form_shapes.specs.Clauses
use Rattle.form_shapes.specs.inside.Sizes.{size_of}
use Rattle.form_shapes.proofs.clause.are_clauses.Given as goal

-- what is left says whether all are clauses
abbrev pub invariant-loop-first : goal.invariant-loop-first
invariant-loop-first l = Clauses.are_clauses l.symbols l.left ≡ Clauses.are_clauses l.symbols l.fn.items

abbrev pub decreases-loop-first : goal.decreases-loop-first
decreases-loop-first l = size_of l.left
