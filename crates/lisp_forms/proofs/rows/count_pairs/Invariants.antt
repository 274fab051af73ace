use Rattle.std.proofs.Common.{◌≡◌, ℕ, ◌+◌, ◌^◌, ◌-◌, ◌≤◌}
use Rattle.lisp_base.specs.Forest.{count_of}
use Rattle.lisp_data.specs.Data.{count_of as data_in}
use Rattle.form_shapes.specs.Scopes.{Scope}
use Rattle.form_shapes.specs.inside.Sizes.{size_of}
use Rattle.lisp_forms.specs.Expansion.{pairs_in}
use Rattle.lisp_forms.proofs.rows.count_pairs.Given as goal

-- those so far, with those of what is left, are all
abbrev pub invariant-loop-first : goal.invariant-loop-first
invariant-loop-first l = record {
  few : l.pairs ≤ 2 ^ 30 - 1 - data_in l.left;
  all : (s : Scope) (place : ℕ) → l.pairs + count_of (pairs_in s place l.left) ≡ count_of (pairs_in s place l.items);
}

abbrev pub decreases-loop-first : goal.decreases-loop-first
decreases-loop-first l = size_of l.left
