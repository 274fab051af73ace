-- Expansions written flat, in preorder.
use Rattle.std.specs.Prelude.{ℕ, zero, suc, List, [], ◌∷◌, ◌++◌}
use Rattle.lisp_base.specs.Forest.{NoTrees, Tree, count_of}
use Rattle.form_shapes.specs.declared.expanded.Expanded.{Expanded}
use Rattle.form_shapes.specs.declared.expanded.ExpandedNode.{ExpandedNode}
use Rattle.lisp_forms.specs.Trees.{Expansion, Single}

-- one node
abbrev pub node : Expanded → ℕ → ℕ → ExpandedNode
node k p n = record { kind = k; place = p; parts = n }

-- each form before the forms under it, and these before the forms beside it
abbrev pub flat : Expansion → List ExpandedNode
flat NoTrees = []
flat (Tree k p under beside) = node k p (count_of under) ∷ (flat under ++ flat beside)

-- one form
abbrev pub flat_one : Single → List ExpandedNode
flat_one t = node t.kind t.place (count_of t.under) ∷ flat t.under

-- the same node so many times
abbrev pub repeated : ℕ → ExpandedNode → List ExpandedNode
repeated zero n = []
repeated (suc k) n = n ∷ repeated k n
