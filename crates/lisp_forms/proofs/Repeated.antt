-- The same node so many times.
use Rattle.std.proofs.Common.{◌≡◌, ℕ, zero, suc, ◌+◌, Option, List, [], ◌∷◌, ◌++◌, refl, ap, sym, ◌∙◌, add-one}
use Rattle.lisp_base.specs.Writing.{Wrote}
use Rattle.lisp_base.proofs.Writing.{wrote_both, wrote_same}
use Rattle.form_shapes.specs.declared.expanded.ExpandedNode.{ExpandedNode}
use Rattle.lisp_forms.specs.inside.Flat.{repeated}

-- the last of them is as good as the first
repeated_last : (k : ℕ) (n : ExpandedNode) → repeated (suc k) n ≡ repeated k n ++ n ∷ []
repeated_last zero n = refl
repeated_last (suc k) n = ap (λ ns. n ∷ ns) (repeated_last k n)

-- one more
pub repeated_more : (k : ℕ) (n : ExpandedNode) (old now new : Option (List ExpandedNode)) → Wrote old now (repeated k n) → Wrote now new (n ∷ [])
    → Wrote old new (repeated (k + 1) n)
repeated_more k n old now new so_far pushed =
    wrote_same old new (repeated k n ++ n ∷ []) (repeated (k + 1) n) (wrote_both old now new (repeated k n) (n ∷ []) so_far pushed)
    (sym (repeated_last k n) ∙ ap (λ m. repeated m n) (sym (add-one k)))
