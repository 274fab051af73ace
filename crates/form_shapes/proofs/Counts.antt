-- What is behind all.
use Rattle.std.proofs.Common.{◌≡◌, ℕ, refl, ap, sym, ◌∙◌}
use Rattle.lisp_data.specs.Data.{Data, NoData, Atom, Listed, behind, count_of}
use Rattle.lisp_data.specs.declared.datum.Leaf.{Leaf}
use Rattle.form_shapes.specs.inside.One.{items_first}

-- nothing is behind all
pub behind-all : (d : Data) → behind (count_of d) d ≡ NoData
behind-all NoData = refl
behind-all (Atom leaf p beside) = behind-all beside
behind-all (Listed p under beside) = behind-all beside

-- a leaf holds nothing
pub leaf_items : (d r : Data) (leaf : Leaf) (p : ℕ) (others : Data) (n : ℕ) → d ≡ Atom leaf p others → n ≡ count_of d → r ≡ behind n d → r ≡ items_first d
leaf_items d r leaf p others n h many rest = rest ∙ ap (λ k. behind k d) many ∙ behind-all d ∙ sym (ap items_first h)
