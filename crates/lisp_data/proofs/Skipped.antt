-- Data behind others.
use Rattle.std.proofs.Common.{◌≡◌, ℕ, suc, ◌+◌, ◌-◌, ◌<◌, refl, ap, sym, ◌∙◌, arith}
use Rattle.lisp_data.specs.declared.items.First.{First}
use Rattle.lisp_data.specs.declared.items.First.TheVariants.{Leaf as LeafFirst, List as ListFirst}
use Rattle.lisp_data.specs.Data.{Data, behind}
use Rattle.lisp_data.specs.First.{with_first}

-- what is behind the first is behind one less of the others
behind-first : (n : ℕ) (first : First) (others : Data) → behind (suc n) (with_first first others) ≡ behind n others
behind-first n (LeafFirst leaf p) others = refl
behind-first n (ListFirst p under) others = refl

-- one less is to be skipped
pub one_skipped : (n i : ℕ) (left others all : Data) (first : First) → i < n → left ≡ with_first first others → behind (n - i) left ≡ all
    → behind (n - (i + 1)) others ≡ all
one_skipped n i left others all first h split same =
    let one : n - i ≡ suc (n - (i + 1)) = omega (arith, h) in
    sym (behind-first (n - (i + 1)) first others) ∙ ap (behind (suc (n - (i + 1)))) (sym split) ∙ ap (λ m. behind m left) (sym one) ∙ same
