-- Bindings of special parameters, one by one.
use Rattle.std.proofs.Common.{◌≡◌, ℕ, suc, ◌+◌, ◌<◌, Option, List, [], ◌∷◌, ◌++◌, Bool, true, false, if◌then◌else◌, length, get_or, drop, refl, ap, sym, ◌∙◌, add-one, drop-cons}
use Rattle.lisp_base.specs.Writing.{Wrote}
use Rattle.lisp_base.proofs.Writing.{Writes, writes_next}
use Rattle.lisp_program.specs.declared.form.CoreKind.TheVariants.{BindSpecial, Let, Local}
use Rattle.form_shapes.specs.declared.expanded.Expanded.TheVariants.{Form}
use Rattle.form_shapes.specs.declared.expanded.ExpandedNode.{ExpandedNode}
use Rattle.form_shapes.specs.Scopes.{has}
use Rattle.lisp_forms.specs.inside.Flat.{node}
use Rattle.lisp_forms.specs.inside.Written.{special_node, special_nodes, special_parts}

-- three nodes, or none, in front of others
bound-first : (t : Bool) (a b c : ExpandedNode) (rest : List ExpandedNode) → (if t then a ∷ (b ∷ (c ∷ [])) else []) ++ rest ≡ (if t then a ∷ (b ∷ (c ∷ rest)) else rest)
bound-first true a b c rest = refl
bound-first false a b c rest = refl

-- the first in front of the others
special-first : (specials : List ℕ) (p body i x : ℕ) (xs : List ℕ)
    → special_node specials p body i x xs ++ special_nodes specials p body (suc i) xs ≡ special_nodes specials p body i (x ∷ xs)
special-first specials p body i x xs =
    bound-first (has specials x) (node (Form Let) p 2) (node (Form (Local i)) p 0) (node (Form (BindSpecial x 0)) p (special_parts specials body xs)) (special_nodes specials p body (suc i) xs)

-- one more is written
pub special_next : (specials xs ys : List ℕ) (p body n i x : ℕ) (old now new : Option (List ExpandedNode)) (all : List ExpandedNode)
    → i < length xs → x ≡ get_or xs i x → ys ≡ drop (i + 1) xs → Wrote now new (special_node specials p body n x ys)
    → Writes old now (special_nodes specials p body n (drop i xs)) all → Writes old new (special_nodes specials p body (n + 1) (drop (i + 1) xs)) all
special_next specials xs ys p body n i x old now new all h is others pushed so_far =
    let rest : List ℕ = drop (i + 1) xs in
    let split : drop i xs ≡ x ∷ rest = drop-cons xs i x h ∙ ap (λ y. y ∷ drop (suc i) xs) (sym is) ∙ ap (λ k. x ∷ drop k xs) (sym (add-one i)) in
    writes_next old now new (special_node specials p body n x ys) (special_nodes specials p body n (drop i xs)) (special_nodes specials p body (n + 1) rest) all so_far pushed
    (ap (λ zs. special_nodes specials p body n zs) split ∙ sym (special-first specials p body n x rest)
    ∙ ap (λ zs. special_node specials p body n x zs ++ special_nodes specials p body (suc n) rest) (sym others)
    ∙ ap (λ k. special_node specials p body n x ys ++ special_nodes specials p body k rest) (sym (add-one n)))
