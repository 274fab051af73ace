-- Bindings in one another, one by one.
use Rattle.std.proofs.Common.{◌≡◌, ℕ, suc, ◌+◌, ◌-◌, ◌<◌, Option, List, [], ◌∷◌, Bool, true, false, if◌then◌else◌, length, get_or, drop, refl, ap, sym, ◌∙◌, arith, add-one, drop-cons, length-drop}
use Rattle.lisp_base.specs.Writing.{Wrote}
use Rattle.lisp_base.proofs.Writing.{Writes, writes_next}
use Rattle.lisp_program.specs.declared.form.CoreKind.{CoreKind}
use Rattle.lisp_program.specs.declared.form.CoreKind.TheVariants.{BindSpecial, BindLocal}
use Rattle.form_shapes.specs.declared.expanded.Expanded.TheVariants.{Form}
use Rattle.form_shapes.specs.declared.expanded.ExpandedNode.{ExpandedNode}
use Rattle.form_shapes.specs.declared.levels.Level.TheVariants.{Variable}
use Rattle.form_shapes.specs.Bindings.{opened_by}
use Rattle.form_shapes.specs.Scopes.{Scope, has, inside}
use Rattle.lisp_forms.specs.inside.Flat.{node}
use Rattle.lisp_forms.specs.inside.Written.{bind_nodes, forms_under, number_behind}

-- the kind of a binding, by the special variables and the number of a lexical one
abbrev pub kind_by : List ℕ → ℕ → ℕ → ℕ → CoreKind
kind_by specials n x above = if has specials x then BindSpecial x above else BindLocal n above

-- the nodes of bindings, by the special variables and the number of the first lexical one
abbrev pub binds_from : List ℕ → ℕ → ℕ → ℕ → List ℕ → List ExpandedNode
binds_from specials p forms n [] = []
binds_from specials p forms n (x ∷ xs) =
    node (Form (kind_by specials n x (length xs))) p (forms_under (length xs) forms) ∷ binds_from specials p forms (number_behind specials n x) xs

-- a variable leaves the special ones as they are
opened-specials : (s : Scope) (x : ℕ) → (opened_by s x).specials ≡ s.specials
opened-specials s x = by (has s.specials x)
  where
    by : (t : Bool) → (if t then s else inside s (Variable x)).specials ≡ s.specials
    by true = refl
    by false = refl

-- and a lexical one takes a number
opened-depth : (s : Scope) (x : ℕ) → (opened_by s x).depth ≡ number_behind s.specials s.depth x
opened-depth s x = by (has s.specials x)
  where
    by : (t : Bool) → (if t then s else inside s (Variable x)).depth ≡ (if t then s.depth else s.depth + 1)
    by true = refl
    by false = sym (add-one s.depth)

-- the nodes are the same
pub binds-same : (s : Scope) (p forms : ℕ) (xs : List ℕ) → binds_from s.specials p forms s.depth xs ≡ bind_nodes s p forms xs
binds-same s p forms [] = refl
binds-same s p forms (x ∷ []) = refl
binds-same s p forms (x ∷ (y ∷ ys)) =
    let first : ExpandedNode = node (Form (kind_by s.specials s.depth x (length (y ∷ ys)))) p 1 in
    ap (λ ns. first ∷ ns)
    (ap (λ n. binds_from s.specials p forms n (y ∷ ys)) (sym (opened-depth s x))
    ∙ ap (λ sp. binds_from sp p forms (opened_by s x).depth (y ∷ ys)) (sym (opened-specials s x))
    ∙ binds-same (opened_by s x) p forms (y ∷ ys))

-- one more is written
pub binds_next : (specials xs : List ℕ) (p forms n i x above parts behind : ℕ) (kind : CoreKind) (old now new : Option (List ExpandedNode)) (all : List ExpandedNode)
    → i < length xs → x ≡ get_or xs i x → above ≡ length xs - 1 - i → kind ≡ kind_by specials n x above → parts ≡ forms_under above forms
    → behind ≡ number_behind specials n x → Wrote now new (node (Form kind) p parts ∷ [])
    → Writes old now (binds_from specials p forms n (drop i xs)) all → Writes old new (binds_from specials p forms behind (drop (i + 1) xs)) all
binds_next specials xs p forms n i x above parts behind kind old now new all h is many same under next pushed so_far =
    let rest : List ℕ = drop (i + 1) xs in
    let split : drop i xs ≡ x ∷ rest = drop-cons xs i x h ∙ ap (λ y. y ∷ drop (suc i) xs) (sym is) ∙ ap (λ k. x ∷ drop k xs) (sym (add-one i)) in
    let left : above ≡ length rest = omega (arith, many, h, length-drop (i + 1) xs) in
    let one : node (Form kind) p parts ≡ node (Form (kind_by specials n x (length rest))) p (forms_under (length rest) forms) =
    ap (λ g. node (Form g) p parts) same ∙ ap (λ m. node (Form (kind_by specials n x above)) p m) under
    ∙ ap (λ m. node (Form (kind_by specials n x m)) p (forms_under m forms)) left in
    writes_next old now new (node (Form kind) p parts ∷ []) (binds_from specials p forms n (drop i xs)) (binds_from specials p forms behind rest) all so_far pushed
    (ap (λ ys. binds_from specials p forms n ys) split ∙ ap (λ m. m ∷ binds_from specials p forms (number_behind specials n x) rest) (sym one)
    ∙ ap (λ k. node (Form kind) p parts ∷ binds_from specials p forms k rest) (sym next))
