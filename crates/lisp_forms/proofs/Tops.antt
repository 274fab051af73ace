-- What stands at top level, one by one.
use Rattle.std.proofs.Common.{◌≡◌, ℕ, suc, ◌+◌, ◌<◌, List, [], ◌∷◌, ◌++◌, Option, length, get_or, drop, refl, ap, sym, ◌∙◌, add-one, drop-cons}
use Rattle.lisp_base.specs.Forest.{count_of}
use Rattle.lisp_base.specs.Writing.{Wrote}
use Rattle.lisp_base.proofs.Writing.{wrote_both, wrote_same, Writes, writes_next}
use Rattle.lisp_data.specs.Data.{Data, behind, count_of as data_in}
use Rattle.form_shapes.specs.declared.expanded.Expanded.TheVariants.{Defun}
use Rattle.form_shapes.specs.declared.expanded.ExpandedNode.{ExpandedNode}
use Rattle.form_shapes.specs.declared.shape.Shape.{Shape}
use Rattle.form_shapes.specs.declared.shape.Shape.TheVariants as shape
use Rattle.form_shapes.specs.Bindings.{function_body_of}
use Rattle.form_shapes.specs.inside.One.{let_variables}
use Rattle.form_shapes.specs.Seats.{parameters_in}
use Rattle.form_shapes.specs.Scopes.{Scope}
use Rattle.lisp_forms.specs.Expansion.{forms_in, function_body_in, parts_in}
use Rattle.lisp_forms.specs.inside.Flat.{flat, flat_one, node}
use Rattle.lisp_forms.specs.Program.{Known, known_behind, scope_of_defun, top_form, top_forms, top_list_form}
use Rattle.lisp_forms.specs.Blocks.{blocked}
use Rattle.lisp_forms.specs.Rows.{defun_form, list_form}
use Rattle.lisp_forms.specs.Trees.{Expansion}
use Rattle.lisp_forms.specs.inside.Written.{special_nodes, special_parts}
use Rattle.lisp_forms.proofs.Parts.{count-forms}
use Rattle.lisp_forms.proofs.Lambdas.{flat-function, function-forms, within-names}

-- a shape other than that of a definition of a function stands for the same as elsewhere
otherwise : (s : Scope) (p : ℕ) (sh : Shape) (args : Data) → ((f : ℕ) → sh ≡ shape.Defun f → ⊥) → list_form s p sh (let_variables args) (parts_in s p args) ≡ top_list_form s p sh args
otherwise s p (shape.Defun f) args h = absurd (h f refl)
otherwise s p other args h = refl

pub written_otherwise : (s : Scope) (p : ℕ) (sh : Shape) (args : Data) (old new : Option (List ExpandedNode)) → ((f : ℕ) → sh ≡ shape.Defun f → ⊥)
    → Wrote old new (flat_one (list_form s p sh (let_variables args) (parts_in s p args))) → Wrote old new (flat_one (top_list_form s p sh args))
written_otherwise s p sh args old new h written =
    wrote_same old new (flat_one (list_form s p sh (let_variables args) (parts_in s p args))) _ written (ap flat_one (otherwise s p sh args h))

-- the forms of the body of a definition of a function
defun-forms : (s : Scope) (f : ℕ) (xs : List ℕ) (args : Data) → function_body_in (scope_of_defun s f xs) 2 args ≡ forms_in (scope_of_defun s f xs) (function_body_of s.names (behind 2 args))
defun-forms s f xs args =
    function-forms (scope_of_defun s f xs) 2 args ∙ ap (λ names. forms_in (scope_of_defun s f xs) (function_body_of names (behind 2 args))) (within-names s xs)

-- a definition of a function is written
defun-written : (s : Scope) (p f count parts : ℕ) (xs : List ℕ) (e : Expansion) → count ≡ length xs → parts ≡ count_of (blocked count p e)
    → (node (Defun f count) p (special_parts s.specials parts xs) ∷ special_nodes s.specials p parts 0 xs) ++ flat (blocked count p e) ≡ flat_one (defun_form s p f xs e)
defun-written s p f count parts xs e many counted =
    ap (λ m. node (Defun f count) p (special_parts s.specials m xs) ∷ (special_nodes s.specials p m 0 xs ++ flat (blocked count p e))) counted
    ∙ ap (λ c. node (Defun f c) p (special_parts s.specials (count_of (blocked c p e)) xs) ∷ (special_nodes s.specials p (count_of (blocked c p e)) 0 xs ++ flat (blocked c p e))) many
    ∙ flat-function s (Defun f (length xs)) p xs (blocked (length xs) p e) (defun_form s p f xs e) refl

pub written_defun : (s inner : Scope) (p f count forms parts : ℕ) (args b : Data) (xs : List ℕ) (body : List ExpandedNode) (old head bound new : Option (List ExpandedNode))
    → xs ≡ parameters_in (behind 1 args) → inner ≡ scope_of_defun s f xs → b ≡ function_body_of s.names (behind 2 args)
    → body ≡ flat (forms_in inner b) → forms ≡ data_in b → count ≡ length xs
    → ((q : ℕ) (e : Expansion) → body ≡ flat e → forms ≡ count_of e → parts ≡ count_of (blocked count q e))
    → Wrote old head (node (Defun f count) p (special_parts s.specials parts xs) ∷ []) → Wrote head bound (special_nodes s.specials p parts 0 xs)
    → ((e : Expansion) → body ≡ flat e → forms ≡ count_of e → Wrote bound new (flat (blocked count p e)))
    → Wrote old new (flat_one (top_list_form s p (shape.Defun f) args))
written_defun s inner p f count forms parts args b xs body old head bound new named opened behind_all is few many counted first then last =
    let all : Expansion = forms_in (scope_of_defun s f xs) (function_body_of s.names (behind 2 args)) in
    let same : body ≡ flat all = is ∙ ap (λ t. flat (forms_in t b)) opened ∙ ap (λ d. flat (forms_in (scope_of_defun s f xs) d)) behind_all in
    let alike : forms ≡ count_of all =
    few ∙ ap data_in behind_all ∙ sym (count-forms (scope_of_defun s f xs) (function_body_of s.names (behind 2 args))) in
    let top : List ExpandedNode = node (Defun f count) p (special_parts s.specials parts xs) ∷ [] in
    let binds : List ExpandedNode = special_nodes s.specials p parts 0 xs in
    wrote_same old new ((top ++ binds) ++ flat (blocked count p all)) _
    (wrote_both old bound new (top ++ binds) (flat (blocked count p all)) (wrote_both old head bound top binds first then) (last all same alike))
    (defun-written s p f count parts xs all many (counted p all same alike)
    ∙ ap (λ e. flat_one (defun_form s p f xs e)) (sym (defun-forms s f xs args))
    ∙ ap (λ ys. flat_one (defun_form s p f ys (function_body_in (scope_of_defun s f ys) 2 args))) named)

-- one more is written
pub top_next : (s : Scope) (ds : List Data) (i : ℕ) (d : Data) (known more : Known) (old now new : Option (List ExpandedNode)) (all : List ExpandedNode) → i < length ds → d ≡ get_or ds i d
    → more ≡ known_behind s.names d known → Wrote now new (flat_one (top_form s known d)) → Writes old now (flat (top_forms s known (drop i ds))) all
    → Writes old new (flat (top_forms s more (drop (i + 1) ds))) all
top_next s ds i d known more old now new all h is grown pushed so_far =
    let rest : List Data = drop (i + 1) ds in
    let split : drop i ds ≡ d ∷ rest = drop-cons ds i d h ∙ ap (λ x. x ∷ drop (suc i) ds) (sym is) ∙ ap (λ k. d ∷ drop k ds) (sym (add-one i)) in
    writes_next old now new (flat_one (top_form s known d)) (flat (top_forms s known (drop i ds))) (flat (top_forms s more rest)) all so_far pushed
    (ap (λ xs. flat (top_forms s known xs)) split ∙ ap (λ k. flat_one (top_form s known d) ++ flat (top_forms s k rest)) (sym grown))
