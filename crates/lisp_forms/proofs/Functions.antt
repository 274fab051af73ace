-- Functions, written in several steps.
use Rattle.std.proofs.Common.{◌≡◌, ℕ, List, [], ◌∷◌, ◌++◌, length, ap, subst, sym, ◌∙◌}
use Rattle.lisp_base.specs.Forest.{count_of}
use Rattle.lisp_data.specs.Data.{Data, behind, count_of as data_in}
use Rattle.form_shapes.specs.declared.expanded.Expanded.TheVariants.{Lambda}
use Rattle.form_shapes.specs.declared.expanded.ExpandedNode.{ExpandedNode}
use Rattle.form_shapes.specs.declared.scope.Opened.{Opened}
use Rattle.form_shapes.specs.Bindings.{function_body_of}
use Rattle.form_shapes.specs.inside.Contexts.{with_opened}
use Rattle.form_shapes.specs.Seats.{parameters_in, scope_within}
use Rattle.form_shapes.specs.Scopes.{Scope}
use Rattle.lisp_forms.specs.Expansion.{forms_in, function_body_in}
use Rattle.lisp_forms.specs.inside.Flat.{flat, flat_one, node}
use Rattle.lisp_forms.specs.Rows.{lambda_form, specials_bound}
use Rattle.lisp_forms.specs.Trees.{Expansion}
use Rattle.lisp_forms.specs.inside.Written.{special_nodes, special_parts}
use Rattle.lisp_forms.proofs.Lambdas.{count-bound, flat-bound, function-forms, within-depth}
use Rattle.lisp_forms.proofs.Parts.{count-forms, last_step, two_steps}

-- a function, of its parameters and the forms of its body
lambda_parts : (s : Scope) (p count more parts n : ℕ) (xs : List ℕ) (body : Expansion) (old a b new : List ExpandedNode)
    → n ≡ length xs → count ≡ count_of body → more ≡ count_of body → parts ≡ special_parts s.specials count xs → a ≡ old ++ node (Lambda n) p parts ∷ []
    → b ≡ a ++ special_nodes s.specials p more 0 xs → new ≡ b ++ flat body → new ≡ old ++ flat_one (lambda_form s p xs body)
lambda_parts s p count more parts n xs body old a b new long many again few first second h =
    let under : parts ≡ count_of (specials_bound s p 0 xs body) = few ∙ ap (λ m. special_parts s.specials m xs) many ∙ sym (count-bound s p 0 xs body) in
    let all : node (Lambda n) p parts ∷ (special_nodes s.specials p more 0 xs ++ flat body) ≡ flat_one (lambda_form s p xs body) =
    ap (λ m. node (Lambda m) p parts ∷ (special_nodes s.specials p more 0 xs ++ flat body)) long
    ∙ ap (λ m. node (Lambda (length xs)) p m ∷ (special_nodes s.specials p more 0 xs ++ flat body)) under
    ∙ ap (λ m. node (Lambda (length xs)) p (count_of (specials_bound s p 0 xs body)) ∷ (special_nodes s.specials p m 0 xs ++ flat body)) again
    ∙ ap (λ ns. node (Lambda (length xs)) p (count_of (specials_bound s p 0 xs body)) ∷ ns) (sym (flat-bound s p 0 xs body)) in
    last_step old b new (node (Lambda n) p parts ∷ special_nodes s.specials p more 0 xs) (flat body) _
    (two_steps old a b (node (Lambda n) p parts ∷ []) (special_nodes s.specials p more 0 xs) first second) all h

-- a function
pub lambda_steps : (s : Scope) (o : Opened) (p count more parts : ℕ) (xs ys zs : List ℕ) (args left body : Data) (old a b new : List ExpandedNode)
    → xs ≡ parameters_in args → ys ≡ parameters_in args → zs ≡ parameters_in args → with_opened s o ≡ scope_within s xs
    → left ≡ behind 1 args → body ≡ function_body_of s.names left → count ≡ data_in body → more ≡ data_in body → parts ≡ special_parts s.specials count ys
    → a ≡ old ++ node (Lambda o.depth) p parts ∷ [] → b ≡ a ++ special_nodes s.specials p more 0 zs → new ≡ b ++ flat (forms_in (with_opened s o) body)
    → new ≡ old ++ flat_one (lambda_form s p (parameters_in args) (function_body_in (scope_within s (parameters_in args)) 1 args))
lambda_steps s o p count more parts xs ys zs args left body old a b new is is' is'' within from stripped many again few first second h =
    let ps : List ℕ = parameters_in args in
    let t : Scope = with_opened s o in
    let opened : t ≡ scope_within s ps = within ∙ ap (scope_within s) is in
    let long : o.depth ≡ length ps = ap (λ (u : Scope). u.depth) opened ∙ within-depth s ps in
    let forms : forms_in t body ≡ function_body_in t 1 args = ap (forms_in t) (stripped ∙ ap (function_body_of s.names) from) ∙ sym (function-forms t 1 args) in
    subst (λ u. new ≡ old ++ flat_one (lambda_form s p ps (function_body_in u 1 args))) opened
    (subst (λ fs. new ≡ old ++ flat_one (lambda_form s p ps fs)) forms
    (lambda_parts s p count more parts o.depth ps (forms_in t body) old a b new long (many ∙ sym (count-forms t body)) (again ∙ sym (count-forms t body))
    (few ∙ ap (special_parts s.specials count) is') first (second ∙ ap (λ qs. a ++ special_nodes s.specials p more 0 qs) is'') h))
