-- A `let`: its variables, its values and its body.
use Rattle.std.proofs.Common.{◌≡◌, ◌≢◌, ℕ, suc, ◌+◌, ◌<◌, ◌≤◌, ◌^◌, List, [], ◌∷◌, ◌++◌, Option, Some, None, length, refl, ap, sym, ◌∙◌, arith, append_assoc, append-nil}
use Rattle.lisp_base.specs.Forest.{count_of, append}
use Rattle.lisp_program.specs.declared.form.CoreKind.TheVariants.{Let, Progn}
use Rattle.lisp_data.specs.Data.{Data, NoData, Atom, Listed, behind, count_of as data_in}
use Rattle.form_shapes.specs.declared.expanded.Expanded.TheVariants.{Form}
use Rattle.form_shapes.specs.declared.expanded.ExpandedNode.{ExpandedNode}
use Rattle.form_shapes.specs.declared.scope.Opened.{Opened}
use Rattle.form_shapes.specs.Bindings.{and_others, after_declarations, bound_in, bound_in_list, opened, opened_by, or_none}
use Rattle.form_shapes.specs.inside.Contexts.{with_opened}
use Rattle.form_shapes.specs.inside.One.{items_first, let_variables}
use Rattle.form_shapes.specs.Scopes.{Scope, leaf_symbol}
use Rattle.lisp_forms.specs.Expansion.{body_in, forms_in, turn_first, values_first, values_in}
use Rattle.lisp_forms.specs.inside.Flat.{flat, flat_one, node}
use Rattle.lisp_forms.specs.Rows.{bind_kind, binds, let_of, let_star_of}
use Rattle.lisp_forms.specs.Trees.{Expansion, Single, progn_form}
use Rattle.lisp_forms.specs.inside.Written.{bind_nodes}
use Rattle.lisp_forms.proofs.Parts.{body-forms, count-forms, count-append, flat-append, last_step, two_steps}

-- a variable in front of others is at most one more
length-and_others : (x : Option ℕ) (xs : Option (List ℕ)) → length (or_none (and_others x xs)) ≤ suc (length (or_none xs))
length-and_others None xs = omega arith
length-and_others (Some x) None = omega arith
length-and_others (Some x) (Some xs) = omega arith

-- there are no more variables than bindings
length-bound : (d : Data) → length (or_none (bound_in d)) ≤ data_in d
length-bound NoData = omega arith
length-bound (Atom l p beside) = omega (arith, length-and_others (leaf_symbol l) (bound_in beside), length-bound beside)
length-bound (Listed p under beside) = omega (arith, length-and_others (bound_in_list under) (bound_in beside), length-bound beside)

length-variables : (args : Data) → length (let_variables args) ≤ data_in (items_first args)
length-variables NoData = omega arith
length-variables (Atom l p beside) = omega arith
length-variables (Listed p under beside) = length-bound under

-- there are few variables
pub few_variables : (args bindings : Data) (xs : List ℕ) → xs ≡ let_variables args → bindings ≡ items_first args → data_in bindings < 2 ^ 30 → length xs < 2 ^ 30
few_variables args bindings xs is first few = omega (arith, ap length is, ap data_in first, few, length-variables args)

-- as many values as bindings
count-values : (s : Scope) (d : Data) → count_of (values_in s d) ≡ data_in d
count-values s NoData = refl
count-values s (Atom l p beside) = ap suc (count-values s beside)
count-values s (Listed p under beside) = ap suc (count-values s beside)

-- the values are those in the list that is the first
values-items : (s : Scope) (args : Data) → values_first s args ≡ values_in s (items_first args)
values-items s NoData = refl
values-items s (Atom l p beside) = refl
values-items s (Listed p under beside) = refl

-- the body is the forms behind the declarations, read behind the variables
pub body-opened : (s : Scope) (o : Opened) (xs : List ℕ) (args rest body : Data) → xs ≡ let_variables args → with_opened s o ≡ opened s xs
    → rest ≡ behind 1 args → body ≡ after_declarations s.names rest → body_in (opened s (let_variables args)) 1 args ≡ forms_in (with_opened s o) body
body-opened s o xs args rest body is opens behind begins =
    ap (λ ys. body_in (opened s ys) 1 args) (sym is) ∙ ap (λ t. body_in t 1 args) (sym opens) ∙ body-forms (with_opened s o) 1 args
    ∙ sym (ap (forms_in (with_opened s o)) (begins ∙ ap (after_declarations s.names) behind))

-- the body alone, as one form
progn_nodes : (p n : ℕ) (body fs : Expansion) (one : Single) → one ≡ progn_form p body → body ≡ fs → n ≡ count_of fs
    → (node (Form Progn) p n ∷ []) ++ flat fs ≡ flat_one one
progn_nodes p n body fs one is same many =
    ap (λ m. node (Form Progn) p m ∷ flat fs) many ∙ sym (ap flat_one is ∙ ap (λ e. flat_one (progn_form p e)) same)

-- without variables it is its body
let-none : (s : Scope) (p : ℕ) (xs : List ℕ) (values body : Expansion) → length xs ≡ 0 → let_of s p xs values body ≡ progn_form p body
let-none s p [] values body h = refl
let-none s p (x ∷ xs) values body h = absurd (omega (arith, h))

let_star-none : (s : Scope) (p : ℕ) (xs : List ℕ) (values body : Expansion) → length xs ≡ 0 → let_star_of s p xs values body ≡ progn_form p body
let_star-none s p [] values body h = refl
let_star-none s p (x ∷ xs) values body h = absurd (omega (arith, h))

-- what a `let` and a `let*` without variables write
none_written : (s : Scope) (o : Opened) (p n : ℕ) (args rest body : Data) (xs : List ℕ) (one : Single) (old mid new : List ExpandedNode)
    → one ≡ progn_form p (body_in (opened s (let_variables args)) 1 args)
    → xs ≡ let_variables args → with_opened s o ≡ opened s xs → rest ≡ behind 1 args → body ≡ after_declarations s.names rest → n ≡ data_in body
    → mid ≡ old ++ node (Form Progn) p n ∷ [] → new ≡ mid ++ flat (forms_in (with_opened s o) body) → new ≡ old ++ flat_one one
none_written s o p n args rest body xs one old mid new only is opens behind begins many before h =
    last_step old mid new (node (Form Progn) p n ∷ []) (flat (forms_in (with_opened s o) body)) (flat_one one) before
    (progn_nodes p n _ (forms_in (with_opened s o) body) one only (body-opened s o xs args rest body is opens behind begins) (many ∙ sym (count-forms (with_opened s o) body))) h

pub let_of_none : (s : Scope) (o : Opened) (p n : ℕ) (args rest body : Data) (xs : List ℕ) (old mid new : List ExpandedNode)
    → length xs ≡ 0 → xs ≡ let_variables args → with_opened s o ≡ opened s xs → rest ≡ behind 1 args → body ≡ after_declarations s.names rest → n ≡ data_in body
    → mid ≡ old ++ node (Form Progn) p n ∷ [] → new ≡ mid ++ flat (forms_in (with_opened s o) body)
    → new ≡ old ++ flat_one (let_of s p (let_variables args) (values_first s args) (body_in (opened s (let_variables args)) 1 args))
let_of_none s o p n args rest body xs old mid new none is opens behind begins many before h =
    none_written s o p n args rest body xs _ old mid new (let-none s p (let_variables args) (values_first s args) _ (sym (ap length is) ∙ none)) is opens behind begins many before h

pub let_star_of_none : (s : Scope) (o : Opened) (p n : ℕ) (args rest body : Data) (xs : List ℕ) (old mid new : List ExpandedNode)
    → length xs ≡ 0 → xs ≡ let_variables args → with_opened s o ≡ opened s xs → rest ≡ behind 1 args → body ≡ after_declarations s.names rest → n ≡ data_in body
    → mid ≡ old ++ node (Form Progn) p n ∷ [] → new ≡ mid ++ flat (forms_in (with_opened s o) body)
    → new ≡ old ++ flat_one (let_star_of s p (let_variables args) (turn_first s args) (body_in (opened s (let_variables args)) 1 args))
let_star_of_none s o p n args rest body xs old mid new none is opens behind begins many before h =
    none_written s o p n args rest body xs _ old mid new (let_star-none s p (let_variables args) (turn_first s args) _ (sym (ap length is) ∙ none)) is opens behind begins many before h

-- the bindings are written in front of what they are round
flat-binds : (s : Scope) (p : ℕ) (xs : List ℕ) (body : Expansion) → flat (binds s p xs body) ≡ bind_nodes s p (count_of body) xs ++ flat body
flat-binds s p [] body = refl
flat-binds s p (x ∷ []) body = rw append-nil refl
flat-binds s p (x ∷ (y ∷ ys)) body =
    rw append-nil (ap (λ ns. node (Form (bind_kind s s.depth x (length (y ∷ ys)))) p 1 ∷ ns) (flat-binds (opened_by s x) p (y ∷ ys) body))

-- a `let` with a variable, written flat
flat-let : (s : Scope) (p n k x : ℕ) (xs : List ℕ) (values body : Expansion) → n ≡ count_of values → k ≡ count_of body
    → ((node (Form Let) p (n + 1) ∷ []) ++ (flat values ++ bind_nodes s p k (x ∷ xs))) ++ flat body ≡ flat_one (let_of s p (x ∷ xs) values body)
flat-let s p n k x xs values body many few =
    let all : n + 1 ≡ count_of (append values (binds s p (x ∷ xs) body)) = ap (λ m. m + 1) many ∙ sym (count-append values (binds s p (x ∷ xs) body)) in
    ap (λ ns. node (Form Let) p (n + 1) ∷ ns) (append_assoc (flat values) (bind_nodes s p k (x ∷ xs)) (flat body))
    ∙ ap (λ m. node (Form Let) p m ∷ (flat values ++ (bind_nodes s p k (x ∷ xs) ++ flat body))) all
    ∙ ap (λ m. node (Form Let) p (count_of (append values (binds s p (x ∷ xs) body))) ∷ (flat values ++ (bind_nodes s p m (x ∷ xs) ++ flat body))) few
    ∙ sym (ap (λ ns. node (Form Let) p (count_of (append values (binds s p (x ∷ xs) body))) ∷ ns)
    (flat-append values (binds s p (x ∷ xs) body) ∙ ap (λ ns. flat values ++ ns) (flat-binds s p (x ∷ xs) body)))

-- a `let` with variables
some_written : (s : Scope) (p n k : ℕ) (xs : List ℕ) (values body v b : Expansion) → length xs ≢ 0 → v ≡ values → b ≡ body → n ≡ count_of values → k ≡ count_of body
    → ((node (Form Let) p (n + 1) ∷ []) ++ (flat values ++ bind_nodes s p k xs)) ++ flat body ≡ flat_one (let_of s p xs v b)
some_written s p n k [] values body v b some same under many few = absurd (some refl)
some_written s p n k (x ∷ xs) values body v b some same under many few =
    flat-let s p n k x xs values body many few
    ∙ sym (ap (λ e. flat_one (let_of s p (x ∷ xs) e b)) same ∙ ap (λ e. flat_one (let_of s p (x ∷ xs) values e)) under)

pub let_of_some : (s : Scope) (o : Opened) (p n k : ℕ) (args rest body bindings : Data) (xs : List ℕ) (old one two mid new : List ExpandedNode)
    → length xs ≢ 0 → xs ≡ let_variables args → with_opened s o ≡ opened s xs → rest ≡ behind 1 args → body ≡ after_declarations s.names rest → k ≡ data_in body
    → bindings ≡ items_first args → n ≡ data_in bindings
    → one ≡ old ++ node (Form Let) p (n + 1) ∷ [] → two ≡ one ++ flat (values_in s bindings) → mid ≡ two ++ bind_nodes s p k xs
    → new ≡ mid ++ flat (forms_in (with_opened s o) body)
    → new ≡ old ++ flat_one (let_of s p (let_variables args) (values_first s args) (body_in (opened s (let_variables args)) 1 args))
let_of_some s o p n k args rest body bindings xs old one two mid new some is opens behind begins few first many begun valued bound h =
    let t : Scope = with_opened s o in
    let top : List ExpandedNode = node (Form Let) p (n + 1) ∷ [] in
    let values : List ExpandedNode = flat (values_in s bindings) in
    let b : Expansion = body_in (opened s (let_variables args)) 1 args in
    let same : values_first s args ≡ values_in s bindings = values-items s args ∙ sym (ap (values_in s) first) in
    let under : b ≡ forms_in t body = body-opened s o xs args rest body is opens behind begins in
    let all : (top ++ (values ++ bind_nodes s p k xs)) ++ flat (forms_in t body) ≡ flat_one (let_of s p (let_variables args) (values_first s args) b) =
    some_written s p n k xs (values_in s bindings) (forms_in t body) (values_first s args) b some same under (many ∙ sym (count-values s bindings)) (few ∙ sym (count-forms t body))
    ∙ ap (λ ys. flat_one (let_of s p ys (values_first s args) b)) is in
    let front : mid ≡ old ++ (top ++ (values ++ bind_nodes s p k xs)) =
    two_steps old one mid top (values ++ bind_nodes s p k xs) begun (two_steps one two mid values (bind_nodes s p k xs) valued bound) in
    last_step old mid new (top ++ (values ++ bind_nodes s p k xs)) (flat (forms_in t body)) _ front all h
