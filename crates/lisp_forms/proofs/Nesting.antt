-- A `let*`: one `let` in another.
use Rattle.std.proofs.Common.{◌≡◌, ◌≢◌, ℕ, ◌+◌, ◌<◌, ◌≤◌, List, [], ◌∷◌, ◌++◌, Option, Some, None, drop, get_or, length, refl, ap, sym, ◌∙◌, arith, append_assoc, append-nil}
use Rattle.std.proofs.lemmas.List.{drop_all}
use Rattle.lisp_base.specs.Writing.{Wrote}
use Rattle.lisp_base.proofs.Writing.{Writes, writes_done, writes_next, wrote_both, wrote_same}
use Rattle.lisp_base.specs.Forest.{count_of}
use Rattle.lisp_program.specs.declared.form.CoreKind.{CoreKind}
use Rattle.lisp_program.specs.declared.form.CoreKind.TheVariants.{Let}
use Rattle.lisp_data.specs.declared.items.First.{First}
use Rattle.lisp_data.specs.declared.items.First.TheVariants.{Leaf as LeafFirst, List as ListFirst}
use Rattle.lisp_data.specs.Data.{Data, NoData, Atom, Listed, behind, count_of as data_in}
use Rattle.lisp_data.specs.First.{with_first}
use Rattle.form_shapes.specs.declared.expanded.Expanded.TheVariants.{Form}
use Rattle.form_shapes.specs.declared.expanded.ExpandedNode.{ExpandedNode}
use Rattle.form_shapes.specs.declared.keywords.Roles.TheVariants.{From}
use Rattle.form_shapes.specs.declared.scope.Opened.{Opened}
use Rattle.form_shapes.specs.Bindings.{and_others, after_declarations, bound_in, bound_in_list, opened, opened_by, or_none}
use Rattle.form_shapes.specs.inside.Contexts.{with_opened}
use Rattle.form_shapes.specs.inside.One.{bound_by, items_first, let_variables}
use Rattle.form_shapes.specs.Scopes.{Scope, leaf_symbol}
use Rattle.form_shapes.specs.inside.Sizes.{size_of}
use Rattle.form_shapes.proofs.Openings.{next_of}
use Rattle.lisp_forms.specs.Expansion.{behind_variable, body_in, by_roles, forms_in, turn_first, turns_in}
use Rattle.lisp_forms.specs.inside.Flat.{flat, flat_one, node}
use Rattle.lisp_forms.specs.inside.Firsts.{bound_value}
use Rattle.lisp_forms.specs.Rows.{bind_form, bind_kind, let_star_of, nested}
use Rattle.lisp_forms.specs.Trees.{Expansion, Single, both, first, form, in_front, nil_form, only, others}
use Rattle.lisp_forms.specs.inside.Written.{turn, turn_nodes, turn_parts}
use Rattle.lisp_forms.proofs.Letting.{body-opened}
use Rattle.lisp_forms.proofs.Parts.{count-forms}

-- a variable and others
pub record Split (a : Option ℕ) (b : Option (List ℕ)) (xs : List ℕ) : Type 0 where
  pub x : ℕ
  pub ys : List ℕ
  pub has_first : a ≡ Some x
  pub has_others : b ≡ Some ys
  pub all : xs ≡ x ∷ ys

-- where there are variables, there is the first and there are the others
split : (a : Option ℕ) (b : Option (List ℕ)) (xs : List ℕ) → and_others a b ≡ Some xs → Split a b xs
split None b xs h = cc
split (Some x) None xs h = cc
split (Some x) (Some ys) xs h = record { x = x; ys = ys; has_first = refl; has_others = refl; all = cc }

-- what the first of several bindings binds, and what is written for it
bound-first : (f : First) (d : Data) → bound_in (with_first f d) ≡ and_others (bound_by f) (bound_in d)
bound-first (LeafFirst l p) d = refl
bound-first (ListFirst p under) d = refl

nodes-first : (s : Scope) (p forms : ℕ) (f : First) (d : Data)
    → turn_nodes s p forms (with_first f d) ≡ turn s p (turn_parts d forms) (bound_by f) (bound_value s f) ++ turn_nodes (behind_variable s (bound_by f)) p forms d
nodes-first s p forms (LeafFirst l q) d = refl
nodes-first s p forms (ListFirst q under) d = refl

-- the last binding has the body under it, and another one a `let`
pub part_count_last : (d : Data) (forms : ℕ) → data_in d ≡ 0 → forms ≡ turn_parts d forms
part_count_last NoData forms h = refl
part_count_last (Atom l p beside) forms h = absurd (omega (arith, h))
part_count_last (Listed p under beside) forms h = absurd (omega (arith, h))

pub part_count_other : (d : Data) (forms : ℕ) → data_in d ≢ 0 → 1 ≡ turn_parts d forms
part_count_other NoData forms h = absurd (h refl)
part_count_other (Atom l p beside) forms h = refl
part_count_other (Listed p under beside) forms h = refl

count-nested : (s : Scope) (p : ℕ) (xs : List ℕ) (values body : Expansion) (d : Data) → bound_in d ≡ Some xs → count_of (nested s p xs values body) ≡ turn_parts d (count_of body)
count-nested s p [] values body NoData h = refl
count-nested s p (x ∷ xs) values body NoData h = cc
count-nested s p (x ∷ xs) values body (Atom l q beside) h = refl
count-nested s p (x ∷ xs) values body (Listed q under beside) h = refl
count-nested s p [] values body (Atom l q beside) h =
    let b : Split (leaf_symbol l) (bound_in beside) [] = split (leaf_symbol l) (bound_in beside) [] h in
    let none : [] ≡ b.x ∷ b.ys = b.all in cc
count-nested s p [] values body (Listed q under beside) h =
    let b : Split (bound_in_list under) (bound_in beside) [] = split (bound_in_list under) (bound_in beside) [] h in
    let none : [] ≡ b.x ∷ b.ys = b.all in cc

-- one `let` of a variable, with what is in it
flat-one_turn : (s : Scope) (p x : ℕ) (value : Single) (inner : Expansion)
    → flat (only (form Let p (both value (bind_form s p s.depth x 0 inner)))) ≡ turn s p (count_of inner) (Some x) value ++ flat inner
flat-one_turn s p x value inner =
    let bind : Single = bind_form s p s.depth x 0 inner in
    let one : ExpandedNode = node (Form Let) p 2 in
    let bound : ExpandedNode = node (Form (bind_kind s s.depth x 0)) p (count_of inner) in
    ap (λ ns. one ∷ ns) (append-nil (flat (both value bind))) ∙ ap (λ ns. one ∷ (flat_one value ++ (bound ∷ ns))) (append-nil (flat inner))
    ∙ sym (ap (λ ns. one ∷ ns) (append_assoc (flat_one value) (bound ∷ []) (flat inner)))

-- one `let` of a variable, with the others in it
flat-turn : (s : Scope) (p x : ℕ) (o : Option ℕ) (xs ys : List ℕ) (value : Single) (beside : Data) (body : Expansion) → o ≡ Some x → xs ≡ x ∷ ys → bound_in beside ≡ Some ys
    → flat (nested (opened_by s x) p ys (turns_in (opened_by s x) beside) body) ≡ turn_nodes (opened_by s x) p (count_of body) beside ++ flat body
    → flat (nested s p xs (in_front value (turns_in (behind_variable s o) beside)) body)
    ≡ (turn s p (turn_parts beside (count_of body)) o value ++ turn_nodes (behind_variable s o) p (count_of body) beside) ++ flat body
flat-turn s p x o xs ys value beside body h is bound inner =
    let n : ℕ = count_of body in
    let t : Scope = opened_by s x in
    let under : Expansion = nested t p ys (turns_in t beside) body in
    let one : List ExpandedNode = turn s p (turn_parts beside n) (Some x) value in
    ap (λ zs. flat (nested s p zs (in_front value (turns_in (behind_variable s o) beside)) body)) is
    ∙ ap (λ v. flat (nested s p (x ∷ ys) (in_front value (turns_in (behind_variable s v) beside)) body)) h
    ∙ flat-one_turn s p x value under
    ∙ ap (λ m. turn s p m (Some x) value ++ flat under) (count-nested t p ys (turns_in t beside) body beside bound)
    ∙ ap (λ ns. one ++ ns) inner ∙ sym (append_assoc one (turn_nodes t p n beside) (flat body))
    ∙ sym (ap (λ v. (turn s p (turn_parts beside n) v value ++ turn_nodes (behind_variable s v) p n beside) ++ flat body) h)

-- all of them, written flat
flat-nested : (s : Scope) (p : ℕ) (xs : List ℕ) (d : Data) (body : Expansion) → bound_in d ≡ Some xs
    → flat (nested s p xs (turns_in s d) body) ≡ turn_nodes s p (count_of body) d ++ flat body
flat-nested s p [] NoData body h = refl
flat-nested s p (x ∷ xs) NoData body h = cc
flat-nested s p xs (Atom l q beside) body h =
    let b : Split (leaf_symbol l) (bound_in beside) xs = split (leaf_symbol l) (bound_in beside) xs h in
    flat-turn s p b.x (leaf_symbol l) xs b.ys (nil_form q) beside body b.has_first b.all b.has_others (flat-nested (opened_by s b.x) p b.ys beside body b.has_others)
flat-nested s p xs (Listed q under beside) body h =
    let b : Split (bound_in_list under) (bound_in beside) xs = split (bound_in_list under) (bound_in beside) xs h in
    flat-turn s p b.x (bound_in_list under) xs b.ys (first q (by_roles s (From 1) 0 under)) beside body b.has_first b.all b.has_others
    (flat-nested (opened_by s b.x) p b.ys beside body b.has_others)

-- the bindings are those in the list that is the first
turns-items : (s : Scope) (args : Data) → turn_first s args ≡ turns_in s (items_first args)
turns-items s NoData = refl
turns-items s (Atom l p beside) = refl
turns-items s (Listed p under beside) = refl

-- where there is a variable, all have their shape
told : (o : Option (List ℕ)) (x : ℕ) (xs : List ℕ) → or_none o ≡ x ∷ xs → o ≡ Some (x ∷ xs)
told None x xs h = cc
told (Some ys) x xs h = ap Some h

bound-items : (args : Data) (x : ℕ) (xs : List ℕ) → let_variables args ≡ x ∷ xs → bound_in (items_first args) ≡ Some (x ∷ xs)
bound-items NoData x xs h = cc
bound-items (Atom l p beside) x xs h = cc
bound-items (Listed p under beside) x xs h = told (bound_in under) x xs h

bound-some : (args bindings : Data) (xs : List ℕ) → length xs ≢ 0 → xs ≡ let_variables args → bindings ≡ items_first args → bound_in bindings ≡ Some xs
bound-some args bindings [] some is first = absurd (some refl)
bound-some args bindings (x ∷ xs) some is first = ap bound_in first ∙ bound-items args x xs (sym is)

-- the first `let` has all others in it
flat-star : (s : Scope) (p : ℕ) (xs : List ℕ) (values body : Expansion) → length xs ≢ 0 → flat_one (let_star_of s p xs values body) ≡ flat (nested s p xs values body)
flat-star s p [] values body some = absurd (some refl)
flat-star s p (x ∷ xs) values body some = sym (append-nil (flat_one (let_star_of s p (x ∷ xs) values body)))

-- a `let*` with variables
pub let_star_of_some : (s : Scope) (o : Opened) (p k : ℕ) (args rest body bindings : Data) (xs : List ℕ) (old mid new : Option (List ExpandedNode))
    → length xs ≢ 0 → xs ≡ let_variables args → with_opened s o ≡ opened s xs → rest ≡ behind 1 args → body ≡ after_declarations s.names rest → k ≡ data_in body
    → bindings ≡ items_first args → (bound_in bindings ≡ Some xs → Wrote old mid (turn_nodes s p k bindings))
    → Wrote mid new (flat (forms_in (with_opened s o) body))
    → Wrote old new (flat_one (let_star_of s p (let_variables args) (turn_first s args) (body_in (opened s (let_variables args)) 1 args)))
let_star_of_some s o p k args rest body bindings xs old mid new some is opens behind begins few first turned h =
    let t : Scope = with_opened s o in
    let fs : Expansion = forms_in t body in
    let b : Expansion = body_in (opened s (let_variables args)) 1 args in
    let under : b ≡ fs = body-opened s o xs args rest body is opens behind begins in
    let bound : bound_in bindings ≡ Some xs = bound-some args bindings xs some is first in
    let values : turns_in s bindings ≡ turn_first s args = ap (turns_in s) first ∙ sym (turns-items s args) in
    let all : turn_nodes s p k bindings ++ flat fs ≡ flat_one (let_star_of s p (let_variables args) (turn_first s args) b) =
    ap (λ n. turn_nodes s p n bindings ++ flat fs) (few ∙ sym (count-forms t body)) ∙ sym (flat-nested s p xs bindings fs bound)
    ∙ ap (λ v. flat (nested s p xs v fs)) values ∙ ap (λ e. flat (nested s p xs (turn_first s args) e)) (sym under)
    ∙ sym (flat-star s p xs (turn_first s args) b some) ∙ ap (λ ys. flat_one (let_star_of s p ys (turn_first s args) b)) is in
    wrote_same old new (turn_nodes s p k bindings ++ flat fs) _ (wrote_both old mid new (turn_nodes s p k bindings) (flat fs) (turned bound) h) all

-- the others are no larger
pub smaller_others : (f : First) (d left : Data) → left ≡ with_first f d → size_of d ≤ size_of left
smaller_others (LeafFirst l p) d left h = omega (arith, ap size_of h)
smaller_others (ListFirst p under) d left h = omega (arith, ap size_of h)

-- the first binding and the others bind the first variable and the others
pub bound_next : (xs : List ℕ) (i x : ℕ) (left others : Data) (first : First) → i < length xs → x ≡ get_or xs i x → left ≡ with_first first others
    → bound_in left ≡ Some (drop i xs) → Split (bound_by first) (bound_in others) (x ∷ drop (i + 1) xs)
bound_next xs i x left others first h is e bound =
    split (bound_by first) (bound_in others) (x ∷ drop (i + 1) xs)
    (sym (ap bound_in e ∙ bound-first first others) ∙ bound ∙ ap Some (next_of xs i x h is))

pub first_bound : (x : ℕ) (xs : List ℕ) (a : Option ℕ) (b : Option (List ℕ)) → Split a b (x ∷ xs) → a ≡ Some x
first_bound x xs a b h = let first : a ≡ Some h.x = h.has_first in let all : x ∷ xs ≡ h.x ∷ h.ys = h.all in cc

pub others_bound : (x : ℕ) (xs : List ℕ) (a : Option ℕ) (b : Option (List ℕ)) → Split a b (x ∷ xs) → b ≡ Some xs
others_bound x xs a b h = let rest : b ≡ Some h.ys = h.has_others in let all : x ∷ xs ≡ h.x ∷ h.ys = h.all in cc

-- one `let` more is written
pub turn_step : (u w : Scope) (p body parts x : ℕ) (kind : CoreKind) (first : First) (left others : Data) (old now a b new : Option (List ExpandedNode)) (all : List ExpandedNode)
    → left ≡ with_first first others → bound_by first ≡ Some x → w ≡ opened_by u x → kind ≡ bind_kind u u.depth x 0 → parts ≡ turn_parts others body
    → Wrote now a (node (Form Let) p 2 ∷ []) → Wrote a b (flat_one (bound_value u first)) → Wrote b new (node (Form kind) p parts ∷ [])
    → Writes old now (turn_nodes u p body left) all → Writes old new (turn_nodes w p body others) all
turn_step u w p body parts x kind first left others old now a b new all e bound opens same under begun valued pushed so_far =
    let value : Single = bound_value u first in
    let begin : List ExpandedNode = node (Form Let) p 2 ∷ [] in
    let bind : List ExpandedNode = node (Form kind) p parts ∷ [] in
    let last : List ExpandedNode = turn_nodes w p body others in
    let one : List ExpandedNode = (begin ++ flat_one value) ++ bind in
    let is : one ≡ turn u p (turn_parts others body) (bound_by first) value =
    append_assoc begin (flat_one value) bind
    ∙ ap (λ g. node (Form Let) p 2 ∷ (flat_one value ++ (node (Form g) p parts ∷ []))) same
    ∙ ap (λ n. turn u p n (Some x) value) under ∙ sym (ap (λ v. turn u p (turn_parts others body) v value) bound) in
    let behind : last ≡ turn_nodes (behind_variable u (bound_by first)) p body others =
    ap (λ t. turn_nodes t p body others) opens ∙ sym (ap (λ v. turn_nodes (behind_variable u v) p body others) bound) in
    writes_next old now new one (turn_nodes u p body left) last all so_far
    (wrote_both now b new (begin ++ flat_one value) bind (wrote_both now a b begin (flat_one value) begun valued) pushed)
    (ap (turn_nodes u p body) e ∙ nodes-first u p body first others
    ∙ ap (λ ns. ns ++ turn_nodes (behind_variable u (bound_by first)) p body others) (sym is) ∙ ap (λ ns. one ++ ns) (sym behind))

-- behind the last variable there is no binding
none-left : (d : Data) → bound_in d ≡ Some [] → d ≡ NoData
none-left NoData h = refl
none-left (Atom l p beside) h =
    let b : Split (leaf_symbol l) (bound_in beside) [] = split (leaf_symbol l) (bound_in beside) [] h in
    let none : [] ≡ b.x ∷ b.ys = b.all in cc
none-left (Listed p under beside) h =
    let b : Split (bound_in_list under) (bound_in beside) [] = split (bound_in_list under) (bound_in beside) [] h in
    let none : [] ≡ b.x ∷ b.ys = b.all in cc

pub turns_done : (u : Scope) (p body i : ℕ) (xs : List ℕ) (left : Data) (old now : Option (List ExpandedNode)) (all : List ExpandedNode) → length xs ≤ i → bound_in left ≡ Some (drop i xs)
    → Writes old now (turn_nodes u p body left) all → Wrote old now all
turns_done u p body i xs left old now all h bound so_far =
    writes_done old now (turn_nodes u p body left) all so_far (ap (λ d. turn_nodes u p body d) (none-left left (bound ∙ ap Some (drop_all i xs h))))
