-- What is written for rows of the table of forms, in several steps.
use Rattle.std.proofs.Common.{◌≡◌, ◌≢◌, ℕ, zero, suc, ◌+◌, ◌-◌, Option, List, [], ◌∷◌, ◌++◌, refl, ap, sym, ◌∙◌, arith, add-one, append_assoc, append-nil}
use Rattle.lisp_base.specs.Writing.{Wrote}
use Rattle.lisp_base.proofs.Writing.{Writes, wrote_both, wrote_same, wrote_none, writes_done, writes_next}
use Rattle.lisp_base.specs.Forest.{NoTrees, Tree, count_of, append}
use Rattle.lisp_program.specs.declared.form.CoreKind.{CoreKind}
use Rattle.lisp_program.specs.declared.form.CoreKind.TheVariants as k
use Rattle.lisp_program.specs.declared.function.Primitive.{Primitive}
use Rattle.lisp_data.specs.declared.items.First.{First}
use Rattle.lisp_data.specs.declared.items.First.TheVariants.{Leaf as LeafFirst, List as ListFirst}
use Rattle.lisp_data.specs.Data.{Data, NoData, Atom, Listed, behind, count_of as data_in}
use Rattle.lisp_data.specs.First.{with_first}
use Rattle.form_shapes.specs.declared.expanded.Expanded.TheVariants.{Form}
use Rattle.form_shapes.specs.declared.expanded.ExpandedNode.{ExpandedNode}
use Rattle.form_shapes.specs.declared.keywords.Role.{Role}
use Rattle.form_shapes.specs.declared.keywords.Role.TheVariants.{Value, Seat, Skipped}
use Rattle.form_shapes.specs.declared.keywords.Roles.{Roles}
use Rattle.form_shapes.specs.declared.scope.Target.{Target}
use Rattle.form_shapes.specs.Bindings.{after_declarations}
use Rattle.form_shapes.specs.Keywords.{role_at}
use Rattle.form_shapes.specs.inside.One.{let_variables}
use Rattle.form_shapes.specs.Scopes.{Scope, deeper, set_kind, with_open}
use Rattle.form_shapes.specs.Shapes.{shape_of}
use Rattle.form_shapes.specs.inside.Sizes.{size_of}
use Rattle.lisp_forms.specs.Expansion.{body_in, by_roles, conds_in, forms_in, listed, ors_in, parts_in, with_role}
use Rattle.lisp_forms.specs.inside.Flat.{flat, flat_one, node, repeated}
use Rattle.lisp_forms.specs.inside.Firsts.{first_form, first_seated}
use Rattle.lisp_forms.specs.Rows
use Rattle.lisp_forms.specs.Rows.{list_form}
use Rattle.lisp_forms.specs.Trees.{Expansion, Single, first, form, in_front, nil_form, only, others, progn_form, both}
use Rattle.lisp_forms.specs.inside.Written.{and_front, clause_nodes, either_nodes}
use Rattle.lisp_forms.proofs.Parts.{body-forms, count-forms, count-append, flat-append, forms-first, last_step, others-forms, two_steps}

-- the size of a first datum with others
pub size_of-with_first : (f : First) (d : Data) → size_of (with_first f d) ≡ size_of (with_first f NoData) + size_of d
size_of-with_first (LeafFirst l p) d = omega arith
size_of-with_first (ListFirst p under) d = omega arith

-- one more datum
pub data-with_first : (f : First) (d : Data) → data_in (with_first f d) ≡ suc (data_in d)
data-with_first (LeafFirst l p) d = refl
data-with_first (ListFirst p under) d = refl

-- a form, and those under it
pub over : (kind : CoreKind) (p n : ℕ) (fs : Expansion) (old mid new : List ExpandedNode)
    → n ≡ count_of fs → mid ≡ old ++ node (Form kind) p n ∷ [] → new ≡ mid ++ flat fs → new ≡ old ++ flat_one (form kind p fs)
over kind p n fs old mid new many begun h =
    last_step old mid new (node (Form kind) p n ∷ []) (flat fs) (flat_one (form kind p fs)) begun (ap (λ m. node (Form kind) p m ∷ flat fs) many) h

-- the same with NIL behind them
pub over_nil : (kind : CoreKind) (p n : ℕ) (fs : Expansion) (old mid mid2 new : List ExpandedNode)
    → n ≡ count_of fs → mid ≡ old ++ node (Form kind) p (n + 1) ∷ [] → mid2 ≡ mid ++ flat fs → new ≡ mid2 ++ flat_one (nil_form p)
    → new ≡ old ++ flat_one (form kind p (append fs (only (nil_form p))))
over_nil kind p n fs old mid mid2 new many begun forms h =
    let begin : List ExpandedNode = node (Form kind) p (n + 1) ∷ [] in
    let count : count_of (append fs (only (nil_form p))) ≡ n + 1 = count-append fs (only (nil_form p)) ∙ omega (arith, many) in
    let all : (begin ++ flat fs) ++ flat_one (nil_form p) ≡ flat_one (form kind p (append fs (only (nil_form p)))) =
    ap (λ ns. node (Form kind) p (n + 1) ∷ ns) (sym (flat-append fs (only (nil_form p)))) ∙ ap (λ m. node (Form kind) p m ∷ flat (append fs (only (nil_form p)))) (sym count) in
    last_step old mid2 new (begin ++ flat fs) (flat_one (nil_form p)) _ (two_steps old mid mid2 begin (flat fs) begun forms) all h

-- an `if` of three forms
pub if_steps : (p : ℕ) (a b c : Single) (old m1 m2 m3 new : List ExpandedNode)
    → m1 ≡ old ++ node (Form k.If) p 3 ∷ [] → m2 ≡ m1 ++ flat_one a → m3 ≡ m2 ++ flat_one b → new ≡ m3 ++ flat_one c
    → new ≡ old ++ flat_one (Rows.if_form p a b c)
if_steps p a b c old m1 m2 m3 new e1 e2 e3 h =
    let n : List ExpandedNode = node (Form k.If) p 3 ∷ [] in
    let written : m3 ≡ old ++ ((n ++ flat_one a) ++ flat_one b) =
    two_steps old m2 m3 (n ++ flat_one a) (flat_one b) (two_steps old m1 m2 n (flat_one a) e1 e2) e3 in
    last_step old m3 new ((n ++ flat_one a) ++ flat_one b) (flat_one c) _ written (rw (append_assoc, append-nil) refl) h

-- a `when`
pub when_steps : (s : Scope) (p : ℕ) (args body : Data) (old m1 m2 m3 new : List ExpandedNode)
    → body ≡ behind 1 args → m1 ≡ old ++ node (Form k.If) p 3 ∷ [] → m2 ≡ m1 ++ flat_one (first p (forms_in s args))
    → m3 ≡ m2 ++ flat_one (progn_form p (forms_in s body)) → new ≡ m3 ++ flat_one (nil_form p)
    → new ≡ old ++ flat_one (Rows.if_form p (first p (forms_in s args)) (progn_form p (others (forms_in s args))) (nil_form p))
when_steps s p args body old m1 m2 m3 new is e1 e2 e3 h =
    let same : progn_form p (forms_in s body) ≡ progn_form p (others (forms_in s args)) =
    ap (progn_form p) (ap (forms_in s) is ∙ sym (others-forms s args)) in
    if_steps p (first p (forms_in s args)) (progn_form p (others (forms_in s args))) (nil_form p) old m1 m2 m3 new e1 e2 (e3 ∙ ap (λ t. m2 ++ flat_one t) same) h

-- an answer of what is the same
on_same : (new mid x y : List ExpandedNode) → x ≡ y → new ≡ mid ++ x → new ≡ mid ++ y
on_same new mid x y e h = h ∙ ap (λ ns. mid ++ ns) e

-- an `unless`
pub unless_steps : (s : Scope) (p : ℕ) (args body : Data) (old m1 m2 m3 new : List ExpandedNode)
    → body ≡ behind 1 args → m1 ≡ old ++ node (Form k.If) p 3 ∷ [] → m2 ≡ m1 ++ flat_one (first p (forms_in s args))
    → m3 ≡ m2 ++ flat_one (nil_form p) → new ≡ m3 ++ flat_one (progn_form p (forms_in s body))
    → new ≡ old ++ flat_one (Rows.if_form p (first p (forms_in s args)) (nil_form p) (progn_form p (others (forms_in s args))))
unless_steps s p args body old m1 m2 m3 new is e1 e2 e3 h =
    let same : progn_form p (forms_in s body) ≡ progn_form p (others (forms_in s args)) =
    ap (progn_form p) (ap (forms_in s) is ∙ sym (others-forms s args)) in
    if_steps p (first p (forms_in s args)) (nil_form p) (progn_form p (others (forms_in s args))) old m1 m2 m3 new e1 e2 e3
    (on_same new m3 (flat_one (progn_form p (forms_in s body))) (flat_one (progn_form p (others (forms_in s args)))) (ap flat_one same) h)

-- what `or` and `cond` have in common, written flat
pub flat-either : (x p : ℕ) (a rest : Single) → flat_one (Rows.either x p a rest) ≡ either_nodes x p a ++ flat_one rest
flat-either x p a rest =
    let f : List ExpandedNode = flat_one rest in
    let tail : List ExpandedNode = node (Form (k.BindLocal x 0)) p 1 ∷ (node (Form k.If) p 3 ∷ (node (Form (k.Local x)) p 0 ∷ (node (Form (k.Local x)) p 0 ∷ []))) in
    ap (λ ns. node (Form k.Let) p 2 ∷ (flat_one a ++ (node (Form (k.BindLocal x 0)) p 1 ∷ (node (Form k.If) p 3 ∷ (node (Form (k.Local x)) p 0 ∷ (node (Form (k.Local x)) p 0 ∷ ns))))))
    (append-nil ((f ++ []) ++ []) ∙ append-nil (f ++ []) ∙ append-nil f)
    ∙ ap (λ ns. node (Form k.Let) p 2 ∷ ns) (sym (append_assoc (flat_one a) tail f))

-- an `or` of a first and others, written flat
flat-or : (s : Scope) (p : ℕ) (f : First) (d : Data) → data_in d ≢ 0
    → flat_one (ors_in s p (with_first f d)) ≡ either_nodes s.depth p (first_form s f) ++ flat_one (ors_in (deeper s) p d)
flat-or s p f NoData some = absurd (some refl)
flat-or s p (LeafFirst l q) (Atom l2 q2 beside) some = flat-either s.depth p (first_form s (LeafFirst l q)) (ors_in (deeper s) p (Atom l2 q2 beside))
flat-or s p (ListFirst q under) (Atom l2 q2 beside) some = flat-either s.depth p (first_form s (ListFirst q under)) (ors_in (deeper s) p (Atom l2 q2 beside))
flat-or s p (LeafFirst l q) (Listed q2 under2 beside) some = flat-either s.depth p (first_form s (LeafFirst l q)) (ors_in (deeper s) p (Listed q2 under2 beside))
flat-or s p (ListFirst q under) (Listed q2 under2 beside) some = flat-either s.depth p (first_form s (ListFirst q under)) (ors_in (deeper s) p (Listed q2 under2 beside))

-- one more form of an `or` is written
pub or_step : (s : Scope) (p n : ℕ) (f : First) (left others : Data) (old now new : Option (List ExpandedNode)) (all : List ExpandedNode) → left ≡ with_first f others → data_in others ≢ 0
    → Writes old now (flat_one (ors_in s p left)) all → Wrote now new (either_nodes s.depth p (first_form s f)) → n ≡ s.depth + 1
    → Writes old new (flat_one (ors_in (with_open s s.levels n) p others)) all
or_step s p n f left others old now new all e some so_far written deep =
    let one : List ExpandedNode = either_nodes s.depth p (first_form s f) in
    writes_next old now new one (flat_one (ors_in s p left)) (flat_one (ors_in (with_open s s.levels n) p others)) all so_far written
    (ap (λ d. flat_one (ors_in s p d)) e ∙ flat-or s p f others some ∙ ap (λ m. one ++ flat_one (ors_in (with_open s s.levels m) p others)) (sym (deep ∙ add-one s.depth)))

-- a clause of `cond` that is just a test, written flat
flat-test : (s : Scope) (p : ℕ) (fs : Expansion) (rest : Scope → Single) → count_of fs ≡ 1
    → flat_one (Rows.clause_of_cond s p fs rest) ≡ clause_nodes s.depth p fs ++ flat_one (rest (deeper s))
flat-test s p NoTrees rest one = absurd (omega arith)
flat-test s p (Tree kind q under NoTrees) rest one = flat-either s.depth p _ (rest (deeper s))
flat-test s p (Tree kind q under (Tree kind' q' under' beside)) rest one = absurd (omega arith)

-- one more such clause is written
pub test_step : (s : Scope) (p q n : ℕ) (f : First) (under left others : Data) (old now new : Option (List ExpandedNode)) (all : List ExpandedNode) → left ≡ with_first f others → f ≡ ListFirst q under
    → data_in under ≡ 1 → Writes old now (flat_one (conds_in s p left)) all → Wrote now new (clause_nodes s.depth p (forms_in s under)) → n ≡ s.depth + 1
    → Writes old new (flat_one (conds_in (with_open s s.levels n) p others)) all
test_step s p q n f under left others old now new all e is one so_far written deep =
    let here : left ≡ Listed q under others = e ∙ ap (λ g. with_first g others) is in
    let one_form : count_of (forms_in s under) ≡ 1 = count-forms s under ∙ one in
    let clause : List ExpandedNode = clause_nodes s.depth p (forms_in s under) in
    writes_next old now new clause (flat_one (conds_in s p left)) (flat_one (conds_in (with_open s s.levels n) p others)) all so_far written
    (ap (λ d. flat_one (conds_in s p d)) here ∙ flat-test s p (forms_in s under) (λ inner. conds_in inner p others) one_form
    ∙ ap (λ m. clause ++ flat_one (conds_in (with_open s s.levels m) p others)) (sym (deep ∙ add-one s.depth)))

-- a clause of a test and a body, written flat
flat-clause : (x p : ℕ) (a : Single) (fs : Expansion) → count_of fs ≢ 0
    → clause_nodes x p (in_front a fs) ≡ node (Form k.If) p 3 ∷ (flat_one a ++ flat_one (progn_form p fs))
flat-clause x p a NoTrees some = absurd (some refl)
flat-clause x p a (Tree kind q under beside) some = refl

-- a clause that is no test alone, with the clauses behind it
flat-other : (s : Scope) (p : ℕ) (fs : Expansion) (rest : Scope → Single) → count_of fs ≢ 1
    → flat_one (Rows.clause_of_cond s p fs rest) ≡ clause_nodes s.depth p fs ++ flat_one (rest s)
flat-other s p NoTrees rest more = refl
flat-other s p (Tree kind q under NoTrees) rest more = absurd (more refl)
flat-other s p (Tree kind q under (Tree kind' q' under' beside)) rest more =
    let a : Single = record { kind = kind; place = q; under = under } in
    let b : List ExpandedNode = flat_one (progn_form p (Tree kind' q' under' beside)) in
    ap (λ ns. node (Form k.If) p 3 ∷ (flat_one a ++ (b ++ ns))) (append-nil (flat_one (rest s))) ∙ ap (λ ns. node (Form k.If) p 3 ∷ ns) (sym (append_assoc (flat_one a) b (flat_one (rest s))))

-- one more clause is written
pub clause_step : (s : Scope) (p q : ℕ) (f : First) (under left others : Data) (old now new : Option (List ExpandedNode)) (all : List ExpandedNode) → left ≡ with_first f others → f ≡ ListFirst q under
    → data_in under ≢ 1 → Writes old now (flat_one (conds_in s p left)) all → Wrote now new (clause_nodes s.depth p (forms_in s under))
    → Writes old new (flat_one (conds_in s p others)) all
clause_step s p q f under left others old now new all e is more so_far written =
    let here : left ≡ Listed q under others = e ∙ ap (λ g. with_first g others) is in
    writes_next old now new (clause_nodes s.depth p (forms_in s under)) (flat_one (conds_in s p left)) (flat_one (conds_in s p others)) all so_far written
    (ap (λ d. flat_one (conds_in s p d)) here
    ∙ flat-other s p (forms_in s under) (λ inner. conds_in inner p others) (λ one. more (sym (count-forms s under) ∙ one)))

-- it is written in three steps
pub clause_steps : (s : Scope) (x p : ℕ) (f : First) (under body : Data) (old m1 m2 new : List ExpandedNode)
    → under ≡ with_first f body → data_in body ≢ 0 → m1 ≡ old ++ node (Form k.If) p 3 ∷ [] → m2 ≡ m1 ++ flat_one (first_form s f)
    → new ≡ m2 ++ flat_one (progn_form p (forms_in s body)) → new ≡ old ++ clause_nodes x p (forms_in s under)
clause_steps s x p f under body old m1 m2 new e some e1 e2 h =
    let n : List ExpandedNode = node (Form k.If) p 3 ∷ [] in
    let many : count_of (forms_in s body) ≢ 0 = λ none. some (sym (count-forms s body) ∙ none) in
    let all : clause_nodes x p (forms_in s under) ≡ node (Form k.If) p 3 ∷ (flat_one (first_form s f) ++ flat_one (progn_form p (forms_in s body))) =
    ap (clause_nodes x p) (ap (forms_in s) e ∙ forms-first s f body) ∙ flat-clause x p (first_form s f) (forms_in s body) many in
    last_step old m2 new (n ++ flat_one (first_form s f)) (flat_one (progn_form p (forms_in s body))) _ (two_steps old m1 m2 n _ e1 e2) (sym all) h

-- one node more at the end
repeated-end : (n : ℕ) (x : ExpandedNode) → repeated n x ++ (x ∷ []) ≡ x ∷ repeated n x
repeated-end zero x = refl
repeated-end (suc n) x = ap (λ ys. x ∷ ys) (repeated-end n x)

-- the node of NIL
abbrev nil_node : ℕ → ExpandedNode
nil_node p = node (Form (k.Constant Rattle.lisp_base.specs.Value.nil)) p 0

-- an `and`, written flat
flat-and : (p n : ℕ) (fs : Expansion) → count_of fs ≡ suc n → flat_one (Rows.and_of p fs) ≡ and_front p fs ++ repeated n (nil_node p)
flat-and p n NoTrees many = absurd (omega arith)
flat-and p zero (Tree kind q under NoTrees) many = sym (append-nil (flat_one (record { kind = kind; place = q; under = under })))
flat-and p (suc n) (Tree kind q under NoTrees) many = absurd (omega (arith, many))
flat-and p zero (Tree kind q under (Tree kind' q' under' beside)) many = absurd (omega (arith, many))
flat-and p (suc n) (Tree kind q under (Tree kind' q' under' beside)) many =
    let rest : Expansion = Tree kind' q' under' beside in
    let a : Single = record { kind = kind; place = q; under = under } in
    let inner : flat_one (Rows.and_of p rest) ≡ and_front p rest ++ repeated n (nil_node p) = flat-and p n rest (omega (arith, many)) in
    let nils : repeated n (nil_node p) ++ (nil_node p ∷ []) ≡ nil_node p ∷ repeated n (nil_node p) = repeated-end n (nil_node p) in
    ap (λ ns. node (Form k.If) p 3 ∷ (flat_one a ++ (ns ++ (nil_node p ∷ [])))) inner
    ∙ ap (λ ns. node (Form k.If) p 3 ∷ (flat_one a ++ ns)) (append_assoc (and_front p rest) (repeated n (nil_node p)) (nil_node p ∷ []) ∙ ap (λ ns. and_front p rest ++ ns) nils)
    ∙ ap (λ ns. node (Form k.If) p 3 ∷ ns) (sym (append_assoc (flat_one a) (and_front p rest) (nil_node p ∷ repeated n (nil_node p))))

-- the constants at its end are written
pub and_end : (s : Scope) (p c n : ℕ) (args left : Data) (old now new : Option (List ExpandedNode)) → c ≡ data_in args → c ≢ 0
    → n ≡ c - 1 → left ≡ NoData → Writes old now (and_front p (forms_in s left)) (and_front p (forms_in s args))
    → Wrote now new (repeated n (nil_node p)) → Wrote old new (flat_one (Rows.and_of p (forms_in s args)))
and_end s p c n args left old now new many some less none so_far h =
    let count : count_of (forms_in s args) ≡ suc n = count-forms s args ∙ omega (arith, many, some, less) in
    let front : List ExpandedNode = and_front p (forms_in s args) in
    wrote_same old new (front ++ repeated n (nil_node p)) _
    (wrote_both old now new front (repeated n (nil_node p)) (writes_done old now (and_front p (forms_in s left)) front so_far (ap (λ d. and_front p (forms_in s d)) none)) h)
    (sym (flat-and p n (forms_in s args) count))

-- a `prog1`
pub prog1_steps : (s : Scope) (x p n c : ℕ) (args rest body : Data) (old m1 m2 m3 m4 new : List ExpandedNode)
    → n ≡ s.depth + 1 → rest ≡ behind 1 args → body ≡ after_declarations s.names rest → c ≡ data_in body → m1 ≡ old ++ node (Form k.Let) p 2 ∷ []
    → m2 ≡ m1 ++ flat_one (first p (forms_in s args)) → m3 ≡ m2 ++ node (Form (k.BindLocal x 0)) p (c + 1) ∷ []
    → m4 ≡ m3 ++ flat (forms_in (with_open s s.levels n) body) → new ≡ m4 ++ flat_one (Rows.local x p)
    → new ≡ old ++ flat_one (Rows.hidden_let x p (first p (forms_in s args)) (append (body_in (deeper s) 1 args) (only (Rows.local x p))))
prog1_steps s x p n c args rest body old m1 m2 m3 m4 new deep behind_it is many e1 e2 e3 e4 h =
    let a : Single = first p (forms_in s args) in
    let fs : Expansion = forms_in (deeper s) body in
    let same : body_in (deeper s) 1 args ≡ fs = body-forms (deeper s) 1 args ∙ ap (forms_in (deeper s)) (sym (is ∙ ap (after_declarations s.names) behind_it)) in
    let e5 : m4 ≡ m3 ++ flat fs = e4 ∙ ap (λ d. m3 ++ flat (forms_in (with_open s s.levels d) body)) (deep ∙ add-one s.depth) in
    let count : count_of (append fs (only (Rows.local x p))) ≡ c + 1 = count-append fs (only (Rows.local x p)) ∙ omega (arith, count-forms (deeper s) body, many) in
    let n1 : List ExpandedNode = node (Form k.Let) p 2 ∷ [] in
    let n2 : List ExpandedNode = node (Form (k.BindLocal x 0)) p (c + 1) ∷ [] in
    let written : m4 ≡ old ++ (((n1 ++ flat_one a) ++ n2) ++ flat fs) =
    two_steps old m3 m4 ((n1 ++ flat_one a) ++ n2) (flat fs) (two_steps old m2 m3 (n1 ++ flat_one a) n2 (two_steps old m1 m2 n1 (flat_one a) e1 e2) e3) e5 in
    let l : List ExpandedNode = flat_one (Rows.local x p) in
    let j : Expansion = append fs (only (Rows.local x p)) in
    let all : (((n1 ++ flat_one a) ++ n2) ++ flat fs) ++ l ≡ flat_one (Rows.hidden_let x p a (append fs (only (Rows.local x p)))) =
    append_assoc ((n1 ++ flat_one a) ++ n2) (flat fs) l ∙ append_assoc (n1 ++ flat_one a) n2 (flat fs ++ l)
    ∙ ap (λ ns. node (Form k.Let) p 2 ∷ (flat_one a ++ (node (Form (k.BindLocal x 0)) p (c + 1) ∷ ns))) (sym (append-nil (flat j) ∙ flat-append fs (only (Rows.local x p))))
    ∙ ap (λ m. node (Form k.Let) p 2 ∷ (flat_one a ++ (node (Form (k.BindLocal x 0)) p m ∷ (flat j ++ [])))) (sym count) in
    last_step old m4 new (((n1 ++ flat_one a) ++ n2) ++ flat fs) (flat_one (Rows.local x p)) _ written (all ∙ ap (λ b. flat_one (Rows.hidden_let x p a (append b (only (Rows.local x p))))) (sym same)) h

-- how much is changed, where it is written
amount-behind : (s : Scope) (p : ℕ) (f : First) (args rest more : Data) → rest ≡ behind 1 args → rest ≡ with_first f more
    → Rows.amount p (others (forms_in s args)) ≡ first_form s f
amount-behind s p f args rest more is e = ap (Rows.amount p) (others-forms s args ∙ ap (forms_in s) (sym is ∙ e) ∙ forms-first s f more)

-- an `incf` or `decf`
pub change_steps : (s : Scope) (p : ℕ) (target : Target) (g : Primitive) (sets : CoreKind) (f : First) (args rest more : Data)
    (old m1 m2 m3 new : List ExpandedNode) → rest ≡ behind 1 args → rest ≡ with_first f more → sets ≡ set_kind target
    → m1 ≡ old ++ node (Form sets) p 1 ∷ [] → m2 ≡ m1 ++ node (Form (k.Apply g)) p 2 ∷ [] → m3 ≡ m2 ++ flat_one (first p (forms_in s args))
    → new ≡ m3 ++ flat_one (first_form s f) → new ≡ old ++ flat_one (form (set_kind target) p (only (form (k.Apply g) p (both (first p (forms_in s args)) (Rows.amount p (others (forms_in s args)))))))
change_steps s p target g sets f args rest more old m1 m2 m3 new is e set e1 e2 e3 h =
    let n1 : List ExpandedNode = node (Form sets) p 1 ∷ [] in
    let n2 : List ExpandedNode = node (Form (k.Apply g)) p 2 ∷ [] in
    let n3 : List ExpandedNode = flat_one (first p (forms_in s args)) in
    let written : m3 ≡ old ++ ((n1 ++ n2) ++ n3) = two_steps old m2 m3 (n1 ++ n2) n3 (two_steps old m1 m2 n1 n2 e1 e2) e3 in
    let am : Single = Rows.amount p (others (forms_in s args)) in
    let last : flat_one (first_form s f) ≡ flat_one am ++ [] =
    ap flat_one (sym (amount-behind s p f args rest more is e)) ∙ sym (append-nil (flat_one am)) in
    let under : n3 ++ flat_one (first_form s f) ≡ (n3 ++ (flat_one am ++ [])) ++ [] =
    ap (λ ns. n3 ++ ns) last ∙ sym (append-nil (n3 ++ (flat_one am ++ []))) in
    let all : ((n1 ++ n2) ++ n3) ++ flat_one (first_form s f) ≡ flat_one (form (set_kind target) p (only (form (k.Apply g) p (both (first p (forms_in s args)) (Rows.amount p (others (forms_in s args))))))) =
    ap (λ m. node (Form m) p 1 ∷ (node (Form (k.Apply g)) p 2 ∷ (n3 ++ flat_one (first_form s f)))) set
    ∙ ap (λ ns. node (Form (set_kind target)) p 1 ∷ (node (Form (k.Apply g)) p 2 ∷ ns)) under in
    last_step old m3 new ((n1 ++ n2) ++ n3) (flat_one (first_form s f)) _ written all h

-- one node more, in front or behind
repeated-next : (n : ℕ) (x : ExpandedNode) (xs : List ExpandedNode) → repeated n x ++ (x ∷ xs) ≡ x ∷ (repeated n x ++ xs)
repeated-next zero x xs = refl
repeated-next (suc n) x xs = ap (λ ys. x ∷ ys) (repeated-next n x xs)

-- the node of a function of two
abbrev two : Primitive → ℕ → ExpandedNode
two g p = node (Form (k.Apply g)) p 2

-- folds are written in front of what they are of
flat-folded : (p : ℕ) (g : Primitive) (sum : Single) (fs : Expansion) → flat_one (Rows.folded p g sum fs) ≡ repeated (count_of fs) (two g p) ++ (flat_one sum ++ flat fs)
flat-folded p g sum NoTrees = sym (append-nil (flat_one sum))
flat-folded p g sum (Tree kind q under beside) =
    let x : Single = record { kind = kind; place = q; under = under } in
    flat-folded p g (form (k.Apply g) p (in_front sum (only x))) beside
    ∙ ap (λ ns. repeated (count_of beside) (two g p) ++ (two g p ∷ ns))
    (append_assoc (flat_one sum) (flat_one x ++ []) (flat beside) ∙ ap (λ ns. flat_one sum ++ (ns ++ flat beside)) (append-nil (flat_one x)))
    ∙ repeated-next (count_of beside) (two g p) (flat_one sum ++ flat (Tree kind q under beside))

-- a fold of several
flat-fold : (p n : ℕ) (g : Primitive) (fs : Expansion) → count_of fs ≡ suc (suc n) → flat_one (Rows.fold_of p g fs) ≡ repeated (suc n) (two g p) ++ flat fs
flat-fold p n g NoTrees many = absurd (omega arith)
flat-fold p n g (Tree kind q under NoTrees) many = absurd (omega arith)
flat-fold p n g (Tree kind q under (Tree kind' q' under' beside)) many =
    let left : count_of (Tree kind' q' under' beside) ≡ suc n = omega (arith, many) in
    flat-folded p g (record { kind = kind; place = q; under = under }) (Tree kind' q' under' beside)
    ∙ ap (λ m. repeated m (two g p) ++ (flat_one (record { kind = kind; place = q; under = under }) ++ flat (Tree kind' q' under' beside))) left

pub fold_steps : (s : Scope) (p c : ℕ) (g : Primitive) (args : Data) (old mid new : List ExpandedNode) → c ≡ data_in args → c ≢ 0 → c ≢ 1
    → mid ≡ old ++ repeated (c - 1) (two g p) → new ≡ mid ++ flat (forms_in s args) → new ≡ old ++ flat_one (Rows.fold_of p g (forms_in s args))
fold_steps s p zero g args old mid new many some more e h = absurd (some refl)
fold_steps s p (suc zero) g args old mid new many some more e h = absurd (more refl)
fold_steps s p (suc (suc n)) g args old mid new many some more e h =
    let less : suc (suc n) - 1 ≡ suc n = omega arith in
    last_step old mid new (repeated (suc n) (two g p)) (flat (forms_in s args)) _ (e ∙ ap (λ m. old ++ repeated m (two g p)) less) (sym (flat-fold p n g (forms_in s args) (count-forms s args ∙ sym many))) h

-- a list is of its shape
pub listed-shape : (s : Scope) (p : ℕ) (under : Data) → listed s p under ≡ list_form s p (shape_of s p under) (let_variables (behind 1 under)) (parts_in s p (behind 1 under))
listed-shape s p NoData = refl
listed-shape s p (Atom l q args) = refl
listed-shape s p (Listed q items args) = refl

-- one more of those with roles is written
roles-first : (s : Scope) (roles : Roles) (i : ℕ) (f : First) (d : Data)
    → by_roles s roles i (with_first f d) ≡ with_role (role_at roles i) (first_form s f) (first_seated s f) (by_roles s roles (suc i) d)
roles-first s roles i (LeafFirst l p) d = refl
roles-first s roles i (ListFirst p under) d = refl

-- what one with a role writes
abbrev pub role_nodes : Role → Single → Single → List ExpandedNode
role_nodes Value a b = flat_one a
role_nodes Seat a b = flat_one b
role_nodes Skipped a b = []

flat-role : (r : Role) (a b : Single) (fs : Expansion) → flat (with_role r a b fs) ≡ role_nodes r a b ++ flat fs
flat-role Value a b fs = refl
flat-role Seat a b fs = refl
flat-role Skipped a b fs = refl

pub role_step : (s : Scope) (roles : Roles) (i : ℕ) (r : Role) (f : First) (left others : Data) (old now new : Option (List ExpandedNode)) (all : List ExpandedNode) → left ≡ with_first f others
    → r ≡ role_at roles i → Writes old now (flat (by_roles s roles i left)) all → Wrote now new (role_nodes r (first_form s f) (first_seated s f))
    → Writes old new (flat (by_roles s roles (i + 1) others)) all
role_step s roles i r f left others old now new all e is so_far written =
    let a : Single = first_form s f in
    let b : Single = first_seated s f in
    let here : flat (by_roles s roles i left) ≡ role_nodes r a b ++ flat (by_roles s roles (suc i) others) =
    ap (λ d. flat (by_roles s roles i d)) e ∙ ap flat (roles-first s roles i f others) ∙ flat-role (role_at roles i) a b (by_roles s roles (suc i) others)
    ∙ ap (λ q. role_nodes q a b ++ flat (by_roles s roles (suc i) others)) (sym is) in
    writes_next old now new (role_nodes r a b) (flat (by_roles s roles i left)) (flat (by_roles s roles (i + 1) others)) all so_far written
    (here ∙ ap (λ m. role_nodes r a b ++ flat (by_roles s roles m others)) (sym (add-one i)))

-- nothing is written for one that is skipped
pub nothing_written : (r : Role) (a b : Single) (now : Option (List ExpandedNode)) → r ≡ Skipped → Wrote now now (role_nodes r a b)
nothing_written r a b now is = wrote_same now now [] (role_nodes r a b) (wrote_none now) (sym (ap (λ q. role_nodes q a b) is))

-- a value, and what stands in a function's seat
pub value_written : (r : Role) (a b : Single) (now new : Option (List ExpandedNode)) → r ≡ Value → Wrote now new (flat_one a) → Wrote now new (role_nodes r a b)
value_written r a b now new is written = wrote_same now new (flat_one a) (role_nodes r a b) written (sym (ap (λ q. role_nodes q a b) is))

pub seat_written : (r : Role) (a b : Single) (now new : Option (List ExpandedNode)) → r ≡ Seat → Wrote now new (flat_one b) → Wrote now new (role_nodes r a b)
seat_written r a b now new is written = wrote_same now new (flat_one b) (role_nodes r a b) written (sym (ap (λ q. role_nodes q a b) is))
