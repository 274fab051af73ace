-- Forms with bodies, written in several steps.
use Rattle.std.proofs.Common.{◌≡◌, ℕ, suc, ◌+◌, List, [], ◌∷◌, ◌++◌, Bool, true, false, true≢false, if◌then◌else◌, Option, Some, None, unwrap_or, refl, ap, subst, sym, ◌∙◌, append-nil, add-one}
use Rattle.lisp_base.specs.Forest.{count_of, append}
use Rattle.lisp_base.specs.declared.condition.Class.{Class}
use Rattle.lisp_base.specs.declared.condition.Class.TheVariants.{Condition}
use Rattle.lisp_program.specs.declared.form.CoreKind.{CoreKind}
use Rattle.lisp_program.specs.declared.form.CoreKind.TheVariants as k
use Rattle.lisp_data.specs.declared.items.First.{First}
use Rattle.lisp_data.specs.declared.items.First.TheVariants.{Leaf as LeafFirst, List as ListFirst}
use Rattle.lisp_data.specs.Data.{Data, behind, count_of as data_in}
use Rattle.lisp_data.specs.First.{with_first}
use Rattle.form_shapes.specs.declared.expanded.Expanded.TheVariants.{Form}
use Rattle.form_shapes.specs.declared.expanded.ExpandedNode.{ExpandedNode}
use Rattle.form_shapes.specs.declared.keywords.Roles.{Roles}
use Rattle.form_shapes.specs.declared.levels.Level.TheVariants.{Variable}
use Rattle.form_shapes.specs.Bindings.{after_declarations, received_by}
use Rattle.form_shapes.specs.Clauses.{class_of, clause_variable}
use Rattle.form_shapes.specs.Keywords.{part_count}
use Rattle.form_shapes.specs.inside.One.{is_list, items_first, symbol_by}
use Rattle.form_shapes.specs.Scopes.{Scope, deeper, has, inside}
use Rattle.lisp_forms.specs.Expansion.{body_in, by_roles, clause_in, forms_in, in_clause, or_condition, within_first}
use Rattle.lisp_forms.specs.inside.Flat.{flat, flat_one, node}
use Rattle.lisp_forms.specs.Rows.{clause_form, local}
use Rattle.lisp_forms.specs.Trees.{Expansion, Single, both, form, in_front, only, three}
use Rattle.lisp_forms.proofs.Parts.{body-forms, count-forms, count-append, count-roles, flat-append, last_step, two_steps, within-items}

-- what is written in three steps
pub three_steps : (old a b new x y z : List ExpandedNode) → a ≡ old ++ x → b ≡ a ++ y → new ≡ b ++ z → new ≡ old ++ (x ++ (y ++ z))
three_steps old a b new x y z first second third = two_steps old a new x (y ++ z) first (two_steps a b new y z second third)

-- a form alone
pub flat-only : (a : Single) → flat (only a) ≡ flat_one a
flat-only a = ap (λ ns. node a.kind a.place (count_of a.under) ∷ ns) (append-nil (flat a.under))

-- a form of one, of two, and of three
pub one-of : (kind : CoreKind) (p : ℕ) (a : Single) (x : List ExpandedNode) → flat_one a ≡ x → flat_one (form kind p (only a)) ≡ node (Form kind) p 1 ∷ x
one-of kind p a x is = ap (λ ns. node (Form kind) p 1 ∷ ns) (flat-only a ∙ is)

pub two-of : (kind : CoreKind) (p : ℕ) (a b : Single) (x y : List ExpandedNode) → flat_one a ≡ x → flat_one b ≡ y
    → flat_one (form kind p (both a b)) ≡ node (Form kind) p 2 ∷ (x ++ y)
two-of kind p a b x y is is' =
    ap (λ ns. node (Form kind) p 2 ∷ (flat_one a ++ ns)) (flat-only b ∙ is') ∙ ap (λ ns. node (Form kind) p 2 ∷ (ns ++ y)) is

pub three-of : (kind : CoreKind) (p : ℕ) (a b d : Single) (x y z : List ExpandedNode) → flat_one a ≡ x → flat_one b ≡ y → flat_one d ≡ z
    → flat_one (form kind p (three a b d)) ≡ node (Form kind) p 3 ∷ (x ++ (y ++ z))
three-of kind p a b d x y z is is' is'' =
    ap (λ ns. node (Form kind) p 3 ∷ (flat_one a ++ (flat_one b ++ ns))) (flat-only d ∙ is'')
    ∙ ap (λ ns. node (Form kind) p 3 ∷ (flat_one a ++ (ns ++ z))) is' ∙ ap (λ ns. node (Form kind) p 3 ∷ (ns ++ (y ++ z))) is

-- a form, and then those under it
pub under_form : (kind : CoreKind) (p n : ℕ) (fs : Expansion) (old mid new : List ExpandedNode)
    → n ≡ count_of fs → mid ≡ old ++ node (Form kind) p n ∷ [] → new ≡ mid ++ flat fs → new ≡ old ++ flat_one (form kind p fs)
under_form kind p n fs old mid new many begun h =
    last_step old mid new (node (Form kind) p n ∷ []) (flat fs) (flat_one (form kind p fs)) begun (ap (λ m. node (Form kind) p m ∷ flat fs) many) h

-- the forms of a body
pub body-is : (s : Scope) (n : ℕ) (args left body : Data) → left ≡ behind n args → body ≡ after_declarations s.names left → forms_in s body ≡ body_in s n args
body-is s n args left body from is = ap (forms_in s) (is ∙ ap (after_declarations s.names) from) ∙ sym (body-forms s n args)

-- a form with a body
pub body_form : (s : Scope) (kind : CoreKind) (p n count : ℕ) (args left body : Data) (old mid new : List ExpandedNode)
    → left ≡ behind n args → body ≡ after_declarations s.names left → count ≡ data_in body → mid ≡ old ++ node (Form kind) p count ∷ []
    → new ≡ mid ++ flat (forms_in s body) → new ≡ old ++ flat_one (form kind p (body_in s n args))
body_form s kind p n count args left body old mid new from is many begun h =
    subst (λ fs. new ≡ old ++ flat_one (form kind p fs)) (body-is s n args left body from is)
    (under_form kind p count (forms_in s body) old mid new (many ∙ sym (count-forms s body)) begun h)

-- a form with one in front of a body
pub front_form : (s : Scope) (kind : CoreKind) (p n count : ℕ) (a : Single) (args left body : Data) (old one mid new : List ExpandedNode)
    → left ≡ behind n args → body ≡ after_declarations s.names left → count ≡ data_in body → one ≡ old ++ node (Form kind) p (count + 1) ∷ []
    → mid ≡ one ++ flat_one a → new ≡ mid ++ flat (forms_in s body) → new ≡ old ++ flat_one (form kind p (in_front a (body_in s n args)))
front_form s kind p n count a args left body old one mid new from is many begun first h =
    let all : count + 1 ≡ suc (count_of (forms_in s body)) = add-one count ∙ ap suc (many ∙ sym (count-forms s body)) in
    subst (λ fs. new ≡ old ++ flat_one (form kind p (in_front a fs))) (body-is s n args left body from is)
    (last_step old mid new ((node (Form kind) p (count + 1) ∷ []) ++ flat_one a) (flat (forms_in s body)) _ (two_steps old one mid (node (Form kind) p (count + 1) ∷ []) (flat_one a) begun first)
    (ap (λ m. node (Form kind) p m ∷ (flat_one a ++ flat (forms_in s body))) all) h)

-- a form with others in front of a body
pub append_form : (s : Scope) (kind : CoreKind) (roles : Roles) (p n parts count : ℕ) (args items left body : Data) (old one mid new : List ExpandedNode)
    → items ≡ items_first args → left ≡ behind n args → body ≡ after_declarations s.names left → parts ≡ part_count roles 0 (data_in items) → count ≡ data_in body
    → one ≡ old ++ node (Form kind) p (parts + count) ∷ [] → mid ≡ one ++ flat (by_roles s roles 0 items) → new ≡ mid ++ flat (forms_in s body)
    → new ≡ old ++ flat_one (form kind p (append (within_first s roles args) (body_in s n args)))
append_form s kind roles p n parts count args items left body old one mid new within from is few many begun first h =
    let fs : Expansion = by_roles s roles 0 items in
    let gs : Expansion = forms_in s body in
    let front : fs ≡ within_first s roles args = ap (by_roles s roles 0) within ∙ sym (within-items s roles args) in
    let all : parts + count ≡ count_of (append fs gs) =
    ap (λ m. m + count) (few ∙ sym (count-roles s roles 0 items)) ∙ ap (λ m. count_of fs + m) (many ∙ sym (count-forms s body)) ∙ sym (count-append fs gs) in
    subst (λ es. new ≡ old ++ flat_one (form kind p (append es (body_in s n args)))) front
    (subst (λ es. new ≡ old ++ flat_one (form kind p (append fs es))) (body-is s n args left body from is)
    (last_step old mid new ((node (Form kind) p (parts + count) ∷ []) ++ flat fs) (flat gs) _ (two_steps old one mid (node (Form kind) p (parts + count) ∷ []) (flat fs) begun first)
    (ap (λ m. node (Form kind) p m ∷ (flat fs ++ flat gs)) all ∙ ap (λ ns. node (Form kind) p (count_of (append fs gs)) ∷ ns) (sym (flat-append fs gs))) h))

-- what is written of a clause whose variable is special
flat-special : (t : Bool) (n p x count : ℕ) (class : Class) (fs : Expansion) → t ≡ true → count ≡ count_of fs
    → (node (Form (k.ClauseWith class n)) p 1 ∷ (node (Form k.Let) p 2 ∷ (node (Form (k.Local n)) p 0 ∷ (node (Form (k.BindSpecial x 0)) p count ∷ flat fs))))
    ≡ flat_one (form (k.ClauseWith class n) p (if t then only (form k.Let p (both (local n p) (form (k.BindSpecial x 0) p fs))) else fs))
flat-special true n p x count class fs h many =
    let bound : Single = form (k.BindSpecial x 0) p fs in
    ap (λ m. node (Form (k.ClauseWith class n)) p 1 ∷ (node (Form k.Let) p 2 ∷ (node (Form (k.Local n)) p 0 ∷ (node (Form (k.BindSpecial x 0)) p m ∷ flat fs)))) many
    ∙ sym (one-of (k.ClauseWith class n) p (form k.Let p (both (local n p) bound)) _ (two-of k.Let p (local n p) bound (flat_one (local n p)) (flat_one bound) refl refl))
flat-special false n p x count class fs h many = absurd (true≢false (sym h))

-- a clause whose variable is special
pub special_clause : (s t : Scope) (n p x count : ℕ) (class : Class) (body : Data) (old a b d mid new : List ExpandedNode)
    → has s.specials x ≡ true → t ≡ received_by s x → count ≡ data_in body
    → a ≡ old ++ node (Form (k.ClauseWith class n)) p 1 ∷ [] → b ≡ a ++ node (Form k.Let) p 2 ∷ [] → d ≡ b ++ flat_one (local n p)
    → mid ≡ d ++ node (Form (k.BindSpecial x 0)) p count ∷ [] → new ≡ mid ++ flat (forms_in t body)
    → new ≡ old ++ flat_one (clause_form s n p class (Some x) (forms_in (received_by s x) body))
special_clause s t n p x count class body old a b d mid new is within many first second third fourth h =
    let fs : Expansion = forms_in t body in
    let head : List ExpandedNode = node (Form (k.ClauseWith class n)) p 1 ∷ (node (Form k.Let) p 2 ∷ flat_one (local n p)) in
    let bind : List ExpandedNode = node (Form (k.BindSpecial x 0)) p count ∷ [] in
    subst (λ u. new ≡ old ++ flat_one (clause_form s n p class (Some x) (forms_in u body))) within
    (last_step old mid new (head ++ bind) (flat fs) _ (two_steps old d mid head bind (three_steps old a b d (node (Form (k.ClauseWith class n)) p 1 ∷ []) (node (Form k.Let) p 2 ∷ []) (flat_one (local n p)) first second third) fourth)
    (flat-special (has s.specials x) n p x count class fs is (many ∙ sym (count-forms t body))) h)

-- a clause whose variable is lexical
pub lexical_clause : (s t : Scope) (n p x count : ℕ) (class : Class) (body : Data) (old mid new : List ExpandedNode)
    → has s.specials x ≡ false → t ≡ received_by s x → count ≡ data_in body
    → mid ≡ old ++ node (Form (k.ClauseWith class n)) p count ∷ [] → new ≡ mid ++ flat (forms_in t body)
    → new ≡ old ++ flat_one (clause_form s n p class (Some x) (forms_in (received_by s x) body))
lexical_clause s t n p x count class body old mid new is opened many begun h =
    subst (λ u. new ≡ old ++ flat_one (clause_form s n p class (Some x) (forms_in u body))) opened
    (rw is (under_form (k.ClauseWith class n) p count (forms_in t body) old mid new (many ∙ sym (count-forms t body)) begun h))

-- a clause that begins with a symbol
clause-first : (s : Scope) (p : ℕ) (first : First) (others : Data) → is_list first ≡ false
    → clause_in s p (with_first first others)
    ≡ clause_form s s.depth p (or_condition (class_of s.names (symbol_by first))) (clause_variable others) (body_in (in_clause s (clause_variable others)) 1 others)
clause-first s p (LeafFirst l q) others h = refl
clause-first s p (ListFirst q under) others h = absurd (true≢false h)

-- the same, by what the code has read of it
pub clause-is : (s : Scope) (p : ℕ) (under others left body : Data) (first : First) (class : Class) (named : Option Class) (symbol x : Option ℕ)
    → under ≡ with_first first others → is_list first ≡ false → symbol ≡ symbol_by first → named ≡ class_of s.names symbol → class ≡ unwrap_or named Condition
    → clause_variable others ≡ x → left ≡ behind 1 others → body ≡ after_declarations s.names left
    → clause_form s s.depth p class x (forms_in (in_clause s x) body) ≡ clause_in s p under
clause-is s p under others left body first class named symbol x e leaf symbolic read or is from stripped =
    let same : or_condition (class_of s.names (symbol_by first)) ≡ class = sym (or ∙ ap or_condition (read ∙ ap (class_of s.names) symbolic)) in
    let named-in : (x : Option ℕ) → (in_clause s x).names ≡ s.names = names-in s in
    sym (ap (clause_in s p) e ∙ clause-first s p first others leaf
    ∙ ap (λ y. clause_form s s.depth p (or_condition (class_of s.names (symbol_by first))) y (body_in (in_clause s y) 1 others)) is
    ∙ ap (λ g. clause_form s s.depth p g x (body_in (in_clause s x) 1 others)) same
    ∙ ap (clause_form s s.depth p class x) (sym (body-is (in_clause s x) 1 others left body from (stripped ∙ ap (λ ns. after_declarations ns left) (sym (named-in x))))))
  where
    names-by : (s : Scope) (x : ℕ) → (received_by s x).names ≡ s.names
    names-by s x = by (has s.specials x)
      where
        by : (t : Bool) → (if t then deeper s else inside s (Variable x)).names ≡ s.names
        by true = refl
        by false = refl

    names-in : (s : Scope) (x : Option ℕ) → (in_clause s x).names ≡ s.names
    names-in s None = refl
    names-in s (Some x) = names-by s x
