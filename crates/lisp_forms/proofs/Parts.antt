-- The parts of data as forms, as the code reads them.
use Rattle.std.proofs.lemmas.Bool.Decides.{nat_tests}
use Rattle.std.proofs.Common.{◌≡◌, ℕ, zero, suc, ◌+◌, ◌≤◌, nat_lt, not, List, ◌++◌, Bool, true, false, cond, true≢false, OnOk, Result, Ok, Err, is_err, refl, ap, sym, ◌∙◌, arith, append_assoc}
use Rattle.lisp_base.specs.Forest.{NoTrees, Tree, count_of, append}
use Rattle.lisp_data.specs.declared.items.First.{First}
use Rattle.lisp_data.specs.declared.items.First.TheVariants.{Leaf as LeafFirst, List as ListFirst}
use Rattle.lisp_data.specs.Data.{Data, NoData, Atom, Listed, behind, count_of as data_in}
use Rattle.lisp_data.specs.First.{with_first}
use Rattle.form_shapes.specs.declared.expanded.ExpandedNode.{ExpandedNode}
use Rattle.form_shapes.specs.declared.keywords.Role.{Role}
use Rattle.form_shapes.specs.declared.keywords.Role.TheVariants.{Value, Seat, Skipped}
use Rattle.form_shapes.specs.declared.keywords.Roles.{Roles}
use Rattle.form_shapes.specs.declared.keywords.Roles.TheVariants.{From}
use Rattle.form_shapes.specs.Bindings.{after_declarations, is_declaration}
use Rattle.form_shapes.specs.Keywords.{counted, part_count, role_at, value_if}
use Rattle.form_shapes.specs.inside.One.{items_first}
use Rattle.form_shapes.specs.Seats.{misplaced_kind}
use Rattle.form_shapes.specs.Scopes.{Scope, leaf_form}
use Rattle.lisp_forms.specs.Expansion.{body_in, by_roles, forms_in, leaf_single, listed, seated, with_role, within_first}
use Rattle.lisp_forms.specs.inside.Flat.{flat}
use Rattle.lisp_forms.specs.inside.Firsts.{first_form}
use Rattle.lisp_forms.specs.Trees.{Expansion, Single, in_front, leaf, others}

-- the forms of a first datum and of others
pub forms-first : (s : Scope) (f : First) (d : Data) → forms_in s (with_first f d) ≡ in_front (first_form s f) (forms_in s d)
forms-first s (LeafFirst l p) d = refl
forms-first s (ListFirst p under) d = refl

-- as many forms as data
pub count-forms : (s : Scope) (d : Data) → count_of (forms_in s d) ≡ data_in d
count-forms s NoData = refl
count-forms s (Atom l p beside) = ap suc (count-forms s beside)
count-forms s (Listed p under beside) = ap suc (count-forms s beside)

-- the forms behind the first
pub others-forms : (s : Scope) (d : Data) → others (forms_in s d) ≡ forms_in s (behind 1 d)
others-forms s NoData = refl
others-forms s (Atom l p beside) = refl
others-forms s (Listed p under beside) = refl

-- nothing is behind nothing
behind-none : (n : ℕ) → behind n NoData ≡ NoData
behind-none zero = refl
behind-none (suc n) = refl

-- a body is the forms behind its declarations
pub body-forms : (s : Scope) (n : ℕ) (d : Data) → body_in s n d ≡ forms_in s (after_declarations s.names (behind n d))
body-forms s zero NoData = refl
body-forms s (suc n) NoData = refl
body-forms s (suc n) (Atom l p beside) = body-forms s n beside
body-forms s (suc n) (Listed p under beside) = body-forms s n beside
body-forms s zero (Atom l p beside) = refl
body-forms s zero (Listed p under beside) = by (is_declaration s.names under) (body-forms s zero beside)
  where
    by : (t : Bool) → body_in s zero beside ≡ forms_in s (after_declarations s.names beside)
        → cond t (body_in s zero beside) (in_front (listed s p under) (forms_in s beside))
        ≡ forms_in s (cond t (after_declarations s.names beside) (Listed p under beside))
    by true h = h
    by false h = refl

-- what is for values from a place on are the forms from there on
-- no number is below one that is not above it
not-below : (i n : ℕ) → n ≤ i → nat_lt i n ≡ false
not-below i n h = by (nat_lt i n) refl
  where
    by : (t : Bool) → nat_lt i n ≡ t → nat_lt i n ≡ false
    by true e = grind (arith, nat_tests)
    by false e = e

all-values : (i : ℕ) → role_at (From 0) i ≡ Value
all-values i = ap (λ t. value_if (not t)) (not-below i 0 (omega arith))

roles-all : (s : Scope) (i : ℕ) (d : Data) → by_roles s (From 0) i d ≡ forms_in s d
roles-all s i NoData = refl
roles-all s i (Atom l p beside) =
    ap (λ r. with_role r (leaf_single s l p) (leaf (misplaced_kind (leaf_form s l)) p) (by_roles s (From 0) (suc i) beside)) (all-values i)
    ∙ ap (in_front (leaf_single s l p)) (roles-all s (suc i) beside)
roles-all s i (Listed p under beside) =
    ap (λ r. with_role r (listed s p under) (seated s p under) (by_roles s (From 0) (suc i) beside)) (all-values i)
    ∙ ap (in_front (listed s p under)) (roles-all s (suc i) beside)

pub roles-from_0 : (s : Scope) (d : Data) → by_roles s (From 0) 0 d ≡ forms_in s d
roles-from_0 s d = roles-all s 0 d

later-values : (i : ℕ) → role_at (From 1) (suc i) ≡ Value
later-values i = ap (λ t. value_if (not t)) (not-below (suc i) 1 (omega arith))

roles-later : (s : Scope) (i : ℕ) (d : Data) → by_roles s (From 1) (suc i) d ≡ forms_in s d
roles-later s i NoData = refl
roles-later s i (Atom l p beside) =
    ap (λ r. with_role r (leaf_single s l p) (leaf (misplaced_kind (leaf_form s l)) p) (by_roles s (From 1) (suc (suc i)) beside)) (later-values i)
    ∙ ap (in_front (leaf_single s l p)) (roles-later s (suc i) beside)
roles-later s i (Listed p under beside) =
    ap (λ r. with_role r (listed s p under) (seated s p under) (by_roles s (From 1) (suc (suc i)) beside)) (later-values i)
    ∙ ap (in_front (listed s p under)) (roles-later s (suc i) beside)

pub roles-from_1 : (s : Scope) (d : Data) → by_roles s (From 1) 0 d ≡ forms_in s (behind 1 d)
roles-from_1 s NoData = refl
roles-from_1 s (Atom l p beside) = roles-later s 0 beside
roles-from_1 s (Listed p under beside) = roles-later s 0 beside

-- what stands in the list that is the first
pub within-items : (s : Scope) (roles : Roles) (d : Data) → within_first s roles d ≡ by_roles s roles 0 (items_first d)
within-items s roles NoData = refl
within-items s roles (Atom l p beside) = refl
within-items s roles (Listed p under beside) = refl

-- as many forms as there are parts
count-with_role : (r : Role) (a b : Single) (fs : Expansion) → count_of (with_role r a b fs) ≡ counted r (count_of fs)
count-with_role Value a b fs = refl
count-with_role Seat a b fs = refl
count-with_role Skipped a b fs = refl

pub count-roles : (s : Scope) (roles : Roles) (i : ℕ) (d : Data) → count_of (by_roles s roles i d) ≡ part_count roles i (data_in d)
count-roles s roles i NoData = refl
count-roles s roles i (Atom l p beside) = count-with_role (role_at roles i) _ _ (by_roles s roles (suc i) beside) ∙ ap (counted (role_at roles i)) (count-roles s roles (suc i) beside)
count-roles s roles i (Listed p under beside) = count-with_role (role_at roles i) _ _ (by_roles s roles (suc i) beside) ∙ ap (counted (role_at roles i)) (count-roles s roles (suc i) beside)

-- forms beside others
pub count-append : (f g : Expansion) → count_of (append f g) ≡ count_of f + count_of g
count-append NoTrees g = omega arith
count-append (Tree k p under beside) g = omega (arith, count-append beside g)

-- they are written after one another
pub flat-append : (f g : Expansion) → flat (append f g) ≡ flat f ++ flat g
flat-append NoTrees g = refl
flat-append (Tree k p under beside) g = rw (flat-append beside g, append_assoc) refl

-- what is written in two steps
pub two_steps : (old mid new x y : List ExpandedNode) → mid ≡ old ++ x → new ≡ mid ++ y → new ≡ old ++ (x ++ y)
two_steps old mid new x y a b = b ∙ ap (λ ns. ns ++ y) a ∙ append_assoc old x y

-- the last step, where all that is written is this
pub last_step : (old mid new x y all : List ExpandedNode) → mid ≡ old ++ x → x ++ y ≡ all → new ≡ mid ++ y → new ≡ old ++ all
last_step old mid new x y all a e h = two_steps old mid new x y a h ∙ ap (λ ns. old ++ ns) e

-- what holds of an answer that is no error
pub where_ok : {A E P : Type 0} (r : Result A E) (t : Bool) → t ≡ is_err r → t ≡ false → OnOk r P → P
where_ok (Ok v) t is none h = h
where_ok (Err e) t is none h = absurd (true≢false (sym is ∙ none))
