-- Data stand for forms that stand as they should, in each way in which they are read.
use Rattle.std.proofs.Common.{◌≡◌, ℕ, zero, suc, List, [], ◌∷◌, Bool, true, false, ◌&&◌, ◌==◌, not, Option, Some, None, if◌then◌else◌, codes, length, refl, ap}
use Rattle.lisp_base.specs.Forest.{count_of as forms_in_all}
use Rattle.lisp_base.specs.Refusals.{are_same}
use Rattle.lisp_base.specs.declared.id.FunctionName.TheVariants.{Named}
use Rattle.lisp_base.specs.declared.refusal.Refusal.{Refusal}
use Rattle.lisp_base.specs.declared.refusal.Refusal.TheVariants.{BadForm, DefinedTwice, FunctionPlace, UnknownOperator}
use Rattle.lisp_program.specs.Program.{Program}
use Rattle.lisp_program.specs.WellMade.{Clauses, Each, IsNameOf}
use Rattle.lisp_program.specs.declared.form.CoreKind.TheVariants.{Function as FunctionForm}
use Rattle.lisp_data.specs.Data.{Data, NoData, Atom, Listed, behind, count_of}
use Rattle.lisp_data.specs.declared.datum.Leaf.{Leaf}
use Rattle.form_shapes.specs.declared.expanded.Expanded.{Expanded}
use Rattle.form_shapes.specs.declared.expanded.Expanded.TheVariants.{Form, InBlock, Lambda, Defun, Refused, RefusedFunction}
use Rattle.form_shapes.specs.declared.keywords.Role.{Role}
use Rattle.form_shapes.specs.declared.keywords.Role.TheVariants.{Value, Seat, Skipped}
use Rattle.form_shapes.specs.declared.keywords.Roles.TheVariants.{From}
use Rattle.form_shapes.specs.declared.operator.Operator.{Operator}
use Rattle.form_shapes.specs.declared.operator.Operator.TheVariants as op
use Rattle.form_shapes.specs.declared.seat.Seated.{Seated}
use Rattle.form_shapes.specs.declared.seat.Seated.TheVariants.{Made, Inner, Other}
use Rattle.form_shapes.specs.declared.shape.Shape.{Shape}
use Rattle.form_shapes.specs.declared.shape.Shape.TheVariants as shape
use Rattle.form_shapes.specs.Bindings.{and_others, bound_in, bound_in_list, is_declaration, is_named, is_text, list_fault, or_none, parameters_of, variables_of}
use Rattle.form_shapes.specs.Clauses.{are_clauses, class_of, clause_variable, is_clause}
use Rattle.form_shapes.specs.Keywords.{role_at}
use Rattle.form_shapes.specs.Scopes.{Scope, first_symbol, has, leaf_form, leaf_symbol, operator_at, target_in}
use Rattle.form_shapes.specs.Seats.{function_seated, lambda_seated, misplaced_kind, misplaced_refusal, misplaced_shape, name_seated, parameters_in, scope_within, seated_by, seated_of}
use Rattle.form_shapes.specs.Shapes.{shape_of}
use Rattle.lisp_forms.specs.Expansion.{behind_variable, body_in, by_roles, clause_in, clauses_in, conds_in, forms_in, function_body_in, in_clause, is_none, leaf_single, listed, or_condition, ors_in, pairs_in, parts_in, seated, seated_first, seated_form, turns_in, values_first, values_in, with_role}
use Rattle.lisp_forms.specs.Rows
use Rattle.lisp_forms.specs.Trees.{Expansion, Single, first, in_front, leaf, nil_form}
use Rattle.lisp_forms.specs.inside.Standing.{ArePartsStanding, AreRead, AreStanding, AreValuesOf, IsRead, IsStanding, IsStandingData, Suits}
use Rattle.lisp_forms.proofs.well.Frames.{clause_form-standing, lambda-standing, list_form-standing}
use Rattle.lisp_forms.proofs.well.Rows.{cond-standing, or-standing, set-standing}
use Rattle.lisp_forms.proofs.well.Shapes.{leaf-standing, shape-standing, target_in-standing}
use Rattle.lisp_forms.proofs.well.Standing.{first-standing, front-standing, suits-opened_by, suits-received_by, suits-within}

-- either of two
either-are : (w : Program) (t : Bool) (a b : Expansion) → AreStanding w Each a → AreStanding w Each b → AreStanding w Each (if t then a else b)
either-are w true a b h l = h
either-are w false a b h l = l

either-is : (w : Program) (t : Bool) (a b : Expanded) (p : ℕ) → IsStanding w (leaf a p) → IsStanding w (leaf b p) → IsStanding w (leaf (if t then a else b) p)
either-is w true a b p h l = h
either-is w false a b p h l = l

-- what may not stand in a place is refused
misplaced-standing : (w : Program) (kind : Expanded) (p : ℕ) → IsStanding w (leaf (misplaced_kind kind) p)
misplaced-standing w (Form kind) p = (tt, tt)
misplaced-standing w (InBlock n turning) p = (tt, tt)
misplaced-standing w (Lambda parameters) p = (tt, tt)
misplaced-standing w (Defun f parameters) p = (tt, tt)
misplaced-standing w (Refused refusal) p = (tt, tt)
misplaced-standing w (RefusedFunction refusal) p = (tt, tt)

misplaced_shape-standing : (w : Program) (p : ℕ) (a : Shape) → IsStanding w (leaf (misplaced_shape p a) p)
misplaced_shape-standing w p (shape.Wrong refusal q) = either-is w (q == p) (Refused (misplaced_refusal refusal)) (Refused FunctionPlace) p (tt, tt) (tt, tt)
misplaced_shape-standing w p (shape.Leaf kind) = misplaced-standing w kind p
misplaced_shape-standing w p _ = (tt, tt)

-- what stands in a function's seat
abbrev IsSeatedStanding : Program → ℕ → Seated → Type 0
IsSeatedStanding w p Made = Unit {0}
IsSeatedStanding w p Inner = Unit {0}
IsSeatedStanding w p (Other kind) = IsStanding w (leaf kind p)

lambda-seated : (w : Program) (p : ℕ) (fault : Option Refusal) → IsSeatedStanding w p (lambda_seated fault)
lambda-seated w p None = tt
lambda-seated w p (Some refusal) = either-is w (are_same refusal DefinedTwice) (RefusedFunction DefinedTwice) (Refused refusal) p (tt, tt) (tt, tt)

name-seated : (w : Program) (s : Scope) (p : ℕ) (x : Option ℕ) → Suits w s → IsSeatedStanding w p (name_seated s x)
name-seated w s p None f = (tt, tt)
name-seated w s p (Some x) f = by (has s.functions x) (f.1 x)
  where
    by : (t : Bool) → (t ≡ true → IsNameOf (Named x) w.functions) → IsStanding w (leaf (if t then Form (FunctionForm (Named x)) else Refused UnknownOperator) p)
    by true named = (named refl, tt)
    by false named = (tt, tt)

either-seated : (w : Program) (p : ℕ) (t : Bool) (a b : Seated) → IsSeatedStanding w p a → IsSeatedStanding w p b → IsSeatedStanding w p (if t then a else b)
either-seated w p true a b h l = h
either-seated w p false a b h l = l

function-seated : (w : Program) (s : Scope) (p : ℕ) (d : Data) → Suits w s → IsSeatedStanding w p (function_seated s d)
function-seated w s p NoData f = (tt, tt)
function-seated w s p (Atom l q beside) f =
    either-seated w p (count_of beside == 0) (name_seated s (leaf_symbol l)) (Other (Refused BadForm)) (name-seated w s p (leaf_symbol l) f) (tt, tt)
function-seated w s p (Listed q under beside) f =
    either-seated w p ((count_of beside == 0) && is_named s.names (codes "LAMBDA") (first_symbol under)) Inner (Other (Refused BadForm)) tt (tt, tt)

by-seated : (w : Program) (s : Scope) (p : ℕ) (operator : Option Operator) (under : Data) → Suits w s → IsSeatedStanding w p (seated_by s p operator under)
by-seated w s p (Some op.Lambda) under f = lambda-seated w p (list_fault s.names (parameters_of (behind 1 under)))
by-seated w s p (Some op.Function) under f = function-seated w s p (behind 1 under) f
by-seated w s p _ under f = misplaced_shape-standing w p (shape_of s p under)

seated_form-standing : (w : Program) (s : Scope) (p : ℕ) (a : Seated) (xs : List ℕ) (body : Expansion) (inner : Single) → Suits w s → IsSeatedStanding w p a
    → AreStanding w Each body → IsStanding w inner → IsStanding w (seated_form s p a xs body inner)
seated_form-standing w s p Made xs body inner f a h l = lambda-standing w s p xs body f h
seated_form-standing w s p Inner xs body inner f a h l = l
seated_form-standing w s p (Other kind) xs body inner f a h l = a

-- what one with a role stands for
role-standing : (w : Program) (role : Role) (value seat : Single) (fs : Expansion) → IsStanding w value → IsStanding w seat → AreStanding w Each fs
    → AreStanding w Each (with_role role value seat fs)
role-standing w Value value seat fs h l m = front-standing w value fs h m
role-standing w Seat value seat fs h l m = front-standing w seat fs l m
role-standing w Skipped value seat fs h l m = m

-- a `let` has a value for each variable
abbrev AreAsMany : Option (List ℕ) → Expansion → Type 0
AreAsMany None values = Unit {0}
AreAsMany (Some xs) values = forms_in_all values ≡ length xs

one-more : (x : Option ℕ) (xs : Option (List ℕ)) (value : Single) (values : Expansion) → AreAsMany xs values → AreAsMany (and_others x xs) (in_front value values)
one-more None xs value values h = tt
one-more (Some x) None value values h = tt
one-more (Some x) (Some xs) value values h = ap suc h

many-values : (s : Scope) (d : Data) → AreAsMany (bound_in d) (values_in s d)
many-values s NoData = refl
many-values s (Atom l p beside) = one-more (leaf_symbol l) (bound_in beside) (nil_form p) (values_in s beside) (many-values s beside)
many-values s (Listed p under beside) =
    one-more (bound_in_list under) (bound_in beside) (first p (by_roles s (From 1) 0 under)) (values_in s beside) (many-values s beside)

as-many : (xs : Option (List ℕ)) (values : Expansion) → AreAsMany xs values → AreValuesOf (or_none xs) values
as-many None values h = tt
as-many (Some []) values h = tt
as-many (Some (x ∷ xs)) values h = h

many-first : (s : Scope) (d : Data) → AreValuesOf (or_none (variables_of d)) (values_first s d)
many-first s NoData = tt
many-first s (Atom l p beside) = tt
many-first s (Listed p under beside) = as-many (bound_in under) (values_in s under) (many-values s under)

-- the parts of a list with these arguments
pub parts-standing : (w : Program) (s : Scope) (p : ℕ) (args : Data) → Suits w s → IsStandingData w args
    → ArePartsStanding w (or_none (variables_of args)) (are_clauses s.names (behind 1 args)) (parts_in s p args)
parts-standing w s p args f h = record {
  arguments = λ roles. h.roles roles 0 s f;
  body = h.body;
  forms = h.forms;
  within = h.within;
  values = h.values_first s f;
  many = many-first s args;
  turns = h.turns_first s f;
  pairs = h.pairs p s f;
  ors = h.ors p s f;
  conds = h.conds p s f;
  clauses = h.clauses_behind p s f;
}

-- no data
none-read : (w : Program) → IsStandingData w NoData
none-read w = record {
  forms = λ s f. tt;
  listed = λ p s f. (tt, tt);
  roles = λ roles i s f. tt;
  body = body;
  function_body = function_body;
  within = λ roles s f. tt;
  values_first = λ s f. tt;
  values = λ s f. tt;
  turns_first = λ s f. tt;
  turns = λ s f. tt;
  pairs = λ p s f. tt;
  pair = λ p target q s f t. tt;
  ors = λ p s f. (tt, tt);
  conds = λ p s f. (tt, tt);
  clauses_behind = λ p s f h. tt;
  clauses = λ p s f h. tt;
  clause = λ p s f h others l. absurd (cc);
  seated = λ p s f. (tt, tt);
  seated_first = λ s f. (tt, tt);
}
  where
    body : (n : ℕ) → AreRead w (λ s. body_in s n NoData)
    body zero s f = tt
    body (suc n) s f = tt

    function_body : (n : ℕ) → AreRead w (λ s. function_body_in s n NoData)
    function_body zero s f = tt
    function_body (suc n) s f = tt

-- what comes after a variable of a `let*`
suits-behind : (w : Program) (s : Scope) (x : Option ℕ) → Suits w s → Suits w (behind_variable s x)
suits-behind w s None f = f
suits-behind w s (Some x) f = suits-opened_by w s x f

-- a clause
suits-clause : (w : Program) (s : Scope) (x : Option ℕ) → Suits w s → Suits w (in_clause s x)
suits-clause w s None f = f
suits-clause w s (Some x) f = suits-received_by w s x f

-- a leaf before others
pub leaf_single-standing : (w : Program) (s : Scope) (l : Leaf) (p : ℕ) → Suits w s → IsStanding w (leaf_single s l p)
leaf_single-standing w s l p f = leaf-standing w s l p f

leaf-clause : (w : Program) (l : Leaf) (q : ℕ) (rest : Data) → IsStandingData w rest → (p : ℕ) (s : Scope) → Suits w s → (others : Expansion)
    → AreStanding w Clauses others → AreStanding w Clauses (in_front (clause_in s p (Atom l q rest)) others)
leaf-clause w l q rest h p s f others m =
    clause_form-standing w s s.depth p (or_condition (class_of s.names (leaf_symbol l))) (clause_variable rest) (body_in (in_clause s (clause_variable rest)) 1 rest)
    others f (h.body 1 (in_clause s (clause_variable rest)) (suits-clause w s (clause_variable rest) f)) m

leaf-seated : (w : Program) (l : Leaf) (q : ℕ) (args : Data) → IsStandingData w args → (p : ℕ) → IsRead w (λ s. seated s p (Atom l q args))
leaf-seated w l q args h p s f =
    let xs : List ℕ = parameters_in args in
    seated_form-standing w s p (seated_of s p (Atom l q args)) xs (function_body_in (scope_within s xs) 1 args) (seated_first s args) f
    (by-seated w s p (operator_at s (leaf_symbol l)) (Atom l q args) f)
    (h.function_body 1 (scope_within s xs) (suits-within w s xs f))
    (h.seated_first s f)

leaf-read : (w : Program) (l : Leaf) (q : ℕ) (beside : Data) → IsStandingData w beside → IsStandingData w (Atom l q beside)
leaf-read w l q beside h = record {
  forms = λ s f. front-standing w (leaf_single s l q) (forms_in s beside) (leaf_single-standing w s l q f) (h.forms s f);
  listed = λ p s f. list_form-standing w s p (shape_of s p (Atom l q beside)) (or_none (variables_of beside)) (are_clauses s.names (behind 1 beside)) (parts_in s p beside) f
      (shape-standing w s p (Atom l q beside) f) (parts-standing w s p beside f h);
  roles = λ roles i s f. role-standing w (role_at roles i) (leaf_single s l q) (leaf (misplaced_kind (leaf_form s l)) q) (by_roles s roles (suc i) beside)
      (leaf_single-standing w s l q f) (misplaced-standing w (leaf_form s l) q) (h.roles roles (suc i) s f);
  body = body;
  function_body = function_body;
  within = λ roles s f. tt;
  values_first = λ s f. tt;
  values = λ s f. front-standing w (nil_form q) (values_in s beside) (tt, tt) (h.values s f);
  turns_first = λ s f. tt;
  turns = λ s f. front-standing w (nil_form q) (turns_in (behind_variable s (leaf_symbol l)) beside) (tt, tt)
      (h.turns (behind_variable s (leaf_symbol l)) (suits-behind w s (leaf_symbol l) f));
  pairs = λ p s f. h.pair p (target_in s (leaf_symbol l)) q s f (target_in-standing w s (leaf_symbol l) f);
  pair = λ p target r s f t. front-standing w (Rows.set_form p target r (leaf_single s l q)) (pairs_in s p beside)
      (set-standing w p target r (leaf_single s l q) t (leaf_single-standing w s l q f)) (h.pairs p s f);
  ors = λ p s f. or-standing w s p (is_none beside) (leaf_single s l q) (λ inner. ors_in inner p beside) f (leaf_single-standing w s l q f) (h.ors p);
  conds = h.conds;
  clauses_behind = h.clauses;
  clauses = λ p s f t. absurd (cc);
  clause = λ p s f t. leaf-clause w l q beside h p s f;
  seated = leaf-seated w l q beside h;
  seated_first = λ s f. (tt, tt);
}
  where
    body : (n : ℕ) → AreRead w (λ s. body_in s n (Atom l q beside))
    body zero s f = front-standing w (leaf_single s l q) (forms_in s beside) (leaf_single-standing w s l q f) (h.forms s f)
    body (suc n) s f = h.body n s f

    function_body : (n : ℕ) → AreRead w (λ s. function_body_in s n (Atom l q beside))
    function_body zero s f =
        either-are w (is_text l && not (is_none beside)) (body_in s zero beside) (in_front (leaf_single s l q) (forms_in s beside)) (h.body zero s f)
        (front-standing w (leaf_single s l q) (forms_in s beside) (leaf_single-standing w s l q f) (h.forms s f))
    function_body (suc n) s f = h.function_body n s f

-- both of two
both-true : (t u : Bool) → (t && u) ≡ true → (t ≡ true) × (u ≡ true)
both-true true true h = (refl, refl)
both-true true false h = absurd (cc)
both-true false u h = absurd (cc)

-- a list is no clause where it begins with a list
no-class : (names : List (List ℕ)) (q : ℕ) (under beside : Data) → is_clause names (Listed q under beside) ≡ true → ⊥
no-class names q under beside h = cc

-- a list before others
list-clauses : (w : Program) (q : ℕ) (under beside : Data) → IsStandingData w under → IsStandingData w beside → (p : ℕ) (s : Scope) → Suits w s
    → are_clauses s.names (Listed q under beside) ≡ true → AreStanding w Clauses (clauses_in s p (Listed q under beside))
list-clauses w q under beside u h p s f t =
    let shaped : (is_clause s.names under ≡ true) × (are_clauses s.names beside ≡ true) = both-true (is_clause s.names under) (are_clauses s.names beside) t in
    u.clause p s f shaped.0 (clauses_in s p beside) (h.clauses p s f shaped.1)

list-read : (w : Program) (q : ℕ) (under beside : Data) → IsStandingData w under → IsStandingData w beside → IsStandingData w (Listed q under beside)
list-read w q under beside u h = record {
  forms = λ s f. front-standing w (listed s q under) (forms_in s beside) (u.listed q s f) (h.forms s f);
  listed = λ p s f. (tt, tt);
  roles = λ roles i s f. role-standing w (role_at roles i) (listed s q under) (seated s q under) (by_roles s roles (suc i) beside)
      (u.listed q s f) (u.seated q s f) (h.roles roles (suc i) s f);
  body = body;
  function_body = function_body;
  within = λ roles. u.roles roles 0;
  values_first = u.values;
  values = λ s f. front-standing w (first q (by_roles s (From 1) 0 under)) (values_in s beside)
      (first-standing w q (by_roles s (From 1) 0 under) (u.roles (From 1) 0 s f)) (h.values s f);
  turns_first = u.turns;
  turns = λ s f. front-standing w (first q (by_roles s (From 1) 0 under)) (turns_in (behind_variable s (bound_in_list under)) beside)
      (first-standing w q (by_roles s (From 1) 0 under) (u.roles (From 1) 0 s f))
      (h.turns (behind_variable s (bound_in_list under)) (suits-behind w s (bound_in_list under) f));
  pairs = λ p s f. tt;
  pair = λ p target r s f t. front-standing w (Rows.set_form p target r (listed s q under)) (pairs_in s p beside)
      (set-standing w p target r (listed s q under) t (u.listed q s f)) (h.pairs p s f);
  ors = λ p s f. or-standing w s p (is_none beside) (listed s q under) (λ inner. ors_in inner p beside) f (u.listed q s f) (h.ors p);
  conds = λ p s f. cond-standing w s p (forms_in s under) (λ inner. conds_in inner p beside) f (u.forms s f) (h.conds p);
  clauses_behind = h.clauses;
  clauses = list-clauses w q under beside u h;
  clause = λ p s f t others l. absurd (no-class s.names q under beside t);
  seated = λ p s f. (tt, tt);
  seated_first = u.seated q;
}
  where
    body : (n : ℕ) → AreRead w (λ s. body_in s n (Listed q under beside))
    body zero s f =
        either-are w (is_declaration s.names under) (body_in s zero beside) (in_front (listed s q under) (forms_in s beside)) (h.body zero s f)
        (front-standing w (listed s q under) (forms_in s beside) (u.listed q s f) (h.forms s f))
    body (suc n) s f = h.body n s f

    function_body : (n : ℕ) → AreRead w (λ s. function_body_in s n (Listed q under beside))
    function_body zero s f =
        either-are w (is_declaration s.names under) (body_in s zero beside) (in_front (listed s q under) (forms_in s beside)) (h.body zero s f)
        (front-standing w (listed s q under) (forms_in s beside) (u.listed q s f) (h.forms s f))
    function_body (suc n) s f = h.function_body n s f

-- all data
pub data-read : (w : Program) (d : Data) → IsStandingData w d
data-read w NoData = none-read w
data-read w (Atom l q beside) = leaf-read w l q beside (data-read w beside)
data-read w (Listed q under beside) = list-read w q under beside (data-read w under) (data-read w beside)
