-- Data, in each way in which they are read as forms, name what is open round them.
use Rattle.std.proofs.Common.{ℕ, zero, suc, List, ◌∷◌, Bool, true, false, ◌&&◌, ◌==◌, not, Option, Some, None, if◌then◌else◌, codes, length, replicate}
use Rattle.lisp_base.specs.declared.refusal.Refusal.{Refusal}
use Rattle.lisp_base.specs.declared.refusal.Refusal.TheVariants.{BadForm, DefinedTwice, FunctionPlace, UnknownOperator}
use Rattle.lisp_base.specs.declared.id.FunctionName.TheVariants.{Named}
use Rattle.lisp_base.specs.Refusals.{are_same}
use Rattle.lisp_program.specs.declared.form.CoreKind.TheVariants.{Function as FunctionForm}
use Rattle.lisp_data.specs.Data.{Data, NoData, Atom, Listed, behind, count_of}
use Rattle.lisp_data.specs.declared.datum.Leaf.{Leaf}
use Rattle.form_shapes.specs.declared.expanded.Expanded.{Expanded}
use Rattle.form_shapes.specs.declared.expanded.Expanded.TheVariants.{Form, InBlock, Lambda, Defun, Refused, RefusedFunction}
use Rattle.form_shapes.specs.declared.keywords.Role.{Role}
use Rattle.form_shapes.specs.declared.keywords.Role.TheVariants.{Value, Seat, Skipped}
use Rattle.form_shapes.specs.declared.keywords.Roles.TheVariants.{From}
use Rattle.form_shapes.specs.declared.operator.Operator.{Operator}
use Rattle.form_shapes.specs.declared.operator.Operator.TheVariants as op
use Rattle.form_shapes.specs.declared.seat.Seated.{Seated}
use Rattle.form_shapes.specs.declared.seat.Seated.TheVariants.{Made, Inner, Other}
use Rattle.form_shapes.specs.declared.shape.Shape.{Shape}
use Rattle.form_shapes.specs.declared.shape.Shape.TheVariants as shape
use Rattle.form_shapes.specs.Bindings.{and_others, bound_in, bound_in_list, is_declaration, is_named, is_text, list_fault, opened_by as opened_with, or_none, parameters_of, variables_of}
use Rattle.form_shapes.specs.Clauses.{class_of, clause_variable}
use Rattle.form_shapes.specs.Keywords.{role_at}
use Rattle.form_shapes.specs.Scopes.{Scope, first_symbol, has, leaf_form, leaf_symbol, operator_at, target_in}
use Rattle.form_shapes.specs.Seats.{function_seated, lambda_seated, misplaced_kind, misplaced_refusal, misplaced_shape, name_seated, parameters_in, scope_within, seated_by, seated_of}
use Rattle.form_shapes.specs.Shapes.{shape_of}
use Rattle.lisp_forms.specs.Expansion.{behind_variable, body_in, by_roles, clause_in, clauses_in, conds_in, forms_in, function_body_in, in_clause, is_none, leaf_single, listed, or_condition, ors_in, pairs_in, parts_in, seated, seated_first, seated_form, turns_in, values_in, with_role}
use Rattle.lisp_forms.specs.Rows
use Rattle.lisp_forms.specs.Trees.{Expansion, Single, first, in_front, leaf, nil_form}
use Rattle.form_laws.specs.Scoping.{Opening, Variable, IsNamedIn}
use Rattle.form_laws.specs.inside.Openings.{Fits, IsRound, IsRoundOne, naming_in}
use Rattle.form_laws.specs.inside.Parts.{ArePartsRound, AreRead, AreTurnsRound, IsRead, with_clause, with_variable}
use Rattle.form_laws.specs.inside.Read.{IsScopedData}
use Rattle.form_laws.proofs.Fitting.{fits-received, fits-variable, fits-within}
use Rattle.form_laws.proofs.Frames.{clause_form-round, lambda-round, list_form-round}
use Rattle.form_laws.proofs.Rows.{cond-round, first-round, front-round, or-round, set-round}
use Rattle.form_laws.proofs.Shaped.{leaf-round, shape-round, target_in-round}

-- a leaf
pub leaf_single-round : (os : List Opening) (s : Scope) (l : Leaf) (p : ℕ) → Fits os s → IsRoundOne os (leaf_single s l p)
leaf_single-round os s l p f = (leaf-round os s l f, tt)

-- either of two
either-are : (os : List Opening) (t : Bool) (a b : Expansion) → IsRound os a → IsRound os b → IsRound os (if t then a else b)
either-are os true a b h l = h
either-are os false a b h l = l

either-named : (os : List Opening) (t : Bool) (a b : Expanded) → IsNamedIn os (naming_in a) → IsNamedIn os (naming_in b) → IsNamedIn os (naming_in (if t then a else b))
either-named os true a b h l = h
either-named os false a b h l = l

-- what may not stand in a place is refused
misplaced-named : (os : List Opening) (kind : Expanded) → IsNamedIn os (naming_in (misplaced_kind kind))
misplaced-named os (Form kind) = tt
misplaced-named os (InBlock n turning) = tt
misplaced-named os (Lambda parameters) = tt
misplaced-named os (Defun f parameters) = tt
misplaced-named os (Refused refusal) = tt
misplaced-named os (RefusedFunction refusal) = tt

misplaced_shape-named : (os : List Opening) (p : ℕ) (a : Shape) → IsNamedIn os (naming_in (misplaced_shape p a))
misplaced_shape-named os p (shape.Wrong refusal q) = either-named os (q == p) (Refused (misplaced_refusal refusal)) (Refused FunctionPlace) tt tt
misplaced_shape-named os p (shape.Leaf kind) = misplaced-named os kind
misplaced_shape-named os p _ = tt

-- what stands in a function's seat
abbrev IsSeatedRound : List Opening → Seated → Type 0
IsSeatedRound os Made = Unit {0}
IsSeatedRound os Inner = Unit {0}
IsSeatedRound os (Other kind) = IsNamedIn os (naming_in kind)

lambda-seated : (os : List Opening) (fault : Option Refusal) → IsSeatedRound os (lambda_seated fault)
lambda-seated os None = tt
lambda-seated os (Some refusal) = either-named os (are_same refusal DefinedTwice) (RefusedFunction DefinedTwice) (Refused refusal) tt tt

name-seated : (os : List Opening) (s : Scope) (x : Option ℕ) → IsSeatedRound os (name_seated s x)
name-seated os s None = tt
name-seated os s (Some x) = either-named os (has s.functions x) (Form (FunctionForm (Named x))) (Refused UnknownOperator) tt tt

either-seated : (os : List Opening) (t : Bool) (a b : Seated) → IsSeatedRound os a → IsSeatedRound os b → IsSeatedRound os (if t then a else b)
either-seated os true a b h l = h
either-seated os false a b h l = l

function-seated : (os : List Opening) (s : Scope) (d : Data) → IsSeatedRound os (function_seated s d)
function-seated os s NoData = tt
function-seated os s (Atom l q beside) =
    either-seated os (count_of beside == 0) (name_seated s (leaf_symbol l)) (Other (Refused BadForm)) (name-seated os s (leaf_symbol l)) tt
function-seated os s (Listed q under beside) =
    either-seated os ((count_of beside == 0) && is_named s.names (codes "LAMBDA") (first_symbol under)) Inner (Other (Refused BadForm)) tt tt

by-seated : (os : List Opening) (s : Scope) (p : ℕ) (operator : Option Operator) (under : Data) → IsSeatedRound os (seated_by s p operator under)
by-seated os s p (Some op.Lambda) under = lambda-seated os (list_fault s.names (parameters_of (behind 1 under)))
by-seated os s p (Some op.Function) under = function-seated os s (behind 1 under)
by-seated os s p _ under = misplaced_shape-named os p (shape_of s p under)

seated_form-round : (os : List Opening) (s : Scope) (p : ℕ) (a : Seated) (xs : List ℕ) (body : Expansion) (inner : Single) → IsSeatedRound os a
    → IsRound (replicate (length xs) Variable) body → IsRoundOne os inner → IsRoundOne os (seated_form s p a xs body inner)
seated_form-round os s p Made xs body inner a h l = lambda-round os s p xs body h
seated_form-round os s p Inner xs body inner a h l = l
seated_form-round os s p (Other kind) xs body inner a h l = (a, tt)

-- what one with a role stands for
role-round : (os : List Opening) (role : Role) (value seat : Single) (fs : Expansion) → IsRoundOne os value → IsRoundOne os seat → IsRound os fs
    → IsRound os (with_role role value seat fs)
role-round os Value value seat fs h l m = (h.0, h.1, m)
role-round os Seat value seat fs h l m = (l.0, l.1, m)
role-round os Skipped value seat fs h l m = m

-- a value in turn
turn-step : (os : List Opening) (s : Scope) (x : Option ℕ) (xs : Option (List ℕ)) (value : Single) (rest : Scope → Expansion) → Fits os s → IsRoundOne os value
    → ((qs : List Opening) (t : Scope) → Fits qs t → AreTurnsRound qs t (or_none xs) (rest t))
    → AreTurnsRound os s (or_none (and_others x xs)) (in_front value (rest (behind_variable s x)))
turn-step os s None xs value rest f h l = tt
turn-step os s (Some x) None value rest f h l = tt
turn-step os s (Some x) (Some xs) value rest f h l = (λ p. h, l (with_variable os s x) (opened_with s x) (fits-variable os s x f))

-- the parts of a list with these arguments
pub parts-round : (os : List Opening) (s : Scope) (p : ℕ) (args : Data) → Fits os s → IsScopedData args
    → ArePartsRound os s (or_none (variables_of args)) (parts_in s p args)
parts-round os s p args f h = record {
  arguments = λ roles. h.roles roles 0 os s f;
  body = h.body;
  forms = h.forms;
  within = h.within;
  values = h.values_first os s f;
  turns = h.turns_first os s f;
  pairs = h.pairs p os s f;
  ors = h.ors p os s f;
  conds = h.conds p os s f;
  clauses = h.clauses_behind p os s f;
}

-- no data
none-read : IsScopedData NoData
none-read = record {
  forms = λ os s f. tt;
  listed = λ p os s f. (tt, tt);
  roles = λ roles i os s f. tt;
  body = body;
  function_body = function_body;
  within = λ roles os s f. tt;
  values_first = λ os s f. tt;
  values = λ os s f. tt;
  turns_first = λ os s f. tt;
  turns = λ os s f. tt;
  pairs = λ p os s f. tt;
  pair = λ p target q os s f t. tt;
  ors = λ p os s f. (tt, tt);
  conds = λ p os s f. (tt, tt);
  clauses_behind = λ p os s f. tt;
  clauses = λ p os s f. tt;
  clause = λ p os s f. (tt, tt);
  seated = λ p os s f. (tt, tt);
  seated_first = λ os s f. (tt, tt);
}
  where
    body : (n : ℕ) → AreRead (λ s. body_in s n NoData)
    body zero os s f = tt
    body (suc n) os s f = tt

    function_body : (n : ℕ) → AreRead (λ s. function_body_in s n NoData)
    function_body zero os s f = tt
    function_body (suc n) os s f = tt

-- a leaf before others
leaf-clause : (l : Leaf) (q : ℕ) (rest : Data) → IsScopedData rest → (p : ℕ) → IsRead (λ s. clause_in s p (Atom l q rest))
leaf-clause l q rest h p os s f =
    clause_form-round os s s.depth p (or_condition (class_of s.names (leaf_symbol l))) (clause_variable rest) (body_in (in_clause s (clause_variable rest)) 1 rest)
    f.0 (by (clause_variable rest))
  where
    by : (x : Option ℕ) → IsRound (with_clause os x) (body_in (in_clause s x) 1 rest)
    by None = h.body 1 os s f
    by (Some x) = h.body 1 (Variable ∷ os) _ (fits-received os s x f)

leaf-seated : (l : Leaf) (q : ℕ) (args : Data) → IsScopedData args → (p : ℕ) → IsRead (λ s. seated s p (Atom l q args))
leaf-seated l q args h p os s f =
    let xs : List ℕ = parameters_in args in
    seated_form-round os s p (seated_of s p (Atom l q args)) xs (function_body_in (scope_within s xs) 1 args) (seated_first s args)
    (by-seated os s p (operator_at s (leaf_symbol l)) (Atom l q args))
    (h.function_body 1 (replicate (length xs) Variable) (scope_within s xs) (fits-within s xs))
    (h.seated_first os s f)

leaf-read : (l : Leaf) (q : ℕ) (beside : Data) → IsScopedData beside → IsScopedData (Atom l q beside)
leaf-read l q beside h = record {
  forms = λ os s f. front-round os (leaf_single s l q) (forms_in s beside) (leaf_single-round os s l q f) (h.forms os s f);
  listed = λ p os s f. list_form-round os s p (shape_of s p (Atom l q beside)) (or_none (variables_of beside)) (parts_in s p beside) f
      (shape-round os s p (Atom l q beside) f) (parts-round os s p beside f h);
  roles = λ roles i os s f. role-round os (role_at roles i) (leaf_single s l q) (leaf (misplaced_kind (leaf_form s l)) q) (by_roles s roles (suc i) beside)
      (leaf_single-round os s l q f) (misplaced-named os (leaf_form s l), tt) (h.roles roles (suc i) os s f);
  body = body;
  function_body = function_body;
  within = λ roles os s f. tt;
  values_first = λ os s f. tt;
  values = λ os s f. (tt, tt, h.values os s f);
  turns_first = λ os s f. tt;
  turns = λ os s f. turn-step os s (leaf_symbol l) (bound_in beside) (nil_form q) (λ t. turns_in t beside) f (tt, tt) h.turns;
  pairs = λ p os s f. h.pair p (target_in s (leaf_symbol l)) q os s f (target_in-round os s (leaf_symbol l) f);
  pair = λ p target r os s f t. front-round os (Rows.set_form p target r (leaf_single s l q)) (pairs_in s p beside)
      (set-round os p target r (leaf_single s l q) t (leaf_single-round os s l q f)) (h.pairs p os s f);
  ors = λ p os s f. or-round os s p (is_none beside) (leaf_single s l q) (λ inner. ors_in inner p beside) f (leaf_single-round os s l q f) (h.ors p);
  conds = h.conds;
  clauses_behind = h.clauses;
  clauses = h.clauses;
  clause = leaf-clause l q beside h;
  seated = leaf-seated l q beside h;
  seated_first = λ os s f. (tt, tt);
}
  where
    body : (n : ℕ) → AreRead (λ s. body_in s n (Atom l q beside))
    body zero os s f = front-round os (leaf_single s l q) (forms_in s beside) (leaf_single-round os s l q f) (h.forms os s f)
    body (suc n) os s f = h.body n os s f

    function_body : (n : ℕ) → AreRead (λ s. function_body_in s n (Atom l q beside))
    function_body zero os s f =
        either-are os (is_text l && not (is_none beside)) (body_in s zero beside) (in_front (leaf_single s l q) (forms_in s beside)) (h.body zero os s f)
        (front-round os (leaf_single s l q) (forms_in s beside) (leaf_single-round os s l q f) (h.forms os s f))
    function_body (suc n) os s f = h.function_body n os s f

-- a list before others
list-read : (q : ℕ) (under beside : Data) → IsScopedData under → IsScopedData beside → IsScopedData (Listed q under beside)
list-read q under beside u h = record {
  forms = λ os s f. front-round os (listed s q under) (forms_in s beside) (u.listed q os s f) (h.forms os s f);
  listed = λ p os s f. (tt, tt);
  roles = λ roles i os s f. role-round os (role_at roles i) (listed s q under) (seated s q under) (by_roles s roles (suc i) beside)
      (u.listed q os s f) (u.seated q os s f) (h.roles roles (suc i) os s f);
  body = body;
  function_body = function_body;
  within = λ roles. u.roles roles 0;
  values_first = u.values;
  values = λ os s f. front-round os (first q (by_roles s (From 1) 0 under)) (values_in s beside)
      (first-round os q (by_roles s (From 1) 0 under) (u.roles (From 1) 0 os s f)) (h.values os s f);
  turns_first = u.turns;
  turns = λ os s f. turn-step os s (bound_in_list under) (bound_in beside) (first q (by_roles s (From 1) 0 under)) (λ t. turns_in t beside) f
      (first-round os q (by_roles s (From 1) 0 under) (u.roles (From 1) 0 os s f)) h.turns;
  pairs = λ p os s f. tt;
  pair = λ p target r os s f t. front-round os (Rows.set_form p target r (listed s q under)) (pairs_in s p beside)
      (set-round os p target r (listed s q under) t (u.listed q os s f)) (h.pairs p os s f);
  ors = λ p os s f. or-round os s p (is_none beside) (listed s q under) (λ inner. ors_in inner p beside) f (u.listed q os s f) (h.ors p);
  conds = λ p os s f. cond-round os s p (forms_in s under) (λ inner. conds_in inner p beside) f (u.forms os s f) (h.conds p);
  clauses_behind = h.clauses;
  clauses = λ p os s f. front-round os (clause_in s p under) (clauses_in s p beside) (u.clause p os s f) (h.clauses p os s f);
  clause = λ p os s f. (tt, tt);
  seated = λ p os s f. (tt, tt);
  seated_first = u.seated q;
}
  where
    body : (n : ℕ) → AreRead (λ s. body_in s n (Listed q under beside))
    body zero os s f =
        either-are os (is_declaration s.names under) (body_in s zero beside) (in_front (listed s q under) (forms_in s beside)) (h.body zero os s f)
        (front-round os (listed s q under) (forms_in s beside) (u.listed q os s f) (h.forms os s f))
    body (suc n) os s f = h.body n os s f

    function_body : (n : ℕ) → AreRead (λ s. function_body_in s n (Listed q under beside))
    function_body zero os s f =
        either-are os (is_declaration s.names under) (body_in s zero beside) (in_front (listed s q under) (forms_in s beside)) (h.body zero os s f)
        (front-round os (listed s q under) (forms_in s beside) (u.listed q os s f) (h.forms os s f))
    function_body (suc n) os s f = h.function_body n os s f

-- all data
pub data-read : (d : Data) → IsScopedData d
data-read NoData = none-read
data-read (Atom l q beside) = leaf-read l q beside (data-read beside)
data-read (Listed q under beside) = list-read q under beside (data-read under) (data-read beside)
