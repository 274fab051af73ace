-- The forms that data stand for, with what is refused of them in its place.
use Rattle.std.specs.Prelude.{ℕ, zero, suc, List, Bool, true, false, ◌&&◌, not, Option, Some, None, if◌then◌else◌, unwrap_or}
use Rattle.lisp_base.specs.Forest.{NoTrees}
use Rattle.lisp_base.specs.declared.condition.Class.{Class}
use Rattle.lisp_base.specs.declared.condition.Class.TheVariants.{Condition}
use Rattle.lisp_base.specs.declared.refusal.Refusal.TheVariants.{BadForm, UnknownOperator}
use Rattle.lisp_data.specs.Data.{Data, NoData, Atom, Listed}
use Rattle.lisp_data.specs.declared.datum.Leaf.{Leaf}
use Rattle.form_shapes.specs.declared.keywords.Role.{Role}
use Rattle.form_shapes.specs.declared.keywords.Role.TheVariants.{Value, Seat, Skipped}
use Rattle.form_shapes.specs.declared.keywords.Roles.{Roles}
use Rattle.form_shapes.specs.declared.keywords.Roles.TheVariants.{From}
use Rattle.form_shapes.specs.declared.scope.Target.{Target}
use Rattle.form_shapes.specs.Bindings.{bound_in_list, is_declaration, is_text, opened_by, or_none, received_by, variables_of}
use Rattle.form_shapes.specs.Clauses.{class_of, clause_variable}
use Rattle.form_shapes.specs.Keywords.{role_at}
use Rattle.form_shapes.specs.declared.seat.Seated.{Seated}
use Rattle.form_shapes.specs.declared.seat.Seated.TheVariants.{Made, Inner, Other}
use Rattle.form_shapes.specs.Seats.{misplaced_kind, parameters_in, seated_of, scope_within}
use Rattle.form_shapes.specs.Scopes.{Scope, leaf_form, leaf_symbol, target_in}
use Rattle.form_shapes.specs.Shapes.{shape_of}
use Rattle.lisp_forms.specs.Parts.{Parts}
use Rattle.lisp_forms.specs.Rows
use Rattle.lisp_forms.specs.Trees.{Expansion, Single, in_front, leaf, nil_form, refused, first}

-- what the rest of a `let*` is read by, after a variable
abbrev pub behind_variable : Scope → Option ℕ → Scope
behind_variable s None = s
behind_variable s (Some x) = opened_by s x

-- what the body of a clause is read by, where it has this variable or none
abbrev pub in_clause : Scope → Option ℕ → Scope
in_clause s None = s
in_clause s (Some x) = received_by s x

-- the class, where there is one
abbrev pub or_condition : Option Class → Class
or_condition class = unwrap_or class Condition

-- there are none
abbrev pub is_none : Data → Bool
is_none NoData = true
is_none (Atom leaf p beside) = false
is_none (Listed p under beside) = false

-- a leaf as a form
abbrev pub leaf_single : Scope → Leaf → ℕ → Single
leaf_single s l p = leaf (leaf_form s l) p

-- what one with a role stands for, before others
abbrev pub with_role : Role → (value seated : Single) → Expansion → Expansion
with_role Value value seated fs = in_front value fs
with_role Seat value seated fs = in_front seated fs
with_role Skipped value seated fs = fs

-- what stands in a function's seat, from the body of a `lambda` and what stands inside a `#'`
abbrev pub seated_form : Scope → ℕ → Seated → List ℕ → (body : Expansion) → (inner : Single) → Single
seated_form s p Made parameters body inner = Rows.lambda_form s p parameters body
seated_form s p Inner parameters body inner = inner
seated_form s p (Other kind) parameters body inner = leaf kind p

abbrev mutual
  -- each of these as a form
  pub forms_in : Scope → Data → Expansion
  forms_in s NoData = NoTrees
  forms_in s (Atom l p beside) = in_front (leaf_single s l p) (forms_in s beside)
  forms_in s (Listed p under beside) = in_front (listed s p under) (forms_in s beside)

  -- a list of these, at a place
  pub listed : Scope → ℕ → Data → Single
  listed s p NoData = refused UnknownOperator p
  listed s p (Listed q under args) = refused UnknownOperator p
  listed s p (Atom l q args) =
      Rows.list_form s p (shape_of s p (Atom l q args)) (or_none (variables_of args)) record {
        arguments = λ roles. by_roles s roles 0 args;
        body = λ inner n. body_in inner n args;
        forms = λ inner. forms_in inner args;
        within = λ inner roles. within_first inner roles args;
        values = values_first s args;
        values_in_turn = turn_first s args;
        pairs = pairs_in s p args;
        ors = ors_in s p args;
        conds = conds_in s p args;
        clauses = clauses_behind s p args;
      }

  -- each of these by what it is for, from the one with this number on
  pub by_roles : Scope → Roles → ℕ → Data → Expansion
  by_roles s roles i NoData = NoTrees
  by_roles s roles i (Atom l p beside) =
      with_role (role_at roles i) (leaf_single s l p) (leaf (misplaced_kind (leaf_form s l)) p) (by_roles s roles (suc i) beside)
  by_roles s roles i (Listed p under beside) = with_role (role_at roles i) (listed s p under) (seated s p under) (by_roles s roles (suc i) beside)

  -- those after so many, as a body
  pub body_in : Scope → ℕ → Data → Expansion
  body_in s n NoData = NoTrees
  body_in s (suc n) (Atom l p beside) = body_in s n beside
  body_in s (suc n) (Listed p under beside) = body_in s n beside
  body_in s zero (Atom l p beside) = in_front (leaf_single s l p) (forms_in s beside)
  body_in s zero (Listed p under beside) =
      if is_declaration s.names under then body_in s zero beside else in_front (listed s p under) (forms_in s beside)

  -- those after so many, as the body of a function
  pub function_body_in : Scope → ℕ → Data → Expansion
  function_body_in s n NoData = NoTrees
  function_body_in s (suc n) (Atom l p beside) = function_body_in s n beside
  function_body_in s (suc n) (Listed p under beside) = function_body_in s n beside
  function_body_in s zero (Atom l p beside) =
      if is_text l && not (is_none beside) then body_in s zero beside else in_front (leaf_single s l p) (forms_in s beside)
  function_body_in s zero (Listed p under beside) =
      if is_declaration s.names under then body_in s zero beside else in_front (listed s p under) (forms_in s beside)

  -- those in the list that is the first, by what they are for
  pub within_first : Scope → Roles → Data → Expansion
  within_first s roles NoData = NoTrees
  within_first s roles (Atom l p beside) = NoTrees
  within_first s roles (Listed p under beside) = by_roles s roles 0 under

  -- the values of the bindings in the first
  pub values_first : Scope → Data → Expansion
  values_first s NoData = NoTrees
  values_first s (Atom l p beside) = NoTrees
  values_first s (Listed p under beside) = values_in s under

  -- the values of these bindings
  pub values_in : Scope → Data → Expansion
  values_in s NoData = NoTrees
  values_in s (Atom l p beside) = in_front (nil_form p) (values_in s beside)
  values_in s (Listed p under beside) = in_front (first p (by_roles s (From 1) 0 under)) (values_in s beside)

  -- the values of the bindings in the first, where each is read with the variables before it, as in a `let*`
  pub turn_first : Scope → Data → Expansion
  turn_first s NoData = NoTrees
  turn_first s (Atom l p beside) = NoTrees
  turn_first s (Listed p under beside) = turns_in s under

  -- the values of these bindings, each read with the variables before it
  pub turns_in : Scope → Data → Expansion
  turns_in s NoData = NoTrees
  turns_in s (Atom l p beside) = in_front (nil_form p) (turns_in (behind_variable s (leaf_symbol l)) beside)
  turns_in s (Listed p under beside) =
      in_front (first p (by_roles s (From 1) 0 under)) (turns_in (behind_variable s (bound_in_list under)) beside)

  -- the pairs of a `setq` at a place
  pub pairs_in : Scope → ℕ → Data → Expansion
  pairs_in s p NoData = NoTrees
  pairs_in s p (Listed q under beside) = NoTrees
  pairs_in s p (Atom l q beside) = pair_in s p (target_in s (leaf_symbol l)) q beside

  -- a value for this variable, whose symbol is at q, and the other pairs
  pub pair_in : Scope → ℕ → Option Target → ℕ → Data → Expansion
  pair_in s p target q NoData = NoTrees
  pair_in s p target q (Atom l r beside) = in_front (Rows.set_form p target q (leaf_single s l r)) (pairs_in s p beside)
  pair_in s p target q (Listed r under beside) = in_front (Rows.set_form p target q (listed s r under)) (pairs_in s p beside)

  -- the `or` of these at a place
  pub ors_in : Scope → ℕ → Data → Single
  ors_in s p NoData = nil_form p
  ors_in s p (Atom l q beside) = Rows.or_form s p (is_none beside) (leaf_single s l q) (λ inner. ors_in inner p beside)
  ors_in s p (Listed q under beside) = Rows.or_form s p (is_none beside) (listed s q under) (λ inner. ors_in inner p beside)

  -- the `cond` of these clauses at a place
  pub conds_in : Scope → ℕ → Data → Single
  conds_in s p NoData = nil_form p
  conds_in s p (Atom l q beside) = conds_in s p beside
  conds_in s p (Listed q under beside) =
      Rows.clause_of_cond s p (forms_in s under) (λ inner. conds_in inner p beside)

  -- the clauses of a `handler-case` at a place, after its form
  pub clauses_behind : Scope → ℕ → Data → Expansion
  clauses_behind s p NoData = NoTrees
  clauses_behind s p (Atom l q beside) = clauses_in s p beside
  clauses_behind s p (Listed q under beside) = clauses_in s p beside

  -- these clauses
  pub clauses_in : Scope → ℕ → Data → Expansion
  clauses_in s p NoData = NoTrees
  clauses_in s p (Atom l q beside) = clauses_in s p beside
  clauses_in s p (Listed q under beside) = in_front (clause_in s p under) (clauses_in s p beside)

  -- a clause of these
  pub clause_in : Scope → ℕ → Data → Single
  clause_in s p NoData = nil_form p
  clause_in s p (Listed q under rest) = nil_form p
  clause_in s p (Atom l q rest) =
      Rows.clause_form s s.depth p (or_condition (class_of s.names (leaf_symbol l))) (clause_variable rest)
      (body_in (in_clause s (clause_variable rest)) 1 rest)

  -- a list of these in a function's seat
  pub seated : Scope → ℕ → Data → Single
  seated s p NoData = refused UnknownOperator p
  seated s p (Listed q under args) = refused UnknownOperator p
  seated s p (Atom l q args) =
      seated_form s p (seated_of s p (Atom l q args)) (parameters_in args)
      (function_body_in (scope_within s (parameters_in args)) 1 args) (seated_first s args)

  -- the list that is the first of these, in a function's seat
  pub seated_first : Scope → Data → Single
  seated_first s NoData = refused BadForm 0
  seated_first s (Atom l p beside) = refused BadForm 0
  seated_first s (Listed p under beside) = seated s p under

-- the parts of a list with these arguments
abbrev pub parts_in : Scope → ℕ → Data → Parts
parts_in s p args =
    record {
      arguments = λ roles. by_roles s roles 0 args;
      body = λ inner n. body_in inner n args;
      forms = λ inner. forms_in inner args;
      within = λ inner roles. within_first inner roles args;
      values = values_first s args;
      values_in_turn = turn_first s args;
      pairs = pairs_in s p args;
      ors = ors_in s p args;
      conds = conds_in s p args;
      clauses = clauses_behind s p args;
    }
