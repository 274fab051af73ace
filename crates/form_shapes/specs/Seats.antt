-- What stands in a function's seat.
use Rattle.std.specs.Prelude.{ℕ, List, [], ◌&&◌, ◌==◌, Option, Some, None, if◌then◌else◌, nat_lt, codes}
use Rattle.lisp_base.specs.declared.id.FunctionName.TheVariants.{Named}
use Rattle.lisp_base.specs.Refusals.{are_same, refusal_number}
use Rattle.lisp_base.specs.declared.refusal.Refusal.{Refusal}
use Rattle.lisp_base.specs.declared.refusal.Refusal.TheVariants.{BadForm, DefinedTwice, FunctionPlace, UnknownOperator}
use Rattle.lisp_program.specs.declared.form.CoreKind.TheVariants.{Function as FunctionForm}
use Rattle.lisp_data.specs.Data.{Data, NoData, Atom, Listed, behind, count_of}
use Rattle.form_shapes.specs.declared.operator.Operator.{Operator}
use Rattle.form_shapes.specs.declared.operator.Operator.TheVariants as op
use Rattle.form_shapes.specs.declared.expanded.Expanded.{Expanded}
use Rattle.form_shapes.specs.declared.expanded.Expanded.TheVariants.{Form, InBlock, Lambda, Defun, Refused, RefusedFunction}
use Rattle.form_shapes.specs.declared.seat.Seated.{Seated}
use Rattle.form_shapes.specs.declared.seat.Seated.TheVariants.{Made, Inner, Other}
use Rattle.form_shapes.specs.declared.shape.Shape.{Shape}
use Rattle.form_shapes.specs.declared.shape.Shape.TheVariants as shape
use Rattle.form_shapes.specs.Bindings.{is_named, list_fault, or_none, parameters_of, received}
use Rattle.form_shapes.specs.Scopes.{Scope, first_symbol, has, leaf_symbol, operator_at, with_open}
use Rattle.form_shapes.specs.Shapes.{shape_of}

-- A form that may not stand here is refused with `FunctionPlace`, or with what it would be refused for elsewhere, where that has the
-- lesser number.
abbrev pub misplaced_refusal : Refusal → Refusal
misplaced_refusal refusal = if nat_lt (refusal_number refusal) (refusal_number FunctionPlace) then refusal else FunctionPlace

-- the refusal of a form that may not stand here, by what would stand for it elsewhere
abbrev pub misplaced_kind : Expanded → Expanded
misplaced_kind (Form kind) = Refused FunctionPlace
misplaced_kind (InBlock n turning) = Refused FunctionPlace
misplaced_kind (Lambda parameters) = Refused FunctionPlace
misplaced_kind (Defun f parameters) = Refused FunctionPlace
misplaced_kind (Refused refusal) = Refused (misplaced_refusal refusal)
misplaced_kind (RefusedFunction refusal) = Refused (misplaced_refusal refusal)

-- the refusal of a list of this shape that may not stand here, at a place
abbrev pub misplaced_shape : ℕ → Shape → Expanded
misplaced_shape p (shape.Wrong refusal q) = if q == p then Refused (misplaced_refusal refusal) else Refused FunctionPlace
misplaced_shape p (shape.Leaf kind) = misplaced_kind kind
misplaced_shape p _ = Refused FunctionPlace

-- a `lambda` whose parameters have this fault or none; where the fault is only that two are the same, it counts as a function
abbrev pub lambda_seated : Option Refusal → Seated
lambda_seated None = Made
lambda_seated (Some refusal) = Other (if are_same refusal DefinedTwice then RefusedFunction DefinedTwice else Refused refusal)

-- `#'` of what may be the name of a function
abbrev pub name_seated : Scope → Option ℕ → Seated
name_seated s None = Other (Refused BadForm)
name_seated s (Some x) = Other (if has s.functions x then Form (FunctionForm (Named x)) else Refused UnknownOperator)

-- `#'` of these data: of a name, or of a `lambda`, which stands for itself
abbrev pub function_seated : Scope → Data → Seated
function_seated s NoData = Other (Refused BadForm)
function_seated s (Atom leaf q beside) = if count_of beside == 0 then name_seated s (leaf_symbol leaf) else Other (Refused BadForm)
function_seated s (Listed q under beside) =
    if (count_of beside == 0) && is_named s.names (codes "LAMBDA") (first_symbol under) then Inner else Other (Refused BadForm)

-- what a list with this operator is in a function's seat
abbrev pub seated_by : Scope → ℕ → Option Operator → Data → Seated
seated_by s p (Some op.Lambda) under = lambda_seated (list_fault s.names (parameters_of (behind 1 under)))
seated_by s p (Some op.Function) under = function_seated s (behind 1 under)
seated_by s p _ under = Other (misplaced_shape p (shape_of s p under))

-- what a list of these, which is at a place, is in a function's seat
abbrev pub seated_of : Scope → ℕ → Data → Seated
seated_of s p under = seated_by s p (operator_at s (first_symbol under)) under

-- the parameters of a `lambda` with these arguments; what one without its shape has does not matter
abbrev pub parameters_in : Data → List ℕ
parameters_in args = or_none (parameters_of args)

-- what the body of a function with these parameters is read by: nothing that is open round the function
abbrev pub scope_within : Scope → List ℕ → Scope
scope_within s parameters = received (with_open s [] 0) parameters
