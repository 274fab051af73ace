-- What a whole program stands for.
use Rattle.std.specs.Prelude.{◌≡◌, ℕ, suc, List, [], ◌∷◌, ◌++◌, Bool, true, false, ◌&&◌, ◌||◌, ◌==◌, Option, Some, None, if◌then◌else◌, nat_lt, length, not}
use Rattle.std.specs.Option.{is_some}
use Rattle.lisp_base.specs.Forest.{NoTrees, Tree}
use Rattle.lisp_base.specs.Refusals.{are_same, refusal_number}
use Rattle.lisp_base.specs.declared.id.FunctionName.TheVariants.{Named, At}
use Rattle.lisp_base.specs.declared.refusal.Refusal.{Refusal}
use Rattle.lisp_base.specs.declared.refusal.Refusal.TheVariants.{BadForm, DefinedTwice, TooMany, UnknownOperator}
use Rattle.lisp_base.specs.declared.refusal.Refused.{Refused}
use Rattle.lisp_base.specs.declared.refusal.Rejection.{Rejection}
use Rattle.lisp_base.specs.declared.refusal.Rejection.TheVariants.{Refused as RefusedProgram, Memory}
use Rattle.lisp_base.specs.declared.value.Node.TheVariants.{Symbol as ASymbol}
use Rattle.lisp_program.specs.Forms.{Forms}
use Rattle.lisp_base.specs.Value.{nil}
use Rattle.lisp_program.specs.Program.{Function, Program}
use Rattle.lisp_program.specs.declared.form.CoreKind.{CoreKind}
use Rattle.lisp_program.specs.declared.form.CoreKind.TheVariants as k
use Rattle.lisp_data.specs.Data.{Data, NoData, Atom, Listed, behind, count_of}
use Rattle.form_shapes.specs.declared.operator.Operator.{Operator}
use Rattle.form_shapes.specs.declared.operator.Operator.TheVariants as op
use Rattle.form_shapes.specs.Operators.{operator_named}
use Rattle.form_shapes.specs.declared.expanded.Expanded.{Expanded}
use Rattle.form_shapes.specs.declared.expanded.Expanded.TheVariants.{Form, InBlock, Lambda, Defun, Refused as RefusedForm, RefusedFunction}
use Rattle.form_shapes.specs.declared.keywords.Roles.TheVariants.{Just}
use Rattle.form_shapes.specs.declared.levels.Level.TheVariants.{Block}
use Rattle.form_shapes.specs.declared.shape.Shape.{Shape}
use Rattle.form_shapes.specs.declared.shape.Shape.TheVariants as shape
use Rattle.form_shapes.specs.Bindings.{is_text_first, list_fault, or_none, parameters_of, variables_of}
use Rattle.form_shapes.specs.Seats.{parameters_in, scope_within}
use Rattle.form_shapes.specs.Scopes.{Scope, as_variable, first_symbol, has, inside, name_of}
use Rattle.form_shapes.specs.Shapes.{shape_of}
use Rattle.lisp_forms.specs.Expansion.{function_body_in, leaf_single, parts_in}
use Rattle.lisp_forms.specs.Blocks.{is_function, lowered, turning_kind}
use Rattle.lisp_forms.specs.Rows.{defun_form, list_form}
use Rattle.lisp_forms.specs.Trees.{Expansion, Single, in_front, refused}

-- what stands at the front of a list, whatever the program defines
abbrev pub built_in : List (List ℕ) → Option ℕ → Option Operator
built_in names None = None
built_in names (Some x) = operator_named (name_of names x)

-- after `defvar` comes a name, or a name and a value, or these and a string; whether it is a name is looked at apart
abbrev pub is_definition : Data → Bool
is_definition args = nat_lt (count_of args) 3 || ((count_of args == 3) && is_text_first (behind 2 args))

-- after `defparameter` come a name and a value, and there may be a string after them
abbrev pub is_parameter : Data → Bool
is_parameter args = (count_of args == 2) || ((count_of args == 3) && is_text_first (behind 2 args))

-- the variable that a list with this operator and these arguments defines
abbrev pub defined_by : List (List ℕ) → Option Operator → Data → Option ℕ
defined_by names (Some op.Defvar) args = if is_definition args then as_variable names (first_symbol args) else None
defined_by names (Some op.Defparameter) args = if is_parameter args then as_variable names (first_symbol args) else None
defined_by names _ args = None

-- the variable that a list of these defines at top level
abbrev pub definition_in : List (List ℕ) → Data → Option ℕ
definition_in names under = defined_by names (built_in names (first_symbol under)) (behind 1 under)

-- a fault that leaves a definition without its shape
abbrev pub is_shapeless : Option Refusal → Bool
is_shapeless None = false
is_shapeless (Some refusal) = are_same refusal BadForm

-- the name of the function of a list with this operator and these arguments, where it is a `defun` with its shape
abbrev pub function_by : List (List ℕ) → Option Operator → Data → Option ℕ
function_by names (Some op.Defun) args =
    if is_shapeless (list_fault names (parameters_of (behind 1 args))) then None else as_variable names (first_symbol args)
function_by names _ args = None

-- the name of the function of a list of these, where it is a `defun` with its shape
abbrev pub function_in : List (List ℕ) → Data → Option ℕ
function_in names under = function_by names (built_in names (first_symbol under)) (behind 1 under)

-- the variable that a datum defines
abbrev pub definition_of : List (List ℕ) → Data → Option ℕ
definition_of names NoData = None
definition_of names (Atom leaf p beside) = None
definition_of names (Listed p under beside) = definition_in names under

-- a symbol has the name of an operator or function of the language
abbrev pub is_built_in : List (List ℕ) → ℕ → Bool
is_built_in names x = is_some (operator_named (name_of names x))

-- the name of a function, where there is one and the language has none of that name
abbrev pub own_name : List (List ℕ) → Option ℕ → Option ℕ
own_name names None = None
own_name names (Some f) = if is_built_in names f then None else Some f

-- the function that a datum defines: none has a name of the language
abbrev pub function_of : List (List ℕ) → Data → Option ℕ
function_of names NoData = None
function_of names (Atom leaf p beside) = None
function_of names (Listed p under beside) = own_name names (function_in names under)

-- a name after others, where there is one and it is new
abbrev pub with_name : Option ℕ → List ℕ → List ℕ
with_name None known = known
with_name (Some x) known = if has known x then known else known ++ x ∷ []

-- the variables that are defined in these and before them, in order of definition
abbrev pub variables_from : List (List ℕ) → List ℕ → List Data → List ℕ
variables_from names known [] = known
variables_from names known (d ∷ ds) = variables_from names (with_name (definition_of names d) known) ds

-- the functions that are defined in these and before them
abbrev pub functions_from : List (List ℕ) → List ℕ → List Data → List ℕ
functions_from names known [] = known
functions_from names known (d ∷ ds) = functions_from names (with_name (function_of names d) known) ds

-- the most special variables
abbrev pub most_specials : ℕ
most_specials = 256

-- the most functions
abbrev pub most_functions : ℕ
most_functions = 1024

-- a list is a `defvar`
abbrev pub is_defvar : Option Operator → Bool
is_defvar (Some op.Defvar) = true
is_defvar _ = false

-- a definition of a variable with these arguments, by `defvar` or else by `defparameter`
abbrev pub definition_shape : ℕ → (by_defvar : Bool) → Data → Shape
definition_shape x by_defvar args =
    if by_defvar && (count_of args == 1) then shape.Leaf (Form (k.Constant (ASymbol x)))
    else shape.Over (if by_defvar then k.Defvar x else k.Defparameter x) (Just 1)

-- a definition of a variable, where these variables are defined before it
abbrev pub variable_shape : List ℕ → ℕ → ℕ → (by_defvar : Bool) → Data → Shape
variable_shape known p x by_defvar args =
    if has known x then shape.Wrong DefinedTwice p
    else if length known == most_specials then shape.Wrong TooMany p
    else definition_shape x by_defvar args

-- a function may be defined by this name: the language has none of that name, and none is defined before
abbrev pub is_new : List (List ℕ) → List ℕ → ℕ → Bool
is_new names known f = not (has known f || is_built_in names f)

-- A definition of a function whose parameters have this fault or none, where these functions are defined before it. One whose
-- name is not new is refused and does not count among the functions.
abbrev pub defun_shape : List (List ℕ) → List ℕ → ℕ → ℕ → Option Refusal → Shape
defun_shape names known p f (Some refusal) =
    if are_same refusal DefinedTwice && is_new names known f then shape.Leaf (RefusedFunction DefinedTwice) else shape.Wrong refusal p
defun_shape names known p f None = if is_new names known f then shape.Defun f else shape.Wrong DefinedTwice p

-- an operator of the top level that is ignored there
abbrev pub is_ignored : Option Operator → Bool
is_ignored (Some op.Ignored) = true
is_ignored _ = false

-- what a list is that defines nothing at top level: one that is ignored is NIL, and any other is what it is elsewhere
abbrev pub other_shape : Option Operator → Shape → Shape
other_shape operator elsewhere = if is_ignored operator then shape.Leaf (Form (k.Constant nil)) else elsewhere

-- what is defined before a form
pub record Known : Type 0 where
  pub variables : List ℕ
  pub functions : List ℕ

-- a list of these at top level, where it defines this variable or this function, or neither
abbrev pub top_shape : Scope → Known → ℕ → Option ℕ → Option ℕ → Data → Shape
top_shape s known p (Some x) f under =
    variable_shape known.variables p x (is_defvar (built_in s.names (first_symbol under))) (behind 1 under)
top_shape s known p None (Some f) under =
    defun_shape s.names known.functions p f (list_fault s.names (parameters_of (behind 2 under)))
top_shape s known p None None under = other_shape (built_in s.names (first_symbol under)) (shape_of s p under)

-- what the body of a `defun` of this name with these parameters is read by
abbrev pub scope_of_defun : Scope → ℕ → List ℕ → Scope
scope_of_defun s f parameters = inside (scope_within s parameters) (Block f)

-- what stands for a list of this shape with these arguments at top level
abbrev pub top_list_form : Scope → ℕ → Shape → Data → Single
top_list_form s p (shape.Defun f) args =
    defun_form s p f (parameters_in (behind 1 args)) (function_body_in (scope_of_defun s f (parameters_in (behind 1 args))) 2 args)
top_list_form s p other args = list_form s p other (or_none (variables_of args)) (parts_in s p args)

-- a list of these at top level
abbrev pub top_list : Scope → Known → ℕ → Data → Single
top_list s known p NoData = refused UnknownOperator p
top_list s known p (Listed q under args) = refused UnknownOperator p
top_list s known p (Atom leaf q args) =
    let under : Data = Atom leaf q args in
    top_list_form s p (top_shape s known p (definition_in s.names under) (function_in s.names under) under) args

-- the first of these as a form at top level
abbrev pub top_form : Scope → Known → Data → Single
top_form s known NoData = refused UnknownOperator 0
top_form s known (Atom leaf p beside) = leaf_single s leaf p
top_form s known (Listed p under beside) = top_list s known p under

-- what is known after a datum
abbrev pub known_behind : List (List ℕ) → Data → Known → Known
known_behind names d known =
    record { variables = with_name (definition_of names d) known.variables; functions = with_name (function_of names d) known.functions }

-- each of these as a form at top level
abbrev pub top_forms : Scope → Known → List Data → Expansion
top_forms s known [] = NoTrees
top_forms s known (d ∷ ds) = in_front (top_form s known d) (top_forms s (known_behind s.names d known) ds)

-- what the forms of a program are read by
abbrev pub scope_of : (names texts : List (List ℕ)) → List Data → Scope
scope_of names texts ds =
    record { names = names; texts = texts; specials = variables_from names [] ds; functions = functions_from names [] ds; levels = []; depth = 0 }

-- nothing is known before the first form
abbrev pub nothing_known : Known
nothing_known = record { variables = []; functions = [] }

-- what a program stands for, with what is refused of it in its place; of its implicit blocks only those are there to which something returns
abbrev pub expansion_of : (names texts : List (List ℕ)) → List Data → Expansion
expansion_of names texts ds = lowered [] (top_forms (scope_of names texts ds) nothing_known ds)

-- one refusal comes before another: by place, and at one place by its number
abbrev pub comes_before : Refused → Refused → Bool
comes_before a b = nat_lt a.place b.place || ((a.place == b.place) && nat_lt (refusal_number a.refusal) (refusal_number b.refusal))

-- the first of two
abbrev pub earlier : Option Refused → Option Refused → Option Refused
earlier None b = b
earlier (Some a) None = Some a
earlier (Some a) (Some b) = if comes_before b a then Some b else Some a

-- what is refused for this reason at this place
abbrev pub refused_at : Refusal → ℕ → Option Refused
refused_at refusal p = Some (record { refusal = refusal; place = p })

-- what is refused of a form by itself
abbrev pub refusal_of : Expanded → ℕ → Option Refused
refusal_of (Form kind) p = None
refusal_of (InBlock n turning) p = None
refusal_of (Lambda parameters) p = None
refusal_of (Defun f parameters) p = None
refusal_of (RefusedForm refusal) p = refused_at refusal p
refusal_of (RefusedFunction refusal) p = refused_at refusal p

-- the first refusal of these and that one
abbrev pub first_refusal : Option Refused → Expansion → Option Refused
first_refusal found NoTrees = found
first_refusal found (Tree kind p under beside) = first_refusal (first_refusal (earlier found (refusal_of kind p)) under) beside

-- the places of the functions in these
abbrev pub function_places : Expansion → List ℕ
function_places NoTrees = []
function_places (Tree kind p under beside) =
    if is_function kind then p ∷ (function_places under ++ function_places beside) else function_places under ++ function_places beside

-- how many of these places come before that one
abbrev pub before : ℕ → List ℕ → ℕ
before q [] = 0
before q (p ∷ ps) = if nat_lt p q then suc (before q ps) else before q ps

-- the first of these places before which there are as many of those as there may be
abbrev pub past_limit : List ℕ → List ℕ → Option ℕ
past_limit all [] = None
past_limit all (p ∷ ps) = if before p all == most_functions then Some p else past_limit all ps

-- a function past the limit is refused
abbrev pub limit_refusal : Option ℕ → Option Refused
limit_refusal None = None
limit_refusal (Some p) = refused_at TooMany p

-- what is refused of a program
abbrev pub program_refusal : Expansion → Option Refused
program_refusal e = earlier (first_refusal None e) (limit_refusal (past_limit (function_places e) (function_places e)))

-- the kind of a form that is not refused; what is given for one that is does not matter
abbrev pub core_kind : Expanded → ℕ → CoreKind
core_kind (Form kind) p = kind
core_kind (InBlock n turning) p = turning_kind turning
core_kind (Lambda parameters) p = k.Function (At p)
core_kind (Defun f parameters) p = k.Defun f
core_kind (RefusedForm refusal) p = k.Constant nil
core_kind (RefusedFunction refusal) p = k.Constant nil

-- a form with these under it before others, in its block where it has one
abbrev pub with_block : Expanded → CoreKind → ℕ → (under others : Forms) → Forms
with_block (InBlock n turning) kind p under others = Tree (k.Block n) p (Tree kind p under NoTrees) others
with_block _ kind p under others = Tree kind p under others

-- the forms without the bodies of functions
abbrev pub core_forms : Expansion → Forms
core_forms NoTrees = NoTrees
core_forms (Tree kind p under beside) =
    with_block kind (core_kind kind p) p (if is_function kind then NoTrees else core_forms under) (core_forms beside)

-- a function before others
abbrev pub with_function : Expanded → ℕ → Forms → List Function → List Function
with_function (Form kind) p body fs = fs
with_function (InBlock n turning) p body fs = fs
with_function (Lambda parameters) p body fs = (record { name = At p; place = p; params = parameters; body = body }) ∷ fs
with_function (Defun f parameters) p body fs = (record { name = Named f; place = p; params = parameters; body = body }) ∷ fs
with_function (RefusedForm refusal) p body fs = fs
with_function (RefusedFunction refusal) p body fs = fs

-- the functions in these, each before those in it
abbrev pub functions_of : Expansion → List Function
functions_of NoTrees = []
functions_of (Tree kind p under beside) = with_function kind p (core_forms under) (functions_of under ++ functions_of beside)

-- The data are a program where these are the names of its symbols and the texts of its string literals: nothing in them is refused.
pub record Expands (names texts : List (List ℕ)) (ds : List Data) (program : Program) : Type 0 where
  pub accepted : program_refusal (expansion_of names texts ds) ≡ None
  pub forms : program.forms ≡ core_forms (expansion_of names texts ds)
  pub functions : program.functions ≡ functions_of (expansion_of names texts ds)
  pub specials : program.specials ≡ variables_from names [] ds

-- The data are refused for this reason at this place: of all that is refused of them it comes first.
abbrev pub IsRefused : (names texts : List (List ℕ)) → List Data → Refusal → ℕ → Type 0
IsRefused names texts ds refusal place = program_refusal (expansion_of names texts ds) ≡ refused_at refusal place

-- a refusal says why data are refused; it says nothing where memory runs out
abbrev pub IsRefusal : (names texts : List (List ℕ)) → List Data → Rejection → Type 0
IsRefusal names texts ds (RefusedProgram refusal place) = IsRefused names texts ds refusal place
IsRefusal names texts ds Memory = Unit {0}
