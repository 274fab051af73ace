-- Programs name what is open round each form.
use Rattle.std.proofs.Common.{ℕ, List, [], ◌∷◌, Bool, true, false, ◌&&◌, ◌==◌, Option, Some, None, if◌then◌else◌, length, replicate, refl, sym, subst}
use Rattle.lisp_base.specs.Refusals.{are_same}
use Rattle.lisp_base.specs.declared.refusal.Refusal.{Refusal}
use Rattle.lisp_base.specs.declared.refusal.Refusal.TheVariants.{DefinedTwice, TooMany}
use Rattle.lisp_base.specs.declared.value.Node.TheVariants.{Symbol as ASymbol}
use Rattle.lisp_base.specs.Value.{nil}
use Rattle.lisp_program.specs.declared.form.CoreKind.TheVariants as k
use Rattle.lisp_data.specs.Data.{Data, NoData, Atom, Listed, behind, count_of}
use Rattle.form_shapes.specs.declared.expanded.Expanded.TheVariants.{Form, RefusedFunction}
use Rattle.form_shapes.specs.declared.keywords.Roles.TheVariants.{Just}
use Rattle.form_shapes.specs.declared.levels.Level.TheVariants.{Block}
use Rattle.form_shapes.specs.declared.shape.Shape.{Shape}
use Rattle.form_shapes.specs.declared.shape.Shape.TheVariants as shape
use Rattle.form_shapes.specs.Bindings.{list_fault, or_none, parameters_of, variables_of}
use Rattle.form_shapes.specs.Scopes.{Scope, first_symbol, has}
use Rattle.form_shapes.specs.Seats.{parameters_in, scope_within}
use Rattle.form_shapes.specs.Shapes.{shape_of}
use Rattle.lisp_forms.specs.Expansion.{function_body_in, parts_in}
use Rattle.lisp_forms.specs.Program.{Known, built_in, definition_in, definition_shape, defun_shape, expansion_of, function_in, is_defvar, is_ignored, is_new, known_behind, most_specials, nothing_known, scope_of, scope_of_defun, top_form, top_forms, top_list, top_list_form, top_shape, variable_shape}
use Rattle.lisp_forms.specs.Trees.{Expansion}
use Rattle.form_laws.specs.Scoping.{AreScoped, Entry, IsScoped, Opening, ProgramsAreScoped, Variable}
use Rattle.form_laws.specs.inside.Openings.{Fits, IsRound, IsRoundOne}
use Rattle.form_laws.specs.inside.Read.{IsScopedData}
use Rattle.form_laws.proofs.Fitting.{fits-inside, fits-within}
use Rattle.form_laws.proofs.Formed.{core-scoped, functions-scoped}
use Rattle.form_laws.proofs.Frames.{defun-round, list_form-round}
use Rattle.form_laws.proofs.Lowered.{lowered-round}
use Rattle.form_laws.proofs.Read.{data-read, leaf_single-round, parts-round}
use Rattle.form_laws.proofs.Rows.{front-round}
use Rattle.form_laws.proofs.Shaped.{IsShapeRound, if-round, shape-round}

-- a definition of a variable
definition-round : (os : List Opening) (x : ℕ) (by_defvar : Bool) (args : Data) → IsShapeRound os (definition_shape x by_defvar args)
definition-round os x true args = if-round os (count_of args == 1) (shape.Leaf (Form (k.Constant (ASymbol x)))) (shape.Over (k.Defvar x) (Just 1)) tt tt
definition-round os x false args = tt

variable-round : (os : List Opening) (known : List ℕ) (p x : ℕ) (by_defvar : Bool) (args : Data) → IsShapeRound os (variable_shape known p x by_defvar args)
variable-round os known p x by_defvar args =
    if-round os (has known x) (shape.Wrong DefinedTwice p)
    (if length known == most_specials then shape.Wrong TooMany p else definition_shape x by_defvar args) tt
    (if-round os (length known == most_specials) (shape.Wrong TooMany p) (definition_shape x by_defvar args) tt (definition-round os x by_defvar args))

-- a definition of a function
defun_shape-round : (os : List Opening) (names : List (List ℕ)) (known : List ℕ) (p f : ℕ) (fault : Option Refusal) → IsShapeRound os (defun_shape names known p f fault)
defun_shape-round os names known p f (Some refusal) =
    if-round os (are_same refusal DefinedTwice && is_new names known f) (shape.Leaf (RefusedFunction DefinedTwice)) (shape.Wrong refusal p) tt tt
defun_shape-round os names known p f None = if-round os (is_new names known f) (shape.Defun f) (shape.Wrong DefinedTwice p) tt tt

-- a list at top level
top_shape-round : (os : List Opening) (s : Scope) (known : Known) (p : ℕ) (x f : Option ℕ) (under : Data) → Fits os s → IsShapeRound os (top_shape s known p x f under)
top_shape-round os s known p (Some x) f under fits =
    variable-round os known.variables p x (is_defvar (built_in s.names (first_symbol under))) (behind 1 under)
top_shape-round os s known p None (Some f) under fits =
    defun_shape-round os s.names known.functions p f (list_fault s.names (parameters_of (behind 2 under)))
top_shape-round os s known p None None under fits =
    if-round os (is_ignored (built_in s.names (first_symbol under))) (shape.Leaf (Form (k.Constant nil))) (shape_of s p under) tt (shape-round os s p under fits)

top_list_form-round : (os : List Opening) (s : Scope) (p : ℕ) (a : Shape) (args : Data) → Fits os s → IsShapeRound os a → IsRoundOne os (top_list_form s p a args)
top_list_form-round os s p (shape.Defun f) args fits u =
    let xs : List ℕ = parameters_in (behind 1 args) in
    let read : IsScopedData args = data-read args in
    defun-round os s p f xs (function_body_in (scope_of_defun s f xs) 2 args)
    (read.function_body 2 (Entry ∷ replicate (length xs) Variable) (scope_of_defun s f xs)
    (fits-inside (replicate (length xs) Variable) (scope_within s xs) (Block f) (fits-within s xs)))
top_list_form-round os s p other args fits u =
    list_form-round os s p other (or_none (variables_of args)) (parts_in s p args) fits u (parts-round os s p args fits (data-read args))

top_list-round : (os : List Opening) (s : Scope) (known : Known) (p : ℕ) (under : Data) → Fits os s → IsRoundOne os (top_list s known p under)
top_list-round os s known p NoData fits = (tt, tt)
top_list-round os s known p (Listed q under args) fits = (tt, tt)
top_list-round os s known p (Atom l q args) fits =
    let under : Data = Atom l q args in
    let a : Shape = top_shape s known p (definition_in s.names under) (function_in s.names under) under in
    top_list_form-round os s p a args fits (top_shape-round os s known p (definition_in s.names under) (function_in s.names under) under fits)

top_form-round : (os : List Opening) (s : Scope) (known : Known) (d : Data) → Fits os s → IsRoundOne os (top_form s known d)
top_form-round os s known NoData fits = (tt, tt)
top_form-round os s known (Atom l p beside) fits = leaf_single-round os s l p fits
top_form-round os s known (Listed p under beside) fits = top_list-round os s known p under fits

-- all forms at top level
tops-round : (os : List Opening) (s : Scope) (known : Known) (ds : List Data) → Fits os s → IsRound os (top_forms s known ds)
tops-round os s known [] fits = tt
tops-round os s known (d ∷ ds) fits =
    front-round os (top_form s known d) (top_forms s (known_behind s.names d known) ds) (top_form-round os s known d fits)
    (tops-round os s (known_behind s.names d known) ds fits)

-- an expansion
expansion-round : (names texts : List (List ℕ)) (ds : List Data) → IsRound [] (expansion_of names texts ds)
expansion-round names texts ds =
    let s : Scope = scope_of names texts ds in
    lowered-round [] (top_forms s nothing_known ds) (tops-round [] s nothing_known ds (refl, tt))

-- a program
pub programs_are_scoped : ProgramsAreScoped
programs_are_scoped names texts ds program h =
    let e : Expansion = expansion_of names texts ds in
    record {
      forms = subst (IsScoped []) (sym h.forms) (core-scoped [] e (expansion-round names texts ds));
      functions = subst AreScoped (sym h.functions) (functions-scoped [] e (expansion-round names texts ds));
    }
