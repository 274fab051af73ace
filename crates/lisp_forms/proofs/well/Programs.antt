-- Accepted programs are well made.
use Rattle.std.proofs.Common.{◌≡◌, ◌⊎◌, inl, inr, ℕ, List, [], ◌∷◌, Bool, true, false, ◌&&◌, ◌==◌, Option, Some, None, if◌then◌else◌, length, refl, sym, subst}
use Rattle.lisp_base.specs.Refusals.{are_same}
use Rattle.lisp_base.specs.declared.id.FunctionName.TheVariants.{Named}
use Rattle.lisp_base.specs.declared.refusal.Refusal.{Refusal}
use Rattle.lisp_base.specs.declared.refusal.Refusal.TheVariants.{DefinedTwice, TooMany}
use Rattle.lisp_base.specs.declared.refusal.Refused.{Refused}
use Rattle.lisp_base.specs.declared.value.Node.TheVariants.{Symbol as ASymbol}
use Rattle.lisp_base.specs.Value.{nil}
use Rattle.lisp_program.specs.Program.{Program}
use Rattle.lisp_program.specs.WellMade.{AreMade, BodiesAreMade, Each, IsNameOf, IsOneOf}
use Rattle.lisp_program.specs.declared.form.CoreKind.TheVariants as k
use Rattle.lisp_data.specs.Data.{Data, NoData, Atom, Listed, behind, count_of}
use Rattle.form_shapes.specs.declared.expanded.Expanded.TheVariants.{Form, RefusedFunction}
use Rattle.form_shapes.specs.declared.keywords.Roles.TheVariants.{Just}
use Rattle.form_shapes.specs.declared.shape.Shape.{Shape}
use Rattle.form_shapes.specs.declared.shape.Shape.TheVariants as shape
use Rattle.form_shapes.specs.Bindings.{list_fault, or_none, parameters_of, variables_of}
use Rattle.form_shapes.specs.Clauses.{are_clauses}
use Rattle.form_shapes.specs.Scopes.{Scope, first_symbol, has}
use Rattle.form_shapes.specs.Seats.{parameters_in}
use Rattle.form_shapes.specs.Shapes.{shape_of}
use Rattle.lisp_forms.specs.Expansion.{function_body_in, parts_in}
use Rattle.lisp_forms.specs.Laws.{IsFormRefusal, IsTold, ProgramsAreWellMade}
use Rattle.lisp_forms.specs.Program.{Expands, Known, built_in, definition_in, definition_of, definition_shape, defun_shape, expansion_of, function_in, functions_of, is_defvar, is_ignored, is_new, known_behind, most_specials, nothing_known, program_refusal, scope_of, scope_of_defun, top_form, top_forms, top_list, top_list_form, top_shape, variable_shape, variables_from}
use Rattle.lisp_forms.specs.Trees.{Expansion}
use Rattle.lisp_forms.specs.inside.Standing.{AreStanding, IsShapeStanding, IsStanding, IsStandingData, Suits}
use Rattle.lisp_forms.proofs.Told.{first_is_told}
use Rattle.lisp_forms.proofs.well.Frames.{defun-standing, list_form-standing}
use Rattle.lisp_forms.proofs.well.Lowered.{lowered-standing}
use Rattle.lisp_forms.proofs.well.Made.{AreIn, core-made, functions-made}
use Rattle.lisp_forms.proofs.well.Names.{functions-there, one-of, variable-there}
use Rattle.lisp_forms.proofs.well.Reading.{data-read, leaf_single-standing, parts-standing}
use Rattle.lisp_forms.proofs.well.Shapes.{if-shape, shape-standing}
use Rattle.lisp_forms.proofs.well.Standing.{front-standing, suits-within}

-- a definition of a variable
definition-standing : (w : Program) (ok : Bool) (x : ℕ) (by_defvar : Bool) (args : Data) → IsOneOf x w.specials → IsShapeStanding w ok (definition_shape x by_defvar args)
definition-standing w ok x true args h =
    if-shape w ok (count_of args == 1) (shape.Leaf (Form (k.Constant (ASymbol x)))) (shape.Over (k.Defvar x) (Just 1)) (tt, tt) (h, refl)
definition-standing w ok x false args h = (h, refl)

variable-standing : (w : Program) (ok : Bool) (known : List ℕ) (p x : ℕ) (by_defvar : Bool) (args : Data) → IsOneOf x w.specials
    → IsShapeStanding w ok (variable_shape known p x by_defvar args)
variable-standing w ok known p x by_defvar args h =
    if-shape w ok (has known x) (shape.Wrong DefinedTwice p)
    (if length known == most_specials then shape.Wrong TooMany p else definition_shape x by_defvar args) tt
    (if-shape w ok (length known == most_specials) (shape.Wrong TooMany p) (definition_shape x by_defvar args) tt (definition-standing w ok x by_defvar args h))

-- a definition of a function
defun_shape-standing : (w : Program) (ok : Bool) (names : List (List ℕ)) (known : List ℕ) (p f : ℕ) (fault : Option Refusal)
    → IsShapeStanding w ok (defun_shape names known p f fault)
defun_shape-standing w ok names known p f (Some refusal) =
    if-shape w ok (are_same refusal DefinedTwice && is_new names known f) (shape.Leaf (RefusedFunction DefinedTwice)) (shape.Wrong refusal p) (tt, tt) tt
defun_shape-standing w ok names known p f None = if-shape w ok (is_new names known f) (shape.Defun f) (shape.Wrong DefinedTwice p) tt tt

-- a list at top level
top_shape-standing : (w : Program) (s : Scope) (known : Known) (p : ℕ) (x f : Option ℕ) (under : Data) → Suits w s → ((y : ℕ) → x ≡ Some y → IsOneOf y w.specials)
    → IsShapeStanding w (are_clauses s.names (behind 1 (behind 1 under))) (top_shape s known p x f under)
top_shape-standing w s known p (Some x) f under fits h =
    variable-standing w _ known.variables p x (is_defvar (built_in s.names (first_symbol under))) (behind 1 under) (h x refl)
top_shape-standing w s known p None (Some f) under fits h =
    defun_shape-standing w _ s.names known.functions p f (list_fault s.names (parameters_of (behind 2 under)))
top_shape-standing w s known p None None under fits h =
    if-shape w _ (is_ignored (built_in s.names (first_symbol under))) (shape.Leaf (Form (k.Constant nil))) (shape_of s p under) (tt, tt) (shape-standing w s p under fits)

top_list_form-standing : (w : Program) (s : Scope) (p : ℕ) (a : Shape) (args : Data) → Suits w s → IsShapeStanding w (are_clauses s.names (behind 1 args)) a
    → IsStanding w (top_list_form s p a args)
top_list_form-standing w s p (shape.Defun f) args fits u =
    let xs : List ℕ = parameters_in (behind 1 args) in
    let read : IsStandingData w args = data-read w args in
    defun-standing w s p f xs (function_body_in (scope_of_defun s f xs) 2 args) fits (read.function_body 2 (scope_of_defun s f xs) (suits-within w s xs fits))
top_list_form-standing w s p other args fits u =
    list_form-standing w s p other (or_none (variables_of args)) (are_clauses s.names (behind 1 args)) (parts_in s p args) fits u
    (parts-standing w s p args fits (data-read w args))

top_list-standing : (w : Program) (s : Scope) (known : Known) (p : ℕ) (under : Data) → Suits w s → ((y : ℕ) → definition_in s.names under ≡ Some y → IsOneOf y w.specials)
    → IsStanding w (top_list s known p under)
top_list-standing w s known p NoData fits h = (tt, tt)
top_list-standing w s known p (Listed q under args) fits h = (tt, tt)
top_list-standing w s known p (Atom l q args) fits h =
    let under : Data = Atom l q args in
    let a : Shape = top_shape s known p (definition_in s.names under) (function_in s.names under) under in
    top_list_form-standing w s p a args fits (top_shape-standing w s known p (definition_in s.names under) (function_in s.names under) under fits h)

top_form-standing : (w : Program) (s : Scope) (known : Known) (d : Data) → Suits w s → ((y : ℕ) → definition_of s.names d ≡ Some y → IsOneOf y w.specials)
    → IsStanding w (top_form s known d)
top_form-standing w s known NoData fits h = (tt, tt)
top_form-standing w s known (Atom l p beside) fits h = leaf_single-standing w s l p fits
top_form-standing w s known (Listed p under beside) fits h = top_list-standing w s known p under fits h

-- all forms at top level
tops-standing : (w : Program) (s : Scope) (known : Known) (ds : List Data) → Suits w s
    → ((x : ℕ) → has (variables_from s.names known.variables ds) x ≡ true → IsOneOf x w.specials) → AreStanding w Each (top_forms s known ds)
tops-standing w s known [] fits h = tt
tops-standing w s known (d ∷ ds) fits h =
    front-standing w (top_form s known d) (top_forms s (known_behind s.names d known) ds)
    (top_form-standing w s known d fits (λ y e. h y (variable-there s.names known.variables d ds y e)))
    (tops-standing w s (known_behind s.names d known) ds fits h)

-- nothing in an accepted program is refused
none-refused : (e : Expansion) → program_refusal e ≡ None → (r : Refused) → IsFormRefusal r e → ⊥
none-refused e accepted r h =
    let told : IsTold None e = subst (λ o. IsTold o e) accepted (first_is_told e) in
    told r (inl h)

-- its special variables and its functions are those that it is read by
suits-program : (names texts : List (List ℕ)) (ds : List Data) (program : Program) → Expands names texts ds program → Suits program (scope_of names texts ds)
suits-program names texts ds program h = (
  λ x l. subst (IsOneOf x) (sym h.specials) (one-of (variables_from names [] ds) x l),
  λ f l. subst (IsNameOf (Named f)) (sym h.functions)
      (by f (functions-there (scope_of names texts ds) nothing_known ds f (none-refused (expansion_of names texts ds) h.accepted) l)),
)
  where
    by : (f : ℕ) → (has [] f ≡ true) ⊎ IsNameOf (Named f) (functions_of (expansion_of names texts ds)) → IsNameOf (Named f) (functions_of (expansion_of names texts ds))
    by f (inl l) = absurd (cc)
    by f (inr n) = n

-- an accepted program is well made
pub programs_are_well_made : ProgramsAreWellMade
programs_are_well_made names texts ds program h =
    let e : Expansion = expansion_of names texts ds in
    let s : Scope = scope_of names texts ds in
    let fits : Suits program s = suits-program names texts ds program h in
    let all : AreIn program (functions_of e) = λ name l. subst (IsNameOf name) (sym h.functions) l in
    let standing : AreStanding program Each e = lowered-standing program Each [] (top_forms s nothing_known ds) (tops-standing program s nothing_known ds fits fits.0) in
    record {
      forms = subst (AreMade program Each) (sym h.forms) (core-made program Each e all standing);
      functions = subst (BodiesAreMade program) (sym h.functions) (functions-made program Each e all standing);
    }
