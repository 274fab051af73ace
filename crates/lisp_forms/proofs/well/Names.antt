-- The functions and the special variables that forms are read by are those of the program.
use Rattle.std.proofs.Common.{◌≡◌, ◌⊎◌, inl, inr, ℕ, List, [], ◌∷◌, ◌++◌, Bool, true, false, ◌||◌, ◌&&◌, ◌==◌, Option, Some, None, if◌then◌else◌, refl, ap, sym, subst, ◌∙◌, arith}
use Rattle.std.proofs.lemmas.Bool.Decides.{nat_tests}
use Rattle.std.proofs.lemmas.List.Folds.{list_any-append}
use Rattle.lisp_base.specs.Refusals.{are_same}
use Rattle.lisp_base.specs.declared.id.FunctionName.TheVariants.{Named}
use Rattle.lisp_base.specs.declared.refusal.Refusal.{Refusal}
use Rattle.lisp_base.specs.declared.refusal.Refusal.TheVariants.{DefinedTwice}
use Rattle.lisp_base.specs.declared.refusal.Refused.{Refused}
use Rattle.lisp_program.specs.Forms.{Forms}
use Rattle.lisp_program.specs.Program.{Function}
use Rattle.lisp_program.specs.WellMade.{IsNameOf, IsOneOf}
use Rattle.lisp_data.specs.Data.{Data, NoData, Atom, Listed, behind}
use Rattle.form_shapes.specs.declared.expanded.Expanded.{Expanded}
use Rattle.form_shapes.specs.declared.expanded.Expanded.TheVariants.{Form, InBlock, Lambda, Defun, Refused as RefusedForm, RefusedFunction}
use Rattle.form_shapes.specs.declared.operator.Operator.{Operator}
use Rattle.form_shapes.specs.declared.operator.Operator.TheVariants as op
use Rattle.form_shapes.specs.declared.shape.Shape.TheVariants as shape
use Rattle.form_shapes.specs.Bindings.{list_fault, parameters_of}
use Rattle.form_shapes.specs.Scopes.{Scope, first_symbol, has}
use Rattle.lisp_forms.specs.Blocks.{is_made, lowered, lowered_kind, not_made_under}
use Rattle.lisp_forms.specs.Laws.{IsFormRefusal}
use Rattle.lisp_forms.specs.Program.{Known, built_in, core_forms, defined_by, definition_in, definition_of, defun_shape, function_by, function_in, function_of, functions_from, functions_of, is_built_in, is_new, known_behind, own_name, refusal_of, top_form, top_forms, top_list, top_list_form, top_shape, variables_from, with_function, with_name}
use Rattle.lisp_forms.specs.Trees.{Expansion, Single}
use Rattle.lisp_forms.proofs.well.Made.{name-behind, name-right}

-- what these have is one of them
pub one-of : (xs : List ℕ) (x : ℕ) → has xs x ≡ true → IsOneOf x xs
one-of [] x h = absurd (cc)
one-of (y ∷ ys) x h = by (y == x) refl h (λ i. one-of ys x i)
  where
    by : (t : Bool) → (y == x) ≡ t → (t || has ys x) ≡ true → (has ys x ≡ true → IsOneOf x ys) → IsOneOf x (y ∷ ys)
    by true e i rest = inl (grind (arith, nat_tests, e))
    by false e i rest = inr (rest i)

-- one more at the end
has-append : (xs : List ℕ) (y x : ℕ) → has (xs ++ y ∷ []) x ≡ (has xs x || ((y == x) || false))
has-append xs y x = list_any-append (λ z. z == x) xs (y ∷ [])

has-front : (xs : List ℕ) (y x : ℕ) → has xs x ≡ true → has (xs ++ y ∷ []) x ≡ true
has-front xs y x h = has-append xs y x ∙ ap (λ t. t || ((y == x) || false)) h

has-last : (xs : List ℕ) (x : ℕ) → has (xs ++ x ∷ []) x ≡ true
has-last xs x = has-append xs x x ∙ by (has xs x) (x == x) refl
  where
    by : (t u : Bool) → (x == x) ≡ u → (t || (u || false)) ≡ true
    by true u e = refl
    by false true e = refl
    by false false e = absurd (grind (arith, nat_tests, e))

has-either : (xs : List ℕ) (y x : ℕ) → has (xs ++ y ∷ []) x ≡ true → (has xs x ≡ true) ⊎ (y ≡ x)
has-either xs y x h = by (has xs x) (y == x) refl (sym (has-append xs y x) ∙ h)
  where
    by : (t u : Bool) → (y == x) ≡ u → (t || (u || false)) ≡ true → (t ≡ true) ⊎ (y ≡ x)
    by true u e i = inl refl
    by false true e i = inr (grind (arith, nat_tests, e))
    by false false e i = absurd (cc)

-- a name after others
with-name-stays : (o : Option ℕ) (known : List ℕ) (x : ℕ) → has known x ≡ true → has (with_name o known) x ≡ true
with-name-stays None known x h = h
with-name-stays (Some y) known x h = by (has known y)
  where
    by : (t : Bool) → has (if t then known else known ++ y ∷ []) x ≡ true
    by true = h
    by false = has-front known y x h

with-name-has : (x : ℕ) (known : List ℕ) → has (with_name (Some x) known) x ≡ true
with-name-has x known = by (has known x) refl
  where
    by : (t : Bool) → has known x ≡ t → has (if t then known else known ++ x ∷ []) x ≡ true
    by true e = e
    by false e = has-last known x

with-name-either : (o : Option ℕ) (known : List ℕ) (x : ℕ) → has (with_name o known) x ≡ true → (has known x ≡ true) ⊎ (o ≡ Some x)
with-name-either None known x h = inl h
with-name-either (Some y) known x h = by (has known y) h
  where
    last : (has known x ≡ true) ⊎ (y ≡ x) → (has known x ≡ true) ⊎ (Some y ≡ Some x)
    last (inl i) = inl i
    last (inr e) = inr (ap Some e)

    by : (t : Bool) → has (if t then known else known ++ y ∷ []) x ≡ true → (has known x ≡ true) ⊎ (Some y ≡ Some x)
    by true i = inl i
    by false i = last (has-either known y x i)

-- what is known stays known
variables-stay : (names : List (List ℕ)) (known : List ℕ) (ds : List Data) (x : ℕ) → has known x ≡ true → has (variables_from names known ds) x ≡ true
variables-stay names known [] x h = h
variables-stay names known (d ∷ ds) x h = variables-stay names (with_name (definition_of names d) known) ds x (with-name-stays (definition_of names d) known x h)

-- a variable that is defined
pub variable-there : (names : List (List ℕ)) (known : List ℕ) (d : Data) (ds : List Data) (x : ℕ) → definition_of names d ≡ Some x
    → has (variables_from names known (d ∷ ds)) x ≡ true
variable-there names known d ds x h =
    variables-stay names (with_name (definition_of names d) known) ds x
    (subst (λ o. has (with_name o known) x ≡ true) (sym h) (with-name-has x known))

-- a form defines this function, or is refused
abbrev DefinesOrFails : ℕ → Expanded → Type 0
DefinesOrFails f (Form kind) = ⊥
DefinesOrFails f (InBlock n turning) = ⊥
DefinesOrFails f (Lambda parameters) = ⊥
DefinesOrFails f (Defun g parameters) = f ≡ g
DefinesOrFails f (RefusedForm refusal) = Unit {0}
DefinesOrFails f (RefusedFunction refusal) = Unit {0}

defun-defines : (s : Scope) (known : List ℕ) (p f : ℕ) (fault : Option Refusal) (args : Data)
    → DefinesOrFails f (top_list_form s p (defun_shape s.names known p f fault) args).kind
defun-defines s known p f None args = by (is_new s.names known f)
  where
    by : (t : Bool) → DefinesOrFails f (top_list_form s p (if t then shape.Defun f else shape.Wrong DefinedTwice p) args).kind
    by true = refl
    by false = tt
defun-defines s known p f (Some refusal) args = by (are_same refusal DefinedTwice && is_new s.names known f)
  where
    by : (t : Bool) → DefinesOrFails f (top_list_form s p (if t then shape.Leaf (RefusedFunction DefinedTwice) else shape.Wrong refusal p) args).kind
    by true = tt
    by false = tt

-- what defines a function defines no variable
no-variable : (names : List (List ℕ)) (o : Option Operator) (args : Data) (f : ℕ) → function_by names o args ≡ Some f → defined_by names o args ≡ None
no-variable names None args f h = refl
no-variable names (Some op.Defvar) args f h = absurd (cc)
no-variable names (Some op.Defparameter) args f h = absurd (cc)
no-variable names (Some _) args f h = refl

list-defines : (s : Scope) (known : Known) (p : ℕ) (under : Data) (f : ℕ) → function_in s.names under ≡ Some f
    → DefinesOrFails f (top_list s known p under).kind
list-defines s known p NoData f h = tt
list-defines s known p (Listed q under args) f h = tt
list-defines s known p (Atom l q args) f h =
    let under : Data = Atom l q args in
    let none : definition_in s.names under ≡ None = no-variable s.names (built_in s.names (first_symbol under)) args f h in
    subst (λ x. DefinesOrFails f (top_list_form s p (top_shape s known p x (function_in s.names under) under) args).kind) (sym none)
    (subst (λ g. DefinesOrFails f (top_list_form s p (top_shape s known p None g under) args).kind) (sym h)
    (defun-defines s known.functions p f (list_fault s.names (parameters_of (behind 2 under))) args))

own-name : (names : List (List ℕ)) (o : Option ℕ) (f : ℕ) → own_name names o ≡ Some f → o ≡ Some f
own-name names None f h = h
own-name names (Some g) f h = by (is_built_in names g) h
  where
    by : (t : Bool) → (if t then None else Some g) ≡ Some f → Some g ≡ Some f
    by true i = absurd (cc)
    by false i = i

form-defines : (s : Scope) (known : Known) (d : Data) (f : ℕ) → function_of s.names d ≡ Some f → DefinesOrFails f (top_form s known d).kind
form-defines s known NoData f h = absurd (cc)
form-defines s known (Atom l p beside) f h = absurd (cc)
form-defines s known (Listed p under beside) f h = list-defines s known p under f (own-name s.names (function_in s.names under) f h)

-- where it is not refused, the function is there
defined-name : (f : ℕ) (gone : List ℕ) (kind : Expanded) (made : Bool) (p : ℕ) (body : Forms) (fs : List Function) → DefinesOrFails f kind
    → ((r : Refused) → refusal_of (lowered_kind gone kind made) p ≡ Some r → ⊥) → IsNameOf (Named f) (with_function (lowered_kind gone kind made) p body fs)
defined-name f gone (Form kind) made p body fs h none = absurd h
defined-name f gone (InBlock n turning) made p body fs h none = absurd h
defined-name f gone (Lambda parameters) made p body fs h none = absurd h
defined-name f gone (Defun g parameters) made p body fs h none = inl (ap Named h)
defined-name f gone (RefusedForm refusal) made p body fs h none = absurd (none _ refl)
defined-name f gone (RefusedFunction refusal) made p body fs h none = absurd (none _ refl)

-- each function that these define is there, or was known before
pub functions-there : (s : Scope) (known : Known) (ds : List Data) (f : ℕ) → ((r : Refused) → IsFormRefusal r (lowered [] (top_forms s known ds)) → ⊥)
    → has (functions_from s.names known.functions ds) f ≡ true
    → (has known.functions f ≡ true) ⊎ IsNameOf (Named f) (functions_of (lowered [] (top_forms s known ds)))
functions-there s known [] f none h = inl h
functions-there s known (d ∷ ds) f none h =
    by (functions-there s next ds f (λ r l. none r (inr (inr l))) h)
  where
    next : Known
    next = known_behind s.names d known

    t : Single
    t = top_form s known d

    made : Bool
    made = is_made t.kind t.under

    under : Expansion
    under = lowered (not_made_under [] t.kind made) t.under

    beside : Expansion
    beside = lowered [] (top_forms s next ds)

    new : (has known.functions f ≡ true) ⊎ (function_of s.names d ≡ Some f)
        → (has known.functions f ≡ true) ⊎ IsNameOf (Named f) (functions_of (lowered [] (top_forms s known (d ∷ ds))))
    new (inl i) = inl i
    new (inr e) =
        inr (defined-name f [] t.kind made t.place (core_forms under) (functions_of under ++ functions_of beside) (form-defines s known d f e)
        (λ r l. none r (inl l)))

    by : (has next.functions f ≡ true) ⊎ IsNameOf (Named f) (functions_of beside)
        → (has known.functions f ≡ true) ⊎ IsNameOf (Named f) (functions_of (lowered [] (top_forms s known (d ∷ ds))))
    by (inl i) = new (with-name-either (function_of s.names d) known.functions f i)
    by (inr n) =
        inr (name-behind (Named f) (lowered_kind [] t.kind made) t.place (core_forms under) (functions_of under ++ functions_of beside)
        (name-right (Named f) (functions_of under) (functions_of beside) n))
