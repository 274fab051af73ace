-- Leaves and what stands in a function's seat, where a block is open and without the block.
use Rattle.std.proofs.Common.{◌≡◌, inl, ℕ, suc, List, [], ◌∷◌, Bool, true, false, ◌==◌, ◌&&◌, codes, Option, Some, None, if◌then◌else◌, refl, ap, sym, subst}
use Rattle.lisp_base.specs.declared.id.FunctionName.TheVariants.{Named}
use Rattle.lisp_base.specs.declared.refusal.Refusal.{Refusal}
use Rattle.lisp_base.specs.declared.refusal.Refusal.TheVariants.{BadForm, DefinedTwice, FunctionPlace, UnknownOperator}
use Rattle.lisp_base.specs.Refusals.{are_same}
use Rattle.lisp_base.specs.declared.value.Node.TheVariants.{Int as AnInt, Symbol as ASymbol, Text as AText, Time as ATime}
use Rattle.lisp_program.specs.declared.form.CoreKind.TheVariants as k
use Rattle.lisp_data.specs.Data.{Data, NoData, Atom, Listed, behind, count_of}
use Rattle.lisp_data.specs.declared.datum.Leaf.{Leaf}
use Rattle.lisp_data.specs.declared.datum.Leaf.TheVariants.{Int, Symbol, Text, Time}
use Rattle.form_shapes.specs.declared.expanded.Expanded.{Expanded}
use Rattle.form_shapes.specs.declared.expanded.Expanded.TheVariants.{Form, InBlock, Lambda, Defun, Refused, RefusedFunction}
use Rattle.form_shapes.specs.declared.keywords.Role.{Role}
use Rattle.form_shapes.specs.declared.keywords.Role.TheVariants.{Value, Seat, Skipped}
use Rattle.form_shapes.specs.declared.operator.Operator.{Operator}
use Rattle.form_shapes.specs.declared.operator.Operator.TheVariants as op
use Rattle.form_shapes.specs.declared.scope.Target.{Target}
use Rattle.form_shapes.specs.declared.scope.Target.TheVariants.{Local, Special}
use Rattle.form_shapes.specs.declared.seat.Seated.{Seated}
use Rattle.form_shapes.specs.declared.seat.Seated.TheVariants.{Inner, Other}
use Rattle.form_shapes.specs.declared.shape.Shape.{Shape}
use Rattle.form_shapes.specs.declared.shape.Shape.TheVariants as shape
use Rattle.form_shapes.specs.Bindings.{is_named, list_fault, parameters_of}
use Rattle.form_shapes.specs.Operators.{is_constant, is_current_thread}
use Rattle.form_shapes.specs.Scopes.{Scope, first_symbol, has, leaf_symbol, name_of, operator_at, read_kind, target_of, variable_form}
use Rattle.form_shapes.specs.Seats.{function_seated, lambda_seated, misplaced_kind, misplaced_refusal, misplaced_shape, name_seated, seated_by, seated_of}
use Rattle.form_shapes.specs.Shapes.{shape_of}
use Rattle.lisp_forms.specs.Expansion.{behind_variable, in_clause, leaf_single, seated_form, with_role}
use Rattle.lisp_forms.specs.Rows
use Rattle.lisp_forms.specs.Trees.{Expansion, Single, only, both, leaf, form}
use Rattle.form_laws.proofs.Related.{like, moved, IsFree, Related, RelatedOne, shifted_core}
use Rattle.form_laws.proofs.Without.{Without, bare, outer, shifted_target, shifted_targets, target-shifted}
use Rattle.form_laws.proofs.Rowed.{opened_by-all, received_by-all, related-constant}

-- a variable
read-shifted : (n : ℕ) (target : Target) → read_kind (shifted_target n target) ≡ shifted_core n (read_kind target)
read-shifted n (Local x) = refl
read-shifted n (Special x) = refl

related-variable : (n p : ℕ) (o : Option Target) → RelatedOne n (leaf (variable_form o) p) (leaf (variable_form (shifted_targets n o)) p)
related-variable n p None = inl tt
related-variable n p (Some target) = moved (ap Form (read-shifted n target)) tt

-- a leaf
pub related-leaf_single : (n : ℕ) (s : Scope) (l : Leaf) (p : ℕ) (w : Without n) → RelatedOne n (leaf_single (outer n s w) l p) (leaf_single (bare n s w) l p)
related-leaf_single n s (Int z) p w = related-constant n p (AnInt z)
related-leaf_single n s (Text x) p w = related-constant n p (AText x)
related-leaf_single n s (Time t) p w = related-constant n p (ATime t)
related-leaf_single n s (Symbol x) p w = by (is_constant (name_of s.names x)) (is_current_thread (name_of s.names x))
  where
    by : (t u : Bool) → RelatedOne n
        (leaf (if t then Form (k.Constant (ASymbol x)) else if u then Form k.CurrentThread else variable_form (target_of (outer n s w) x)) p)
        (leaf (if t then Form (k.Constant (ASymbol x)) else if u then Form k.CurrentThread else variable_form (target_of (bare n s w) x)) p)
    by true u = like tt
    by false true = like tt
    by false false =
        subst (λ o. RelatedOne n (leaf (variable_form (target_of (outer n s w) x)) p) (leaf (variable_form o) p)) (sym (target-shifted n s w x))
        (related-variable n p (target_of (outer n s w) x))

-- what may not stand here is refused
pub misplaced-free : (n : ℕ) (kind : Expanded) → IsFree n (misplaced_kind kind)
misplaced-free n (Form kind) = tt
misplaced-free n (InBlock m turning) = tt
misplaced-free n (Lambda parameters) = tt
misplaced-free n (Defun f parameters) = tt
misplaced-free n (Refused refusal) = tt
misplaced-free n (RefusedFunction refusal) = tt

shape-free : (n p : ℕ) (sh : Shape) → IsFree n (misplaced_shape p sh)
shape-free n p (shape.Wrong refusal q) = by (q == p)
  where
    by : (t : Bool) → IsFree n (if t then Refused (misplaced_refusal refusal) else Refused FunctionPlace)
    by true = tt
    by false = tt
shape-free n p (shape.Leaf kind) = misplaced-free n kind
shape-free n p _ = tt

-- an argument by what it is for
pub related-with_role : (n : ℕ) (r : Role) (a a' b b' : Single) (f f' : Expansion) → RelatedOne n a a' → RelatedOne n b b' → Related n f f'
    → Related n (with_role r a b f) (with_role r a' b' f')
related-with_role n Value a a' b b' f f' h i j = (h, j)
related-with_role n Seat a a' b b' f f' h i j = (i, j)
related-with_role n Skipped a a' b b' f f' h i j = j

-- these or those
pub related-if : (n : ℕ) (t : Bool) (f f' g g' : Expansion) → Related n f f' → Related n g g' → Related n (if t then f else g) (if t then f' else g')
related-if n true f f' g g' h i = h
related-if n false f f' g g' h i = i

-- what holds after a variable of a `let*`, and in a clause
pub behind-all : (n : ℕ) (s : Scope) (P : Scope → Scope → Type 0) → ((w : Without n) → P (outer n s w) (bare n s w))
    → (o : Option ℕ) (w : Without n) → P (behind_variable (outer n s w) o) (behind_variable (bare n s w) o)
behind-all n s P h None w = h w
behind-all n s P h (Some x) w = opened_by-all n s P h x w

pub in_clause-all : (n : ℕ) (s : Scope) (P : Scope → Scope → Type 0) → ((w : Without n) → P (outer n s w) (bare n s w))
    → (o : Option ℕ) (w : Without n) → P (in_clause (outer n s w) o) (in_clause (bare n s w) o)
in_clause-all n s P h None w = h w
in_clause-all n s P h (Some x) w = received_by-all n s P h x w

-- special parameters
bound-same : (n : ℕ) (s : Scope) (w : Without n) (p i : ℕ) (xs : List ℕ) (body : Expansion)
    → Rows.specials_bound (outer n s w) p i xs body ≡ Rows.specials_bound (bare n s w) p i xs body
bound-same n s w p i [] body = refl
bound-same n s w p i (x ∷ xs) body =
    ap (λ f. if has s.specials x then only (form k.Let p (both (Rows.local i p) (form (k.BindSpecial x 0) p f))) else f) (bound-same n s w p (suc i) xs body)

-- what stands in a function's seat, by what it is there
abbrev pub SeatedAlike : (n : ℕ) → Scope → Without n → ℕ → List ℕ → Expansion → Single → Single → Seated → Seated → Type 0
SeatedAlike n s w p parameters body a a' seat seat' =
    RelatedOne n (seated_form (outer n s w) p seat parameters body a) (seated_form (bare n s w) p seat' parameters body a')

seat-lambda : (n : ℕ) (s : Scope) (w : Without n) (p : ℕ) (parameters : List ℕ) (body : Expansion) (a a' : Single) (fault : Option Refusal)
    → SeatedAlike n s w p parameters body a a' (lambda_seated fault) (lambda_seated fault)
seat-lambda n s w p parameters body a a' None = like (bound-same n s w p 0 parameters body)
seat-lambda n s w p parameters body a a' (Some refusal) = by (are_same refusal DefinedTwice)
  where
    by : (t : Bool) → RelatedOne n (leaf (if t then RefusedFunction DefinedTwice else Refused refusal) p) (leaf (if t then RefusedFunction DefinedTwice else Refused refusal) p)
    by true = inl tt
    by false = inl tt

seat-name : (n : ℕ) (s : Scope) (w : Without n) (p : ℕ) (parameters : List ℕ) (body : Expansion) (a a' : Single) (o : Option ℕ)
    → SeatedAlike n s w p parameters body a a' (name_seated (outer n s w) o) (name_seated (bare n s w) o)
seat-name n s w p parameters body a a' None = inl tt
seat-name n s w p parameters body a a' (Some x) = by (has s.functions x)
  where
    by : (t : Bool) → RelatedOne n (leaf (if t then Form (k.Function (Named x)) else Refused UnknownOperator) p) (leaf (if t then Form (k.Function (Named x)) else Refused UnknownOperator) p)
    by true = like tt
    by false = inl tt

seat-function : (n : ℕ) (s : Scope) (w : Without n) (p : ℕ) (parameters : List ℕ) (body : Expansion) (a a' : Single) (d : Data) → RelatedOne n a a'
    → SeatedAlike n s w p parameters body a a' (function_seated (outer n s w) d) (function_seated (bare n s w) d)
seat-function n s w p parameters body a a' NoData h = inl tt
seat-function n s w p parameters body a a' (Atom l q beside) h = by (count_of beside == 0)
  where
    by : (t : Bool) → SeatedAlike n s w p parameters body a a'
        (if t then name_seated (outer n s w) (leaf_symbol l) else Other (Refused BadForm)) (if t then name_seated (bare n s w) (leaf_symbol l) else Other (Refused BadForm))
    by true = seat-name n s w p parameters body a a' (leaf_symbol l)
    by false = inl tt
seat-function n s w p parameters body a a' (Listed q under beside) h = by ((count_of beside == 0) && is_named s.names (codes "LAMBDA") (first_symbol under))
  where
    by : (t : Bool) → SeatedAlike n s w p parameters body a a' (if t then Inner else Other (Refused BadForm)) (if t then Inner else Other (Refused BadForm))
    by true = h
    by false = inl tt

seat-by : (n : ℕ) (s : Scope) (w : Without n) (p : ℕ) (parameters : List ℕ) (body : Expansion) (a a' : Single) (operator : Option Operator) (under : Data) → RelatedOne n a a'
    → SeatedAlike n s w p parameters body a a' (seated_by (outer n s w) p operator under) (seated_by (bare n s w) p operator under)
seat-by n s w p parameters body a a' (Some op.Lambda) under h = seat-lambda n s w p parameters body a a' (list_fault s.names (parameters_of (behind 1 under)))
seat-by n s w p parameters body a a' (Some op.Function) under h = seat-function n s w p parameters body a a' (behind 1 under) h
seat-by n s w p parameters body a a' _ under h = inl (shape-free n p (shape_of (outer n s w) p under))

pub related-seat : (n : ℕ) (s : Scope) (w : Without n) (p : ℕ) (parameters : List ℕ) (body : Expansion) (a a' : Single) (under : Data) → RelatedOne n a a'
    → SeatedAlike n s w p parameters body a a' (seated_of (outer n s w) p under) (seated_of (bare n s w) p under)
related-seat n s w p parameters body a a' under h = seat-by n s w p parameters body a a' (operator_at s (first_symbol under)) under h
