-- What the kind in the shape of a list names is the program's, and it gives a value.
use Rattle.std.proofs.Common.{◌≡◌, ℕ, pos, List, Bool, true, false, ◌&&◌, ◌||◌, ◌==◌, not, Option, Some, None, if◌then◌else◌, nat_lt, codes, refl}
use Rattle.lisp_base.specs.declared.condition.Class.TheVariants.{SimpleError}
use Rattle.lisp_base.specs.declared.refusal.Refusal.{Refusal}
use Rattle.lisp_base.specs.declared.refusal.Refusal.TheVariants.{BadForm, TooMany, UnknownVariable}
use Rattle.lisp_base.specs.declared.value.Node.TheVariants as node
use Rattle.lisp_base.specs.Refusals.{are_same}
use Rattle.lisp_program.specs.Program.{Program}
use Rattle.lisp_program.specs.WellMade.{Each, Gives, IsNameOf, IsNamed, IsOneOf, role_of}
use Rattle.lisp_program.specs.declared.form.CoreKind.{CoreKind}
use Rattle.lisp_program.specs.declared.form.CoreKind.TheVariants as k
use Rattle.lisp_program.specs.declared.function.Primitive.{Primitive}
use Rattle.lisp_program.specs.declared.function.Primitive.TheVariants as prim
use Rattle.lisp_program.specs.declared.function.Service.{Service}
use Rattle.lisp_program.specs.declared.function.Service.TheVariants as service
use Rattle.lisp_data.specs.Data.{Data, NoData, Atom, Listed, behind, count_of}
use Rattle.lisp_data.specs.declared.datum.Leaf.{Leaf}
use Rattle.lisp_data.specs.declared.datum.Leaf.TheVariants.{Int, Symbol, Text, Time}
use Rattle.lisp_base.specs.declared.id.FunctionName.TheVariants.{Named}
use Rattle.form_shapes.specs.declared.operator.Operator.{Operator}
use Rattle.form_shapes.specs.declared.operator.Operator.TheVariants as op
use Rattle.form_shapes.specs.declared.expanded.Expanded.TheVariants.{Form}
use Rattle.form_shapes.specs.declared.keywords.Keys.{Keys}
use Rattle.form_shapes.specs.declared.keywords.Roles.TheVariants.{From}
use Rattle.form_shapes.specs.declared.levels.Level.TheVariants as level
use Rattle.form_shapes.specs.declared.scope.Target.{Target}
use Rattle.form_shapes.specs.declared.scope.Target.TheVariants.{Local, Special}
use Rattle.form_shapes.specs.declared.shape.Shape.{Shape}
use Rattle.form_shapes.specs.declared.shape.Shape.TheVariants as shape
use Rattle.form_shapes.specs.Bindings.{is_named, list_fault, most, parameters_of, variables_of}
use Rattle.form_shapes.specs.Clauses.{are_clauses, are_tests, most_clauses}
use Rattle.form_shapes.specs.Controls.{has_tilde, taken_by, text_of}
use Rattle.form_shapes.specs.Keywords.{first_key, keys_in, positional, roles_of, second_key, with_keys}
use Rattle.form_shapes.specs.Levels.{number_of}
use Rattle.form_shapes.specs.Scopes.{Scope, as_local, as_variable, first_symbol, has, leaf_form, name_of, node_of, operator_at, or_own, target_in, target_of, variable_form}
use Rattle.form_shapes.specs.Shapes.{are_pairs, bad, block_shape, change_shape, deadline_shape, dotimes_shape, error_shape, exit_shape, faultless, fixed, fold_of_none, fold_of_one, fold_shape, format_given, format_shape, function_outside, handler_shape, keyed_shape, lambda_outside, lock_shape, misplaced, mutex_shape, operator_led, quoted, return_from_shape, serve_shape, shape_led, shape_of, swap_shape, valued_symbol, where_holds, with_some}
use Rattle.lisp_forms.specs.Trees.{leaf}
use Rattle.lisp_forms.specs.inside.Standing.{IsShapeStanding, IsStanding, IsTargetIn, Suits}
use Rattle.lisp_forms.proofs.well.Operators.{IsBuiltIn, named-built}
use Rattle.lisp_forms.proofs.well.Rows.{constant-standing}

-- either of two shapes
pub if-shape : (w : Program) (ok t : Bool) (a b : Shape) → IsShapeStanding w ok a → IsShapeStanding w ok b → IsShapeStanding w ok (if t then a else b)
if-shape w ok true a b h l = h
if-shape w ok false a b h l = l

holds-shape : (w : Program) (ok : Bool) (p : ℕ) (t : Bool) (a : Shape) → IsShapeStanding w ok a → IsShapeStanding w ok (where_holds p t a)
holds-shape w ok p true a h = h
holds-shape w ok p false a h = tt

-- one whose test holds before it is made
pub if-known : (w : Program) (ok t : Bool) (a b : Shape) → (t ≡ true → IsShapeStanding w ok a) → IsShapeStanding w ok b → IsShapeStanding w ok (if t then a else b)
if-known w ok true a b h l = h refl
if-known w ok false a b h l = l

-- a shape made of what there is
some-shape : {A : Type 0} (w : Program) (ok : Bool) (o : Option A) (otherwise : Shape) (make : A → Shape) → IsShapeStanding w ok otherwise
    → ((a : A) → IsShapeStanding w ok (make a)) → IsShapeStanding w ok (with_some o otherwise make)
some-shape w ok None otherwise make h l = h
some-shape w ok (Some a) otherwise make h l = l a

-- the variable that a symbol is
pub target-standing : (w : Program) (s : Scope) (x : ℕ) → Suits w s → IsTargetIn w (target_of s x)
target-standing w s x f = by (has s.specials x) (number_of (level.Variable x) s.levels) (f.0 x)
  where
    by : (t : Bool) (number : Option ℕ) → (t ≡ true → IsOneOf x w.specials) → IsTargetIn w (if t then Some (Special x) else as_local number)
    by true number named = named refl
    by false None named = tt
    by false (Some n) named = tt

pub target_in-standing : (w : Program) (s : Scope) (x : Option ℕ) → Suits w s → IsTargetIn w (target_in s x)
target_in-standing w s None f = tt
target_in-standing w s (Some x) f = target-standing w s x f

-- a variable as a form
variable-standing : (w : Program) (target : Option Target) (p : ℕ) → IsTargetIn w target → IsStanding w (leaf (variable_form target) p)
variable-standing w None p h = (tt, tt)
variable-standing w (Some (Local n)) p h = (tt, tt)
variable-standing w (Some (Special x)) p h = (h, tt)

-- a leaf as a form
pub leaf-standing : (w : Program) (s : Scope) (l : Leaf) (p : ℕ) → Suits w s → IsStanding w (leaf (leaf_form s l) p)
leaf-standing w s (Int z) p f = constant-standing w (node.Int z) p
leaf-standing w s (Text x) p f = constant-standing w (node.Text x) p
leaf-standing w s (Time t) p f = constant-standing w (node.Time t) p
leaf-standing w s (Symbol x) p f = by _ _
  where
    by : (t u : Bool)
        → IsStanding w (leaf (if t then Form (k.Constant (node.Symbol x)) else if u then Form k.CurrentThread else variable_form (target_of s x)) p)
    by true u = (tt, tt)
    by false true = (tt, tt)
    by false false = variable-standing w (target_of s x) p (target-standing w s x f)

quoted-standing : (w : Program) (args : Data) → IsStanding w (leaf (quoted args) 0)
quoted-standing w (Atom l p NoData) = constant-standing w (node_of l) 0
quoted-standing w (Listed p NoData NoData) = (tt, tt)
quoted-standing w _ = (tt, tt)

-- forms with a fixed number of arguments
fixed-shape : (w : Program) (ok : Bool) (p : ℕ) (kind : CoreKind) (n : ℕ) (args : Data) → IsNamed w kind → role_of kind ≡ Gives Each
    → IsShapeStanding w ok (fixed p kind n args)
fixed-shape w ok p kind n args named role = holds-shape w ok p (count_of args == n) (shape.Over kind (From 0)) (named, role)

change-shape : (w : Program) (ok : Bool) (s : Scope) (p : ℕ) (g : Primitive) (args : Data) → Suits w s → IsShapeStanding w ok (change_shape s p g args)
change-shape w ok s p g (Atom (Symbol x) q beside) f = holds-shape w ok p _ _ (by (target_of s x) (target-standing w s x f))
  where
    by : (t : Option Target) → IsTargetIn w t → IsShapeStanding w ok (with_some t (shape.Wrong UnknownVariable q) (λ target. shape.Change target g))
    by None h = tt
    by (Some target) h = h
change-shape w ok s p g _ f = tt

swap-shape : (w : Program) (ok : Bool) (s : Scope) (p : ℕ) (args : Data) → Suits w s → IsShapeStanding w ok (swap_shape s p args)
swap-shape w ok s p (Listed q under beside) f =
    let make : ℕ × ℕ → Shape = λ v. if has s.specials v.0 then shape.Over (k.CompareAndSwap v.0) (From 1) else shape.Wrong UnknownVariable v.1 in
    holds-shape w ok p (count_of beside == 2) (with_some (valued_symbol s.names under) (bad p) make)
    (some-shape w ok (valued_symbol s.names under) (bad p) make tt
    (λ v. if-known w ok (has s.specials v.0) (shape.Over (k.CompareAndSwap v.0) (From 1)) (shape.Wrong UnknownVariable v.1) (λ h. (f.0 v.0 h, refl)) tt))
swap-shape w ok s p _ f = tt

exit-made : (w : Program) (ok : Bool) (s : Scope) (p name : ℕ) (has_value : Bool) (n : ℕ) → IsShapeStanding w ok (exit_shape s p name has_value n)
exit-made w ok s p name has_value n =
    some-shape w ok (number_of (level.Block name) s.levels) _ _ tt (λ b. if-shape w ok has_value _ _ (tt, refl) (tt, refl))

return_from-shape : (w : Program) (ok : Bool) (s : Scope) (p : ℕ) (args : Data) → IsShapeStanding w ok (return_from_shape s p args)
return_from-shape w ok s p (Atom (Symbol b) q beside) = holds-shape w ok p _ _ (exit-made w ok s p b _ 1)
return_from-shape w ok s p _ = tt

error-made : (w : Program) (ok : Bool) (s : Scope) (p : ℕ) (args : Data) → IsShapeStanding w ok (error_shape s p args)
error-made w ok s p (Atom (Text x) q NoData) =
    holds-shape w ok p (not (has_tilde (text_of s.texts x))) (shape.Leaf (Form (k.Signal (record { class = SimpleError; text = Some x })))) (tt, tt)
error-made w ok s p _ = tt

given-shape : (w : Program) (ok : Bool) (p x taken given : ℕ) → IsShapeStanding w ok (format_given p x taken given)
given-shape w ok p x taken given = if-shape w ok (nat_lt given taken) _ _ tt (if-shape w ok (nat_lt most given) _ _ tt (tt, refl))

format-made : (w : Program) (ok : Bool) (s : Scope) (p : ℕ) (args : Data) → IsShapeStanding w ok (format_shape s p args)
format-made w ok s p (Atom (Symbol t) q (Atom (Text x) r beside)) =
    let make : ℕ → Shape = λ taken. format_given p x taken (count_of beside) in
    holds-shape w ok p (is_named s.names (codes "T") (Some t)) (with_some (taken_by false (text_of s.texts x)) (bad p) make)
    (some-shape w ok (taken_by false (text_of s.texts x)) (bad p) make tt (λ taken. given-shape w ok p x taken (count_of beside)))
format-made w ok s p _ = tt

none-shape : (w : Program) (ok : Bool) (p : ℕ) (g : Primitive) → IsShapeStanding w ok (fold_of_none p g)
none-shape w ok p prim.Add = constant-standing w (node.Int (pos 0)) 0
none-shape w ok p prim.Multiply = constant-standing w (node.Int (pos 1)) 0
none-shape w ok p _ = tt

one-shape : (w : Program) (ok : Bool) (g : Primitive) → IsShapeStanding w ok (fold_of_one g)
one-shape w ok prim.Max = tt
one-shape w ok prim.Min = tt
one-shape w ok g = tt

fold-made : (w : Program) (ok : Bool) (p : ℕ) (g : Primitive) (args : Data) → IsShapeStanding w ok (fold_shape p g args)
fold-made w ok p g args =
    if-shape w ok (count_of args == 0) _ _ (none-shape w ok p g)
    (if-shape w ok (nat_lt most (count_of args)) _ _ tt (if-shape w ok (count_of args == 1) _ _ (one-shape w ok g) tt))

keyed-made : (w : Program) (ok : Bool) (names : List (List ℕ)) (p : ℕ) (service : Service) (args : Data) → IsShapeStanding w ok (keyed_shape names p service args)
keyed-made w ok names p service args =
    let keys : Option Keys = keys_in names (first_key service) (second_key service) (behind (positional service) args) in
    let make : Keys → Shape = λ keys. shape.Over (k.Serve (with_keys service keys.first keys.second)) (roles_of service) in
    holds-shape w ok p (not (nat_lt (count_of args) (positional service))) (with_some keys (bad p) make) (some-shape w ok keys (bad p) make tt (λ keys. (tt, refl)))

serve-made : (w : Program) (ok : Bool) (names : List (List ℕ)) (p : ℕ) (service : Service) (args : Data) → IsShapeStanding w ok (serve_shape names p service args)
serve-made w ok names p (service.ConditionNotify count) args =
    if-shape w ok (count_of args == 2) _ _ (tt, refl) (fixed-shape w ok p (k.Serve (service.ConditionNotify false)) 1 args tt refl)
serve-made w ok names p other args = keyed-made w ok names p other args

-- each clause has its shape
handler-made : (w : Program) (names : List (List ℕ)) (p : ℕ) (args : Data) → IsShapeStanding w (are_clauses names (behind 1 args)) (handler_shape names p args)
handler-made w names p args = by (nat_lt 0 (count_of args)) (are_clauses names (behind 1 args)) (nat_lt most_clauses (count_of (behind 1 args)))
  where
    by : (a t b : Bool) → IsShapeStanding w t (where_holds p (a && t) (if b then shape.Wrong TooMany p else shape.Handler))
    by true true true = tt
    by true true false = refl
    by true false b = tt
    by false t b = tt

deadline-made : (w : Program) (ok : Bool) (names : List (List ℕ)) (p : ℕ) (args : Data) → IsShapeStanding w ok (deadline_shape names p args)
deadline-made w ok names p (Listed q items beside) =
    some-shape w ok (keys_in names (codes ":SECONDS") (codes ":OVERRIDE") items) (bad p) (λ keys. shape.Deadline keys.first keys.second) tt (λ keys. tt)
deadline-made w ok names p _ = tt

mutex-made : (w : Program) (ok : Bool) (names : List (List ℕ)) (p : ℕ) (args : Data) → IsShapeStanding w ok (mutex_shape names p args)
mutex-made w ok names p (Listed q items beside) =
    let keys : Option Keys = keys_in names (codes ":WAIT-P") (codes ":TIMEOUT") (behind 1 items) in
    let make : Keys → Shape = λ keys. shape.Mutex keys.first keys.second in
    holds-shape w ok p (nat_lt 0 (count_of items)) (with_some keys (bad p) make) (some-shape w ok keys (bad p) make tt (λ keys. tt))
mutex-made w ok names p _ = tt

lock-made : (w : Program) (ok : Bool) (p : ℕ) (args : Data) → IsShapeStanding w ok (lock_shape p args)
lock-made w ok p (Listed q items beside) = holds-shape w ok p (count_of items == 1) shape.RecursiveLock tt
lock-made w ok p _ = tt

dotimes-made : (w : Program) (ok : Bool) (names : List (List ℕ)) (p : ℕ) (args : Data) → IsShapeStanding w ok (dotimes_shape names p args)
dotimes-made w ok names p (Listed q items beside) =
    let variable : Option ℕ = as_variable names (first_symbol items) in
    holds-shape w ok p ((count_of items == 2) || (count_of items == 3)) (with_some variable (bad p) (λ x. shape.Dotimes x))
    (some-shape w ok variable (bad p) (λ x. shape.Dotimes x) tt (λ x. tt))
dotimes-made w ok names p _ = tt

block-made : (w : Program) (ok : Bool) (p : ℕ) (args : Data) → IsShapeStanding w ok (block_shape p args)
block-made w ok p (Atom (Symbol b) q beside) = tt
block-made w ok p _ = tt

faultless-made : (w : Program) (ok : Bool) (p : ℕ) (fault : Option Refusal) (a : Shape) → IsShapeStanding w ok a → IsShapeStanding w ok (faultless p fault a)
faultless-made w ok p None a h = h
faultless-made w ok p (Some refusal) a h = tt

misplaced-made : (w : Program) (ok : Bool) (p : ℕ) (fault : Option Refusal) → IsShapeStanding w ok (misplaced p fault)
misplaced-made w ok p None = tt
misplaced-made w ok p (Some refusal) = if-shape w ok (are_same refusal BadForm) _ _ tt tt

outside-made : (w : Program) (ok : Bool) (s : Scope) (p : ℕ) (args : Data) → IsShapeStanding w ok (function_outside s p args)
outside-made w ok s p (Atom (Symbol x) q NoData) = if-shape w ok (has s.functions x) _ _ tt tt
outside-made w ok s p (Listed q under NoData) =
    let lambda : Shape = lambda_outside q s.names (behind 1 under) in
    holds-shape w ok p (is_named s.names (codes "LAMBDA") (first_symbol under)) lambda (misplaced-made w ok q (list_fault s.names (parameters_of (behind 1 under))))
outside-made w ok s p _ = tt

-- an operator that is a function of the program
abbrev IsOperator : Program → Operator → Type 0
IsOperator w (op.Own x) = IsNameOf (Named x) w.functions
IsOperator w _ = Unit {0}

-- a list with this operator
led-made : (w : Program) (s : Scope) (p : ℕ) (operator : Operator) (args : Data) → Suits w s → IsOperator w operator
    → IsShapeStanding w (are_clauses s.names (behind 1 args)) (operator_led s p operator args)
led-made w s p op.Quote args f o = quoted-standing w args
led-made w s p op.Function args f o = outside-made w _ s p args
led-made w s p op.Lambda args f o = misplaced-made w _ p (list_fault s.names (parameters_of args))
led-made w s p op.Progn args f o = (tt, refl)
led-made w s p op.If args f o = if-shape w _ (count_of args == 2) _ _ (tt, refl) (fixed-shape w _ p k.If 3 args tt refl)
led-made w s p op.Let args f o = faultless-made w _ p (list_fault s.names (variables_of args)) shape.Let tt
led-made w s p op.LetStar args f o = faultless-made w _ p (list_fault s.names (variables_of args)) shape.LetStar tt
led-made w s p op.Setq args f o = holds-shape w _ p (nat_lt 0 (count_of args) && are_pairs s.names args) shape.Setq tt
led-made w s p op.CompareAndSwap args f o = swap-shape w _ s p args f
led-made w s p op.When args f o = holds-shape w _ p (not (nat_lt (count_of args) 1)) shape.When tt
led-made w s p op.Unless args f o = holds-shape w _ p (not (nat_lt (count_of args) 1)) shape.Unless tt
led-made w s p op.Cond args f o = holds-shape w _ p (are_tests args) shape.Cond tt
led-made w s p op.And args f o = tt
led-made w s p op.Or args f o = tt
led-made w s p op.Prog1 args f o = holds-shape w _ p (not (nat_lt (count_of args) 1)) shape.Prog1 tt
led-made w s p op.Incf args f o = change-shape w _ s p prim.Add args f
led-made w s p op.Decf args f o = change-shape w _ s p prim.Subtract args f
led-made w s p op.Loop args f o = tt
led-made w s p op.Dotimes args f o = dotimes-made w _ s.names p args
led-made w s p op.Block args f o = block-made w _ p args
led-made w s p op.ReturnFrom args f o = return_from-shape w _ s p args
led-made w s p op.Return args f o = holds-shape w _ p (nat_lt (count_of args) 2) (exit_shape s p 0 (count_of args == 1) 0) (exit-made w _ s p 0 (count_of args == 1) 0)
led-made w s p op.Catch args f o = holds-shape w _ p (not (nat_lt (count_of args) 1)) shape.Catch tt
led-made w s p op.Throw args f o = fixed-shape w _ p k.Throw 2 args tt refl
led-made w s p op.UnwindProtect args f o = holds-shape w _ p (not (nat_lt (count_of args) 1)) (shape.Over k.UnwindProtect (From 0)) (tt, refl)
led-made w s p op.HandlerCase args f o = handler-made w s.names p args
led-made w s p op.IgnoreErrors args f o = tt
led-made w s p op.Error args f o = error-made w _ s p args
led-made w s p op.WithoutInterrupts args f o = tt
led-made w s p op.AllowWithInterrupts args f o =
    some-shape w _ (number_of level.Region s.levels) _ (λ n. shape.Body (k.AllowWithInterrupts n)) tt (λ n. (tt, refl))
led-made w s p op.WithInterrupts args f o = (tt, refl)
led-made w s p op.WithLocalInterrupts args f o = some-shape w _ (number_of level.Region s.levels) _ (λ n. shape.LocalInterrupts n) tt (λ n. tt)
led-made w s p op.WithDeadline args f o = deadline-made w _ s.names p args
led-made w s p op.WithTimeout args f o = holds-shape w _ p (not (nat_lt (count_of args) 1)) shape.Timeout tt
led-made w s p op.WithMutex args f o = mutex-made w _ s.names p args
led-made w s p op.WithRecursiveLock args f o = lock-made w _ p args
led-made w s p op.AbortThread args f o = holds-shape w _ p (count_of args == 0) (shape.Leaf (Form k.AbortThread)) (tt, tt)
led-made w s p op.ReturnFromThread args f o = fixed-shape w _ p k.ReturnFromThread 1 args tt refl
led-made w s p op.TerminateThread args f o = holds-shape w _ p (count_of args == 1) shape.Terminate tt
led-made w s p (op.Fold g) args f o = fold-made w _ p g args
led-made w s p (op.Apply g n) args f o = fixed-shape w _ p (k.Apply g) n args tt refl
led-made w s p (op.Print printing n) args f o = fixed-shape w _ p (k.Print printing) n args tt refl
led-made w s p op.Format args f o = format-made w _ s p args
led-made w s p (op.Serve service) args f o = serve-made w _ s.names p service args
led-made w s p (op.Own x) args f o = if-shape w _ (nat_lt most (count_of args)) _ _ tt (o, refl)
led-made w s p op.Defvar args f o = tt
led-made w s p op.Defparameter args f o = tt
led-made w s p op.Defun args f o = tt
led-made w s p op.Ignored args f o = tt
led-made w s p op.Declare args f o = tt

-- what the head of a list means
abbrev IsOperatorIn : Program → Option Operator → Type 0
IsOperatorIn w None = Unit {0}
IsOperatorIn w (Some operator) = IsOperator w operator

own-operator : (w : Program) (o : Option Operator) (t : Bool) (x : ℕ) → IsBuiltIn o → (t ≡ true → IsNameOf (Named x) w.functions) → IsOperatorIn w (or_own o t x)
own-operator w None true x h named = named refl
own-operator w None false x h named = tt
own-operator w (Some (op.Own y)) t x h named = absurd h
own-operator w (Some _) t x h named = tt

operator-standing : (w : Program) (s : Scope) (x : Option ℕ) → Suits w s → IsOperatorIn w (operator_at s x)
operator-standing w s None f = tt
operator-standing w s (Some x) f = own-operator w _ (has s.functions x) x (named-built (name_of s.names x)) (f.1 x)

-- a list
pub shape-standing : (w : Program) (s : Scope) (p : ℕ) (under : Data) → Suits w s → IsShapeStanding w (are_clauses s.names (behind 1 (behind 1 under))) (shape_of s p under)
shape-standing w s p under f = by (operator_at s (first_symbol under)) (operator-standing w s (first_symbol under) f)
  where
    by : (operator : Option Operator) → IsOperatorIn w operator → IsShapeStanding w (are_clauses s.names (behind 1 (behind 1 under))) (shape_led s p operator (behind 1 under))
    by None o = tt
    by (Some operator) o = led-made w s p operator (behind 1 under) f o
