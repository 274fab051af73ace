-- The numbers in the shape of a list are those of what is open round it.
use Rattle.std.proofs.Common.{ℕ, pos, List, Bool, true, false, ◌&&◌, ◌||◌, ◌==◌, not, Option, Some, None, if◌then◌else◌, nat_lt, codes}
use Rattle.lisp_base.specs.declared.value.Node.{Node}
use Rattle.lisp_base.specs.declared.value.Node.TheVariants as node
use Rattle.lisp_base.specs.Value.{is_in_range}
use Rattle.lisp_base.specs.Refusals.{are_same}
use Rattle.lisp_base.specs.declared.refusal.Refusal.{Refusal}
use Rattle.lisp_base.specs.declared.refusal.Refusal.TheVariants.{BadForm, UnknownVariable}
use Rattle.lisp_program.specs.declared.form.CoreKind.{CoreKind}
use Rattle.lisp_program.specs.declared.form.CoreKind.TheVariants as k
use Rattle.lisp_program.specs.declared.function.Primitive.{Primitive}
use Rattle.lisp_program.specs.declared.function.Primitive.TheVariants as prim
use Rattle.lisp_program.specs.declared.function.Service.{Service}
use Rattle.lisp_program.specs.declared.function.Service.TheVariants as service
use Rattle.lisp_data.specs.Data.{Data, NoData, Atom, Listed, behind, count_of}
use Rattle.lisp_data.specs.declared.datum.Leaf.{Leaf}
use Rattle.lisp_data.specs.declared.datum.Leaf.TheVariants.{Int, Symbol, Text, Time}
use Rattle.form_shapes.specs.declared.operator.Operator.{Operator}
use Rattle.form_shapes.specs.declared.operator.Operator.TheVariants as op
use Rattle.form_shapes.specs.declared.expanded.Expanded.TheVariants.{Form, Refused}
use Rattle.form_shapes.specs.declared.keywords.Keys.{Keys}
use Rattle.form_shapes.specs.declared.levels.Level.TheVariants as level
use Rattle.form_shapes.specs.declared.scope.Target.{Target}
use Rattle.form_shapes.specs.declared.scope.Target.TheVariants.{Local, Special}
use Rattle.form_shapes.specs.declared.shape.Shape.{Shape}
use Rattle.form_shapes.specs.declared.shape.Shape.TheVariants as shape
use Rattle.form_shapes.specs.declared.keywords.Roles.TheVariants.{From}
use Rattle.form_shapes.specs.Bindings.{is_named, list_fault, most, parameters_of, variables_of}
use Rattle.form_shapes.specs.Controls.{has_tilde, taken_by, text_of}
use Rattle.form_shapes.specs.Keywords.{first_key, keys_in, positional, roles_of, second_key, with_keys}
use Rattle.lisp_base.specs.declared.condition.Class.TheVariants.{SimpleError}
use Rattle.form_shapes.specs.Clauses.{are_tests, most_clauses}
use Rattle.form_shapes.specs.Levels.{number_of}
use Rattle.form_shapes.specs.Scopes.{Scope, as_local, as_variable, constant, first_symbol, has, leaf_form, node_of, operator_at, target_in, target_of, variable_form}
use Rattle.form_shapes.specs.Shapes.{are_pairs, bad, block_shape, change_shape, deadline_shape, dotimes_shape, error_shape, exit_shape, faultless, fixed, fold_of_none, fold_of_one, fold_shape, format_given, format_shape, function_outside, handler_shape, in_region, keyed_shape, lambda_outside, lock_shape, misplaced, mutex_shape, operator_led, quoted, return_from_shape, serve_shape, shape_led, shape_of, swap_shape, valued_symbol, where_holds, with_some}
use Rattle.form_laws.specs.Scoping.{Opening, Variable, Entry, Flag, Naming, NamesNone, Uses, Opens, IsNamedIn, IsOpen, naming_of}
use Rattle.form_laws.specs.inside.Openings.{Fits, IsTarget, IsTargetIn, naming_in}
use Rattle.form_laws.proofs.Fitting.{IsNumberIn, number-open}

-- what names an opening so opens none, and what it uses is open
abbrev pub IsUsed : List Opening → Naming → Type 0
IsUsed os NamesNone = Unit {0}
IsUsed os (Uses o n) = IsOpen o os n
IsUsed os (Opens o n) = ⊥

-- what the kind in a shape uses is open
abbrev pub IsShapeRound : List Opening → Shape → Type 0
IsShapeRound os (shape.Leaf kind) = IsNamedIn os (naming_in kind)
IsShapeRound os (shape.Over kind roles) = IsUsed os (naming_of kind)
IsShapeRound os (shape.OverNil kind roles) = IsUsed os (naming_of kind)
IsShapeRound os (shape.Change target f) = IsTarget os target
IsShapeRound os (shape.Body kind) = IsUsed os (naming_of kind)
IsShapeRound os (shape.LocalInterrupts n) = IsOpen Flag os n
IsShapeRound os _ = Unit {0}

-- either of two shapes
pub if-round : (os : List Opening) (t : Bool) (a b : Shape) → IsShapeRound os a → IsShapeRound os b → IsShapeRound os (if t then a else b)
if-round os true a b h k = h
if-round os false a b h k = k

holds-round : (os : List Opening) (p : ℕ) (t : Bool) (a : Shape) → IsShapeRound os a → IsShapeRound os (where_holds p t a)
holds-round os p true a h = h
holds-round os p false a h = tt

-- a shape made of what there is
some-round : {A : Type 0} (os : List Opening) (o : Option A) (otherwise : Shape) (make : A → Shape) → IsShapeRound os otherwise
    → ((a : A) → IsShapeRound os (make a)) → IsShapeRound os (with_some o otherwise make)
some-round os None otherwise make h k = h
some-round os (Some a) otherwise make h k = k a

-- a shape made of a number that is open
number-round : (os : List Opening) (o : Opening) (number : Option ℕ) (otherwise : Shape) (make : ℕ → Shape) → IsNumberIn o os number → IsShapeRound os otherwise
    → ((n : ℕ) → IsOpen o os n → IsShapeRound os (make n)) → IsShapeRound os (with_some number otherwise make)
number-round os o None otherwise make is h k = h
number-round os o (Some n) otherwise make is h k = k n is

-- a constant
pub constant-round : (os : List Opening) (v : Node) → IsNamedIn os (naming_in (constant v))
constant-round os v = by (is_in_range v)
  where
    by : (t : Bool) → IsNamedIn os (naming_in (if t then Form (k.Constant v) else Refused BadForm))
    by true = tt
    by false = tt

-- the variable that a symbol is
pub target-round : (os : List Opening) (s : Scope) (x : ℕ) → Fits os s → IsTargetIn os (target_of s x)
target-round os s x f = by (has s.specials x) (number_of (level.Variable x) s.levels) (number-open os (level.Variable x) s.levels f.1)
  where
    by : (t : Bool) (number : Option ℕ) → IsNumberIn Variable os number → IsTargetIn os (if t then Some (Special x) else as_local number)
    by true number h = tt
    by false None h = tt
    by false (Some n) h = h

pub target_in-round : (os : List Opening) (s : Scope) (x : Option ℕ) → Fits os s → IsTargetIn os (target_in s x)
target_in-round os s None f = tt
target_in-round os s (Some x) f = target-round os s x f

-- a variable as a form
variable-round : (os : List Opening) (target : Option Target) → IsTargetIn os target → IsNamedIn os (naming_in (variable_form target))
variable-round os None h = tt
variable-round os (Some (Local n)) h = h
variable-round os (Some (Special x)) h = tt

-- a leaf as a form
pub leaf-round : (os : List Opening) (s : Scope) (l : Leaf) → Fits os s → IsNamedIn os (naming_in (leaf_form s l))
leaf-round os s (Int z) f = constant-round os (node.Int z)
leaf-round os s (Text x) f = constant-round os (node.Text x)
leaf-round os s (Time t) f = constant-round os (node.Time t)
leaf-round os s (Symbol x) f = by _ _
  where
    by : (t u : Bool)
        → IsNamedIn os (naming_in (if t then Form (k.Constant (node.Symbol x)) else if u then Form k.CurrentThread else variable_form (target_of s x)))
    by true u = tt
    by false true = tt
    by false false = variable-round os (target_of s x) (target-round os s x f)

quoted-round : (os : List Opening) (args : Data) → IsNamedIn os (naming_in (quoted args))
quoted-round os (Atom l p NoData) = constant-round os (node_of l)
quoted-round os (Listed p NoData NoData) = tt
quoted-round os _ = tt

-- forms with a fixed number of arguments
fixed-round : (os : List Opening) (p : ℕ) (kind : CoreKind) (n : ℕ) (args : Data) → IsUsed os (naming_of kind) → IsShapeRound os (fixed p kind n args)
fixed-round os p kind n args h = holds-round os p (count_of args == n) (shape.Over kind _) h

change-round : (os : List Opening) (s : Scope) (p : ℕ) (g : Primitive) (args : Data) → Fits os s → IsShapeRound os (change_shape s p g args)
change-round os s p g (Atom (Symbol x) q beside) f = holds-round os p _ _ (by (target_of s x) (target-round os s x f))
  where
    by : (t : Option Target) → IsTargetIn os t → IsShapeRound os (with_some t (shape.Wrong UnknownVariable q) (λ target. shape.Change target g))
    by None h = tt
    by (Some target) h = h
change-round os s p g _ f = tt

swap-round : (os : List Opening) (s : Scope) (p : ℕ) (args : Data) → IsShapeRound os (swap_shape s p args)
swap-round os s p (Listed q under beside) =
    let make : ℕ × ℕ → Shape = λ v. if has s.specials v.0 then shape.Over (k.CompareAndSwap v.0) (From 1) else shape.Wrong UnknownVariable v.1 in
    holds-round os p (count_of beside == 2) (with_some (valued_symbol s.names under) (bad p) make)
    (some-round os (valued_symbol s.names under) (bad p) make tt
    (λ v. if-round os (has s.specials v.0) (shape.Over (k.CompareAndSwap v.0) (From 1)) (shape.Wrong UnknownVariable v.1) tt tt))
swap-round os s p _ = tt

exit-round : (os : List Opening) (s : Scope) (p name : ℕ) (has_value : Bool) (n : ℕ) → Fits os s → IsShapeRound os (exit_shape s p name has_value n)
exit-round os s p name has_value n f =
    number-round os Entry (number_of (level.Block name) s.levels) _ _ (number-open os (level.Block name) s.levels f.1) tt
    (λ b h. if-round os has_value _ _ h h)

return_from-round : (os : List Opening) (s : Scope) (p : ℕ) (args : Data) → Fits os s → IsShapeRound os (return_from_shape s p args)
return_from-round os s p (Atom (Symbol b) q beside) f = holds-round os p _ _ (exit-round os s p b _ 1 f)
return_from-round os s p _ f = tt

region-round : (os : List Opening) (s : Scope) (p : ℕ) (make : ℕ → Shape) → Fits os s → ((n : ℕ) → IsOpen Flag os n → IsShapeRound os (make n))
    → IsShapeRound os (in_region s p make)
region-round os s p make f h = number-round os Flag (number_of level.Region s.levels) _ make (number-open os level.Region s.levels f.1) tt h

error-round : (os : List Opening) (s : Scope) (p : ℕ) (args : Data) → IsShapeRound os (error_shape s p args)
error-round os s p (Atom (Text x) q NoData) =
    holds-round os p (not (has_tilde (text_of s.texts x))) (shape.Leaf (Form (k.Signal (record { class = SimpleError; text = Some x })))) tt
error-round os s p _ = tt

given-round : (os : List Opening) (p x taken given : ℕ) → IsShapeRound os (format_given p x taken given)
given-round os p x taken given = if-round os (nat_lt given taken) _ _ tt (if-round os (nat_lt most given) _ _ tt tt)

format-round : (os : List Opening) (s : Scope) (p : ℕ) (args : Data) → IsShapeRound os (format_shape s p args)
format-round os s p (Atom (Symbol t) q (Atom (Text x) r beside)) =
    let make : ℕ → Shape = λ taken. format_given p x taken (count_of beside) in
    holds-round os p (is_named s.names (codes "T") (Some t)) (with_some (taken_by false (text_of s.texts x)) (bad p) make)
    (some-round os (taken_by false (text_of s.texts x)) (bad p) make tt (λ taken. given-round os p x taken (count_of beside)))
format-round os s p _ = tt

none-round : (os : List Opening) (p : ℕ) (g : Primitive) → IsShapeRound os (fold_of_none p g)
none-round os p prim.Add = constant-round os (node.Int (pos 0))
none-round os p prim.Multiply = constant-round os (node.Int (pos 1))
none-round os p _ = tt

one-round : (os : List Opening) (g : Primitive) → IsShapeRound os (fold_of_one g)
one-round os prim.Max = tt
one-round os prim.Min = tt
one-round os g = tt

fold-round : (os : List Opening) (p : ℕ) (g : Primitive) (args : Data) → IsShapeRound os (fold_shape p g args)
fold-round os p g args =
    if-round os (count_of args == 0) _ _ (none-round os p g)
    (if-round os (nat_lt most (count_of args)) _ _ tt (if-round os (count_of args == 1) _ _ (one-round os g) tt))

keyed-round : (os : List Opening) (names : List (List ℕ)) (p : ℕ) (service : Service) (args : Data) → IsShapeRound os (keyed_shape names p service args)
keyed-round os names p service args =
    let keys : Option Keys = keys_in names (first_key service) (second_key service) (behind (positional service) args) in
    let make : Keys → Shape = λ keys. shape.Over (k.Serve (with_keys service keys.first keys.second)) (roles_of service) in
    holds-round os p (not (nat_lt (count_of args) (positional service))) (with_some keys (bad p) make) (some-round os keys (bad p) make tt (λ keys. tt))

serve-round : (os : List Opening) (names : List (List ℕ)) (p : ℕ) (service : Service) (args : Data) → IsShapeRound os (serve_shape names p service args)
serve-round os names p (service.ConditionNotify count) args =
    if-round os (count_of args == 2) _ _ tt (fixed-round os p (k.Serve (service.ConditionNotify false)) 1 args tt)
serve-round os names p other args = keyed-round os names p other args

handler-round : (os : List Opening) (names : List (List ℕ)) (p : ℕ) (args : Data) → IsShapeRound os (handler_shape names p args)
handler-round os names p args = holds-round os p _ _ (if-round os (nat_lt most_clauses (count_of (behind 1 args))) _ _ tt tt)

deadline-round : (os : List Opening) (names : List (List ℕ)) (p : ℕ) (args : Data) → IsShapeRound os (deadline_shape names p args)
deadline-round os names p (Listed q items beside) =
    some-round os (keys_in names (codes ":SECONDS") (codes ":OVERRIDE") items) (bad p) (λ keys. shape.Deadline keys.first keys.second) tt (λ keys. tt)
deadline-round os names p _ = tt

mutex-round : (os : List Opening) (names : List (List ℕ)) (p : ℕ) (args : Data) → IsShapeRound os (mutex_shape names p args)
mutex-round os names p (Listed q items beside) =
    let keys : Option Keys = keys_in names (codes ":WAIT-P") (codes ":TIMEOUT") (behind 1 items) in
    let make : Keys → Shape = λ keys. shape.Mutex keys.first keys.second in
    holds-round os p (nat_lt 0 (count_of items)) (with_some keys (bad p) make) (some-round os keys (bad p) make tt (λ keys. tt))
mutex-round os names p _ = tt

lock-round : (os : List Opening) (p : ℕ) (args : Data) → IsShapeRound os (lock_shape p args)
lock-round os p (Listed q items beside) = holds-round os p (count_of items == 1) shape.RecursiveLock tt
lock-round os p _ = tt

dotimes-round : (os : List Opening) (names : List (List ℕ)) (p : ℕ) (args : Data) → IsShapeRound os (dotimes_shape names p args)
dotimes-round os names p (Listed q items beside) =
    let variable : Option ℕ = as_variable names (first_symbol items) in
    holds-round os p ((count_of items == 2) || (count_of items == 3)) (with_some variable (bad p) (λ x. shape.Dotimes x))
    (some-round os variable (bad p) (λ x. shape.Dotimes x) tt (λ x. tt))
dotimes-round os names p _ = tt

block-round : (os : List Opening) (p : ℕ) (args : Data) → IsShapeRound os (block_shape p args)
block-round os p (Atom (Symbol b) q beside) = tt
block-round os p _ = tt

faultless-round : (os : List Opening) (p : ℕ) (fault : Option Refusal) (a : Shape) → IsShapeRound os a → IsShapeRound os (faultless p fault a)
faultless-round os p None a h = h
faultless-round os p (Some refusal) a h = tt

misplaced-round : (os : List Opening) (p : ℕ) (fault : Option Refusal) → IsShapeRound os (misplaced p fault)
misplaced-round os p None = tt
misplaced-round os p (Some refusal) = if-round os (are_same refusal BadForm) _ _ tt tt

outside-round : (os : List Opening) (s : Scope) (p : ℕ) (args : Data) → IsShapeRound os (function_outside s p args)
outside-round os s p (Atom (Symbol x) q NoData) = if-round os (has s.functions x) _ _ tt tt
outside-round os s p (Listed q under NoData) =
    let lambda : Shape = lambda_outside q s.names (behind 1 under) in
    holds-round os p (is_named s.names (codes "LAMBDA") (first_symbol under)) lambda (misplaced-round os q (list_fault s.names (parameters_of (behind 1 under))))
outside-round os s p _ = tt

-- a list with this operator
led-round : (os : List Opening) (s : Scope) (p : ℕ) (operator : Operator) (args : Data) → Fits os s → IsShapeRound os (operator_led s p operator args)
led-round os s p op.Quote args f = quoted-round os args
led-round os s p op.Function args f = outside-round os s p args
led-round os s p op.Lambda args f = misplaced-round os p (list_fault s.names (parameters_of args))
led-round os s p op.Progn args f = tt
led-round os s p op.If args f = if-round os (count_of args == 2) _ _ tt (fixed-round os p k.If 3 args tt)
led-round os s p op.Let args f = faultless-round os p (list_fault s.names (variables_of args)) shape.Let tt
led-round os s p op.LetStar args f = faultless-round os p (list_fault s.names (variables_of args)) shape.LetStar tt
led-round os s p op.Setq args f = holds-round os p (nat_lt 0 (count_of args) && are_pairs s.names args) shape.Setq tt
led-round os s p op.CompareAndSwap args f = swap-round os s p args
led-round os s p op.When args f = holds-round os p (not (nat_lt (count_of args) 1)) shape.When tt
led-round os s p op.Unless args f = holds-round os p (not (nat_lt (count_of args) 1)) shape.Unless tt
led-round os s p op.Cond args f = holds-round os p (are_tests args) shape.Cond tt
led-round os s p op.And args f = tt
led-round os s p op.Or args f = tt
led-round os s p op.Prog1 args f = holds-round os p (not (nat_lt (count_of args) 1)) shape.Prog1 tt
led-round os s p op.Incf args f = change-round os s p prim.Add args f
led-round os s p op.Decf args f = change-round os s p prim.Subtract args f
led-round os s p op.Loop args f = tt
led-round os s p op.Dotimes args f = dotimes-round os s.names p args
led-round os s p op.Block args f = block-round os p args
led-round os s p op.ReturnFrom args f = return_from-round os s p args f
led-round os s p op.Return args f = holds-round os p (nat_lt (count_of args) 2) (exit_shape s p 0 (count_of args == 1) 0) (exit-round os s p 0 (count_of args == 1) 0 f)
led-round os s p op.Catch args f = holds-round os p (not (nat_lt (count_of args) 1)) shape.Catch tt
led-round os s p op.Throw args f = fixed-round os p k.Throw 2 args tt
led-round os s p op.UnwindProtect args f = holds-round os p (not (nat_lt (count_of args) 1)) (shape.Over k.UnwindProtect (From 0)) tt
led-round os s p op.HandlerCase args f = handler-round os s.names p args
led-round os s p op.IgnoreErrors args f = tt
led-round os s p op.Error args f = error-round os s p args
led-round os s p op.WithoutInterrupts args f = tt
led-round os s p op.AllowWithInterrupts args f = region-round os s p (λ n. shape.Body (k.AllowWithInterrupts n)) f (λ n h. h)
led-round os s p op.WithInterrupts args f = tt
led-round os s p op.WithLocalInterrupts args f = region-round os s p (λ n. shape.LocalInterrupts n) f (λ n h. h)
led-round os s p op.WithDeadline args f = deadline-round os s.names p args
led-round os s p op.WithTimeout args f = holds-round os p (not (nat_lt (count_of args) 1)) shape.Timeout tt
led-round os s p op.WithMutex args f = mutex-round os s.names p args
led-round os s p op.WithRecursiveLock args f = lock-round os p args
led-round os s p op.AbortThread args f = holds-round os p (count_of args == 0) (shape.Leaf (Form k.AbortThread)) tt
led-round os s p op.ReturnFromThread args f = fixed-round os p k.ReturnFromThread 1 args tt
led-round os s p op.TerminateThread args f = holds-round os p (count_of args == 1) shape.Terminate tt
led-round os s p (op.Fold g) args f = fold-round os p g args
led-round os s p (op.Apply g n) args f = fixed-round os p (k.Apply g) n args tt
led-round os s p (op.Print printing n) args f = fixed-round os p (k.Print printing) n args tt
led-round os s p op.Format args f = format-round os s p args
led-round os s p (op.Serve service) args f = serve-round os s.names p service args
led-round os s p (op.Own x) args f = if-round os (nat_lt most (count_of args)) _ _ tt tt
led-round os s p op.Defvar args f = tt
led-round os s p op.Defparameter args f = tt
led-round os s p op.Defun args f = tt
led-round os s p op.Ignored args f = tt
led-round os s p op.Declare args f = tt

-- a list
pub shape-round : (os : List Opening) (s : Scope) (p : ℕ) (under : Data) → Fits os s → IsShapeRound os (shape_of s p under)
shape-round os s p under f = by (operator_at s (first_symbol under))
  where
    by : (operator : Option Operator) → IsShapeRound os (shape_led s p operator (behind 1 under))
    by None = tt
    by (Some operator) = led-round os s p operator (behind 1 under) f
