-- What a list is, by its operator and its shape.
use Rattle.std.specs.Prelude.{ℕ, pos, List, Bool, true, false, ◌&&◌, ◌||◌, ◌==◌, not, Option, Some, None, if◌then◌else◌, nat_lt, codes}
use Rattle.lisp_base.specs.declared.condition.Class.TheVariants.{SimpleError}
use Rattle.lisp_base.specs.declared.value.Node.TheVariants.{Int as AnInt}
use Rattle.lisp_base.specs.Refusals.{are_same}
use Rattle.lisp_base.specs.declared.refusal.Refusal.{Refusal}
use Rattle.lisp_base.specs.declared.refusal.Refusal.TheVariants.{BadForm, FunctionPlace, NoSuchBlock, RegionOutside, TooMany, UnknownOperator, UnknownVariable}
use Rattle.lisp_base.specs.Value.{nil}
use Rattle.lisp_program.specs.declared.form.CoreKind.{CoreKind}
use Rattle.lisp_program.specs.declared.form.CoreKind.TheVariants as k
use Rattle.lisp_program.specs.declared.function.Primitive.{Primitive}
use Rattle.lisp_program.specs.declared.function.Primitive.TheVariants as f
use Rattle.lisp_program.specs.declared.function.Printing.TheVariants as printing
use Rattle.lisp_program.specs.declared.function.Service.{Service}
use Rattle.lisp_program.specs.declared.function.Service.TheVariants as service
use Rattle.lisp_data.specs.Data.{Data, NoData, Atom, Listed, behind, count_of}
use Rattle.lisp_data.specs.declared.datum.Leaf.TheVariants.{Symbol, Text}
use Rattle.form_shapes.specs.declared.operator.Operator.{Operator}
use Rattle.form_shapes.specs.declared.operator.Operator.TheVariants as op
use Rattle.form_shapes.specs.Controls.{has_tilde, taken_by, text_of}
use Rattle.form_shapes.specs.declared.expanded.Expanded.{Expanded}
use Rattle.form_shapes.specs.declared.expanded.Expanded.TheVariants.{Form, Refused}
use Rattle.form_shapes.specs.declared.keywords.Roles.TheVariants.{From}
use Rattle.form_shapes.specs.declared.levels.Level.TheVariants.{Block as ABlock, Region}
use Rattle.form_shapes.specs.declared.shape.Shape.{Shape}
use Rattle.form_shapes.specs.declared.shape.Shape.TheVariants as shape
use Rattle.form_shapes.specs.Bindings.{is_named, list_fault, most, parameters_of, variables_of}
use Rattle.form_shapes.specs.Clauses.{are_clauses, are_tests, most_clauses}
use Rattle.form_shapes.specs.Keywords.{keys_in, first_key, second_key, positional, roles_of, with_keys}
use Rattle.form_shapes.specs.Levels.{number_of}
use Rattle.form_shapes.specs.Scopes.{Scope, as_variable, constant, first_symbol, has, is_variable_name, node_of, operator_at, target_of}

-- a list that does not have its shape
abbrev pub bad : ℕ → Shape
bad p = shape.Wrong BadForm p

-- a list that has this shape where the test holds, and otherwise does not have its shape
abbrev pub where_holds : ℕ → Bool → Shape → Shape
where_holds p true s = s
where_holds p false s = bad p

-- a shape made of what there is; another where there is none
abbrev pub with_some : {A : Type 0} → Option A → (otherwise : Shape) → (A → Shape) → Shape
with_some None otherwise shape_with = otherwise
with_some (Some a) otherwise shape_with = shape_with a

-- a form of this kind with exactly so many arguments
abbrev pub fixed : ℕ → CoreKind → ℕ → Data → Shape
fixed p kind n args = where_holds p (count_of args == n) (shape.Over kind (From 0))

-- a form with at least so many arguments
abbrev pub at_least : ℕ → ℕ → Data → Shape → Shape
at_least p n args s = where_holds p (not (nat_lt (count_of args) n)) s

-- what is quoted: one leaf, or `()`, which is NIL
abbrev pub quoted : Data → Expanded
quoted (Atom leaf p NoData) = constant (node_of leaf)
quoted (Listed p NoData NoData) = Form (k.Constant nil)
quoted _ = Refused BadForm

-- `(if a b)` or `(if a b c)`
abbrev pub if_shape : ℕ → Data → Shape
if_shape p args = if count_of args == 2 then shape.OverNil k.If (From 0) else fixed p k.If 3 args

-- a list whose variables have this fault or none
abbrev pub faultless : ℕ → Option Refusal → Shape → Shape
faultless p None s = s
faultless p (Some refusal) s = shape.Wrong refusal p

-- `let` or `let*`
abbrev pub let_shape : Scope → ℕ → Data → Shape → Shape
let_shape s p args s' = faultless p (list_fault s.names (variables_of args)) s'

-- these are pairs of a variable and a value
abbrev pub are_pairs : List (List ℕ) → Data → Bool
are_pairs names NoData = true
are_pairs names (Atom (Symbol x) p (Atom value q beside)) = is_variable_name names x && are_pairs names beside
are_pairs names (Atom (Symbol x) p (Listed q under beside)) = is_variable_name names x && are_pairs names beside
are_pairs names _ = false

-- `(setq v a)`, with one pair or more
abbrev pub setq_shape : List (List ℕ) → ℕ → Data → Shape
setq_shape names p args = where_holds p (nat_lt 0 (count_of args) && are_pairs names args) shape.Setq

-- `(incf v)` or `(incf v n)`, and so `decf`: what is no variable is refused at its own place
abbrev pub change_shape : Scope → ℕ → Primitive → Data → Shape
change_shape s p f (Atom (Symbol x) q beside) =
    where_holds p (nat_lt (count_of beside) 2 && is_variable_name s.names x)
    (with_some (target_of s x) (shape.Wrong UnknownVariable q) (λ target. shape.Change target f))
change_shape s p f _ = bad p

-- the symbol v and its place, where these are the items of `'v`
abbrev pub quoted_symbol : List (List ℕ) → Data → Option (ℕ × ℕ)
quoted_symbol names (Atom (Symbol y) p (Atom (Symbol x) q NoData)) = if is_named names (codes "QUOTE") (Some y) then Some (x, q) else None
quoted_symbol names _ = None

-- the symbol v and its place, where these are the items of `(symbol-value 'v)`
abbrev pub valued_symbol : List (List ℕ) → Data → Option (ℕ × ℕ)
valued_symbol names (Atom (Symbol y) p (Listed q under NoData)) =
    if is_named names (codes "SYMBOL-VALUE") (Some y) then quoted_symbol names under else None
valued_symbol names _ = None

-- `(compare-and-swap (symbol-value 'v) old new)`: what is no special variable is refused at its own place
abbrev pub swap_shape : Scope → ℕ → Data → Shape
swap_shape s p (Listed q under beside) =
    where_holds p (count_of beside == 2)
    (with_some (valued_symbol s.names under) (bad p)
    (λ v. if has s.specials v.0 then shape.Over (k.CompareAndSwap v.0) (From 1) else shape.Wrong UnknownVariable v.1))
swap_shape s p _ = bad p

-- `(block b body)`
abbrev pub block_shape : ℕ → Data → Shape
block_shape p (Atom (Symbol b) q beside) = shape.Block b
block_shape p _ = bad p

-- an exit to the innermost block with this name, with its value, if it has one, after so many arguments
abbrev pub exit_shape : Scope → ℕ → (name : ℕ) → (has_value : Bool) → ℕ → Shape
exit_shape s p name has_value n =
    with_some (number_of (ABlock name) s.levels) (shape.Wrong NoSuchBlock p)
    (λ b. if has_value then shape.Over (k.ReturnFrom b) (From n) else shape.OverNil (k.ReturnFrom b) (From n))

-- `(return-from b)` or `(return-from b a)`
abbrev pub return_from_shape : Scope → ℕ → Data → Shape
return_from_shape s p (Atom (Symbol b) q beside) = where_holds p (nat_lt (count_of beside) 2) (exit_shape s p b (count_of beside == 1) 1)
return_from_shape s p _ = bad p

-- `(return)` or `(return a)`: its block has the name NIL
abbrev pub return_shape : Scope → ℕ → Data → Shape
return_shape s p args = where_holds p (nat_lt (count_of args) 2) (exit_shape s p 0 (count_of args == 1) 0)

-- a form that stands only in a written `without-interrupts`, which has the number that it is given
abbrev pub in_region : Scope → ℕ → (ℕ → Shape) → Shape
in_region s p shape_with = with_some (number_of Region s.levels) (shape.Wrong RegionOutside p) shape_with

-- `(error "text")`: a `~` in the text would be a directive of `format`
abbrev pub error_shape : Scope → ℕ → Data → Shape
error_shape s p (Atom (Text x) q NoData) =
    where_holds p (not (has_tilde (text_of s.texts x))) (shape.Leaf (Form (k.Signal (record { class = SimpleError; text = Some x }))))
error_shape s p _ = bad p

-- `format` of this control, which takes so many arguments, with so many given
abbrev pub format_given : ℕ → ℕ → (taken given : ℕ) → Shape
format_given p x taken given =
    if nat_lt given taken then bad p
    else if nat_lt most given then shape.Wrong TooMany p
    else shape.Over (k.Print (printing.Format x given)) (From 2)

-- `(format t "control" args)`
abbrev pub format_shape : Scope → ℕ → Data → Shape
format_shape s p (Atom (Symbol t) q (Atom (Text x) r beside)) =
    where_holds p (is_named s.names (codes "T") (Some t))
    (with_some (taken_by false (text_of s.texts x)) (bad p) (λ taken. format_given p x taken (count_of beside)))
format_shape s p _ = bad p

-- what a fold of no arguments gives
abbrev pub fold_of_none : ℕ → Primitive → Shape
fold_of_none p f.Add = shape.Leaf (constant (AnInt (pos 0)))
fold_of_none p f.Multiply = shape.Leaf (constant (AnInt (pos 1)))
fold_of_none p _ = bad p

-- a fold of one argument: with the number that changes nothing, or for `max` and `min` with the argument itself
abbrev pub fold_of_one : Primitive → Shape
fold_of_one f.Max = shape.Twice f.Max
fold_of_one f.Min = shape.Twice f.Min
fold_of_one g = shape.Fold g

-- a function that is folded over these arguments
abbrev pub fold_shape : ℕ → Primitive → Data → Shape
fold_shape p f args =
    if count_of args == 0 then fold_of_none p f
    else if nat_lt most (count_of args) then shape.Wrong TooMany p
    else if count_of args == 1 then fold_of_one f
    else shape.Fold f

-- a call of a function of the program
abbrev pub call_shape : ℕ → ℕ → Data → Shape
call_shape p x args = if nat_lt most (count_of args) then shape.Wrong TooMany p else shape.Over (k.Call x) (From 0)

-- `condition-notify`, which has no keywords: the number of waiters may follow
abbrev pub notify_shape : ℕ → Data → Shape
notify_shape p args =
    if count_of args == 2 then shape.Over (k.Serve (service.ConditionNotify true)) (From 0)
    else fixed p (k.Serve (service.ConditionNotify false)) 1 args

-- a service with these arguments: the first are positional, the others keywords with values
abbrev pub keyed_shape : List (List ℕ) → ℕ → Service → Data → Shape
keyed_shape names p service args =
    where_holds p (not (nat_lt (count_of args) (positional service)))
    (with_some (keys_in names (first_key service) (second_key service) (behind (positional service) args)) (bad p)
    (λ keys. shape.Over (k.Serve (with_keys service keys.first keys.second)) (roles_of service)))

-- a service with these arguments
abbrev pub serve_shape : List (List ℕ) → ℕ → Service → Data → Shape
serve_shape names p (service.ConditionNotify count) args = notify_shape p args
serve_shape names p other args = keyed_shape names p other args

-- `(handler-case a clauses)`
abbrev pub handler_shape : List (List ℕ) → ℕ → Data → Shape
handler_shape names p args =
    where_holds p (nat_lt 0 (count_of args) && are_clauses names (behind 1 args))
    (if nat_lt most_clauses (count_of (behind 1 args)) then shape.Wrong TooMany p else shape.Handler)

-- `(with-deadline (:seconds a :override b) body)`
abbrev pub deadline_shape : List (List ℕ) → ℕ → Data → Shape
deadline_shape names p (Listed q items beside) =
    with_some (keys_in names (codes ":SECONDS") (codes ":OVERRIDE") items) (bad p) (λ keys. shape.Deadline keys.first keys.second)
deadline_shape names p _ = bad p

-- `(with-mutex (m :wait-p a :timeout b) body)`
abbrev pub mutex_shape : List (List ℕ) → ℕ → Data → Shape
mutex_shape names p (Listed q items beside) =
    where_holds p (nat_lt 0 (count_of items))
    (with_some (keys_in names (codes ":WAIT-P") (codes ":TIMEOUT") (behind 1 items)) (bad p) (λ keys. shape.Mutex keys.first keys.second))
mutex_shape names p _ = bad p

-- `(with-recursive-lock (m) body)`
abbrev pub lock_shape : ℕ → Data → Shape
lock_shape p (Listed q items beside) = where_holds p (count_of items == 1) shape.RecursiveLock
lock_shape p _ = bad p

-- `(dotimes (v n) body)` or `(dotimes (v n result) body)`
abbrev pub dotimes_shape : List (List ℕ) → ℕ → Data → Shape
dotimes_shape names p (Listed q items beside) =
    where_holds p ((count_of items == 2) || (count_of items == 3)) (with_some (as_variable names (first_symbol items)) (bad p) (λ x. shape.Dotimes x))
dotimes_shape names p _ = bad p

-- a `lambda` outside a function's seat, whose parameters have this fault or none
abbrev pub misplaced : ℕ → Option Refusal → Shape
misplaced p None = shape.Wrong FunctionPlace p
misplaced p (Some refusal) = if are_same refusal BadForm then bad p else shape.Wrong FunctionPlace p

-- a `lambda` with these arguments outside a function's seat
abbrev pub lambda_outside : ℕ → List (List ℕ) → Data → Shape
lambda_outside p names args = misplaced p (list_fault names (parameters_of args))

-- `#'f` outside a function's seat, where it is misplaced; `#'(lambda ..)` is misplaced at the place of the `lambda`
abbrev pub function_outside : Scope → ℕ → Data → Shape
function_outside s p (Atom (Symbol x) q NoData) = if has s.functions x then shape.Wrong FunctionPlace p else shape.Wrong UnknownOperator p
function_outside s p (Listed q under NoData) =
    where_holds p (is_named s.names (codes "LAMBDA") (first_symbol under)) (lambda_outside q s.names (behind 1 under))
function_outside s p _ = bad p

-- a list with this operator and these arguments, at a place
abbrev pub operator_led : Scope → ℕ → Operator → Data → Shape
-- values, variables and sequences
operator_led s p op.Quote args = shape.Leaf (quoted args)
operator_led s p op.Function args = function_outside s p args
operator_led s p op.Lambda args = lambda_outside p s.names args
operator_led s p op.Progn args = shape.Over k.Progn (From 0)
operator_led s p op.If args = if_shape p args
operator_led s p op.Let args = let_shape s p args shape.Let
operator_led s p op.LetStar args = let_shape s p args shape.LetStar
operator_led s p op.Setq args = setq_shape s.names p args
operator_led s p op.CompareAndSwap args = swap_shape s p args
-- choices and loops
operator_led s p op.When args = at_least p 1 args shape.When
operator_led s p op.Unless args = at_least p 1 args shape.Unless
operator_led s p op.Cond args = where_holds p (are_tests args) shape.Cond
operator_led s p op.And args = shape.And
operator_led s p op.Or args = shape.Or
operator_led s p op.Prog1 args = at_least p 1 args shape.Prog1
operator_led s p op.Incf args = change_shape s p f.Add args
operator_led s p op.Decf args = change_shape s p f.Subtract args
operator_led s p op.Loop args = shape.Loop
operator_led s p op.Dotimes args = dotimes_shape s.names p args
-- blocks, exits and handlers
operator_led s p op.Block args = block_shape p args
operator_led s p op.ReturnFrom args = return_from_shape s p args
operator_led s p op.Return args = return_shape s p args
operator_led s p op.Catch args = at_least p 1 args shape.Catch
operator_led s p op.Throw args = fixed p k.Throw 2 args
operator_led s p op.UnwindProtect args = at_least p 1 args (shape.Over k.UnwindProtect (From 0))
operator_led s p op.HandlerCase args = handler_shape s.names p args
operator_led s p op.IgnoreErrors args = shape.IgnoreErrors
operator_led s p op.Error args = error_shape s p args
-- regions, times and mutexes
operator_led s p op.WithoutInterrupts args = shape.Without
operator_led s p op.AllowWithInterrupts args = in_region s p (λ n. shape.Body (k.AllowWithInterrupts n))
operator_led s p op.WithInterrupts args = shape.Body k.WithInterrupts
operator_led s p op.WithLocalInterrupts args = in_region s p (λ n. shape.LocalInterrupts n)
operator_led s p op.WithDeadline args = deadline_shape s.names p args
operator_led s p op.WithTimeout args = at_least p 1 args shape.Timeout
operator_led s p op.WithMutex args = mutex_shape s.names p args
operator_led s p op.WithRecursiveLock args = lock_shape p args
-- ends of threads
operator_led s p op.AbortThread args = where_holds p (count_of args == 0) (shape.Leaf (Form k.AbortThread))
operator_led s p op.ReturnFromThread args = fixed p k.ReturnFromThread 1 args
operator_led s p op.TerminateThread args = where_holds p (count_of args == 1) shape.Terminate
-- functions
operator_led s p (op.Fold f) args = fold_shape p f args
operator_led s p (op.Apply f n) args = fixed p (k.Apply f) n args
operator_led s p (op.Print printing n) args = fixed p (k.Print printing) n args
operator_led s p op.Format args = format_shape s p args
operator_led s p (op.Serve service) args = serve_shape s.names p service args
operator_led s p (op.Own x) args = call_shape p x args
-- what stands only at top level, or only where a body begins
operator_led s p op.Defvar args = bad p
operator_led s p op.Defparameter args = bad p
operator_led s p op.Defun args = bad p
operator_led s p op.Ignored args = bad p
operator_led s p op.Declare args = bad p

-- a list with these arguments, with this operator or none
abbrev pub shape_led : Scope → ℕ → Option Operator → Data → Shape
shape_led s p None args = shape.Wrong UnknownOperator p
shape_led s p (Some operator) args = operator_led s p operator args

-- what a list of these is, at a place
abbrev pub shape_of : Scope → ℕ → Data → Shape
shape_of s p under = shape_led s p (operator_at s (first_symbol under)) (behind 1 under)
