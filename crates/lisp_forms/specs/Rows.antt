-- The table of forms: for each form that is written, what stands for it. A row is given what the form is read by, its place, and
-- its parts. `g` is the number of the next hidden variable; what is read inside it is read by a deeper scope.
use Rattle.std.specs.Prelude.{ℕ, ℤ, suc, pos, List, [], ◌∷◌, Bool, true, false, Option, Some, None, if◌then◌else◌, length}
use Rattle.lisp_base.specs.Forest.{NoTrees, Tree, append}
use Rattle.lisp_base.specs.declared.condition.Class.{Class}
use Rattle.lisp_base.specs.declared.condition.Class.TheVariants.{Error, Timeout}
use Rattle.lisp_base.specs.declared.id.FunctionName.TheVariants.{AbortThread}
use Rattle.lisp_base.specs.declared.refusal.Refusal.TheVariants.{BadForm, UnknownVariable}
use Rattle.lisp_base.specs.declared.value.Node.TheVariants.{Int as AnInt, Symbol as ASymbol}
use Rattle.lisp_program.specs.declared.form.CoreKind.{CoreKind}
use Rattle.lisp_program.specs.declared.form.CoreKind.TheVariants as k
use Rattle.lisp_program.specs.declared.function.Primitive.{Primitive}
use Rattle.lisp_program.specs.declared.function.Primitive.TheVariants as f
use Rattle.lisp_program.specs.declared.function.Service.TheVariants as service
use Rattle.form_shapes.specs.declared.expanded.Expanded.TheVariants.{InBlock, Lambda, Defun, Refused}
use Rattle.form_shapes.specs.declared.expanded.Turning.{Turning}
use Rattle.form_shapes.specs.declared.expanded.Turning.TheVariants.{While, Let}
use Rattle.form_shapes.specs.declared.keywords.Roles.{Roles}
use Rattle.form_shapes.specs.declared.keywords.Roles.TheVariants.{From, Values}
use Rattle.form_shapes.specs.declared.levels.Level.TheVariants.{Block, Region}
use Rattle.form_shapes.specs.declared.scope.Target.{Target}
use Rattle.form_shapes.specs.declared.shape.Shape.{Shape}
use Rattle.form_shapes.specs.declared.shape.Shape.TheVariants as shape
use Rattle.form_shapes.specs.Bindings.{opened, opened_by}
use Rattle.form_shapes.specs.Scopes.{Scope, constant, deeper, has, inside, set_kind}
use Rattle.lisp_forms.specs.Blocks.{blocked}
use Rattle.lisp_forms.specs.Parts.{Parts}
use Rattle.lisp_forms.specs.Trees.{Expansion, Single, in_front, only, both, three, leaf, form, nil_form, progn_form, refused, first, others, second}

-- a variable with this number
abbrev pub local : ℕ → ℕ → Single
local x p = form (k.Local x) p NoTrees

-- the constant T
abbrev pub true_form : ℕ → Single
true_form p = form (k.Constant (ASymbol 1)) p NoTrees

-- a number
abbrev pub number_form : ℤ → ℕ → Single
number_form z p = leaf (constant (AnInt z)) p

-- `(if test chosen other)`
abbrev pub if_form : ℕ → (test chosen other : Single) → Single
if_form p test chosen other = form k.If p (three test chosen other)

-- `(let ((x value)) body)` of a hidden variable with this number
abbrev pub hidden_let : ℕ → ℕ → (value : Single) → (body : Expansion) → Single
hidden_let x p value body = form k.Let p (both value (form (k.BindLocal x 0) p body))

-- `let` and `let*`

-- the kind of a form that binds a variable to the value with so many others before it, where so many are open
abbrev pub bind_kind : Scope → (depth x above : ℕ) → CoreKind
bind_kind s depth x above = if has s.specials x then k.BindSpecial x above else k.BindLocal depth above

-- its form, with this body
abbrev pub bind_form : Scope → ℕ → (depth x above : ℕ) → Expansion → Single
bind_form s p depth x above body = form (bind_kind s depth x above) p body

-- One binding in another, the first variable outermost. The last value stands first, so the value of the first variable has
-- those of all others before it.
abbrev pub binds : Scope → ℕ → List ℕ → Expansion → Expansion
binds s p [] body = body
binds s p (x ∷ xs) body = only (bind_form s p s.depth x (length xs) (binds (opened_by s x) p xs body))

-- a `let` of these variables; without variables it is its body
abbrev pub let_of : Scope → ℕ → List ℕ → (values body : Expansion) → Single
let_of s p [] values body = progn_form p body
let_of s p (x ∷ xs) values body = form k.Let p (append values (binds s p (x ∷ xs) body))

-- `(let ((x a) (y b)) body)`: the values, and then one binding in another
abbrev pub let_form : Scope → ℕ → List ℕ → Parts → Single
let_form s p xs parts = let_of s p xs parts.values (parts.body (opened s xs) 1)

-- a `let` of the first variable with a `let` of the others in it, and so on
abbrev pub nested : Scope → ℕ → List ℕ → (values body : Expansion) → Expansion
nested s p [] values body = body
nested s p (x ∷ xs) values body =
    only (form k.Let p (both (first p values) (bind_form s p s.depth x 0 (nested (opened_by s x) p xs (others values) body))))

-- a `let*` of these variables; without variables it is its body
abbrev pub let_star_of : Scope → ℕ → List ℕ → (values body : Expansion) → Single
let_star_of s p [] values body = progn_form p body
let_star_of s p (x ∷ xs) values body = first p (nested s p (x ∷ xs) values body)

-- `(let* ((x a) (y b)) body)` is `(let ((x a)) (let ((y b)) body))`
abbrev pub let_star_form : Scope → ℕ → List ℕ → Parts → Single
let_star_form s p xs parts = let_star_of s p xs parts.values_in_turn (parts.body (opened s xs) 1)

-- Conditions

-- `(when a b)` is `(if a (progn b) nil)`
abbrev pub when_form : Scope → ℕ → Parts → Single
when_form s p parts = if_form p (first p (parts.forms s)) (progn_form p (others (parts.forms s))) (nil_form p)

-- `(unless a b)` is `(if a nil (progn b))`
abbrev pub unless_form : Scope → ℕ → Parts → Single
unless_form s p parts = if_form p (first p (parts.forms s)) (nil_form p) (progn_form p (others (parts.forms s)))

-- `(let ((g a)) (if g g rest))`, with this number for g
abbrev pub either : ℕ → ℕ → (a rest : Single) → Single
either g p a rest = hidden_let g p a (only (if_form p (local g p) (local g p) rest))

-- `(or a)` is a, and `(or a rest)` is `(let ((g a)) (if g g (or rest)))`, with the rest as it is read inside g
abbrev pub or_form : Scope → ℕ → (is_last : Bool) → (a : Single) → (rest : Scope → Single) → Single
or_form s p true a rest = a
or_form s p false a rest = let g : ℕ = s.depth in either g p a (rest (deeper s))

-- `(and)` is T, `(and a)` is a, and `(and a b)` is `(if a (and b) nil)`
abbrev pub and_of : ℕ → Expansion → Single
and_of p NoTrees = true_form p
and_of p (Tree kind q under NoTrees) = record { kind = kind; place = q; under = under }
and_of p (Tree kind q under (Tree kind' q' under' beside)) =
    if_form p (record { kind = kind; place = q; under = under }) (and_of p (Tree kind' q' under' beside)) (nil_form p)

-- `and`
abbrev pub and_form : Scope → ℕ → Parts → Single
and_form s p parts = and_of p (parts.forms s)

-- A clause of `cond` with these forms, and the other clauses, by what they are read by: `(a b)` is `(if a (progn b) rest)`, and `(a)`
-- is `(let ((g a)) (if g g rest))`, with the rest as it is read inside g.
abbrev pub clause_of_cond : Scope → ℕ → (clause : Expansion) → (rest : Scope → Single) → Single
clause_of_cond s p NoTrees rest = rest s
clause_of_cond s p (Tree kind q under NoTrees) rest =
    let g : ℕ = s.depth in either g p (record { kind = kind; place = q; under = under }) (rest (deeper s))
clause_of_cond s p (Tree kind q under (Tree kind' q' under' beside)) rest =
    if_form p (record { kind = kind; place = q; under = under }) (progn_form p (Tree kind' q' under' beside)) (rest s)

-- `(prog1 a b)` is `(let ((g a)) b g)`
abbrev pub prog1_form : Scope → ℕ → Parts → Single
prog1_form s p parts =
    let g : ℕ = s.depth in
    hidden_let g p (first p (parts.forms s)) (append (parts.body (deeper s) 1) (only (local g p)))

-- Variables and functions

-- `(setq v x)`, whose variable stands at q; where there is none it is refused there
abbrev pub set_form : ℕ → Option Target → (q : ℕ) → (value : Single) → Single
set_form p None q value = leaf (Refused UnknownVariable) q
set_form p (Some target) q value = form (set_kind target) p (only value)

-- one of several is that one, and more are a `progn`
abbrev pub as_one : ℕ → Expansion → Single
as_one p NoTrees = nil_form p
as_one p (Tree kind q under NoTrees) = record { kind = kind; place = q; under = under }
as_one p (Tree kind q under (Tree kind' q' under' beside)) = progn_form p (Tree kind q under (Tree kind' q' under' beside))

-- `(setq a x b y)` is `(progn (setq a x) (setq b y))`
abbrev pub setq_form : Scope → ℕ → Parts → Single
setq_form s p parts = as_one p parts.pairs

-- how much `incf` and `decf` change their variable: by 1, where it is not written
abbrev pub amount : ℕ → Expansion → Single
amount p NoTrees = number_form (pos 1) p
amount p (Tree kind q under beside) = record { kind = kind; place = q; under = under }

-- `(incf v d)` is `(setq v (+ v d))`, and `(decf v d)` is `(setq v (- v d))`; the first argument reads the variable
abbrev pub change_form : Scope → ℕ → Target → Primitive → Parts → Single
change_form s p target g parts =
    form (set_kind target) p (only (form (k.Apply g) p (both (first p (parts.forms s)) (amount p (others (parts.forms s))))))

-- a function of this and each of those, from the left
abbrev pub folded : ℕ → Primitive → (sum : Single) → Expansion → Single
folded p g sum NoTrees = sum
folded p g sum (Tree kind q under beside) = folded p g (form (k.Apply g) p (both sum (record { kind = kind; place = q; under = under }))) beside

-- the number that changes nothing
abbrev pub unit_of : Primitive → ℤ
unit_of f.Multiply = pos 1
unit_of _ = pos 0

-- a function that is folded over these; one alone is folded with the number that changes nothing
abbrev pub fold_of : ℕ → Primitive → Expansion → Single
fold_of p g NoTrees = nil_form p
fold_of p g (Tree kind q under NoTrees) =
    form (k.Apply g) p (both (number_form (unit_of g) p) (record { kind = kind; place = q; under = under }))
fold_of p g (Tree kind q under (Tree kind' q' under' beside)) =
    folded p g (record { kind = kind; place = q; under = under }) (Tree kind' q' under' beside)

-- `(+ a b c)` is `(+ (+ a b) c)`, and `(+ a)` is `(+ 0 a)`; so are `*`, `-`, `max` and `min`
abbrev pub fold_form : Scope → ℕ → Primitive → Parts → Single
fold_form s p g parts = fold_of p g (parts.forms s)

-- `(max a)` is `(let ((g a)) (max g g))`, and so is `min`
abbrev pub twice_form : Scope → ℕ → Primitive → Parts → Single
twice_form s p function parts =
    let g : ℕ = s.depth in
    hidden_let g p (first p (parts.forms s)) (only (form (k.Apply function) p (both (local g p) (local g p))))

-- Loops

-- a `while` or `let` in an implicit block with this number
abbrev pub in_block : ℕ → Turning → ℕ → Expansion → Single
in_block n turning p under = record { kind = InBlock n turning; place = p; under = under }

-- `(loop b)` is `(while t b)` in an implicit block NIL
abbrev pub loop_form : Scope → ℕ → Parts → Single
loop_form s p parts = in_block s.depth While p (in_front (true_form p) (parts.body (inside s (Block 0)) 0))

-- what is open in a `dotimes`: its block, a hidden variable for the number of turns, and one for how many are done
abbrev pub in_dotimes : Scope → Scope
in_dotimes s = deeper (deeper (inside s (Block 0)))

-- what is open where its variable is
abbrev pub in_turn : Scope → ℕ → Scope
in_turn s x = opened_by (in_dotimes s) x

-- there are more turns than are done
abbrev pub more_form : ℕ → (limit done : ℕ) → Single
more_form p limit done = form (k.Apply f.Less) p (both (local done p) (local limit p))

-- one more turn is done
abbrev pub step_form : ℕ → (done : ℕ) → Single
step_form p done = form (k.SetLocal done) p (only (form (k.Apply f.Add) p (both (local done p) (number_form (pos 1) p))))

-- a `let` of the variable of a `dotimes`, by a form of this kind, which is the number of turns that are done
abbrev pub turn_form : ℕ → (done : ℕ) → CoreKind → Expansion → Single
turn_form p done kind body = form k.Let p (both (local done p) (form kind p body))

-- the last form of a `dotimes`: the result, for which its variable is bound once more, or NIL
abbrev pub result_form : ℕ → (done : ℕ) → CoreKind → Option Single → Single
result_form p done kind None = nil_form p
result_form p done kind (Some result) = turn_form p done kind (only result)

-- A `dotimes` after its number of turns, g:
-- `(let ((g n) (h 0)) (while (< h g) (let ((i h)) b) (setq h (+ h 1))) (let ((i h)) r))`
abbrev pub turns_form : Scope → ℕ → (x : ℕ) → (body : Expansion) → (result : Option Single) → Single
turns_form s p x body result =
    let g : ℕ = (inside s (Block 0)).depth in
    let h : ℕ = (deeper (inside s (Block 0))).depth in
    let kind : CoreKind = bind_kind s (in_dotimes s).depth x 0 in
    let turn : Single = form k.While p (three (more_form p g h) (turn_form p h kind body) (step_form p h)) in
    form (k.BindLocal g 1) p (only (form (k.BindLocal h 0) p (both turn (result_form p h kind result))))

-- the result of a `dotimes`, where there is one: the third of these
abbrev pub result_of : Expansion → Option Single
result_of NoTrees = None
result_of (Tree kind p under NoTrees) = None
result_of (Tree kind p under (Tree kind' p' under' NoTrees)) = None
result_of (Tree kind p under (Tree kind' p' under' (Tree kind'' p'' under'' beside))) =
    Some (record { kind = kind''; place = p''; under = under'' })

-- `(dotimes (i n r) b)`, in an implicit block NIL; without r its last form is NIL
abbrev pub dotimes_form : Scope → ℕ → (x : ℕ) → Parts → Single
dotimes_form s p x parts =
    let turns : Single = second p (parts.within (inside s (Block 0)) (From 0)) in
    let result : Option Single = result_of (parts.within (in_turn s x) (From 0)) in
    in_block s.depth Let p (three turns (number_form (pos 0) p) (turns_form s p x (parts.body (in_turn s x) 1) result))

-- Frames

-- a form of this kind round its body
abbrev pub body_form : Scope → ℕ → CoreKind → Parts → Single
body_form s p kind parts = form kind p (parts.body s 0)

-- `without-interrupts`, which remembers whether interruptions are allowed
abbrev pub without_form : Scope → ℕ → Parts → Single
without_form s p parts = form (k.WithoutInterrupts s.depth) p (parts.body (inside s Region) 0)

-- `with-local-interrupts` inside the `without-interrupts` with this number
abbrev pub local_form : ℕ → ℕ → (body : Expansion) → Single
local_form n p body = form (k.AllowWithInterrupts n) p (only (form k.WithInterrupts p body))

-- `(with-local-interrupts b)` is `(allow-with-interrupts (with-interrupts b))`, by the `without-interrupts` with this number
abbrev pub local_interrupts_form : Scope → ℕ → (n : ℕ) → Parts → Single
local_interrupts_form s p n parts = local_form n p (parts.body s 0)

-- `(block b body)`
abbrev pub block_form : Scope → ℕ → (b : ℕ) → Parts → Single
block_form s p b parts = form (k.Block s.depth) p (parts.body (inside s (Block b)) 1)

-- `(catch tag body)`
abbrev pub catch_form : Scope → ℕ → Parts → Single
catch_form s p parts = form k.Catch p (in_front (first p (parts.forms s)) (parts.body s 1))

-- `(with-deadline (:seconds a :override b) body)`
abbrev pub deadline_form : Scope → ℕ → (seconds replaces : Bool) → Parts → Single
deadline_form s p seconds replaces parts = form (k.WithDeadline seconds replaces) p (append (parts.within s (Values 0)) (parts.body s 1))

-- `(handler-case a clauses)`
abbrev pub handler_form : Scope → ℕ → Parts → Single
handler_form s p parts = form k.HandlerCase p (in_front (first p (parts.forms s)) parts.clauses)

-- A clause of `handler-case` with its variable, if it has one, which has this number. A special variable is bound to a hidden one:
-- `(class (g) (let ((v g)) body))`.
abbrev pub clause_form : Scope → (g p : ℕ) → Class → Option ℕ → Expansion → Single
clause_form s g p class None body = form (k.Clause class) p body
clause_form s g p class (Some x) body =
    form (k.ClauseWith class g) p (if has s.specials x then only (form k.Let p (both (local g p) (form (k.BindSpecial x 0) p body))) else body)

-- `(ignore-errors b)` is `(handler-case (progn b) (error () nil))`
abbrev pub ignore_form : Scope → ℕ → Parts → Single
ignore_form s p parts = form k.HandlerCase p (both (progn_form p (parts.forms s)) (form (k.Clause Error) p (only (nil_form p))))

-- Locks

-- what is open in the body of a lock: a hidden variable for the mutex, one for whether it was grabbed, and a region
abbrev pub in_lock : Scope → Scope
in_lock s = deeper (deeper (deeper s))

-- the cleanup of a lock: `(when h (release-mutex g :if-not-owner :punt))`
abbrev pub release_form : (g h : ℕ) → ℕ → Single
release_form g h p =
    let release : Single = form (k.Serve (service.ReleaseMutex true)) p (both (local g p) (form (k.Constant (ASymbol 3)) p NoTrees)) in
    if_form p (local h p) (progn_form p (only release)) (nil_form p)

-- What `with-mutex` and `with-recursive-lock` have in common, by the numbers of the hidden variables and of the region:
-- `(let ((g m) (h nil)) (without-interrupts (unwind-protect (when test (with-local-interrupts b)) cleanup)))`
abbrev pub locked : (g h region : ℕ) → ℕ → (mutex test : Single) → (body : Expansion) → Single
locked g h region p mutex test body =
    let protected : Single = if_form p test (progn_form p (only (local_form region p body))) (nil_form p) in
    let guarded : Single = form (k.WithoutInterrupts region) p (only (form k.UnwindProtect p (both protected (release_form g h p)))) in
    form k.Let p (three mutex (nil_form p) (form (k.BindLocal g 1) p (only (form (k.BindLocal h 0) p (only guarded)))))

-- `(setq h (allow-with-interrupts (grab-mutex g ..)))`, with these operands after the mutex
abbrev pub grabbing : (g h region : ℕ) → ℕ → (waitp timeout : Bool) → (operands : Expansion) → Single
grabbing g h region p waitp timeout operands =
    let grab : Single = form (k.Serve (service.GrabMutex waitp timeout)) p (in_front (local g p) operands) in
    form (k.SetLocal h) p (only (form (k.AllowWithInterrupts region) p (only grab)))

-- `(with-mutex (m :wait-p w :timeout s) b)`
abbrev pub mutex_form : Scope → ℕ → (waitp timeout : Bool) → Parts → Single
mutex_form s p waitp timeout parts =
    let g : ℕ = s.depth in
    let h : ℕ = (deeper s).depth in
    let region : ℕ = (deeper (deeper s)).depth in
    let grab : Single = grabbing g h region p waitp timeout (parts.within (in_lock s) (Values 1)) in
    locked g h region p (first p (parts.within s (From 0))) grab (parts.body (in_lock s) 1)

-- `(holding-mutex-p g)`
abbrev pub held_form : ℕ → ℕ → Single
held_form g p = form (k.Serve service.HoldingMutex) p (only (local g p))

-- `(with-recursive-lock (m) b)`: the test is `(or (holding-mutex-p g) (setq h (allow-with-interrupts (grab-mutex g))))`
abbrev pub lock_form : Scope → ℕ → Parts → Single
lock_form s p parts =
    let g : ℕ = s.depth in
    let h : ℕ = (deeper s).depth in
    let region : ℕ = (deeper (deeper s)).depth in
    let test : Single = either (in_lock s).depth p (held_form g p) (grabbing g h region p false false NoTrees) in
    locked g h region p (first p (parts.within s (From 0))) test (parts.body (in_lock s) 1)

-- Timers and threads

-- `(make-timer (lambda () (signal-timeout)))`
abbrev pub timer_form : ℕ → Single
timer_form p =
    let signals : Single = form (k.Signal (record { class = Timeout; text = None })) p NoTrees in
    form (k.Serve (service.MakeTimer false false)) p (only (record { kind = Lambda 0; place = p; under = only signals }))

-- `(let ((g timer)) (schedule-timer g seconds) (unwind-protect (progn b) (unschedule-timer g)))`
abbrev pub timeout_of : ℕ → ℕ → (seconds : Single) → (body : Expansion) → Single
timeout_of g p seconds body =
    let schedule : Single = form (k.Serve (service.ScheduleTimer false false)) p (both (local g p) seconds) in
    let unschedule : Single = form (k.Serve service.UnscheduleTimer) p (only (local g p)) in
    hidden_let g p (timer_form p) (both schedule (form k.UnwindProtect p (both (progn_form p body) unschedule)))

-- `(with-timeout s b)`: seconds and body are read inside the hidden variable
abbrev pub timeout_form : Scope → ℕ → Parts → Single
timeout_form s p parts = let g : ℕ = s.depth in timeout_of g p (first p (parts.forms (deeper s))) (others (parts.forms (deeper s)))

-- `(terminate-thread x)` is `(interrupt-thread x f)`, where f calls `abort-thread`
abbrev pub terminate_form : Scope → ℕ → Parts → Single
terminate_form s p parts =
    form (k.Serve service.InterruptThread) p (both (first p (parts.forms s)) (form (k.Function AbortThread) p NoTrees))

-- Functions

-- a body round which each special parameter is bound to the hidden one that has its number, the first outermost
abbrev pub specials_bound : Scope → ℕ → (number : ℕ) → List ℕ → Expansion → Expansion
specials_bound s p i [] body = body
specials_bound s p i (x ∷ xs) body =
    if has s.specials x then only (form k.Let p (both (local i p) (form (k.BindSpecial x 0) p (specials_bound s p (suc i) xs body))))
    else specials_bound s p (suc i) xs body

-- a `lambda` with these parameters
abbrev pub lambda_form : Scope → ℕ → List ℕ → (body : Expansion) → Single
lambda_form s p parameters body = record { kind = Lambda (length parameters); place = p; under = specials_bound s p 0 parameters body }

-- a `defun` with these parameters, and an implicit block of its name
abbrev pub defun_form : Scope → ℕ → (name : ℕ) → List ℕ → (body : Expansion) → Single
defun_form s p name parameters body =
    record {
      kind = Defun name (length parameters);
      place = p;
      under = specials_bound s p 0 parameters (blocked (length parameters) p body);
    }

-- The other forms are of one kind with their arguments under it, by what they are for.

-- a form of one kind over its arguments
abbrev pub over_form : Scope → ℕ → CoreKind → Roles → Parts → Single
over_form s p kind roles parts = form kind p (parts.arguments roles)

-- and one that has NIL after them, where it is not written: `(if a b)` and `(return-from b)`
abbrev pub over_nil_form : Scope → ℕ → CoreKind → Roles → Parts → Single
over_nil_form s p kind roles parts = form kind p (append (parts.arguments roles) (only (nil_form p)))

-- Every shape

-- What stands for a list of this shape at a place, with these variables of a `let`: a line for each shape, which names its row.
abbrev pub list_form : Scope → ℕ → Shape → List ℕ → Parts → Single
list_form s p (shape.Wrong refusal q) xs parts = refused refusal q
list_form s p (shape.Leaf kind) xs parts = leaf kind p
list_form s p (shape.Over kind roles) xs parts = over_form s p kind roles parts
list_form s p (shape.OverNil kind roles) xs parts = over_nil_form s p kind roles parts
list_form s p shape.When xs parts = when_form s p parts
list_form s p shape.Unless xs parts = unless_form s p parts
list_form s p shape.Cond xs parts = parts.conds
list_form s p shape.And xs parts = and_form s p parts
list_form s p shape.Or xs parts = parts.ors
list_form s p shape.Prog1 xs parts = prog1_form s p parts
list_form s p shape.Setq xs parts = setq_form s p parts
list_form s p (shape.Change target f) xs parts = change_form s p target f parts
list_form s p (shape.Fold f) xs parts = fold_form s p f parts
list_form s p (shape.Twice f) xs parts = twice_form s p f parts
list_form s p shape.Let xs parts = let_form s p xs parts
list_form s p shape.LetStar xs parts = let_star_form s p xs parts
list_form s p (shape.Body kind) xs parts = body_form s p kind parts
list_form s p (shape.LocalInterrupts n) xs parts = local_interrupts_form s p n parts
list_form s p shape.Without xs parts = without_form s p parts
list_form s p (shape.Block b) xs parts = block_form s p b parts
list_form s p shape.Catch xs parts = catch_form s p parts
list_form s p shape.Loop xs parts = loop_form s p parts
list_form s p (shape.Dotimes x) xs parts = dotimes_form s p x parts
list_form s p shape.IgnoreErrors xs parts = ignore_form s p parts
list_form s p shape.Handler xs parts = handler_form s p parts
list_form s p (shape.Deadline seconds replaces) xs parts = deadline_form s p seconds replaces parts
list_form s p (shape.Mutex waitp timeout) xs parts = mutex_form s p waitp timeout parts
list_form s p shape.RecursiveLock xs parts = lock_form s p parts
list_form s p shape.Timeout xs parts = timeout_form s p parts
list_form s p shape.Terminate xs parts = terminate_form s p parts
list_form s p (shape.Defun f) xs parts = refused BadForm p
