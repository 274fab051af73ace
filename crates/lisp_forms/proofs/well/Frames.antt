-- Rows of loops, frames, locks, timers and functions: what stands for a form stands as it should, where its parts do.
use Rattle.std.proofs.Common.{◌≡◌, ℕ, suc, pos, List, [], ◌∷◌, Bool, true, false, Option, Some, None, if◌then◌else◌, length, refl, sym, subst}
use Rattle.lisp_base.specs.Forest.{NoTrees, Tree, append}
use Rattle.lisp_base.specs.declared.condition.Class.{Class}
use Rattle.lisp_base.specs.declared.condition.Class.TheVariants.{Error}
use Rattle.lisp_base.specs.declared.id.FunctionName.TheVariants.{AbortThread}
use Rattle.lisp_base.specs.declared.value.Node.TheVariants as node
use Rattle.lisp_program.specs.Program.{Program}
use Rattle.lisp_program.specs.WellMade.{Clauses, Each, IsNamed, IsOneOf, Values as ValuesSeat, role_of, Gives}
use Rattle.lisp_program.specs.declared.form.CoreKind.{CoreKind}
use Rattle.lisp_program.specs.declared.form.CoreKind.TheVariants as k
use Rattle.lisp_program.specs.declared.function.Primitive.TheVariants as prim
use Rattle.lisp_program.specs.declared.function.Service.TheVariants as service
use Rattle.form_shapes.specs.declared.keywords.Roles.TheVariants.{From, Values}
use Rattle.form_shapes.specs.declared.levels.Level.TheVariants.{Block, Region}
use Rattle.form_shapes.specs.declared.shape.Shape.{Shape}
use Rattle.form_shapes.specs.declared.shape.Shape.TheVariants as shape
use Rattle.form_shapes.specs.Scopes.{Scope, deeper, has, inside}
use Rattle.lisp_forms.specs.Blocks.{blocked, lowered, returns_to}
use Rattle.lisp_forms.specs.Parts.{Parts}
use Rattle.lisp_forms.specs.Rows
use Rattle.lisp_forms.specs.Trees.{Expansion, Single, in_front, only, both, three, form, nil_form, progn_form, first, second, others}
use Rattle.lisp_forms.specs.inside.Standing.{ArePartsStanding, AreRead, AreStanding, IsGiver, IsShapeStanding, IsStanding, Suits}
use Rattle.lisp_forms.proofs.well.Lowered.{lowered-standing}
use Rattle.lisp_forms.proofs.well.Standing.{append-standing, beside-standing, body-standing, both-standing, first-standing, front-standing, guarded-standing, one-standing, only-standing, others-standing, suits-opened_by, value-standing}
use Rattle.lisp_forms.proofs.well.Rows.{and-standing, as_one-standing, bind-values, change_form-standing, constant-standing, either-standing, fold_form-standing, hidden-standing, if_form-standing, let-standing, let_star-standing, prog1-standing, twice-standing, unless-standing, when-standing}

-- a form of a kind that gives a value, over forms that do
over-standing : (w : Program) (kind : CoreKind) (p : ℕ) (fs : Expansion) → IsNamed w kind → role_of kind ≡ Gives Each → AreStanding w Each fs
    → IsStanding w (form kind p fs)
over-standing w kind p fs named role h = (named, subst (λ r. IsGiver r (λ s. AreStanding w s fs)) (sym role) h)

-- a form, where there is one
abbrev IsStandingIn : Program → Option Single → Type 0
IsStandingIn w None = Unit {0}
IsStandingIn w (Some a) = IsStanding w a

result_of-standing : (w : Program) (fs : Expansion) → AreStanding w Each fs → IsStandingIn w (Rows.result_of fs)
result_of-standing w NoTrees h = tt
result_of-standing w (Tree kind p under NoTrees) h = tt
result_of-standing w (Tree kind p under (Tree kind' p' under' NoTrees)) h = tt
result_of-standing w (Tree kind p under (Tree kind' p' under' (Tree kind'' p'' under'' beside))) h =
    let last : Expansion = Tree kind'' p'' under'' beside in
    one-standing w kind'' p'' under'' beside (beside-standing w kind' p' under' last (beside-standing w kind p under (Tree kind' p' under' last) h))

-- loops
turn-standing : (w : Program) (s : Scope) (p done depth x : ℕ) (body : Expansion) → Suits w s → AreStanding w Each body
    → IsStanding w (Rows.turn_form p done (Rows.bind_kind s depth x 0) body)
turn-standing w s p done depth x body f h =
    (tt, value-standing w 0 (Rows.local done p) (only (Rows.bind_form s p depth x 0 body)) (tt, tt) (bind-values w s p depth x 0 body f (body-standing w body h)))

result-standing : (w : Program) (s : Scope) (p done depth x : ℕ) (result : Option Single) → Suits w s → IsStandingIn w result
    → IsStanding w (Rows.result_form p done (Rows.bind_kind s depth x 0) result)
result-standing w s p done depth x None f h = (tt, tt)
result-standing w s p done depth x (Some a) f h = turn-standing w s p done depth x (only a) f (only-standing w a h)

more-standing : (w : Program) (p limit done : ℕ) → IsStanding w (Rows.more_form p limit done)
more-standing w p limit done = (tt, both-standing w (Rows.local done p) (Rows.local limit p) (tt, tt) (tt, tt))

step-standing : (w : Program) (p done : ℕ) → IsStanding w (Rows.step_form p done)
step-standing w p done =
    let sum : Single = form (k.Apply prim.Add) p (both (Rows.local done p) (Rows.number_form (pos 1) p)) in
    (tt, only-standing w sum (tt, both-standing w (Rows.local done p) (Rows.number_form (pos 1) p) (tt, tt) (constant-standing w (node.Int (pos 1)) p)))

turns-standing : (w : Program) (s : Scope) (p x : ℕ) (body : Expansion) (result : Option Single) → Suits w s → AreStanding w Each body → IsStandingIn w result
    → AreStanding w (ValuesSeat 2) (only (Rows.turns_form s p x body result))
turns-standing w s p x body result f h l =
    let g : ℕ = (inside s (Block 0)).depth in
    let done : ℕ = (deeper (inside s (Block 0))).depth in
    let depth : ℕ = (Rows.in_dotimes s).depth in
    let kind : CoreKind = Rows.bind_kind s depth x 0 in
    let more : Single = Rows.more_form p g done in
    let turn : Single = Rows.turn_form p done kind body in
    let step : Single = Rows.step_form p done in
    let end : Single = Rows.result_form p done kind result in
    let loop : IsStanding w (form k.While p (three more turn step)) = (
      tt,
      front-standing w more (both turn step) (more-standing w p g done)
          (both-standing w turn step (turn-standing w s p done depth x body f h) (step-standing w p done)),
    ) in
    let all : AreStanding w Each (both (form k.While p (three more turn step)) end) =
    both-standing w (form k.While p (three more turn step)) end loop (result-standing w s p done depth x result f l) in
    (tt, ((tt, (body-standing w (both (form k.While p (three more turn step)) end) all, tt)), tt))

dotimes-standing : (w : Program) (s : Scope) (p x : ℕ) (xs : List ℕ) (t : Bool) (parts : Parts) → Suits w s → ArePartsStanding w xs t parts
    → IsStanding w (Rows.dotimes_form s p x parts)
dotimes-standing w s p x xs t parts f h =
    let blocked : Scope = inside s (Block 0) in
    let turn : Suits w (Rows.in_turn s x) = suits-opened_by w (Rows.in_dotimes s) x f in
    let items : Expansion = parts.within blocked (From 0) in
    let results : Expansion = parts.within (Rows.in_turn s x) (From 0) in
    let body : Expansion = parts.body (Rows.in_turn s x) 1 in
    let last : Single = Rows.turns_form s p x body (Rows.result_of results) in
    let count : IsStanding w (second p items) = first-standing w p (others items) (others-standing w items (h.within (From 0) blocked f)) in (
      tt,
      value-standing w 0 (second p items) (both (Rows.number_form (pos 0) p) last) count
          (value-standing w 1 (Rows.number_form (pos 0) p) (only last) (constant-standing w (node.Int (pos 0)) p)
          (turns-standing w s p x body (Rows.result_of results) f (h.body 1 (Rows.in_turn s x) turn)
          (result_of-standing w results (h.within (From 0) (Rows.in_turn s x) turn)))),
    )

loop-standing : (w : Program) (s : Scope) (p : ℕ) (parts : Parts) → Suits w s → AreRead w (λ inner. parts.body inner 0) → IsStanding w (Rows.loop_form s p parts)
loop-standing w s p parts f h =
    (tt, front-standing w (Rows.true_form p) (parts.body (inside s (Block 0)) 0) (tt, tt) (h (inside s (Block 0)) f))

-- frames
pub clause_form-standing : (w : Program) (s : Scope) (g p : ℕ) (class : Class) (x : Option ℕ) (body others : Expansion) → Suits w s → AreStanding w Each body
    → AreStanding w Clauses others → AreStanding w Clauses (in_front (Rows.clause_form s g p class x body) others)
clause_form-standing w s g p class None body others f h l = (tt, (h, l))
clause_form-standing w s g p class (Some x) body others f h l = (tt, (by (has s.specials x) (f.0 x), l))
  where
    by : (t : Bool) → (t ≡ true → IsOneOf x w.specials)
        → AreStanding w Each (if t then only (form k.Let p (both (Rows.local g p) (form (k.BindSpecial x 0) p body))) else body)
    by true named =
        let bound : AreStanding w (ValuesSeat 1) (only (form (k.BindSpecial x 0) p body)) = (named refl, (body-standing w body h, tt)) in
        (tt, (value-standing w 0 (Rows.local g p) (only (form (k.BindSpecial x 0) p body)) (tt, tt) bound, tt))
    by false named = h

ignore-standing : (w : Program) (s : Scope) (p : ℕ) (parts : Parts) → AreStanding w Each (parts.forms s) → IsStanding w (Rows.ignore_form s p parts)
ignore-standing w s p parts h =
    let clause : Single = form (k.Clause Error) p (only (nil_form p)) in
    (tt, guarded-standing w (progn_form p (parts.forms s)) (only clause) (tt, h) (tt, (only-standing w (nil_form p) (tt, tt), tt)))

-- locks
release-standing : (w : Program) (g h p : ℕ) → IsStanding w (Rows.release_form g h p)
release-standing w g h p = (tt, (tt, (tt, (tt, (((tt, ((tt, (tt, (tt, (tt, tt)))), tt))), (tt, (tt, tt)))))))

local-standing : (w : Program) (n p : ℕ) (body : Expansion) → AreStanding w Each body → IsStanding w (Rows.local_form n p body)
local-standing w n p body h = (tt, only-standing w (form k.WithInterrupts p body) (tt, h))

locked-standing : (w : Program) (g h region p : ℕ) (mutex test : Single) (body : Expansion) → IsStanding w mutex → IsStanding w test → AreStanding w Each body
    → IsStanding w (Rows.locked g h region p mutex test body)
locked-standing w g h region p mutex test body m t inner =
    let locals : Single = Rows.local_form region p body in
    let protected : Single = Rows.if_form p test (progn_form p (only locals)) (nil_form p) in
    let guarded : Single = form (k.WithoutInterrupts region) p (only (form k.UnwindProtect p (both protected (Rows.release_form g h p)))) in
    let safe : IsStanding w protected =
    if_form-standing w p test (progn_form p (only locals)) (nil_form p) t (tt, only-standing w locals (local-standing w region p body inner)) (tt, tt) in
    let all : IsStanding w guarded = (
      tt,
      only-standing w (form k.UnwindProtect p (both protected (Rows.release_form g h p)))
          (tt, both-standing w protected (Rows.release_form g h p) safe (release-standing w g h p)),
    ) in
    let last : Single = form (k.BindLocal g 1) p (only (form (k.BindLocal h 0) p (only guarded))) in
    let bound : AreStanding w (ValuesSeat 2) (only last) = (tt, ((tt, (body-standing w (only guarded) (only-standing w guarded all), tt)), tt)) in
    (tt, value-standing w 0 mutex (both (nil_form p) last) m (value-standing w 1 (nil_form p) (only last) (tt, tt) bound))

grabbing-standing : (w : Program) (g h region p : ℕ) (waitp timeout : Bool) (operands : Expansion) → AreStanding w Each operands
    → IsStanding w (Rows.grabbing g h region p waitp timeout operands)
grabbing-standing w g h region p waitp timeout operands o =
    let grab : Single = form (k.Serve (service.GrabMutex waitp timeout)) p (in_front (Rows.local g p) operands) in (
      tt,
      only-standing w (form (k.AllowWithInterrupts region) p (only grab))
          (tt, only-standing w grab (tt, front-standing w (Rows.local g p) operands (tt, tt) o)),
    )

mutex-standing : (w : Program) (s : Scope) (p : ℕ) (waitp timeout : Bool) (xs : List ℕ) (t : Bool) (parts : Parts) → Suits w s → ArePartsStanding w xs t parts
    → IsStanding w (Rows.mutex_form s p waitp timeout parts)
mutex-standing w s p waitp timeout xs t parts f h =
    let operands : Expansion = parts.within (Rows.in_lock s) (Values 1) in
    let mutex : Expansion = parts.within s (From 0) in
    locked-standing w s.depth (deeper s).depth (deeper (deeper s)).depth p (first p mutex)
    (Rows.grabbing s.depth (deeper s).depth (deeper (deeper s)).depth p waitp timeout operands) (parts.body (Rows.in_lock s) 1)
    (first-standing w p mutex (h.within (From 0) s f))
    (grabbing-standing w s.depth (deeper s).depth (deeper (deeper s)).depth p waitp timeout operands (h.within (Values 1) (Rows.in_lock s) f))
    (h.body 1 (Rows.in_lock s) f)

lock-standing : (w : Program) (s : Scope) (p : ℕ) (xs : List ℕ) (t : Bool) (parts : Parts) → Suits w s → ArePartsStanding w xs t parts
    → IsStanding w (Rows.lock_form s p parts)
lock-standing w s p xs t parts f h =
    let mutex : Expansion = parts.within s (From 0) in
    let held : Single = Rows.held_form s.depth p in
    let grab : Single = Rows.grabbing s.depth (deeper s).depth (deeper (deeper s)).depth p false false NoTrees in
    locked-standing w s.depth (deeper s).depth (deeper (deeper s)).depth p (first p mutex) (Rows.either (Rows.in_lock s).depth p held grab)
    (parts.body (Rows.in_lock s) 1)
    (first-standing w p mutex (h.within (From 0) s f))
    (either-standing w (Rows.in_lock s).depth p held grab (tt, only-standing w (Rows.local s.depth p) (tt, tt))
    (grabbing-standing w s.depth (deeper s).depth (deeper (deeper s)).depth p false false NoTrees tt))
    (h.body 1 (Rows.in_lock s) f)

-- timers and threads
timer-standing : (w : Program) (p : ℕ) → IsStanding w (Rows.timer_form p)
timer-standing w p = (tt, (tt, ((tt, (tt, tt)), tt)))

timeout-standing : (w : Program) (s : Scope) (p : ℕ) (parts : Parts) → Suits w s → AreRead w parts.forms → IsStanding w (Rows.timeout_form s p parts)
timeout-standing w s p parts f h =
    let g : ℕ = s.depth in
    let fs : Expansion = parts.forms (deeper s) in
    let forms : AreStanding w Each fs = h (deeper s) f in
    let seconds : Single = first p fs in
    let schedule : Single = form (k.Serve (service.ScheduleTimer false false)) p (both (Rows.local g p) seconds) in
    let unschedule : Single = form (k.Serve service.UnscheduleTimer) p (only (Rows.local g p)) in
    let body : Single = progn_form p (others fs) in
    let cleanup : Single = form k.UnwindProtect p (both body unschedule) in
    hidden-standing w g p (Rows.timer_form p) (both schedule cleanup) (timer-standing w p)
    (both-standing w schedule cleanup (tt, both-standing w (Rows.local g p) seconds (tt, tt) (first-standing w p fs forms))
    (tt, both-standing w body unschedule (tt, others-standing w fs forms) (tt, only-standing w (Rows.local g p) (tt, tt))))

terminate-standing : (w : Program) (s : Scope) (p : ℕ) (parts : Parts) → AreStanding w Each (parts.forms s) → IsStanding w (Rows.terminate_form s p parts)
terminate-standing w s p parts h =
    (tt, front-standing w (first p (parts.forms s)) (only (form (k.Function AbortThread) p NoTrees)) (first-standing w p (parts.forms s) h) (tt, (tt, tt)))

-- functions
specials-standing : (w : Program) (s : Scope) (p i : ℕ) (xs : List ℕ) (body : Expansion) → Suits w s → AreStanding w Each body
    → AreStanding w Each (Rows.specials_bound s p i xs body)
specials-standing w s p i [] body f h = h
specials-standing w s p i (x ∷ xs) body f h = by (has s.specials x) (f.0 x) (specials-standing w s p (suc i) xs body f h)
  where
    by : (t : Bool) → (t ≡ true → IsOneOf x w.specials) → AreStanding w Each (Rows.specials_bound s p (suc i) xs body)
        → AreStanding w Each (if t then only (form k.Let p (both (Rows.local i p) (form (k.BindSpecial x 0) p (Rows.specials_bound s p (suc i) xs body))))
        else Rows.specials_bound s p (suc i) xs body)
    by true named rest =
        let inner : Expansion = Rows.specials_bound s p (suc i) xs body in
        let bound : AreStanding w (ValuesSeat 1) (only (form (k.BindSpecial x 0) p inner)) = (named refl, (body-standing w inner rest, tt)) in
        (tt, (value-standing w 0 (Rows.local i p) (only (form (k.BindSpecial x 0) p inner)) (tt, tt) bound, tt))
    by false named rest = rest

pub lambda-standing : (w : Program) (s : Scope) (p : ℕ) (xs : List ℕ) (body : Expansion) → Suits w s → AreStanding w Each body
    → IsStanding w (Rows.lambda_form s p xs body)
lambda-standing w s p xs body f h = (tt, specials-standing w s p 0 xs body f h)

blocked-standing : (w : Program) (n p : ℕ) (body : Expansion) → AreStanding w Each body → AreStanding w Each (blocked n p body)
blocked-standing w n p body h = by (returns_to n body)
  where
    by : (t : Bool) → AreStanding w Each (if t then only (form (k.Block n) p body) else lowered (n ∷ []) body)
    by true = (tt, (h, tt))
    by false = lowered-standing w Each (n ∷ []) body h

pub defun-standing : (w : Program) (s : Scope) (p f : ℕ) (xs : List ℕ) (body : Expansion) → Suits w s → AreStanding w Each body
    → IsStanding w (Rows.defun_form s p f xs body)
defun-standing w s p f xs body fits h =
    (tt, specials-standing w s p 0 xs (blocked (length xs) p body) fits (blocked-standing w (length xs) p body h))

-- a list of this shape
pub list_form-standing : (w : Program) (s : Scope) (p : ℕ) (a : Shape) (xs : List ℕ) (t : Bool) (parts : Parts) → Suits w s → IsShapeStanding w t a
    → ArePartsStanding w xs t parts → IsStanding w (Rows.list_form s p a xs parts)
list_form-standing w s p (shape.Wrong refusal q) xs t parts f u h = (tt, tt)
list_form-standing w s p (shape.Leaf kind) xs t parts f u h = u
list_form-standing w s p (shape.Over kind roles) xs t parts f u h = over-standing w kind p (parts.arguments roles) u.0 u.1 (h.arguments roles)
list_form-standing w s p (shape.OverNil kind roles) xs t parts f u h =
    over-standing w kind p (append (parts.arguments roles) (only (nil_form p))) u.0 u.1
    (append-standing w (parts.arguments roles) (only (nil_form p)) (h.arguments roles) (tt, (tt, tt)))
list_form-standing w s p shape.When xs t parts f u h = when-standing w s p parts (h.forms s f)
list_form-standing w s p shape.Unless xs t parts f u h = unless-standing w s p parts (h.forms s f)
list_form-standing w s p shape.Cond xs t parts f u h = h.conds
list_form-standing w s p shape.And xs t parts f u h = and-standing w p (parts.forms s) (h.forms s f)
list_form-standing w s p shape.Or xs t parts f u h = h.ors
list_form-standing w s p shape.Prog1 xs t parts f u h = prog1-standing w s p parts f (h.forms s f) (h.body 1)
list_form-standing w s p shape.Setq xs t parts f u h = as_one-standing w p parts.pairs h.pairs
list_form-standing w s p (shape.Change target g) xs t parts f u h = change_form-standing w s p target g parts u (h.forms s f)
list_form-standing w s p (shape.Fold g) xs t parts f u h = fold_form-standing w p g (parts.forms s) (h.forms s f)
list_form-standing w s p (shape.Twice g) xs t parts f u h = twice-standing w s p g parts (h.forms s f)
list_form-standing w s p shape.Let xs t parts f u h = let-standing w s p xs t parts f h
list_form-standing w s p shape.LetStar xs t parts f u h = let_star-standing w s p xs t parts f h
list_form-standing w s p (shape.Body kind) xs t parts f u h = over-standing w kind p (parts.body s 0) u.0 u.1 (h.body 0 s f)
list_form-standing w s p (shape.LocalInterrupts n) xs t parts f u h = local-standing w n p (parts.body s 0) (h.body 0 s f)
list_form-standing w s p shape.Without xs t parts f u h = (tt, h.body 0 (inside s Region) f)
list_form-standing w s p (shape.Block b) xs t parts f u h = (tt, h.body 1 (inside s (Block b)) f)
list_form-standing w s p shape.Catch xs t parts f u h =
    (tt, front-standing w (first p (parts.forms s)) (parts.body s 1) (first-standing w p (parts.forms s) (h.forms s f)) (h.body 1 s f))
list_form-standing w s p shape.Loop xs t parts f u h = loop-standing w s p parts f (h.body 0)
list_form-standing w s p (shape.Dotimes x) xs t parts f u h = dotimes-standing w s p x xs t parts f h
list_form-standing w s p shape.IgnoreErrors xs t parts f u h = ignore-standing w s p parts (h.forms s f)
list_form-standing w s p shape.Handler xs t parts f u h =
    (tt, guarded-standing w (first p (parts.forms s)) parts.clauses (first-standing w p (parts.forms s) (h.forms s f)) (h.clauses u))
list_form-standing w s p (shape.Deadline seconds replaces) xs t parts f u h =
    (tt, append-standing w (parts.within s (Values 0)) (parts.body s 1) (h.within (Values 0) s f) (h.body 1 s f))
list_form-standing w s p (shape.Mutex waitp timeout) xs t parts f u h = mutex-standing w s p waitp timeout xs t parts f h
list_form-standing w s p shape.RecursiveLock xs t parts f u h = lock-standing w s p xs t parts f h
list_form-standing w s p shape.Timeout xs t parts f u h = timeout-standing w s p parts f h.forms
list_form-standing w s p shape.Terminate xs t parts f u h = terminate-standing w s p parts (h.forms s f)
list_form-standing w s p (shape.Defun g) xs t parts f u h = (tt, tt)
