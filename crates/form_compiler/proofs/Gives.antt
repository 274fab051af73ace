-- Each well-made form gives one value, or what is wanted of it where it stands.
use Rattle.std.proofs.Common.{◌≡◌, ℕ, zero, suc, pred, Bool, true, false, ◌==◌, if◌then◌else◌, length, eqb-true, arith, refl, ap, ◌∙◌}
use Rattle.lisp_base.specs.Forest.{NoTrees, Tree}
use Rattle.lisp_program.specs.Forms.{Forms}
use Rattle.lisp_program.specs.Program.{Program}
use Rattle.lisp_program.specs.declared.form.CoreKind.{CoreKind}
use Rattle.lisp_program.specs.declared.form.CoreKind.TheVariants as k
use Rattle.lisp_program.specs.declared.function.Service.{Service}
use Rattle.lisp_program.specs.declared.function.Service.TheVariants as service
use Rattle.lisp_program.specs.WellMade.{AreMade, Seat, Each, Values, Bound, Guarded, Clauses, Empty, Role, Gives, Binds, Handles, Stand, Standing, Misplaced, Stands, role_of, standing}
use Rattle.form_points.specs.Operands.{entered, first_of, operands, operands_of, others_of, printed_of, served_of, written}
use Rattle.form_points.specs.Points.{Points, Done, Do, Ask, Choose, all_of, body_of, joined}
use Rattle.form_points.specs.Table.{points_of, service_of, table}
use Rattle.form_points.specs.declared.act.Act.TheVariants as act
use Rattle.form_points.specs.declared.act.Opening.{Opening}
use Rattle.form_points.specs.declared.act.Opening.TheVariants as opening
use Rattle.form_points.specs.declared.act.Question.TheVariants as question
use Rattle.lisp_code.specs.Held.{Holding, one_more, outside, rise, without}
use Rattle.form_compiler.specs.inside.Gives.{AllButOne, AreClauses, AreGiving, GivesAs, GivesFor, GivesOne, IsClause, Ones, seat_under, with_more}
use Rattle.form_compiler.proofs.Joined.{fewer-pred, fewer-suc, rise-joined, without-more}

-- seats: what stands where a seat and a role are known
each-one : (role : Role) (f : Points) (b : Forms) → GivesAs role f → Stand (standing Each role) (λ s. Unit {0}) (λ s. AreGiving s b) → GivesOne f × AreGiving Each b
each-one (Gives under) f b g s = (g, s.1)
each-one (Binds above) f b g s = absurd s
each-one Handles f b g s = absurd s

pub ones : (u : Forms) → AreGiving Each u → Ones u
ones NoTrees g = tt
ones (Tree kind p u b) g =
    let both : GivesOne (table kind p (points_of u)) × AreGiving Each b = each-one (role_of kind) (table kind p (points_of u)) b g.0 g.1 in
    (both.0, ones b both.1)

clause-one : (role : Role) (f : Points) (b : Forms) → GivesAs role f → Stand (standing Clauses role) (λ s. Unit {0}) (λ s. AreGiving s b) → IsClause f × AreGiving Clauses b
clause-one (Gives under) f b g s = absurd s
clause-one (Binds above) f b g s = absurd s
clause-one Handles f b g s = (g, s.1)

pub clauses : (u : Forms) → AreGiving Clauses u → AreClauses u
clauses NoTrees g = tt
clauses (Tree kind p u b) g =
    let both : IsClause (table kind p (points_of u)) × AreGiving Clauses b = clause-one (role_of kind) (table kind p (points_of u)) b g.0 g.1 in
    (both.0, clauses b both.1)

guarded-one : (role : Role) (f : Points) (b : Forms) → GivesAs role f → Stand (standing Guarded role) (λ s. Unit {0}) (λ s. AreGiving s b) → GivesOne f × AreGiving Clauses b
guarded-one (Gives under) f b g s = (g, s.1)
guarded-one (Binds above) f b g s = absurd s
guarded-one Handles f b g s = absurd s

-- the form whose conditions are handled, and the clauses
pub guarded : (kind : CoreKind) (p : ℕ) (u b : Forms) → AreGiving Guarded (Tree kind p u b) → GivesOne (table kind p (points_of u)) × AreClauses b
guarded kind p u b g =
    let both : GivesOne (table kind p (points_of u)) × AreGiving Clauses b = guarded-one (role_of kind) (table kind p (points_of u)) b g.0 g.1 in
    (both.0, clauses b both.1)

-- where a test decides
pub tested : (t : Bool) (s : Standing) (under beside : Seat → Type 0) → Stand (if t then s else Misplaced) under beside → (t ≡ true) × Stand s under beside
tested true s under beside h = (refl, h)
tested false s under beside h = absurd h

pub none-stands : (role : Role) (under beside : Seat → Type 0) → Stand (standing Empty role) under beside → ⊥
none-stands (Gives u) under beside h = h
none-stands (Binds above) under beside h = h
none-stands Handles under beside h = h

pub empty : (u : Forms) → AreGiving Empty u → u ≡ NoTrees
empty NoTrees g = refl
empty (Tree kind p u b) g = absurd (none-stands (role_of kind) (λ s. Unit {0}) (λ s. AreGiving s b) g.1)

pub suc-zero : (n : ℕ) → suc n ≡ 0 → ⊥
suc-zero n e = omega (arith, e)

-- bodies, operands and arguments
pub rise-body : (p : ℕ) (u : Forms) → Ones u → GivesOne (body_of p (points_of u))
rise-body p NoTrees o h = refl
rise-body p (Tree k q u NoTrees) o h = o.0 h
rise-body p (Tree k q u (Tree k' q' u' more)) o h =
    rw (rise-joined h (table k q (points_of u)) (Do act.Discard p (body_of p (points_of (Tree k' q' u' more)))), o.0 h) (rise-body p (Tree k' q' u' more) o.1 h)

pub rise-operands : (n p : ℕ) (u : Forms) (h : Holding) → Ones u → rise h (operands n p (points_of u)) ≡ with_more n h
rise-operands zero p u h o = refl
rise-operands (suc n) p NoTrees h o = rise-operands n p NoTrees (one_more h) o
rise-operands (suc n) p (Tree k q u more) h o =
    rw (rise-joined h (table k q (points_of u)) (operands n p (points_of more)), o.0 h) (rise-operands n p more (one_more h) o.1)

pub rise-all : (u : Forms) (h : Holding) → Ones u → rise h (all_of (points_of u)) ≡ with_more (length (points_of u)) h
rise-all NoTrees h o = refl
rise-all (Tree k q u more) h o =
    rw (rise-joined h (table k q (points_of u)) (all_of (points_of more)), o.0 h) (rise-all more (one_more h) o.1)

pub rise-entered : (p : ℕ) (o : Opening) (n : ℕ) (u : Forms) (h : Holding) → Ones u → rise h (entered p o n (points_of u)) ≡ one_more (outside o (with_more n h))
rise-entered p o zero u h ones = refl
rise-entered p o (suc n) NoTrees h ones = rise-entered p o n NoTrees (one_more h) ones
rise-entered p o (suc n) (Tree k q u more) h ones =
    rw (rise-joined h (table k q (points_of u)) (entered p o n (points_of more)), ones.0 h) (rise-entered p o n more (one_more h) ones.1)

-- the values of a `let`, and then what binds the first variable
values-step : (role : Role) (n : ℕ) (f : Points) (b : Forms) → GivesAs role f → Stand (standing (Values n) role) (λ s. Unit {0}) (λ s. AreGiving s b)
    → (AreGiving (Values (suc n)) b → GivesFor (suc n) (all_of (points_of b))) → GivesFor n (joined f (all_of (points_of b)))
values-step (Gives under) n f b g s later h =
    rw (rise-joined h f (all_of (points_of b)), g h) (later s.1 (one_more h) ∙ ap (λ m. one_more (record { opened = h.opened; height = m })) (fewer-suc n h.height))
values-step (Binds above) n f b g s later h =
    let both = tested (n == suc above) (Stands (Bound above) Empty) (λ s. Unit {0}) (λ s. AreGiving s b) s in
    let last : b ≡ NoTrees = empty b both.1.1 in
    let same : n ≡ suc above = eqb-true n (suc above) both.0 in
    rw (last, same, rise-joined h f Done) (g h)
values-step Handles n f b g s later h = absurd s

pub rise-values : (n : ℕ) (u : Forms) → AreGiving (Values n) u → GivesFor n (all_of (points_of u))
rise-values n NoTrees g h = absurd g
rise-values n (Tree kind p u b) g h = values-step (role_of kind) n (table kind p (points_of u)) b g.0 g.1 (λ later. rise-values (suc n) b later) h

-- what binds the next variable, or the body
bound-step : (role : Role) (n p : ℕ) (f : Points) (b : Forms) → GivesAs role f → Stand (standing (Bound (suc n)) role) (λ s. Unit {0}) (λ s. AreGiving s b)
    → (b ≡ NoTrees) × GivesFor (suc n) f
bound-step (Gives under) n p f b g s = absurd s
bound-step (Binds above) n p f b g s =
    let both = tested (n == above) (Stands (Bound above) Empty) (λ s. Unit {0}) (λ s. AreGiving s b) s in
    (empty b both.1.1, λ h. rw (eqb-true n above both.0) (g h))
bound-step Handles n p f b g s = absurd s

last-step : (role : Role) (f : Points) (b : Forms) → GivesAs role f → Stand (standing (Bound zero) role) (λ s. Unit {0}) (λ s. AreGiving s b) → GivesOne f × AreGiving Each b
last-step (Gives under) f b g s = (g, s.1)
last-step (Binds above) f b g s = absurd s
last-step Handles f b g s = absurd s

pub bound-ones : (u : Forms) → AreGiving (Bound zero) u → Ones u
bound-ones NoTrees g = tt
bound-ones (Tree kind p u b) g =
    let both : GivesOne (table kind p (points_of u)) × AreGiving Each b = last-step (role_of kind) (table kind p (points_of u)) b g.0 g.1 in
    (both.0, ones b both.1)

pub rise-bound : (n p : ℕ) (u : Forms) → AreGiving (Bound n) u → GivesFor n (body_of p (points_of u))
rise-bound zero p u g h = rise-body p u (bound-ones u g) h
rise-bound (suc n) p NoTrees g h = absurd (suc-zero n g)
rise-bound (suc n) p (Tree kind q u b) g h =
    let both : (b ≡ NoTrees) × GivesFor (suc n) (table kind q (points_of u)) = bound-step (role_of kind) n p (table kind q (points_of u)) b g.0 g.1 in
    rw both.0 (both.1 h)

-- each but the last
pub ones-but_one : (u : Forms) → Ones u → AllButOne u
ones-but_one NoTrees o = tt
ones-but_one (Tree k p u NoTrees) o = tt
ones-but_one (Tree k p u (Tree k' p' u' more)) o = (o.0, ones-but_one (Tree k' p' u' more) o.1)

more-step : (role : Role) (n : ℕ) (f : Points) (k' : CoreKind) (p' : ℕ) (u' more : Forms) → GivesAs role f
    → Stand (standing (Values n) role) (λ s. Unit {0}) (λ s. AreGiving s (Tree k' p' u' more))
    → GivesOne f × AreGiving (Values (suc n)) (Tree k' p' u' more)
more-step (Gives under) n f k' p' u' more g s = (g, s.1)
more-step (Binds above) n f k' p' u' more g s =
    let both = tested (n == suc above) (Stands (Bound above) Empty) (λ s. Unit {0}) (λ s. AreGiving s (Tree k' p' u' more)) s in
    absurd (none-stands (role_of k') (λ s. Unit {0}) (λ s. AreGiving s more) both.1.1.1)
more-step Handles n f k' p' u' more g s = absurd s

pub values-but_one : (n : ℕ) (u : Forms) → AreGiving (Values n) u → AllButOne u
values-but_one n NoTrees g = tt
values-but_one n (Tree k p u NoTrees) g = tt
values-but_one n (Tree k p u (Tree k' p' u' more)) g =
    let both : GivesOne (table k p (points_of u)) × AreGiving (Values (suc n)) (Tree k' p' u' more) =
    more-step (role_of k) n (table k p (points_of u)) k' p' u' more g.0 g.1 in
    (both.0, values-but_one (suc n) (Tree k' p' u' more) both.1)

pub bound-but_one : (n : ℕ) (u : Forms) → AreGiving (Bound n) u → AllButOne u
bound-but_one zero u g = ones-but_one u (bound-ones u g)
bound-but_one (suc n) NoTrees g = tt
bound-but_one (suc n) (Tree kind q u b) g =
    let both : (b ≡ NoTrees) × GivesFor (suc n) (table kind q (points_of u)) = bound-step (role_of kind) n q (table kind q (points_of u)) b g.0 g.1 in
    rw both.0 tt

-- operands, and what takes them
pub taken : (n : ℕ) (h : Holding) (f rest : Points) → rise h f ≡ with_more n h → rise (with_more n h) rest ≡ one_more (without n (with_more n h))
    → rise h (joined f rest) ≡ one_more h
taken n h f rest e d = rise-joined h f rest ∙ (ap (λ (g : Holding). rise g rest) e ∙ (d ∙ ap one_more (without-more n h)))

-- n operands, and then what takes them
with_operands : (n p : ℕ) (u : Forms) (h : Holding) (rest : Points) → Ones u → rise (with_more n h) rest ≡ one_more (without n (with_more n h))
    → rise h (joined (operands n p (points_of u)) rest) ≡ one_more h
with_operands n p u h rest o d = taken n h (operands n p (points_of u)) rest (rise-operands n p u h o) d

-- the operations of a service give one value in place of its operands
pub service-gives : (s : Service) (p : ℕ) → GivesFor (served_of s) (service_of s p)
service-gives (service.JoinThread default true) p h = refl
service-gives (service.JoinThread default false) p h = refl
service-gives (service.GrabMutex waitp true) p h = refl
service-gives (service.GrabMutex true false) p h = refl
service-gives (service.GrabMutex false false) p h = refl
service-gives (service.ConditionWait true) p h = refl
service-gives (service.ConditionWait false) p h = refl
service-gives service.Sleep p h = refl
service-gives (service.ScheduleTimer repeat catch_up) p h = refl
service-gives (service.MakeThread name arguments) p h = refl
service-gives service.InterruptThread p h = refl
service-gives service.ThreadAlive p h = refl
service-gives (service.MakeMutex name) p h = refl
service-gives (service.MakeWaitqueue name) p h = refl
service-gives (service.ReleaseMutex rule) p h = refl
service-gives service.MutexOwner p h = refl
service-gives service.HoldingMutex p h = refl
service-gives (service.ConditionNotify count) p h = refl
service-gives service.ConditionBroadcast p h = refl
service-gives (service.MakeTimer name thread) p h = refl
service-gives service.UnscheduleTimer p h = refl

-- the first form, or the constant NIL
pub first-one : (p : ℕ) (u : Forms) → Ones u → GivesOne (first_of p (points_of u))
first-one p NoTrees o h = refl
first-one p (Tree k q u more) o h = o.0 h

choice-gives : (p : ℕ) (u : Forms) (x y : Points) → Ones u → GivesOne (joined (first_of p (points_of u)) (Choose p x y Done))
choice-gives p u x y o h = rw (rise-joined h (first_of p (points_of u)) (Choose p x y Done), first-one p u o h) refl

-- a body round which a variable is open
within-gives : (n p : ℕ) (h : Holding) (body : Points) → GivesFor n body
    → rise (record { opened = suc h.opened; height = pred h.height }) (joined body (Do act.ForgetLocal p Done)) ≡ one_more (without (suc n) h)
within-gives n p h body g =
    rise-joined (record { opened = suc h.opened; height = pred h.height }) body (Do act.ForgetLocal p Done)
    ∙ (ap (λ (g : Holding). rise g (Do act.ForgetLocal p Done)) (g (record { opened = suc h.opened; height = pred h.height }))
    ∙ ap (λ m. one_more (record { opened = h.opened; height = m })) (fewer-pred n h.height))

-- each kind of form
pub kind-gives : (kind : CoreKind) (p : ℕ) (u : Forms) → AreGiving (seat_under (role_of kind)) u → GivesAs (role_of kind) (table kind p (points_of u))
kind-gives (k.Constant v) p u g = λ h. refl
kind-gives k.CurrentThread p u g = λ h. refl
kind-gives (k.Function name) p u g = λ h. refl
kind-gives (k.Local x) p u g = λ h. refl
kind-gives (k.Special s) p u g = λ h. refl
kind-gives (k.SetLocal x) p u g = λ h. with_operands 1 p u h (Do (act.WriteLocal x) p Done) (ones u g) refl
kind-gives (k.SetSpecial s) p u g = λ h. with_operands 1 p u h (Ask (question.Write s) p Done) (ones u g) refl
kind-gives (k.Defvar s) p u g = λ h. refl
kind-gives (k.Defparameter s) p u g = λ h. with_operands 1 p u h (Ask (question.Define s) p Done) (ones u g) refl
kind-gives (k.Defun f) p u g = λ h. refl
kind-gives (k.CompareAndSwap s) p u g = λ h. with_operands 2 p u h (Ask (question.CompareAndSwap s) p Done) (ones u g) refl
kind-gives k.Progn p u g = λ h. rise-body p u (ones u g) h
kind-gives k.If p u g = λ h. choice-gives p u (first_of p (others_of (points_of u))) (first_of p (others_of (others_of (points_of u)))) (ones u g) h
kind-gives k.While p u g = λ h. refl
kind-gives k.Let p u g = λ h. rise-values 0 u g h
kind-gives (k.BindLocal x above) p u g = λ h. within-gives above p h (body_of p (points_of u)) (rise-bound above p u g)
kind-gives (k.BindSpecial s above) p u g = λ h. refl
kind-gives (k.Call f) p u g = λ h.
    taken (length (points_of u)) h (all_of (points_of u)) (Do (act.Call f (length (points_of u))) p Done) (rise-all u h (ones u g)) refl
kind-gives (k.Apply f) p u g = λ h. with_operands (operands_of f) p u h (Do (act.Apply f) p Done) (ones u g) refl
kind-gives (k.Print printing) p u g = λ h. with_operands (printed_of printing) p u h (Ask (question.Print printing) p Done) (ones u g) refl
kind-gives (k.Serve s) p u g = λ h. with_operands (served_of s) p u h (service_of s p) (ones u g) (service-gives s p (with_more (served_of s) h))
kind-gives (k.Block b) p u g = λ h. refl
kind-gives (k.ReturnFrom b) p u g = λ h. with_operands 1 p u h (Do (act.ReturnFrom b) p Done) (ones u g) refl
kind-gives k.Catch p u g = λ h. rise-entered p opening.Catch 1 u h (ones u g)
kind-gives k.Throw p u g = λ h. with_operands 2 p u h (Do act.Throw p Done) (ones u g) refl
kind-gives k.UnwindProtect p u g = λ h. refl
kind-gives (k.WithoutInterrupts r) p u g = λ h. refl
kind-gives (k.AllowWithInterrupts r) p u g = λ h. refl
kind-gives k.WithInterrupts p u g = λ h. refl
kind-gives k.HandlerCase p u g = λ h. refl
kind-gives (k.Clause class) p u g = λ h. rise-body p u (ones u g) h
kind-gives (k.ClauseWith class x) p u g = λ h. within-gives 0 p (one_more h) (body_of p (points_of u)) (rise-body p u (ones u g))
kind-gives (k.Signal condition) p u g = λ h. refl
kind-gives (k.WithDeadline seconds replaces) p u g = λ h.
    rise-entered p (opening.Deadline seconds replaces) (written seconds replaces) u h (ones u g)
    ∙ ap one_more (without-more (written seconds replaces) h)
kind-gives k.AbortThread p u g = λ h. refl
kind-gives k.ReturnFromThread p u g = λ h. with_operands 1 p u h (Do act.ReturnFromThread p Done) (ones u g) refl

-- the forms under a form stand in the seat of its role
pub under-made : (program : Program) (seat : Seat) (role : Role) (u : Forms) (beside : Seat → Type 0)
    → Stand (standing seat role) (λ s. AreMade program s u) beside → AreMade program (seat_under role) u
under-made program Each (Gives under) u beside s = s.0
under-made program Each (Binds above) u beside s = absurd s
under-made program Each Handles u beside s = absurd s
under-made program (Values n) (Gives under) u beside s = s.0
under-made program (Values n) (Binds above) u beside s =
    (tested (n == suc above) (Stands (Bound above) Empty) (λ s. AreMade program s u) beside s).1.0
under-made program (Values n) Handles u beside s = absurd s
under-made program (Bound zero) (Gives under) u beside s = s.0
under-made program (Bound zero) (Binds above) u beside s = absurd s
under-made program (Bound zero) Handles u beside s = absurd s
under-made program (Bound (suc n)) (Gives under) u beside s = absurd s
under-made program (Bound (suc n)) (Binds above) u beside s =
    (tested (n == above) (Stands (Bound above) Empty) (λ s. AreMade program s u) beside s).1.0
under-made program (Bound (suc n)) Handles u beside s = absurd s
under-made program Guarded (Gives under) u beside s = s.0
under-made program Guarded (Binds above) u beside s = absurd s
under-made program Guarded Handles u beside s = absurd s
under-made program Clauses (Gives under) u beside s = absurd s
under-made program Clauses (Binds above) u beside s = absurd s
under-made program Clauses Handles u beside s = s.0
under-made program Empty (Gives under) u beside s = absurd s
under-made program Empty (Binds above) u beside s = absurd s
under-made program Empty Handles u beside s = absurd s

-- what holds of the forms beside a form, wherever they stand
pub beside-holds : (standing : Standing) (under under' beside beside' : Seat → Type 0) → ((s : Seat) → under s → under' s) → ((s : Seat) → beside s → beside' s)
    → Stand standing under beside → Stand standing under' beside'
beside-holds Misplaced under under' beside beside' f g s = absurd s
beside-holds (Stands u b) under under' beside beside' f g s = (f u s.0, g b s.1)

pub made-gives : (program : Program) (seat : Seat) (u : Forms) → AreMade program seat u → AreGiving seat u
made-gives program seat NoTrees m = m
made-gives program seat (Tree kind p u b) m = (
  kind-gives kind p u (made-gives program (seat_under (role_of kind)) u (under-made program seat (role_of kind) u (λ s. AreMade program s b) m.1)),
  beside-holds (standing seat (role_of kind)) (λ s. AreMade program s u) (λ s. Unit {0}) (λ s. AreMade program s b) (λ s. AreGiving s b)
      (λ s h. tt) (λ s h. made-gives program s b h) m.1,
)
