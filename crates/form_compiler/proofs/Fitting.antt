-- The points of well-made forms fit.
use Rattle.std.proofs.Common.{◌≡◌, ◌≤◌, ℕ, zero, suc, pred, ◌+◌, List, true, false, ◌==◌, length, eqb-true, arith, refl, sym, ap, subst, ◌∙◌}
use Rattle.lisp_base.specs.Forest.{NoTrees, Tree}
use Rattle.lisp_base.specs.Value.{nil}
use Rattle.lisp_program.specs.Forms.{Forms}
use Rattle.lisp_program.specs.Program.{Program}
use Rattle.lisp_program.specs.declared.form.CoreKind.{CoreKind}
use Rattle.lisp_program.specs.declared.form.CoreKind.TheVariants as k
use Rattle.lisp_program.specs.declared.function.Service.{Service}
use Rattle.lisp_program.specs.declared.function.Service.TheVariants as service
use Rattle.lisp_program.specs.WellMade.{AreMade, IsNamed, IsOneOf, Seat, Each, Values, Bound, Guarded, Clauses, Empty, Role, Gives, Binds, Handles, Stand, Stands, role_of, standing}
use Rattle.form_points.specs.Operands.{entered, first_of, operands, operands_of, opening_takes, others_of, printed_of, served_of, written}
use Rattle.form_points.specs.Points.{Points, Done, Do, Ask, Test, Choose, Loop, Turn, Enter, Protect, Handle, When, all_of, body_of, joined}
use Rattle.form_points.specs.Table.{one, points_of, service_of, table, timed}
use Rattle.form_points.specs.declared.act.Act.TheVariants as act
use Rattle.form_points.specs.declared.act.Opening.{Opening}
use Rattle.form_points.specs.declared.act.Opening.TheVariants as opening
use Rattle.form_points.specs.declared.act.Question.TheVariants as question
use Rattle.form_points.specs.declared.act.Step.{Step}
use Rattle.form_points.specs.declared.act.Step.TheVariants as step
use Rattle.lisp_code.specs.Held.{Holding, after_act, after_question, bound, inside, one_more, outside, rise, without}
use Rattle.form_compiler.specs.inside.Fits.{AllFit, AreFit, FitClauses, Fits, FitsAs, IsOpened, Lifts}
use Rattle.form_compiler.specs.inside.Gives.{AreGiving, GivesAs, GivesOne, Ones, seat_under, with_more}
use Rattle.form_compiler.proofs.Joined.{fewer-pred}
use Rattle.form_compiler.proofs.Reaches.{besides}
use Rattle.form_compiler.proofs.Gives.{bound-ones, empty, first-one, guarded, kind-gives, made-gives, ones, rise-all, rise-body, rise-bound, rise-operands, suc-zero, tested, under-made}

-- points after points
pub fits-joined : (ss : List ℕ) (h : Holding) (a b : Points) → Fits ss h a → Fits ss (rise h a) b → Fits ss h (joined a b)
fits-joined ss h Done b f g = g
fits-joined ss h (Do act p after) b f g = (f.0, fits-joined ss (after_act act h) after b f.1 g)
fits-joined ss h (Ask q p after) b f g = (f.0, (f.1.0, fits-joined ss (after_question q h) after b f.1.1 g))
fits-joined ss h (Test q p more after) b f g = (f.0, (f.1.0, (f.1.1.0, fits-joined ss (after_question q h) after b f.1.1.1 g)))
fits-joined ss h (Choose p x y after) b f g = (f.0, (f.1.0, (f.1.1.0, fits-joined ss (one_more (without 1 h)) after b f.1.1.1 g)))
fits-joined ss h (Loop p test body after) b f g = (f.0, (f.1.0, fits-joined ss (one_more h) after b f.1.1 g))
fits-joined ss h (Turn p test body after) b f g = absurd f
fits-joined ss h (Enter o p body after) b f g = (f.0, (f.1.0, (f.1.1.0, fits-joined ss (one_more (outside o h)) after b f.1.1.1 g)))
fits-joined ss h (Protect p body cleanup after) b f g = (f.0, (f.1.0, fits-joined ss (one_more h) after b f.1.1 g))
fits-joined ss h (Handle p body clauses after) b f g = (f.0, (f.1.0, fits-joined ss (one_more h) after b f.1.1 g))
fits-joined ss h (When class is_given chosen others) b f g = absurd f

-- clauses after clauses
clauses-joined : (ss : List ℕ) (h : Holding) (a b : Points) → FitClauses ss h a → FitClauses ss h b → FitClauses ss h (joined a b)
clauses-joined ss h Done b f g = g
clauses-joined ss h (Do act p after) b f g = absurd f
clauses-joined ss h (Ask q p after) b f g = absurd f
clauses-joined ss h (Test q p more after) b f g = absurd f
clauses-joined ss h (Choose p x y after) b f g = absurd f
clauses-joined ss h (Loop p test body after) b f g = absurd f
clauses-joined ss h (Turn p test body after) b f g = absurd f
clauses-joined ss h (Enter o p body after) b f g = absurd f
clauses-joined ss h (Protect p body cleanup after) b f g = absurd f
clauses-joined ss h (Handle p body clauses after) b f g = absurd f
clauses-joined ss h (When class is_given chosen others) b f g = (f.0, clauses-joined ss h others b f.1 g)

-- numbers of operands
none : (n : ℕ) → 0 ≤ n
none n = omega arith

some-one : (n : ℕ) → 1 ≤ suc n
some-one n = omega arith

above-pred : (n m : ℕ) → suc n ≤ m → n ≤ pred m
above-pred n zero l = omega (arith, l)
above-pred n (suc m) l = omega (arith, l)

below-suc : (n m : ℕ) → n ≤ m → suc n ≤ suc m
below-suc n m l = omega (arith, l)

added : (n m k : ℕ) → n + suc m ≤ k → suc n + m ≤ k
added n m k l = omega (arith, l)

more-holds : (n : ℕ) (h : Holding) → n + h.height ≤ (with_more n h).height
more-holds zero h = omega arith
more-holds (suc n) h = added n h.height (with_more n (one_more h)).height (more-holds n (one_more h))

at-least : (n m k : ℕ) → n + m ≤ k → n ≤ k
at-least n m k l = omega (arith, l)

-- so many operands are there after them
pub enough : (n : ℕ) (h : Holding) → n ≤ (with_more n h).height
enough n h = at-least n h.height (with_more n h).height (more-holds n h)

-- one value more
pub lifted : (h : Holding) (f : Points) → GivesOne f → Lifts h f
lifted h f g = ap (λ (m : Holding). m.height) (g h)

-- points that give one value, and then others
next-fits : (ss : List ℕ) (h : Holding) (f rest : Points) → Fits ss h f → rise h f ≡ one_more h → Fits ss (one_more h) rest → Fits ss h (joined f rest)
next-fits ss h f rest a e b = fits-joined ss h f rest a (subst (λ (m : Holding). Fits ss m rest) (sym e) b)

nil-fits : (ss : List ℕ) (p : ℕ) (h : Holding) → Fits ss h (Do (act.Push nil) p Done)
nil-fits ss p h = (none h.height, tt)

first-fits : (ss : List ℕ) (p : ℕ) (u : Forms) (h : Holding) → AllFit ss u → Fits ss h (first_of p (points_of u))
first-fits ss p NoTrees h f = nil-fits ss p h
first-fits ss p (Tree k q u more) h f = f.0 h

body-fits : (ss : List ℕ) (p : ℕ) (u : Forms) (h : Holding) → Ones u → AllFit ss u → Fits ss h (body_of p (points_of u))
body-fits ss p NoTrees h o f = nil-fits ss p h
body-fits ss p (Tree k q u NoTrees) h o f = f.0 h
body-fits ss p (Tree k q u (Tree k' q' u' more)) h o f =
    next-fits ss h (table k q (points_of u)) (Do act.Discard p (body_of p (points_of (Tree k' q' u' more)))) (f.0 h) (o.0 h)
    (some-one h.height, body-fits ss p (Tree k' q' u' more) h o.1 f.1)

operands-fit : (ss : List ℕ) (n p : ℕ) (u : Forms) (h : Holding) → Ones u → AllFit ss u → Fits ss h (operands n p (points_of u))
operands-fit ss zero p u h o f = tt
operands-fit ss (suc n) p NoTrees h o f = (none h.height, operands-fit ss n p NoTrees (one_more h) o f)
operands-fit ss (suc n) p (Tree k q u more) h o f =
    next-fits ss h (table k q (points_of u)) (operands n p (points_of more)) (f.0 h) (o.0 h) (operands-fit ss n p more (one_more h) o.1 f.1)

-- operands, and then what takes them
then-fits : (ss : List ℕ) (n p : ℕ) (u : Forms) (h : Holding) (rest : Points) → Ones u → AllFit ss u → Fits ss (with_more n h) rest
    → Fits ss h (joined (operands n p (points_of u)) rest)
then-fits ss n p u h rest o f r =
    fits-joined ss h (operands n p (points_of u)) rest (operands-fit ss n p u h o f)
    (subst (λ (m : Holding). Fits ss m rest) (sym (rise-operands n p u h o)) r)

all-fit : (ss : List ℕ) (u : Forms) (h : Holding) → Ones u → AllFit ss u → Fits ss h (all_of (points_of u))
all-fit ss NoTrees h o f = tt
all-fit ss (Tree k q u more) h o f =
    next-fits ss h (table k q (points_of u)) (all_of (points_of more)) (f.0 h) (o.0 h) (all-fit ss more (one_more h) o.1 f.1)

-- operands, and then a frame that gives its body none of them
entered-fits : (ss : List ℕ) (p : ℕ) (o : Opening) (n : ℕ) (u : Forms) (h : Holding) → Ones u → AllFit ss u
    → opening_takes o ≤ (with_more n h).height → IsOpened ss o → ((g : Holding) → (inside o g).height ≡ (outside o g).height)
    → Fits ss h (entered p o n (points_of u))
entered-fits ss p o zero u h os f t s e =
    (t, (s, ((body-fits ss p u (inside o h) os f, lifted (inside o h) (body_of p (points_of u)) (rise-body p u os) ∙ ap suc (e h)), tt)))
entered-fits ss p o (suc n) NoTrees h os f t s e = (none h.height, entered-fits ss p o n NoTrees (one_more h) os f t s e)
entered-fits ss p o (suc n) (Tree k q u more) h os f t s e =
    next-fits ss h (table k q (points_of u)) (entered p o n (points_of more)) (f.0 h) (os.0 h) (entered-fits ss p o n more (one_more h) os.1 f.1 t s e)

-- a frame without operands
frame-fits : (ss : List ℕ) (p : ℕ) (o : Opening) (u : Forms) (h : Holding) → Ones u → AllFit ss u
    → opening_takes o ≤ h.height → IsOpened ss o → ((g : Holding) → (inside o g).height ≡ (outside o g).height)
    → Fits ss h (Enter o p (body_of p (points_of u)) Done)
frame-fits ss p o u h os f t s e = entered-fits ss p o 0 u h os f t s e

-- seats: what stands in `Each` fits wherever it begins
each-fit : (ss : List ℕ) (role : Role) (f : Points) (b : Forms) → FitsAs ss role f → Stand (standing Each role) (λ s. Unit {0}) (λ s. AreGiving s b)
    → ((h : Holding) → Fits ss h f) × AreGiving Each b
each-fit ss (Gives under) f b a s = (a, s.1)
each-fit ss (Binds above) f b a s = absurd s
each-fit ss Handles f b a s = absurd s

each-fits : (ss : List ℕ) (u : Forms) → AreGiving Each u → AreFit ss u → AllFit ss u
each-fits ss NoTrees g f = tt
each-fits ss (Tree kind p u b) g f =
    let both : ((h : Holding) → Fits ss h (table kind p (points_of u))) × AreGiving Each b = each-fit ss (role_of kind) (table kind p (points_of u)) b f.0 g.1 in
    (both.0, each-fits ss b both.1 f.1)

guarded-fit : (ss : List ℕ) (role : Role) (f : Points) (b : Forms) → FitsAs ss role f → Stand (standing Guarded role) (λ s. Unit {0}) (λ s. AreGiving s b)
    → ((h : Holding) → Fits ss h f) × AreGiving Clauses b
guarded-fit ss (Gives under) f b a s = (a, s.1)
guarded-fit ss (Binds above) f b a s = absurd s
guarded-fit ss Handles f b a s = absurd s

clause-fits : (ss : List ℕ) (role : Role) (f : Points) (b : Forms) → FitsAs ss role f → Stand (standing Clauses role) (λ s. Unit {0}) (λ s. AreGiving s b)
    → ((h : Holding) → FitClauses ss h f) × AreGiving Clauses b
clause-fits ss (Gives under) f b a s = absurd s
clause-fits ss (Binds above) f b a s = absurd s
clause-fits ss Handles f b a s = (a, s.1)

clauses-fit : (ss : List ℕ) (u : Forms) (h : Holding) → AreGiving Clauses u → AreFit ss u → FitClauses ss h (all_of (points_of u))
clauses-fit ss NoTrees h g f = tt
clauses-fit ss (Tree kind p u b) h g f =
    let both : ((h : Holding) → FitClauses ss h (table kind p (points_of u))) × AreGiving Clauses b =
    clause-fits ss (role_of kind) (table kind p (points_of u)) b f.0 g.1 in
    clauses-joined ss h (table kind p (points_of u)) (all_of (points_of b)) (both.0 h) (clauses-fit ss b h both.1 f.1)

-- the values of a `let`, and then what binds the first variable
values-fit : (ss : List ℕ) (role : Role) (n : ℕ) (f : Points) (b : Forms) (h : Holding) → FitsAs ss role f → GivesAs role f
    → Stand (standing (Values n) role) (λ s. Unit {0}) (λ s. AreGiving s b) → n ≤ h.height
    → (AreGiving (Values (suc n)) b → Fits ss (one_more h) (all_of (points_of b))) → Fits ss h (joined f (all_of (points_of b)))
values-fit ss (Gives under) n f b h a g s l later = next-fits ss h f (all_of (points_of b)) (a h) (g h) (later s.1)
values-fit ss (Binds above) n f b h a g s l later =
    let both = tested (n == suc above) (Stands (Bound above) Empty) (λ s. Unit {0}) (λ s. AreGiving s b) s in
    let last : b ≡ NoTrees = empty b both.1.1 in
    let same : n ≡ suc above = eqb-true n (suc above) both.0 in
    subst (λ (u : Forms). Fits ss h (joined f (all_of (points_of u)))) (sym last) (fits-joined ss h f Done (a h (subst (λ (m : ℕ). m ≤ h.height) same l)) tt)
values-fit ss Handles n f b h a g s l later = absurd s

let-fits : (ss : List ℕ) (n : ℕ) (u : Forms) (h : Holding) → AreGiving (Values n) u → AreFit ss u → n ≤ h.height → Fits ss h (all_of (points_of u))
let-fits ss n NoTrees h g f l = absurd g
let-fits ss n (Tree kind p u b) h g f l =
    values-fit ss (role_of kind) n (table kind p (points_of u)) b h f.0 g.0 g.1 l
    (λ later. let-fits ss (suc n) b (one_more h) later f.1 (below-suc n h.height l))

-- what binds the next variable, or the body
bound-fit : (ss : List ℕ) (role : Role) (n : ℕ) (f : Points) (b : Forms) → FitsAs ss role f → Stand (standing (Bound (suc n)) role) (λ s. Unit {0}) (λ s. AreGiving s b)
    → (b ≡ NoTrees) × ((h : Holding) → suc n ≤ h.height → Fits ss h f)
bound-fit ss (Gives under) n f b a s = absurd s
bound-fit ss (Binds above) n f b a s =
    let both = tested (n == above) (Stands (Bound above) Empty) (λ s. Unit {0}) (λ s. AreGiving s b) s in
    let same : n ≡ above = eqb-true n above both.0 in
    (empty b both.1.1, λ h l. a h (subst (λ (m : ℕ). suc m ≤ h.height) same l))
bound-fit ss Handles n f b a s = absurd s

last-fit : (ss : List ℕ) (role : Role) (f : Points) (b : Forms) → FitsAs ss role f → Stand (standing (Bound zero) role) (λ s. Unit {0}) (λ s. AreGiving s b)
    → ((h : Holding) → Fits ss h f) × AreGiving Each b
last-fit ss (Gives under) f b a s = (a, s.1)
last-fit ss (Binds above) f b a s = absurd s
last-fit ss Handles f b a s = absurd s

last-fits : (ss : List ℕ) (u : Forms) → AreGiving (Bound zero) u → AreFit ss u → AllFit ss u
last-fits ss NoTrees g f = tt
last-fits ss (Tree kind p u b) g f =
    let both : ((h : Holding) → Fits ss h (table kind p (points_of u))) × AreGiving Each b = last-fit ss (role_of kind) (table kind p (points_of u)) b f.0 g.1 in
    (both.0, each-fits ss b both.1 f.1)

bound-fits : (ss : List ℕ) (n p : ℕ) (u : Forms) (h : Holding) → AreGiving (Bound n) u → AreFit ss u → n ≤ h.height → Fits ss h (body_of p (points_of u))
bound-fits ss zero p u h g f l = body-fits ss p u h (bound-ones u g) (last-fits ss u g f)
bound-fits ss (suc n) p NoTrees h g f l = absurd (suc-zero n g)
bound-fits ss (suc n) p (Tree kind q u b) h g f l =
    let both : (b ≡ NoTrees) × ((h : Holding) → suc n ≤ h.height → Fits ss h (table kind q (points_of u))) =
    bound-fit ss (role_of kind) n (table kind q (points_of u)) b f.0 g.1 in
    subst (λ (v : Forms). Fits ss h (body_of p (points_of (Tree kind q u v)))) (sym both.0) (both.1 h l)

-- services
one-fits : (ss : List ℕ) (s : Service) (p : ℕ) (t : Step) (h : Holding) → served_of s ≤ h.height → Fits ss h (one s p t)
one-fits ss s p t h l = (l, (tt, tt))

timed-fits : (ss : List ℕ) (s : Service) (p : ℕ) (h : Holding) → served_of s ≤ h.height → Fits ss h (timed s p)
timed-fits ss s p h l = (l, (tt, (l, (tt, tt))))

service-fits : (ss : List ℕ) (s : Service) (p : ℕ) (h : Holding) → served_of s ≤ h.height → Fits ss h (service_of s p)
service-fits ss (service.JoinThread default true) p h l = (l, (tt, ((timed-fits ss (service.JoinThread default true) p h l, refl), tt)))
service-fits ss (service.JoinThread default false) p h l = (l, (tt, tt))
service-fits ss (service.GrabMutex waitp true) p h l = (l, (tt, ((timed-fits ss (service.GrabMutex waitp true) p h l, refl), tt)))
service-fits ss (service.GrabMutex true false) p h l = (l, (tt, ((one-fits ss (service.GrabMutex true false) p step.Main h l, refl), tt)))
service-fits ss (service.GrabMutex false false) p h l = (l, (tt, tt))
service-fits ss (service.ConditionWait true) p h l =
    (l, (tt, ((one-fits ss (service.ConditionWait true) p step.Begin h l, refl), (l, (tt, ((one-fits ss (service.ConditionWait true) p step.Regrab h l, refl), tt))))))
service-fits ss (service.ConditionWait false) p h l =
    (l, (tt, (l, (tt, ((one-fits ss (service.ConditionWait false) p step.Regrab h l, refl), tt)))))
service-fits ss service.Sleep p h l = timed-fits ss service.Sleep p h l
service-fits ss (service.ScheduleTimer repeat catch_up) p h l = timed-fits ss (service.ScheduleTimer repeat catch_up) p h l
service-fits ss (service.MakeThread name arguments) p h l = (l, (tt, tt))
service-fits ss service.InterruptThread p h l = (l, (tt, tt))
service-fits ss service.ThreadAlive p h l = (l, (tt, tt))
service-fits ss (service.MakeMutex name) p h l = (l, (tt, tt))
service-fits ss (service.MakeWaitqueue name) p h l = (l, (tt, tt))
service-fits ss (service.ReleaseMutex rule) p h l = (l, (tt, tt))
service-fits ss service.MutexOwner p h l = (l, (tt, tt))
service-fits ss service.HoldingMutex p h l = (l, (tt, tt))
service-fits ss (service.ConditionNotify count) p h l = (l, (tt, tt))
service-fits ss service.ConditionBroadcast p h l = (l, (tt, tt))
service-fits ss (service.MakeTimer name thread) p h l = (l, (tt, tt))
service-fits ss service.UnscheduleTimer p h l = (l, (tt, tt))

-- all but the first form
abbrev others : Forms → Forms
others NoTrees = NoTrees
others (Tree k p u b) = b

others-are : (u : Forms) → others_of (points_of u) ≡ points_of (others u)
others-are NoTrees = refl
others-are (Tree k p u b) = refl

others-ones : (u : Forms) → Ones u → Ones (others u)
others-ones NoTrees o = tt
others-ones (Tree k p u b) o = o.1

others-fit : (ss : List ℕ) (u : Forms) → AllFit ss u → AllFit ss (others u)
others-fit ss NoTrees f = tt
others-fit ss (Tree k p u b) f = f.1

-- the first of these forms, or the constant NIL, fits and gives one value
head-part : (ss : List ℕ) (p : ℕ) (u : Forms) (h : Holding) → Ones u → AllFit ss u → Fits ss h (first_of p (points_of u)) × Lifts h (first_of p (points_of u))
head-part ss p u h o f = (first-fits ss p u h f, lifted h (first_of p (points_of u)) (first-one p u o))

-- so does the body of the others
rest-part : (ss : List ℕ) (p : ℕ) (u : Forms) (h : Holding) → Ones u → AllFit ss u
    → Fits ss h (body_of p (others_of (points_of u))) × Lifts h (body_of p (others_of (points_of u)))
rest-part ss p u h o f =
    subst (λ fs. Fits ss h (body_of p fs) × Lifts h (body_of p fs)) (sym (others-are u))
    (body-fits ss p (others u) h (others-ones u o) (others-fit ss u f), lifted h (body_of p (points_of (others u))) (rise-body p (others u) (others-ones u o)))

-- so does the first of the others
second-part : (ss : List ℕ) (p : ℕ) (u : Forms) (h : Holding) → Ones u → AllFit ss u
    → Fits ss h (first_of p (others_of (points_of u))) × Lifts h (first_of p (others_of (points_of u)))
second-part ss p u h o f =
    subst (λ fs. Fits ss h (first_of p fs) × Lifts h (first_of p fs)) (sym (others-are u)) (head-part ss p (others u) h (others-ones u o) (others-fit ss u f))

third-part : (ss : List ℕ) (p : ℕ) (u : Forms) (h : Holding) → Ones u → AllFit ss u
    → Fits ss h (first_of p (others_of (others_of (points_of u)))) × Lifts h (first_of p (others_of (others_of (points_of u))))
third-part ss p u h o f =
    subst (λ fs. Fits ss h (first_of p (others_of fs)) × Lifts h (first_of p (others_of fs))) (sym (others-are u))
    (second-part ss p (others u) h (others-ones u o) (others-fit ss u f))

choice-fits : (ss : List ℕ) (p : ℕ) (u : Forms) (h : Holding) → Ones u → AllFit ss u
    → Fits ss h (joined (first_of p (points_of u)) (Choose p (first_of p (others_of (points_of u))) (first_of p (others_of (others_of (points_of u)))) Done))
choice-fits ss p u h o f =
    next-fits ss h (first_of p (points_of u)) (Choose p (first_of p (others_of (points_of u))) (first_of p (others_of (others_of (points_of u)))) Done)
    (first-fits ss p u h f) (first-one p u o h) (some-one h.height, (second-part ss p u h o f, (third-part ss p u h o f, tt)))

handler-fits : (ss : List ℕ) (p : ℕ) (u : Forms) (h : Holding) → AreGiving Guarded u → AreFit ss u → Fits ss h (table k.HandlerCase p (points_of u))
handler-fits ss p NoTrees h g f = absurd g
handler-fits ss p (Tree kind q u b) h g f =
    let both : ((h : Holding) → Fits ss h (table kind q (points_of u))) × AreGiving Clauses b = guarded-fit ss (role_of kind) (table kind q (points_of u)) b f.0 g.1 in
    ((both.0 h, lifted h (table kind q (points_of u)) (guarded kind q u b g).0), (clauses-fit ss b h both.1 f.1, tt))

-- a body round which a variable is open
within-fits : (ss : List ℕ) (n x p : ℕ) (u : Forms) (h : Holding) → AreGiving (Bound n) u → AreFit ss u → suc n ≤ h.height
    → Fits ss h (Do (act.BindLocal x n) p (joined (body_of p (points_of u)) (Do act.ForgetLocal p Done)))
within-fits ss n x p u h g f l = (
  l,
  fits-joined ss (bound h) (body_of p (points_of u)) (Do act.ForgetLocal p Done) (bound-fits ss n p u (bound h) g f (above-pred n h.height l))
      (none (rise (bound h) (body_of p (points_of u))).height, tt),
)

clause-body : (ss : List ℕ) (x p : ℕ) (u : Forms) (h : Holding) → Ones u → AllFit ss u
    → Fits ss (one_more h) (Do (act.BindLocal x 0) p (joined (body_of p (points_of u)) (Do act.ForgetLocal p Done)))
clause-body ss x p u h o f = (
  some-one h.height,
  fits-joined ss (bound (one_more h)) (body_of p (points_of u)) (Do act.ForgetLocal p Done) (body-fits ss p u (bound (one_more h)) o f)
      (none (rise (bound (one_more h)) (body_of p (points_of u))).height, tt),
)

binding-fits : (ss : List ℕ) (s n p : ℕ) (u : Forms) (h : Holding) → IsOneOf s ss → AreGiving (Bound n) u → AreFit ss u → suc n ≤ h.height
    → Fits ss h (Enter (opening.Bind s n) p (body_of p (points_of u)) Done)
binding-fits ss s n p u h i g f l = (
  l,
  (
    i,
    (
      (
        bound-fits ss n p u (bound h) g f (above-pred n h.height l),
        ap (λ (m : Holding). m.height) (rise-bound n p u g (bound h)) ∙ ap suc (fewer-pred n h.height),
      ),
      tt,
    ),
  ),
)

call-fits : (ss : List ℕ) (f p : ℕ) (u : Forms) (h : Holding) → Ones u → AllFit ss u
    → Fits ss h (joined (all_of (points_of u)) (Do (act.Call f (length (points_of u))) p Done))
call-fits ss f p u h o a =
    fits-joined ss h (all_of (points_of u)) (Do (act.Call f (length (points_of u))) p Done) (all-fit ss u h o a)
    (subst (λ (m : Holding). Fits ss m (Do (act.Call f (length (points_of u))) p Done)) (sym (rise-all u h o)) (enough (length (points_of u)) h, tt))

-- each kind of form
pub kind-fits : (pr : Program) (kind : CoreKind) (p : ℕ) (u : Forms) → IsNamed pr kind → AreGiving (seat_under (role_of kind)) u → AreFit pr.specials u
    → FitsAs pr.specials (role_of kind) (table kind p (points_of u))
kind-fits pr (k.Constant v) p u i g f = λ h. (none h.height, tt)
kind-fits pr k.CurrentThread p u i g f = λ h. (none h.height, tt)
kind-fits pr (k.Function name) p u i g f = λ h. (none h.height, tt)
kind-fits pr (k.Local x) p u i g f = λ h. (none h.height, tt)
kind-fits pr (k.Special s) p u i g f = λ h. (none h.height, (i, tt))
kind-fits pr (k.SetLocal x) p u i g f = λ h. then-fits pr.specials 1 p u h (Do (act.WriteLocal x) p Done) (ones u g) (each-fits pr.specials u g f) (some-one h.height, tt)
kind-fits pr (k.SetSpecial s) p u i g f = λ h. then-fits pr.specials 1 p u h (Ask (question.Write s) p Done) (ones u g) (each-fits pr.specials u g f) (some-one h.height, (i, tt))
kind-fits pr (k.Defvar s) p u i g f = λ h. (
  none h.height,
  (
    i,
    (
      (
        then-fits pr.specials 1 p u h (Ask (question.Define s) p Done) (ones u g) (each-fits pr.specials u g f) (some-one h.height, (i, tt)),
        lifted h (table (k.Defparameter s) p (points_of u)) (kind-gives (k.Defparameter s) p u g),
      ),
      tt,
    ),
  ),
)
kind-fits pr (k.Defparameter s) p u i g f = λ h. then-fits pr.specials 1 p u h (Ask (question.Define s) p Done) (ones u g) (each-fits pr.specials u g f) (some-one h.height, (i, tt))
kind-fits pr (k.Defun f') p u i g f = λ h. (none h.height, tt)
kind-fits pr (k.CompareAndSwap s) p u i g f = λ h. then-fits pr.specials 2 p u h (Ask (question.CompareAndSwap s) p Done) (ones u g) (each-fits pr.specials u g f) (enough 2 h, (i, tt))
kind-fits pr k.Progn p u i g f = λ h. body-fits pr.specials p u h (ones u g) (each-fits pr.specials u g f)
kind-fits pr k.If p u i g f = λ h. choice-fits pr.specials p u h (ones u g) (each-fits pr.specials u g f)
kind-fits pr k.While p u i g f = λ h. (head-part pr.specials p u h (ones u g) (each-fits pr.specials u g f), (rest-part pr.specials p u h (ones u g) (each-fits pr.specials u g f), tt))
kind-fits pr k.Let p u i g f = λ h. let-fits pr.specials 0 u h g f (none h.height)
kind-fits pr (k.BindLocal x above) p u i g f = λ h l. within-fits pr.specials above x p u h g f l
kind-fits pr (k.BindSpecial s above) p u i g f = λ h l. binding-fits pr.specials s above p u h i g f l
kind-fits pr (k.Call f') p u i g f = λ h. call-fits pr.specials f' p u h (ones u g) (each-fits pr.specials u g f)
kind-fits pr (k.Apply f') p u i g f = λ h. then-fits pr.specials (operands_of f') p u h (Do (act.Apply f') p Done) (ones u g) (each-fits pr.specials u g f) (enough (operands_of f') h, tt)
kind-fits pr (k.Print printing) p u i g f = λ h. then-fits pr.specials (printed_of printing) p u h (Ask (question.Print printing) p Done) (ones u g) (each-fits pr.specials u g f) (enough (printed_of printing) h, (tt, tt))
kind-fits pr (k.Serve s) p u i g f = λ h. then-fits pr.specials (served_of s) p u h (service_of s p) (ones u g) (each-fits pr.specials u g f)
    (service-fits pr.specials s p (with_more (served_of s) h) (enough (served_of s) h))
kind-fits pr (k.Block b) p u i g f = λ h. frame-fits pr.specials p (opening.Block b) u h (ones u g) (each-fits pr.specials u g f) (none h.height) tt (λ g. refl)
kind-fits pr (k.ReturnFrom b) p u i g f = λ h. then-fits pr.specials 1 p u h (Do (act.ReturnFrom b) p Done) (ones u g) (each-fits pr.specials u g f) (some-one h.height, tt)
kind-fits pr k.Catch p u i g f = λ h. entered-fits pr.specials p opening.Catch 1 u h (ones u g) (each-fits pr.specials u g f) (some-one h.height) tt (λ g. refl)
kind-fits pr k.Throw p u i g f = λ h. then-fits pr.specials 2 p u h (Do act.Throw p Done) (ones u g) (each-fits pr.specials u g f) (enough 2 h, tt)
kind-fits pr k.UnwindProtect p u i g f = λ h. (head-part pr.specials p u h (ones u g) (each-fits pr.specials u g f), (rest-part pr.specials p u h (ones u g) (each-fits pr.specials u g f), tt))
kind-fits pr (k.WithoutInterrupts r) p u i g f = λ h. frame-fits pr.specials p (opening.WithoutInterrupts r) u h (ones u g) (each-fits pr.specials u g f) (none h.height) tt (λ g. refl)
kind-fits pr (k.AllowWithInterrupts r) p u i g f = λ h. frame-fits pr.specials p (opening.AllowWithInterrupts r) u h (ones u g) (each-fits pr.specials u g f) (none h.height) tt (λ g. refl)
kind-fits pr k.WithInterrupts p u i g f = λ h. frame-fits pr.specials p opening.WithInterrupts u h (ones u g) (each-fits pr.specials u g f) (none h.height) tt (λ g. refl)
kind-fits pr k.HandlerCase p u i g f = λ h. handler-fits pr.specials p u h g f
kind-fits pr (k.Clause class) p u i g f = λ h. ((body-fits pr.specials p u h (ones u g) (each-fits pr.specials u g f), lifted h (body_of p (points_of u)) (rise-body p u (ones u g))), tt)
kind-fits pr (k.ClauseWith class x) p u i g f = λ h. ((clause-body pr.specials x p u h (ones u g) (each-fits pr.specials u g f), ap (λ (m : Holding). m.height) (kind-gives (k.ClauseWith class x) p u g h)), tt)
kind-fits pr (k.Signal condition) p u i g f = λ h. (none h.height, tt)
kind-fits pr (k.WithDeadline seconds replaces) p u i g f = λ h. entered-fits pr.specials p (opening.Deadline seconds replaces) (written seconds replaces) u h (ones u g) (each-fits pr.specials u g f)
    (enough (written seconds replaces) h) tt (λ g. refl)
kind-fits pr k.AbortThread p u i g f = λ h. (none h.height, tt)
kind-fits pr k.ReturnFromThread p u i g f = λ h. then-fits pr.specials 1 p u h (Do act.ReturnFromThread p Done) (ones u g) (each-fits pr.specials u g f) (some-one h.height, tt)

pub made-fit : (pr : Program) (seat : Seat) (u : Forms) → AreMade pr seat u → AreFit pr.specials u
made-fit pr seat NoTrees m = tt
made-fit pr seat (Tree kind p u b) m =
    let under : AreMade pr (seat_under (role_of kind)) u = under-made pr seat (role_of kind) u (λ s. AreMade pr s b) m.1 in (
      kind-fits pr kind p u m.0 (made-gives pr (seat_under (role_of kind)) u under) (made-fit pr (seat_under (role_of kind)) u under),
      besides (standing seat (role_of kind)) (λ s. AreMade pr s u) (λ s. AreMade pr s b) (AreFit pr.specials b) (λ s h. made-fit pr s b h) m.1,
    )
