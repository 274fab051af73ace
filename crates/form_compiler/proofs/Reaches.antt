-- A well-made form holds, at one of its lines, all that is held when it begins.
use Rattle.std.proofs.Common.{◌≡◌, ◌≤◌, ℕ, zero, suc, pred, ◌+◌, max, [], length, arith, refl, sym, subst}
use Rattle.lisp_base.specs.Forest.{NoTrees, Tree}
use Rattle.lisp_base.specs.Value.{nil}
use Rattle.lisp_base.specs.declared.value.Node.TheVariants.{Symbol}
use Rattle.lisp_program.specs.Forms.{Forms}
use Rattle.lisp_program.specs.Program.{Program}
use Rattle.lisp_program.specs.declared.form.CoreKind.{CoreKind}
use Rattle.lisp_program.specs.declared.form.CoreKind.TheVariants as k
use Rattle.lisp_program.specs.declared.function.Service.{Service}
use Rattle.lisp_program.specs.declared.function.Service.TheVariants as service
use Rattle.lisp_program.specs.WellMade.{AreMade, Seat, Values, Stand, Standing, Misplaced, Stands, role_of, standing}
use Rattle.form_points.specs.Operands.{entered, first_of, one_of, operands, operands_of, others_of, printed_of, served_of, written}
use Rattle.form_points.specs.Points.{Points, Done, Do, Ask, Choose, Enter, all_of, body_of, joined}
use Rattle.form_points.specs.Table.{points_of, service_of, table}
use Rattle.form_points.specs.declared.act.Act.{Act}
use Rattle.form_points.specs.declared.act.Act.TheVariants as act
use Rattle.form_points.specs.declared.act.Opening.{Opening}
use Rattle.form_points.specs.declared.act.Opening.TheVariants as opening
use Rattle.form_points.specs.declared.act.Question.{Question}
use Rattle.form_points.specs.declared.act.Question.TheVariants as question
use Rattle.form_points.specs.declared.act.Step.TheVariants as step
use Rattle.lisp_code.specs.CodeOf.{most_held}
use Rattle.lisp_code.specs.Held.{Holding, bound, held_at, held_by, held_in, one_more, one_open, rise, total, without}
use Rattle.lisp_code.specs.Lines.{laid, no_way, past}
use Rattle.form_compiler.specs.inside.Gives.{AreGiving, seat_under}
use Rattle.form_compiler.specs.inside.Reaches.{AllReach, Reaches}
use Rattle.form_compiler.proofs.Gives.{made-gives, under-made}
use Rattle.form_compiler.proofs.Joined.{laid-joined}

-- the first line holds so much
first : (n m rest : ℕ) → n ≤ m → n ≤ max m rest
first n m rest l = omega (arith, l)

do-reaches : (a : Act) (p : ℕ) (after : Points) → ((h : Holding) → total h ≤ held_by a h) → Reaches (Do a p after)
do-reaches a p after l names way h at next = first (total h) (held_by a h) _ (l h)

ask-reaches : (q : Question) (p : ℕ) (after : Points) → ((h : Holding) → total h ≤ held_at q h) → Reaches (Ask q p after)
ask-reaches q p after l names way h at next = first (total h) (held_at q h) _ (l h)

enter-reaches : (o : Opening) (p : ℕ) (body after : Points) → ((h : Holding) → total h ≤ held_in o h) → Reaches (Enter o p body after)
enter-reaches o p body after l names way h at next = first (total h) (held_in o h) _ (l h)

joined-reaches : (a b : Points) → Reaches a → Reaches (joined a b)
joined-reaches a b r names way h at next =
    subst (λ l. total h ≤ most_held l) (sym (laid-joined names way h at a b next)) (r names way h at (laid names way (rise h a) (past at a) b next))

-- numbers of values
one-value : (n m : ℕ) → n + m ≤ n + suc m
one-value n m = omega arith

moved : (n m : ℕ) → n + m ≤ suc n + pred m
moved n zero = omega arith
moved n (suc m) = omega arith

positive : (n : ℕ) → suc n ≡ 0 → ⊥
positive n e = omega (arith, e)

second : (m n k : ℕ) → n ≤ k → n ≤ max m k
second m n k l = omega (arith, l)

same : (n : ℕ) → n ≤ n
same n = omega arith

none-fewer : (n : ℕ) (h : Holding) → n ≡ 0 → total h ≤ total (one_more (without n h))
none-fewer zero h e = one-value h.opened h.height
none-fewer (suc n) h e = absurd (positive n e)

opened-more : (n m : ℕ) → n + m ≤ suc n + m
opened-more n m = omega arith

none-less : (n : ℕ) (h : Holding) → n ≡ 0 → total h ≤ total (without n h)
none-less zero h e = same (total h)
none-less (suc n) h e = absurd (positive n e)

-- what follows of the forms beside a form, wherever they stand
pub besides : (standing : Standing) (under beside : Seat → Type 0) (A : Type 0) → ((s : Seat) → beside s → A) → Stand standing under beside → A
besides Misplaced under beside A f s = absurd s
besides (Stands u b) under beside A f s = f b s.1

nil-reaches : (p : ℕ) → Reaches (Do (act.Push nil) p Done)
nil-reaches p = do-reaches (act.Push nil) p Done (λ h. one-value h.opened h.height)

first-reaches : (p : ℕ) (u : Forms) → AllReach u → Reaches (first_of p (points_of u))
first-reaches p NoTrees r = nil-reaches p
first-reaches p (Tree k q u more) r = r.0

-- a body
body-reaches : (p : ℕ) (u : Forms) → AllReach u → Reaches (body_of p (points_of u))
body-reaches p NoTrees r = nil-reaches p
body-reaches p (Tree k q u NoTrees) r = r.0
body-reaches p (Tree k q u (Tree k' q' u' more)) r =
    joined-reaches (table k q (points_of u)) (Do act.Discard p (body_of p (points_of (Tree k' q' u' more)))) r.0

-- operands, and what comes after them
operands-reach : (n p : ℕ) (u : Forms) (rest : Points) → AllReach u → (n ≡ 0 → Reaches rest) → Reaches (joined (operands n p (points_of u)) rest)
operands-reach zero p u rest r e = e refl
operands-reach (suc n) p NoTrees rest r e = do-reaches (act.Push nil) p (joined (operands n p []) rest) (λ h. one-value h.opened h.height)
operands-reach (suc n) p (Tree k q u more) rest r e =
    joined-reaches (joined (table k q (points_of u)) (operands n p (points_of more))) rest (joined-reaches (table k q (points_of u)) (operands n p (points_of more)) r.0)

entered-reaches : (p : ℕ) (o : Opening) (n : ℕ) (u : Forms) → AllReach u → (n ≡ 0 → (h : Holding) → total h ≤ held_in o h) → Reaches (entered p o n (points_of u))
entered-reaches p o zero u r e = enter-reaches o p (body_of p (points_of u)) Done (e refl)
entered-reaches p o (suc n) NoTrees r e = do-reaches (act.Push nil) p (entered p o n []) (λ h. one-value h.opened h.height)
entered-reaches p o (suc n) (Tree k q u more) r e = joined-reaches (table k q (points_of u)) (entered p o n (points_of more)) r.0

all-reach : (u : Forms) (rest : Points) → AllReach u → (length (points_of u) ≡ 0 → Reaches rest) → Reaches (joined (all_of (points_of u)) rest)
all-reach NoTrees rest r e = e refl
all-reach (Tree k q u more) rest r e =
    joined-reaches (joined (table k q (points_of u)) (all_of (points_of more))) rest (joined-reaches (table k q (points_of u)) (all_of (points_of more)) r.0)

-- a service without operands
main-reaches : (s : Service) (p : ℕ) → served_of s ≡ 0 → Reaches (Ask (question.Serve s step.Main) p Done)
main-reaches s p e = ask-reaches (question.Serve s step.Main) p Done (λ h. none-fewer (served_of s) h e)

more-than-none : (n : ℕ) → 1 + n ≡ 0 → ⊥
more-than-none n e = omega (arith, e)

two-more : (n : ℕ) → 2 + n ≡ 0 → ⊥
two-more n e = omega (arith, e)

service-reaches : (s : Service) (p : ℕ) → served_of s ≡ 0 → Reaches (service_of s p)
service-reaches (service.JoinThread default timeout) p e = absurd (more-than-none (written default timeout) e)
service-reaches (service.GrabMutex waitp timeout) p e = absurd (more-than-none (written waitp timeout) e)
service-reaches (service.ConditionWait timeout) p e = absurd (two-more (one_of timeout) e)
service-reaches service.Sleep p e = absurd (positive 0 e)
service-reaches (service.ScheduleTimer repeat catch_up) p e = absurd (two-more (written repeat catch_up) e)
service-reaches (service.MakeThread name arguments) p e = main-reaches (service.MakeThread name arguments) p e
service-reaches service.InterruptThread p e = main-reaches service.InterruptThread p e
service-reaches service.ThreadAlive p e = main-reaches service.ThreadAlive p e
service-reaches (service.MakeMutex name) p e = main-reaches (service.MakeMutex name) p e
service-reaches (service.MakeWaitqueue name) p e = main-reaches (service.MakeWaitqueue name) p e
service-reaches (service.ReleaseMutex rule) p e = main-reaches (service.ReleaseMutex rule) p e
service-reaches service.MutexOwner p e = main-reaches service.MutexOwner p e
service-reaches service.HoldingMutex p e = main-reaches service.HoldingMutex p e
service-reaches (service.ConditionNotify count) p e = main-reaches (service.ConditionNotify count) p e
service-reaches service.ConditionBroadcast p e = main-reaches service.ConditionBroadcast p e
service-reaches (service.MakeTimer name thread) p e = main-reaches (service.MakeTimer name thread) p e
service-reaches service.UnscheduleTimer p e = main-reaches service.UnscheduleTimer p e

let-reaches : (p : ℕ) (u : Forms) → AreGiving (Values 0) u → AllReach u → Reaches (all_of (points_of u))
let-reaches p NoTrees g r = absurd g
let-reaches p (Tree k q u more) g r = joined-reaches (table k q (points_of u)) (all_of (points_of more)) r.0

none : {A : Type 0} (n : ℕ) → suc n ≡ 0 → A
none n e = absurd (positive n e)

-- each kind of form
pub kind-reaches : (kind : CoreKind) (p : ℕ) (u : Forms) → AreGiving (seat_under (role_of kind)) u → AllReach u → Reaches (table kind p (points_of u))
kind-reaches (k.Constant v) p u g r = do-reaches (act.Push v) p Done (λ h. one-value h.opened h.height)
kind-reaches k.CurrentThread p u g r = do-reaches act.PushThread p Done (λ h. one-value h.opened h.height)
kind-reaches (k.Function name) p u g r = do-reaches (act.PushFunction name) p Done (λ h. one-value h.opened h.height)
kind-reaches (k.Local x) p u g r = do-reaches (act.ReadLocal x) p Done (λ h. second (suc x) (total h) (total (one_more h)) (one-value h.opened h.height))
kind-reaches (k.Special s) p u g r = ask-reaches (question.Read s) p Done (λ h. one-value h.opened h.height)
kind-reaches (k.SetLocal x) p u g r = operands-reach 1 p u (Do (act.WriteLocal x) p Done) r (none 0)
kind-reaches (k.SetSpecial s) p u g r = operands-reach 1 p u (Ask (question.Write s) p Done) r (none 0)
kind-reaches (k.Defvar s) p u g r = λ names way h at next. first (total h) (held_at (question.IsBound s) h) _ (one-value h.opened h.height)
kind-reaches (k.Defparameter s) p u g r = operands-reach 1 p u (Ask (question.Define s) p Done) r (none 0)
kind-reaches (k.Defun f) p u g r = do-reaches (act.Push (Symbol f)) p Done (λ h. one-value h.opened h.height)
kind-reaches (k.CompareAndSwap s) p u g r = operands-reach 2 p u (Ask (question.CompareAndSwap s) p Done) r (none 1)
kind-reaches k.Progn p u g r = body-reaches p u r
kind-reaches k.If p u g r =
    joined-reaches (first_of p (points_of u)) (Choose p (first_of p (others_of (points_of u))) (first_of p (others_of (others_of (points_of u)))) Done) (first-reaches p u r)
kind-reaches k.While p u g r = λ names way h at next. first-reaches p u r names no_way h at _
kind-reaches k.Let p u g r = let-reaches p u g r
kind-reaches (k.BindLocal x above) p u g r =
    do-reaches (act.BindLocal x above) p (joined (body_of p (points_of u)) (Do act.ForgetLocal p Done)) (λ h. second (suc x) (total h) (total (bound h)) (moved h.opened h.height))
kind-reaches (k.BindSpecial s above) p u g r = enter-reaches (opening.Bind s above) p (body_of p (points_of u)) Done (λ h. moved h.opened h.height)
kind-reaches (k.Call f) p u g r =
    all-reach u (Do (act.Call f (length (points_of u))) p Done) r
    (λ e. do-reaches (act.Call f (length (points_of u))) p Done (λ h. none-fewer (length (points_of u)) h e))
kind-reaches (k.Apply f) p u g r =
    operands-reach (operands_of f) p u (Do (act.Apply f) p Done) r (λ e. do-reaches (act.Apply f) p Done (λ h. none-fewer (operands_of f) h e))
kind-reaches (k.Print printing) p u g r =
    operands-reach (printed_of printing) p u (Ask (question.Print printing) p Done) r
    (λ e. ask-reaches (question.Print printing) p Done (λ h. none-fewer (printed_of printing) h e))
kind-reaches (k.Serve s) p u g r = operands-reach (served_of s) p u (service_of s p) r (λ e. service-reaches s p e)
kind-reaches (k.Block b) p u g r =
    enter-reaches (opening.Block b) p (body_of p (points_of u)) Done (λ h. second (suc b) (total h) (total (one_open h)) (opened-more h.opened h.height))
kind-reaches (k.ReturnFrom b) p u g r = operands-reach 1 p u (Do (act.ReturnFrom b) p Done) r (none 0)
kind-reaches k.Catch p u g r = entered-reaches p opening.Catch 1 u r (none 0)
kind-reaches k.Throw p u g r = operands-reach 2 p u (Do act.Throw p Done) r (none 1)
kind-reaches k.UnwindProtect p u g r = λ names way h at next. first (total h) (total h) _ (same (total h))
kind-reaches (k.WithoutInterrupts n) p u g r =
    enter-reaches (opening.WithoutInterrupts n) p (body_of p (points_of u)) Done (λ h. second (suc n) (total h) (total (one_open h)) (opened-more h.opened h.height))
kind-reaches (k.AllowWithInterrupts n) p u g r =
    enter-reaches (opening.AllowWithInterrupts n) p (body_of p (points_of u)) Done (λ h. second (suc n) (total h) (total h) (same (total h)))
kind-reaches k.WithInterrupts p u g r = enter-reaches opening.WithInterrupts p (body_of p (points_of u)) Done (λ h. same (total h))
kind-reaches k.HandlerCase p u g r = λ names way h at next. first (total h) (total h) _ (same (total h))
kind-reaches (k.Clause class) p u g r = λ names way h at next. body-reaches p u r names no_way h at _
kind-reaches (k.ClauseWith class x) p u g r =
    λ names way h at next. first (total h) (held_by (act.BindLocal x 0) (one_more h)) _ (second (suc x) (total h) (total (bound (one_more h))) (opened-more h.opened h.height))
kind-reaches (k.Signal condition) p u g r = do-reaches (act.Signal condition) p Done (λ h. same (total h))
kind-reaches (k.WithDeadline seconds replaces) p u g r =
    entered-reaches p (opening.Deadline seconds replaces) (written seconds replaces) u r (λ e h. none-less (written seconds replaces) h e)
kind-reaches k.AbortThread p u g r = do-reaches act.AbortThread p Done (λ h. same (total h))
kind-reaches k.ReturnFromThread p u g r = operands-reach 1 p u (Do act.ReturnFromThread p Done) r (none 0)

pub made-reaches : (program : Program) (seat : Seat) (u : Forms) → AreMade program seat u → AllReach u
made-reaches program seat NoTrees m = tt
made-reaches program seat (Tree kind p u b) m =
    let under : AreMade program (seat_under (role_of kind)) u = under-made program seat (role_of kind) u (λ s. AreMade program s b) m.1 in (
      kind-reaches kind p u (made-gives program (seat_under (role_of kind)) u under) (made-reaches program (seat_under (role_of kind)) u under),
      besides (standing seat (role_of kind)) (λ s. AreMade program s u) (λ s. AreMade program s b) (AllReach b) (λ s h. made-reaches program s b h) m.1,
    )
