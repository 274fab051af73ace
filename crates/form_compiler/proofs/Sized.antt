-- The numbers of lines of forms.
use Rattle.std.proofs.Common.{◌≡◌, ◌≤◌, ℕ, zero, suc, ◌+◌, ◌-◌, min, [], length, true, false, refl, ap, arith}
use Rattle.lisp_base.specs.Forest.{NoTrees, Tree, count_of}
use Rattle.lisp_program.specs.declared.form.CoreKind.{CoreKind}
use Rattle.lisp_program.specs.declared.form.CoreKind.TheVariants.{Constant, CurrentThread, Function, Local, Special, SetLocal, SetSpecial, Defvar, Defparameter, Defun, CompareAndSwap, Progn, If, While, Let, BindLocal, BindSpecial, Call, Apply, Print, Serve, Block, ReturnFrom, Catch, Throw, UnwindProtect, WithoutInterrupts, AllowWithInterrupts, WithInterrupts, HandlerCase, Clause, ClauseWith, Signal, WithDeadline, AbortThread, ReturnFromThread}
use Rattle.lisp_program.specs.declared.function.Service.{Service}
use Rattle.lisp_program.specs.declared.function.Service.TheVariants.{MakeThread, JoinThread, InterruptThread, ThreadAlive, MakeMutex, MakeWaitqueue, GrabMutex, ReleaseMutex, MutexOwner, HoldingMutex, ConditionWait, ConditionNotify, ConditionBroadcast, Sleep, MakeTimer, ScheduleTimer, UnscheduleTimer}
use Rattle.lisp_program.specs.Forms.{Forms}
use Rattle.form_points.specs.declared.act.Act.TheVariants.{ForgetLocal, Discard, Call as CallAct}
use Rattle.form_points.specs.declared.act.Opening.{Opening}
use Rattle.form_points.specs.declared.act.Opening.TheVariants.{Catch as OpenCatch, Deadline as OpenDeadline}
use Rattle.form_points.specs.declared.act.Question.TheVariants.{Define}
use Rattle.form_points.specs.Operands.{entered, first_of, operands, operands_of, others_of, printed_of, served_of, written}
use Rattle.form_points.specs.Points.{Points, Done, Do, Ask, Test, Choose, Loop, Turn, Enter, Protect, Handle, When, all_of, body_of, joined}
use Rattle.form_points.specs.Table.{points_of, service_of, table}
use Rattle.lisp_code.specs.Lines.{size}
use Rattle.form_compiler.specs.declared.row.Row.{Row}
use Rattle.form_compiler.specs.inside.Extents.{MOST, lines_in, gaps, row_of, row_lines, service_lines, used}

pub size-joined : (a b : Points) → size (joined a b) ≡ size a + size b
size-joined Done b = omega arith
size-joined (Do a p rest) b = omega (arith, size-joined rest b)
size-joined (Ask q p rest) b = omega (arith, size-joined rest b)
size-joined (Test q p more rest) b = omega (arith, size-joined rest b)
size-joined (Choose p x y rest) b = omega (arith, size-joined rest b)
size-joined (Loop p test body rest) b = omega (arith, size-joined rest b)
size-joined (Turn p test body rest) b = omega (arith, size-joined rest b)
size-joined (Enter o p body rest) b = omega (arith, size-joined rest b)
size-joined (Protect p body cleanup rest) b = omega (arith, size-joined rest b)
size-joined (Handle p body clauses rest) b = omega (arith, size-joined rest b)
size-joined (When class is_given chosen others) b = omega (arith, size-joined others b)

pub lines_in-all : (n : ℕ) (f : Forms) → count_of f ≤ n → lines_in n f ≡ lines_in (count_of f) f
lines_in-all zero NoTrees h = refl
lines_in-all (suc n) NoTrees h = refl
lines_in-all zero (Tree k p u b) h = absurd (omega arith)
lines_in-all (suc n) (Tree k p u b) h = ap (λ l. size (table k p (points_of u)) + l) (lines_in-all n b (omega arith))

pub lines_in-none : (n : ℕ) (f : Forms) → f ≡ NoTrees → lines_in n f ≡ 0
lines_in-none zero f e = refl
lines_in-none (suc n) NoTrees e = refl
lines_in-none (suc n) (Tree k p u b) e = absurd cc

operands_sized : (n pl : ℕ) (u : Forms) → size (operands n pl (points_of u)) ≡ lines_in n u + (n - count_of u)
operands_sized zero pl u = omega arith
operands_sized (suc n) pl NoTrees =
    let e : size (operands n pl []) ≡ lines_in n NoTrees + (n - 0) = operands_sized n pl NoTrees in
    omega (arith, e, lines_in-none n NoTrees refl)
operands_sized (suc n) pl (Tree k q u more) =
    let e : size (operands n pl (points_of more)) ≡ lines_in n more + (n - count_of more) = operands_sized n pl more in
    omega (arith, e, size-joined (table k q (points_of u)) (operands n pl (points_of more)))

pub body_sized : (pl : ℕ) (u : Forms) → size (body_of pl (points_of u)) ≡ lines_in (count_of u) u + gaps (count_of u)
body_sized pl NoTrees = refl
body_sized pl (Tree k q u NoTrees) = omega arith
body_sized pl (Tree k q u (Tree k' q' u' more)) =
    let later : Points = Do Discard pl (body_of pl (points_of (Tree k' q' u' more))) in
    omega (arith, body_sized pl (Tree k' q' u' more), size-joined (table k q (points_of u)) later)

pub all_sized : (u : Forms) → size (all_of (points_of u)) ≡ lines_in (count_of u) u
all_sized NoTrees = refl
all_sized (Tree k q u more) = omega (arith, all_sized more, size-joined (table k q (points_of u)) (all_of (points_of more)))

entered_sized : (o : Opening) (n pl : ℕ) (u : Forms)
    → size (entered pl o n (points_of u)) ≡ lines_in (count_of u) u + (n - count_of u) + gaps (count_of u - n) + 2
entered_sized o zero pl u =
    let e : count_of u - 0 ≡ count_of u = omega arith in
    omega (arith, ap gaps e, body_sized pl u)
entered_sized o (suc n) pl NoTrees =
    let e : size (entered pl o n []) ≡ 0 + (n - 0) + gaps (0 - n) + 2 = entered_sized o n pl NoTrees in
    let a : 0 - n ≡ 0 = omega arith in
    let b : 0 - suc n ≡ 0 = omega arith in
    omega (arith, e, ap gaps a, ap gaps b)
entered_sized o (suc n) pl (Tree k q u more) =
    let e : size (entered pl o n (points_of more)) ≡ lines_in (count_of more) more + (n - count_of more) + gaps (count_of more - n) + 2 =
    entered_sized o n pl more in
    let a : suc (count_of more) - suc n ≡ count_of more - n = omega arith in
    omega (arith, e, ap gaps a, size-joined (table k q (points_of u)) (entered pl o n (points_of more)))

-- the first form, and the others as a body
first_and_body : (pl : ℕ) (u : Forms) → size (first_of pl (points_of u)) + size (body_of pl (others_of (points_of u)))
    ≡ lines_in (count_of u) u + (1 - count_of u) + gaps (count_of u - 1)
first_and_body pl NoTrees = refl
first_and_body pl (Tree k q u more) =
    let e : suc (count_of more) - 1 ≡ count_of more = omega arith in
    omega (arith, ap gaps e, body_sized pl more)

-- the first form, and each of the others
first_and_all : (pl : ℕ) (u : Forms) → size (first_of pl (points_of u)) + size (all_of (others_of (points_of u))) ≡ lines_in (count_of u) u + (1 - count_of u)
first_and_all pl NoTrees = refl
first_and_all pl (Tree k q u more) = omega (arith, all_sized more)

service_sized : (s : Service) (pl : ℕ) → size (service_of s pl) ≡ service_lines s
service_sized (JoinThread default true) pl = refl
service_sized (JoinThread default false) pl = refl
service_sized (GrabMutex true true) pl = refl
service_sized (GrabMutex false true) pl = refl
service_sized (GrabMutex true false) pl = refl
service_sized (GrabMutex false false) pl = refl
service_sized (ConditionWait true) pl = refl
service_sized (ConditionWait false) pl = refl
service_sized Sleep pl = refl
service_sized (ScheduleTimer repeat catch_up) pl = refl
service_sized (MakeThread name arguments) pl = refl
service_sized InterruptThread pl = refl
service_sized ThreadAlive pl = refl
service_sized (MakeMutex name) pl = refl
service_sized (MakeWaitqueue name) pl = refl
service_sized (ReleaseMutex rule) pl = refl
service_sized MutexOwner pl = refl
service_sized HoldingMutex pl = refl
service_sized (ConditionNotify count) pl = refl
service_sized ConditionBroadcast pl = refl
service_sized (MakeTimer name thread) pl = refl
service_sized UnscheduleTimer pl = refl

-- so many operands, and then these points
then_sized : (n pl lines : ℕ) (u : Forms) (next : Points) → size next ≡ lines
    → size (joined (operands n pl (points_of u)) next) ≡ lines_in n u + (n - count_of u) + 0 + lines
then_sized n pl lines u next e = omega (arith, e, operands_sized n pl u, size-joined (operands n pl (points_of u)) next)

-- a body, and so many lines
body_and : (pl parts lines : ℕ) (u : Forms) → count_of u ≤ parts
    → size (body_of pl (points_of u)) + lines ≡ lines_in parts u + (0 - count_of u) + gaps (count_of u - 0) + lines
body_and pl parts lines u h =
    let e : count_of u - 0 ≡ count_of u = omega arith in
    omega (arith, ap gaps e, body_sized pl u, lines_in-all parts u h)

-- the lines of a form
pub row_sized : (k : CoreKind) (pl parts : ℕ) (u : Forms) → count_of u ≤ parts
    → size (table k pl (points_of u)) ≡ row_lines (row_of k) (count_of u) (lines_in (used (row_of k) parts) u)
row_sized (Constant v) pl parts u h = omega arith
row_sized CurrentThread pl parts u h = omega arith
row_sized (Function name) pl parts u h = omega arith
row_sized (Local x) pl parts u h = omega arith
row_sized (Special s) pl parts u h = omega arith
row_sized (SetLocal x) pl parts u h = then_sized 1 pl 1 u _ refl
row_sized (SetSpecial s) pl parts u h = then_sized 1 pl 1 u _ refl
row_sized (Defvar s) pl parts u h = omega (arith, then_sized 1 pl 1 u (Ask (Define s) pl Done) refl)
row_sized (Defparameter s) pl parts u h = then_sized 1 pl 1 u _ refl
row_sized (Defun f) pl parts u h = omega arith
row_sized (CompareAndSwap s) pl parts u h = then_sized 2 pl 1 u _ refl
row_sized Progn pl parts u h = omega (arith, body_and pl parts 0 u h)
row_sized If pl parts u h =
    let t : Points = first_of pl (points_of u) in
    let x : Points = first_of pl (others_of (points_of u)) in
    let y : Points = first_of pl (others_of (others_of (points_of u))) in
    omega (arith, operands_sized 3 pl u, size-joined t (joined x (joined y Done)), size-joined x (joined y Done), size-joined y Done, size-joined t (Choose pl x y Done))
row_sized While pl parts u h = omega (arith, first_and_body pl u, lines_in-all parts u h)
row_sized Let pl parts u h = omega (arith, all_sized u, lines_in-all parts u h)
row_sized (BindLocal x above) pl parts u h = omega (arith, body_and pl parts 2 u h, size-joined (body_of pl (points_of u)) (Do ForgetLocal pl Done))
row_sized (BindSpecial s above) pl parts u h = omega (arith, body_and pl parts 2 u h)
row_sized (Call f) pl parts u h =
    omega (arith, all_sized u, lines_in-all parts u h, size-joined (all_of (points_of u)) (Do (CallAct f (length (points_of u))) pl Done))
row_sized (Apply f) pl parts u h = then_sized (operands_of f) pl 1 u _ refl
row_sized (Print printing) pl parts u h = then_sized (printed_of printing) pl 1 u _ refl
row_sized (Serve service) pl parts u h = then_sized (served_of service) pl (service_lines service) u (service_of service pl) (service_sized service pl)
row_sized (Block b) pl parts u h = omega (arith, body_and pl parts 2 u h)
row_sized (ReturnFrom b) pl parts u h = then_sized 1 pl 1 u _ refl
row_sized Catch pl parts u h = omega (arith, entered_sized OpenCatch 1 pl u, lines_in-all parts u h)
row_sized Throw pl parts u h = then_sized 2 pl 1 u _ refl
row_sized UnwindProtect pl parts u h = omega (arith, first_and_body pl u, lines_in-all parts u h)
row_sized (WithoutInterrupts r) pl parts u h = omega (arith, body_and pl parts 2 u h)
row_sized (AllowWithInterrupts r) pl parts u h = omega (arith, body_and pl parts 2 u h)
row_sized WithInterrupts pl parts u h = omega (arith, body_and pl parts 2 u h)
row_sized HandlerCase pl parts u h = omega (arith, first_and_all pl u, lines_in-all parts u h)
row_sized (Clause class) pl parts u h = omega (arith, body_and pl parts 1 u h)
row_sized (ClauseWith class x) pl parts u h = omega (arith, body_and pl parts 3 u h, size-joined (body_of pl (points_of u)) (Do ForgetLocal pl Done))
row_sized (Signal condition) pl parts u h = omega arith
row_sized (WithDeadline seconds replaces) pl parts u h =
    omega (arith, entered_sized (OpenDeadline seconds replaces) (written seconds replaces) pl u, lines_in-all parts u h)
row_sized AbortThread pl parts u h = omega arith
row_sized ReturnFromThread pl parts u h = then_sized 1 pl 1 u _ refl

-- numbers that are counted so far alone
pub row_capped : (row : Row) (m lines : ℕ) → min (row_lines row m (min lines MOST)) MOST ≡ min (row_lines row m lines) MOST
row_capped row m lines = omega arith
