-- What is still to be written: tasks, each of which takes forms from those that are left.
use Rattle.std.specs.Prelude.{◌≡◌, ◌*◌, ℕ, zero, suc, ◌+◌, Bool, true, false, List, [], ◌∷◌}
use Rattle.lisp_base.specs.Forest.{NoTrees, Tree, behind}
use Rattle.lisp_base.specs.declared.id.FunctionName.{FunctionName}
use Rattle.lisp_base.specs.declared.value.Node.TheVariants.{Symbol}
use Rattle.lisp_base.specs.Value.{nil}
use Rattle.lisp_program.specs.Forms.{Forms}
use Rattle.lisp_program.specs.declared.form.CoreKind.{CoreKind}
use Rattle.lisp_program.specs.declared.form.CoreKind.TheVariants as k
use Rattle.lisp_program.specs.declared.function.Service.{Service}
use Rattle.lisp_program.specs.declared.function.Service.TheVariants as service
use Rattle.form_points.specs.Operands.{operands_of, printed_of, served_of}
use Rattle.form_points.specs.Points.{Points, Done, Do, joined}
use Rattle.form_points.specs.Table.{points_of, table}
use Rattle.form_points.specs.declared.act.Act.{Act}
use Rattle.form_points.specs.declared.act.Act.TheVariants as act
use Rattle.form_points.specs.declared.act.Opening.{Opening}
use Rattle.form_points.specs.declared.act.Opening.TheVariants as opening
use Rattle.form_points.specs.declared.act.Question.{Question}
use Rattle.form_points.specs.declared.act.Question.TheVariants as question
use Rattle.form_points.specs.declared.act.Step.{Step}
use Rattle.form_points.specs.declared.act.Step.TheVariants as step
use Rattle.lisp_code.specs.Held.{Holding, bound, held_in, inside, one_more, outside, total, without}
use Rattle.lisp_code.specs.Lines.{Placed, Way, laid, no_way, past}
use Rattle.lisp_code.specs.declared.instr.Clause.{Clause}
use Rattle.lisp_code.specs.declared.instr.Instr.TheVariants as i
use Rattle.form_compiler.specs.declared.task.Task.{Task}
use Rattle.form_compiler.specs.declared.task.Task.TheVariants.{Form, Clause as ClauseTask, Part, Body, All as AllTask, Operands, Clauses, Skip, Write}
use Rattle.form_compiler.specs.inside.Gives.{with_more}
use Rattle.form_compiler.specs.inside.Marks.{act_mark, ask_mark, mark, placed_of, test_mark}

-- all but the first of these forms
abbrev pub others : Forms → Forms
others NoTrees = NoTrees
others (Tree kind p under beside) = beside

-- these forms, and then those
abbrev pub beside_of : (front beside : Forms) → Forms
beside_of NoTrees f = f
beside_of (Tree kind p under beside) f = Tree kind p under (beside_of beside f)

-- one less, or 0
abbrev pub less : ℕ → ℕ
less zero = zero
less (suc n) = n

-- the points of the first form
abbrev pub first : Forms → Points
first NoTrees = Done
first (Tree kind p under beside) = table kind p (points_of under)

-- a clause goes along this way, and there is none for another form
abbrev pub way_for : CoreKind → Way → Way
way_for (k.Clause class) way = way
way_for (k.ClauseWith class x) way = way
way_for kind way = no_way

-- the way of the first form
abbrev pub first_way : Forms → Way → Way
first_way NoTrees way = no_way
first_way (Tree kind p under beside) way = way_for kind way

-- the constant NIL
abbrev pub nil_at : ℕ → Points
nil_at p = Do (act.Push nil) p Done

-- the first form where some are there, else NIL
abbrev pub part : ℕ → ℕ → Forms → Points
part zero pl f = nil_at pl
part (suc n) pl f = first f

-- the forms after it
abbrev pub part_left : ℕ → Forms → Forms
part_left zero f = f
part_left (suc n) f = others f

-- n forms as a body
abbrev pub body : ℕ → ℕ → Forms → Points
body zero pl f = nil_at pl
body (suc zero) pl f = first f
body (suc (suc n)) pl f = joined (first f) (Do act.Discard pl (body (suc n) pl (others f)))

-- n forms in turn
abbrev pub all : ℕ → Forms → Points
all zero f = Done
all (suc n) f = joined (first f) (all n (others f))

-- so many operands, where so many forms are there
abbrev pub wanted : ℕ → ℕ → ℕ → Forms → Points
wanted zero there pl f = Done
wanted (suc n) there pl f = joined (part there pl f) (wanted n (less there) pl (part_left there f))

-- Their lines: a task says what is held before each, and each form gives one value.
module _ (names : List FunctionName) where
  -- the lines of points that are no clause
  abbrev pub laid_so : Holding → ℕ → Points → List Placed → List Placed
  laid_so h at points next = laid names no_way h at points next

  -- the lines of n forms as a body
  abbrev pub body_lines : (n place : ℕ) → Holding → (at : ℕ) → Forms → List Placed → List Placed
  body_lines zero pl h at f next = laid_so h at (nil_at pl) next
  body_lines (suc zero) pl h at f next = laid_so h at (first f) next
  body_lines (suc (suc n)) pl h at f next =
      laid_so h at (first f) (placed_of [] (act_mark names act.Discard pl (one_more h)) ∷ body_lines (suc n) pl h (suc (past at (first f))) (others f) next)

  -- the lines of n forms in turn
  abbrev pub all_lines : ℕ → Holding → (at : ℕ) → Forms → List Placed → List Placed
  all_lines zero h at f next = next
  all_lines (suc n) h at f next = laid_so h at (first f) (all_lines n (one_more h) (past at (first f)) (others f) next)

  -- the lines of so many operands, where so many forms are there
  abbrev pub wanted_lines : (n there place : ℕ) → Holding → (at : ℕ) → Forms → List Placed → List Placed
  wanted_lines zero there pl h at f next = next
  wanted_lines (suc n) there pl h at f next =
      laid_so h at (part there pl f) (wanted_lines n (less there) pl (one_more h) (past at (part there pl f)) (part_left there f) next)

  -- the lines of n forms as clauses, which go along this way
  abbrev pub clause_lines : ℕ → Way → Holding → (at : ℕ) → Forms → List Placed → List Placed
  clause_lines zero way h at f next = next
  clause_lines (suc n) way h at f next = laid names (first_way f way) h at (first f) (clause_lines n way h (past at (first f)) (others f) next)

  -- what the tasks write, from a position on, where these forms are left
  abbrev pub run : ℕ → List Task → Forms → List Placed
  run at [] f = []
  run at (Form h ∷ ts) f = laid names (first_way f no_way) h at (first f) (run (past at (first f)) ts (others f))
  run at (ClauseTask h to pl ∷ ts) f = laid names (first_way f (record { to = to; place = pl })) h at (first f) (run (past at (first f)) ts (others f))
  run at (Part there pl h ∷ ts) f = laid_so h at (part there pl f) (run (past at (part there pl f)) ts (part_left there f))
  run at (Body n pl h ∷ ts) f = body_lines n pl h at f (run (past at (body n pl f)) ts (behind n f))
  run at (AllTask n h ∷ ts) f = all_lines n h at f (run (past at (all n f)) ts (behind n f))
  run at (Operands n there pl h ∷ ts) f = wanted_lines n there pl h at f (run (past at (wanted n there pl f)) ts (behind there f))
  run at (Clauses n to pl h ∷ ts) f = clause_lines n (record { to = to; place = pl }) h at f (run (past at (all n f)) ts (behind n f))
  run at (Skip n ∷ ts) f = run at ts (behind n f)
  run at (Write m ∷ ts) f = placed_of [] m ∷ run (suc at) ts f

-- a bound on how often tasks are taken up, beside those of the forms that are left
abbrev pub weight : List Task → ℕ
weight [] = 0
weight (Form h ∷ ts) = 1 + weight ts
weight (ClauseTask h to pl ∷ ts) = 1 + weight ts
weight (Part there pl h ∷ ts) = 2 + weight ts
weight (Body n pl h ∷ ts) = 3 * n + 3 + weight ts
weight (AllTask n h ∷ ts) = 2 * n + 2 + weight ts
weight (Operands n there pl h ∷ ts) = 3 * n + 3 + weight ts
weight (Clauses n to pl h ∷ ts) = 2 * n + 2 + weight ts
weight (Skip n ∷ ts) = 1 + weight ts
weight (Write m ∷ ts) = 1 + weight ts

-- tasks in place of a task
module _ (names : List FunctionName) where
  -- those of a part: the next form, or NIL
  abbrev pub part_tasks : (there place : ℕ) → Holding → List Task → List Task
  part_tasks zero pl h ts = Write (act_mark names (act.Push nil) pl h) ∷ ts
  part_tasks (suc n) pl h ts = Form h ∷ ts

  -- those of a body: its first form, a line that forgets the value, and the others as a body
  abbrev pub body_tasks : (n place : ℕ) → Holding → List Task → List Task
  body_tasks zero pl h ts = Write (act_mark names (act.Push nil) pl h) ∷ ts
  body_tasks (suc zero) pl h ts = Form h ∷ ts
  body_tasks (suc (suc n)) pl h ts = Form h ∷ (Write (act_mark names act.Discard pl (one_more h)) ∷ (Body (suc n) pl h ∷ ts))

-- those of forms in turn: the first, and the others with one operand more
abbrev pub all_tasks : ℕ → Holding → List Task → List Task
all_tasks zero h ts = ts
all_tasks (suc n) h ts = Form h ∷ (AllTask n (one_more h) ∷ ts)

-- those of operands: the first, and the others; where none is wanted, the forms that are there are passed over
abbrev pub operand_tasks : (wanted there place : ℕ) → Holding → List Task → List Task
operand_tasks zero there pl h ts = Skip there ∷ ts
operand_tasks (suc n) there pl h ts = Part there pl h ∷ (Operands n (less there) pl (one_more h) ∷ ts)

-- those of clauses: the first, and the others
abbrev pub clause_tasks : (n to place : ℕ) → Holding → List Task → List Task
clause_tasks zero to pl h ts = ts
clause_tasks (suc n) to pl h ts = ClauseTask h to pl ∷ (Clauses n to pl h ∷ ts)

-- a node in its form: where its form stands, what is held before it, where it begins and ends, where its second part begins, how many forms
-- are under it, and where it goes on if it is a clause
pub record Site : Type 0 where
  pub place : ℕ
  pub holding : Holding
  pub at : ℕ
  pub end : ℕ
  pub second : ℕ
  pub forms : ℕ
  pub way : Way

-- what is held after so many operands more
abbrev pub full : ℕ → Site → Holding
full n s = with_more n s.holding

-- one operation of a service
abbrev pub asked : Service → Step → ℕ → Holding → Task
asked s t p h = Write (ask_mark (question.Serve s t) p h)

-- one that goes on at a position where it settles the matter
abbrev pub tried : Service → Step → (to p : ℕ) → Holding → Task
tried s t to p h = Write (test_mark (question.Serve s t) to p h)

-- a try, the clock's reading, and the operation, for a service that ends at this position
abbrev pub tried_tasks : Service → (p end : ℕ) → Holding → List Task → List Task
tried_tasks s p end h ts = tried s step.Try end p h ∷ (asked s step.Clock p h ∷ (asked s step.Main p h ∷ ts))

-- the clock's reading, and then the operation
abbrev pub timed_tasks : Service → ℕ → Holding → List Task → List Task
timed_tasks s p h ts = asked s step.Clock p h ∷ (asked s step.Main p h ∷ ts)

-- a wait to be notified, and then one for the mutex
abbrev pub woken_tasks : Service → (p end : ℕ) → Holding → List Task → List Task
woken_tasks s p end h ts = tried s step.Wake end p h ∷ (asked s step.Regrab p h ∷ ts)

-- the tasks of each service after its operands, which ends at this position
abbrev pub service_tasks : Service → (p end : ℕ) → Holding → List Task → List Task
service_tasks (service.JoinThread default true) p end h ts = tried_tasks (service.JoinThread default true) p end h ts
service_tasks (service.GrabMutex waitp true) p end h ts = tried_tasks (service.GrabMutex waitp true) p end h ts
service_tasks (service.GrabMutex true false) p end h ts =
    tried (service.GrabMutex true false) step.Try end p h ∷ (asked (service.GrabMutex true false) step.Main p h ∷ ts)
service_tasks (service.ConditionWait true) p end h ts =
    tried (service.ConditionWait true) step.Clock (less (less end)) p h
    ∷ (asked (service.ConditionWait true) step.Begin p h ∷ woken_tasks (service.ConditionWait true) p end h ts)
service_tasks (service.ConditionWait false) p end h ts =
    asked (service.ConditionWait false) step.Begin p h ∷ woken_tasks (service.ConditionWait false) p end h ts
service_tasks service.Sleep p end h ts = timed_tasks service.Sleep p h ts
service_tasks (service.ScheduleTimer repeat catch_up) p end h ts = timed_tasks (service.ScheduleTimer repeat catch_up) p h ts
service_tasks s p end h ts = asked s step.Main p h ∷ ts

-- the line that opens a frame
abbrev pub enter : Opening → Site → Holding → Task
enter o s h = Write (mark (i.Enter o s.end) s.place h (held_in o h))

-- what the frame is left by
abbrev pub leave : Opening → Site → Holding → Task
leave o s h = Write (mark i.Leave s.place (one_more (outside o h)) (total (outside o h)))

-- The tasks of a form: those of its kind alone, of its operands, of its body.

-- a question of a form
abbrev pub ask_task : Question → Site → Holding → Task
ask_task q s h = Write (ask_mark q s.place h)

-- so many operands, and a question
abbrev pub asking : ℕ → Question → Site → List Task → List Task
asking n q s ts = Operands n s.forms s.place s.holding ∷ (ask_task q s (full n s) ∷ ts)

-- so many forms as a body in a frame
abbrev pub framed : Opening → (n : ℕ) → Site → Holding → List Task → List Task
framed o n s h ts = enter o s h ∷ (Body n s.place (inside o h) ∷ (leave o s h ∷ ts))

-- a clause goes on with a jump
abbrev pub onward : Site → Task
onward s = Write (mark (i.Jump s.way.to) s.way.place (one_more s.holding) (total s.holding))

-- an `if`: its test, a branch, the first form, a jump to the end, the second form; others are passed over
abbrev pub choosing : Site → List Task → List Task
choosing s ts =
    Part s.forms s.place s.holding
    ∷ (Write (mark (i.Branch s.second) s.place (one_more s.holding) (total s.holding))
    ∷ (Part (less s.forms) s.place s.holding
    ∷ (Write (mark (i.Jump s.end) s.place (one_more s.holding) (total s.holding))
    ∷ (Part (less (less s.forms)) s.place s.holding ∷ (Skip (less (less (less s.forms))) ∷ ts)))))

-- a loop: its test, a line that judges it, the body, a line that forgets its value, and a jump back
abbrev pub looping : Site → List Task → List Task
looping s ts =
    Part s.forms s.place s.holding
    ∷ (Write (mark (i.LoopTest s.end) s.place (one_more s.holding) (total (one_more s.holding)))
    ∷ (Body (less s.forms) s.place s.holding
    ∷ (Write (mark (i.Do act.Discard) s.place (one_more s.holding) (total s.holding))
    ∷ (Write (mark (i.Jump s.at) s.place s.holding (total s.holding)) ∷ ts))))

-- an `unwind-protect`: the line that opens its frame, the form, the line that turns the frame, the cleanup, and the line that leaves it
abbrev pub protecting : Site → List Task → List Task
protecting s ts =
    Write (mark (i.EnterProtect s.second) s.place s.holding (total s.holding))
    ∷ (Part s.forms s.place s.holding
    ∷ (Write (mark i.LeaveProtect s.place (one_more s.holding) (total s.holding))
    ∷ (Body (less s.forms) s.place s.holding
    ∷ (Write (mark i.LeaveCleanup s.place (one_more s.holding) (total s.holding)) ∷ ts))))

-- a `handler-case` after the line that opens its frame
abbrev pub handling : Site → List Task → List Task
handling s ts =
    Part s.forms s.place s.holding
    ∷ (Write (mark (i.LeaveHandler s.end) s.place (one_more s.holding) (total s.holding))
    ∷ (Clauses (less s.forms) s.end s.place s.holding ∷ ts))

-- the operands that are written, and then the others as a body in a frame
abbrev pub deadline_tasks : (seconds replaces : Bool) → Site → List Task → List Task
deadline_tasks true true s ts =
    Part s.forms s.place s.holding
    ∷ (Part (less s.forms) s.place (one_more s.holding)
    ∷ framed (opening.Deadline true true) (less (less s.forms)) s (full 2 s) ts)
deadline_tasks false false s ts = framed (opening.Deadline false false) s.forms s s.holding ts
deadline_tasks a b s ts = Part s.forms s.place s.holding ∷ framed (opening.Deadline a b) (less s.forms) s (full 1 s) ts

module _ (names : List FunctionName) where
  -- an act of a form
  abbrev pub act_task : Act → Site → Holding → Task
  act_task a s h = Write (act_mark names a s.place h)

  -- an act alone
  abbrev pub alone_tasks : Act → Site → List Task → List Task
  alone_tasks a s ts = act_task a s s.holding ∷ (Skip s.forms ∷ ts)

  -- so many operands, and an act
  abbrev pub acting : ℕ → Act → Site → List Task → List Task
  acting n a s ts = Operands n s.forms s.place s.holding ∷ (act_task a s (full n s) ∷ ts)

  -- a body in which a variable is bound, where this is held before; it takes away the values of the other variables
  abbrev pub binding : (x above : ℕ) → Site → Holding → List Task → List Task
  binding x above s h ts =
      act_task (act.BindLocal x above) s h
      ∷ (Body s.forms s.place (bound h) ∷ (act_task act.ForgetLocal s (one_more (without above (bound h))) ∷ ts))

  -- the tasks of a form of this kind
  abbrev pub schedule : CoreKind → Site → List Task → List Task
  schedule (k.Constant v) s ts = alone_tasks (act.Push v) s ts
  schedule k.CurrentThread s ts = alone_tasks act.PushThread s ts
  schedule (k.Function name) s ts = alone_tasks (act.PushFunction name) s ts
  schedule (k.Local x) s ts = alone_tasks (act.ReadLocal x) s ts
  schedule (k.Special v) s ts = ask_task (question.Read v) s s.holding ∷ (Skip s.forms ∷ ts)
  schedule (k.SetLocal x) s ts = acting 1 (act.WriteLocal x) s ts
  schedule (k.SetSpecial v) s ts = asking 1 (question.Write v) s ts
  schedule (k.Defvar v) s ts = Write (test_mark (question.IsBound v) s.end s.place s.holding) ∷ asking 1 (question.Define v) s ts
  schedule (k.Defparameter v) s ts = asking 1 (question.Define v) s ts
  schedule (k.Defun f) s ts = alone_tasks (act.Push (Symbol f)) s ts
  schedule (k.CompareAndSwap v) s ts = asking 2 (question.CompareAndSwap v) s ts
  schedule k.Progn s ts = Body s.forms s.place s.holding ∷ ts
  schedule k.If s ts = choosing s ts
  schedule k.While s ts = looping s ts
  schedule k.Let s ts = AllTask s.forms s.holding ∷ ts
  schedule (k.BindLocal x above) s ts = binding x above s s.holding ts
  schedule (k.BindSpecial v above) s ts = framed (opening.Bind v above) s.forms s s.holding ts
  schedule (k.Call f) s ts = AllTask s.forms s.holding ∷ (act_task (act.Call f s.forms) s (full s.forms s) ∷ ts)
  schedule (k.Apply f) s ts = acting (operands_of f) (act.Apply f) s ts
  schedule (k.Print printing) s ts = asking (printed_of printing) (question.Print printing) s ts
  schedule (k.Serve service) s ts =
      Operands (served_of service) s.forms s.place s.holding ∷ service_tasks service s.place s.end (full (served_of service) s) ts
  schedule (k.Block b) s ts = framed (opening.Block b) s.forms s s.holding ts
  schedule (k.ReturnFrom b) s ts = acting 1 (act.ReturnFrom b) s ts
  schedule k.Catch s ts = Part s.forms s.place s.holding ∷ framed opening.Catch (less s.forms) s (full 1 s) ts
  schedule k.Throw s ts = acting 2 act.Throw s ts
  schedule k.UnwindProtect s ts = protecting s ts
  schedule (k.WithoutInterrupts r) s ts = framed (opening.WithoutInterrupts r) s.forms s s.holding ts
  schedule (k.AllowWithInterrupts r) s ts = framed (opening.AllowWithInterrupts r) s.forms s s.holding ts
  schedule k.WithInterrupts s ts = framed opening.WithInterrupts s.forms s s.holding ts
  schedule k.HandlerCase s ts = handling s ts
  schedule (k.Clause class) s ts = Body s.forms s.place s.holding ∷ (onward s ∷ ts)
  schedule (k.ClauseWith class x) s ts = binding x 0 s (one_more s.holding) (onward s ∷ ts)
  schedule (k.Signal condition) s ts = alone_tasks (act.Signal condition) s ts
  schedule (k.WithDeadline seconds replaces) s ts = deadline_tasks seconds replaces s ts
  schedule k.AbortThread s ts = alone_tasks act.AbortThread s ts
  schedule k.ReturnFromThread s ts = acting 1 act.ReturnFromThread s ts

-- The second part of a form begins there: the second branch of an `if`, and the cleanup of an `unwind-protect`, where these forms are left.
abbrev pub IsSecond : CoreKind → Site → Forms → Type 0
IsSecond k.If s f = s.second ≡ suc (past (suc (past s.at (part s.forms 0 f))) (part (less s.forms) 0 (part_left s.forms f)))
IsSecond k.UnwindProtect s f = s.second ≡ suc (past (suc s.at) (part s.forms 0 f))
IsSecond kind s f = Unit {0}

-- a form of this kind is laid out by its tasks alone; a `handler-case` has a line with clauses before them
abbrev pub IsLight : CoreKind → Type 0
IsLight k.HandlerCase = ⊥
IsLight kind = Unit {0}

-- the clauses that the first n of these forms are, from a position on
abbrev pub starts : ℕ → ℕ → Forms → List Clause
starts zero at f = []
starts (suc n) at NoTrees = []
starts (suc n) at (Tree (k.Clause class) p u b) =
    record { class = class; is_given = false; start = at } ∷ starts n (past at (table (k.Clause class) p (points_of u))) b
starts (suc n) at (Tree (k.ClauseWith class x) p u b) =
    record { class = class; is_given = true; start = at } ∷ starts n (past at (table (k.ClauseWith class x) p (points_of u))) b
starts (suc n) at (Tree kind p u b) = starts n (past at (table kind p (points_of u))) b
