-- The tasks of a form write its lines, and then what the other tasks write.
use Rattle.std.proofs.Common.{◌≡◌, ℕ, suc, List, [], ◌∷◌, true, false, Some, None, Option, refl, ap, ◌∙◌}
use Rattle.lisp_base.specs.Forest.{behind, count_of}
use Rattle.lisp_base.specs.declared.id.FunctionName.{FunctionName}
use Rattle.lisp_program.specs.Forms.{Forms}
use Rattle.lisp_program.specs.declared.function.Service.{Service}
use Rattle.lisp_program.specs.declared.function.Service.TheVariants as service
use Rattle.form_points.specs.Operands.{operands, served_of}
use Rattle.form_points.specs.Points.{Points, Done, Do, Ask, Enter, body_of, joined}
use Rattle.form_points.specs.Table.{points_of, service_of}
use Rattle.form_points.specs.declared.act.Act.{Act}
use Rattle.form_points.specs.declared.act.Act.TheVariants as act
use Rattle.form_points.specs.declared.act.Opening.{Opening}
use Rattle.form_points.specs.declared.act.Question.{Question}
use Rattle.lisp_code.specs.Held.{Holding, bound, held_in, inside, one_more, rise, without}
use Rattle.lisp_code.specs.Lines.{act_line, call_line, laid, no_way, past}
use Rattle.lisp_code.specs.Parts.{line_of}
use Rattle.lisp_code.specs.declared.instr.Instr.TheVariants as instr
use Rattle.form_compiler.specs.declared.task.Task.{Task}
use Rattle.form_compiler.specs.declared.task.Task.TheVariants as task
use Rattle.form_compiler.specs.inside.Gives.{AllButOne, Ones, with_more}
use Rattle.form_compiler.specs.inside.Marks.{act_instr, act_mark, ask_mark, call_instr, mark, placed_of}
use Rattle.form_compiler.specs.inside.Tasks.{Site, beside_of, binding, framed, run, service_tasks}
use Rattle.form_compiler.proofs.Gives.{rise-operands}
use Rattle.form_compiler.proofs.Joined.{laid-joined, past-joined}
use Rattle.form_compiler.proofs.Taken.{behind-beside, body-beside, body_lines-beside, wanted-beside, wanted_lines-beside}

-- points, and then others
module _ (names : List FunctionName) where
  pub tail : (h g : Holding) (at : ℕ) (d t : Points) (left b : Forms) (ts : List Task) → left ≡ b → rise h d ≡ g
      → laid names no_way h at d (laid names no_way g (past at d) t (run names (past (past at d) t) ts left))
      ≡ laid names no_way h at (joined d t) (run names (past at (joined d t)) ts b)
  tail h g at d t left b ts same r =
      rw (same, past-joined at d t, laid-joined names no_way h at d t (run names (past (past at d) t) ts b), r) refl

  -- the line of an act is that of its instruction
  pub call_lined : (seat : Option ℕ) (n : ℕ) → line_of [] (call_instr seat n) ≡ call_line seat n
  call_lined None n = refl
  call_lined (Some s) n = refl

  -- operands, and an act after them
  pub acted : (n pl : ℕ) (a : Act) (u b : Forms) (h : Holding) (at : ℕ) (ts : List Task) → Ones u → line_of [] (act_instr names a) ≡ act_line names a
      → run names at (task.Operands n (count_of u) pl h ∷ (task.Write (act_mark names a pl (with_more n h)) ∷ ts)) (beside_of u b)
      ≡ laid names no_way h at (joined (operands n pl (points_of u)) (Do a pl Done)) (run names (past at (joined (operands n pl (points_of u)) (Do a pl Done))) ts b)
  acted n pl a u b h at ts o e =
      let d : Points = operands n pl (points_of u) in
      rw (wanted-beside n pl u b, e) (wanted_lines-beside names n pl u h at b _ o
      ∙ tail h (with_more n h) at d (Do a pl Done) _ b ts (behind-beside u b) (rise-operands n pl u h o))

  -- operands, and a question after them
  pub asked_for : (n pl : ℕ) (q : Question) (u b : Forms) (h : Holding) (at : ℕ) (ts : List Task) → Ones u
      → run names at (task.Operands n (count_of u) pl h ∷ (task.Write (ask_mark q pl (with_more n h)) ∷ ts)) (beside_of u b)
      ≡ laid names no_way h at (joined (operands n pl (points_of u)) (Ask q pl Done)) (run names (past at (joined (operands n pl (points_of u)) (Ask q pl Done))) ts b)
  asked_for n pl q u b h at ts o =
      let d : Points = operands n pl (points_of u) in
      rw (wanted-beside n pl u b) (wanted_lines-beside names n pl u h at b _ o
      ∙ tail h (with_more n h) at d (Ask q pl Done) _ b ts (behind-beside u b) (rise-operands n pl u h o))

  -- an act alone
  pub alone : (a : Act) (pl : ℕ) (u b : Forms) (h : Holding) (at : ℕ) (ts : List Task) → line_of [] (act_instr names a) ≡ act_line names a
      → run names at (task.Write (act_mark names a pl h) ∷ (task.Skip (count_of u) ∷ ts)) (beside_of u b)
      ≡ laid names no_way h at (Do a pl Done) (run names (suc at) ts b)
  alone a pl u b h at ts e = rw (behind-beside u b, e) refl

  -- the operations of a service, at all of which as much is held
  served : (s : Service) (pl at end : ℕ) (g : Holding) (f : Forms) (ts : List Task) → end ≡ past at (service_of s pl)
      → run names at (service_tasks s pl end g ts) f ≡ laid names no_way g at (service_of s pl) (run names (past at (service_of s pl)) ts f)
  served (service.JoinThread default true) pl at end g f ts e = rw e refl
  served (service.JoinThread default false) pl at end g f ts e = refl
  served (service.GrabMutex waitp true) pl at end g f ts e = rw e refl
  served (service.GrabMutex true false) pl at end g f ts e = rw e refl
  served (service.GrabMutex false false) pl at end g f ts e = refl
  served (service.ConditionWait true) pl at end g f ts e = rw e refl
  served (service.ConditionWait false) pl at end g f ts e = rw e refl
  served service.Sleep pl at end g f ts e = refl
  served (service.ScheduleTimer repeat catch_up) pl at end g f ts e = refl
  served (service.MakeThread name arguments) pl at end g f ts e = refl
  served service.InterruptThread pl at end g f ts e = refl
  served service.ThreadAlive pl at end g f ts e = refl
  served (service.MakeMutex name) pl at end g f ts e = refl
  served (service.MakeWaitqueue name) pl at end g f ts e = refl
  served (service.ReleaseMutex rule) pl at end g f ts e = refl
  served service.MutexOwner pl at end g f ts e = refl
  served service.HoldingMutex pl at end g f ts e = refl
  served (service.ConditionNotify count) pl at end g f ts e = refl
  served service.ConditionBroadcast pl at end g f ts e = refl
  served (service.MakeTimer name thread) pl at end g f ts e = refl
  served service.UnscheduleTimer pl at end g f ts e = refl

  -- operands, and the operations of a service after them
  pub serving : (s : Service) (pl end : ℕ) (u b : Forms) (h : Holding) (at : ℕ) (ts : List Task) → Ones u
      → end ≡ past at (joined (operands (served_of s) pl (points_of u)) (service_of s pl))
      → run names at (task.Operands (served_of s) (count_of u) pl h ∷ service_tasks s pl end (with_more (served_of s) h) ts) (beside_of u b)
      ≡ laid names no_way h at (joined (operands (served_of s) pl (points_of u)) (service_of s pl)) (run names (past at (joined (operands (served_of s) pl (points_of u)) (service_of s pl))) ts b)
  serving s pl end u b h at ts o e =
      let n : ℕ = served_of s in
      let d : Points = operands n pl (points_of u) in
      let t : Points = service_of s pl in
      let last : end ≡ past (past at d) t = e ∙ past-joined at d t in
      rw (wanted-beside n pl u b) (wanted_lines-beside names n pl u h at b _ o
      ∙ (ap (laid names no_way h at d) (served s pl (past at d) end (with_more n h) (behind (count_of u) (beside_of u b)) ts last)
      ∙ tail h (with_more n h) at d t _ b ts (behind-beside u b) (rise-operands n pl u h o)))

  -- a body in a frame
  pub entering : (o : Opening) (s : Site) (u b : Forms) (h : Holding) (at : ℕ) (ts : List Task) → AllButOne u → s.end ≡ past at (Enter o s.place (body_of s.place (points_of u)) Done)
      → run names at (framed o (count_of u) s h ts) (beside_of u b)
      ≡ laid names no_way h at (Enter o s.place (body_of s.place (points_of u)) Done) (run names (past at (Enter o s.place (body_of s.place (points_of u)) Done)) ts b)
  entering o s u b h at ts a e =
      rw (body-beside s.place u b, behind-beside u b, e)
      (ap (λ l. placed_of [] (mark (instr.Enter o (suc (past (suc at) (body_of s.place (points_of u))))) s.place h (held_in o h)) ∷ l)
      (body_lines-beside names s.place u (inside o h) (suc at) b _ a))

  -- a body in which a variable is bound
  pub bound_in : (x above : ℕ) (s : Site) (u b : Forms) (h : Holding) (at : ℕ) (ts : List Task) → AllButOne u
      → rise (bound h) (body_of s.place (points_of u)) ≡ one_more (without above (bound h)) → count_of u ≡ s.forms
      → run names at (binding names x above s h ts) (beside_of u b)
      ≡ laid names no_way h at (Do (act.BindLocal x above) s.place (joined (body_of s.place (points_of u)) (Do act.ForgetLocal s.place Done)))
      (run names (past (suc at) (joined (body_of s.place (points_of u)) (Do act.ForgetLocal s.place Done))) ts b)
  bound_in x above s u b h at ts a r c =
      let d : Points = body_of s.place (points_of u) in
      rw (← c, body-beside s.place u b)
      (ap (λ l. placed_of [] (act_mark names (act.BindLocal x above) s.place h) ∷ l)
      (body_lines-beside names s.place u (bound h) (suc at) b _ a
      ∙ tail (bound h) (one_more (without above (bound h))) (suc at) d (Do act.ForgetLocal s.place Done) _ b ts (behind-beside u b) r))
