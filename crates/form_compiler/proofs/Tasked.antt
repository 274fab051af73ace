-- The tasks of a form of each kind write its lines, and then what the other tasks write.
use Rattle.std.proofs.Common.{◌≡◌, ℕ, suc, List, [], ◌∷◌, length, Bool, true, false, refl, ap, sym, ◌∙◌}
use Rattle.lisp_base.specs.Forest.{NoTrees, Tree, count_of}
use Rattle.lisp_base.specs.declared.condition.Class.{Class}
use Rattle.lisp_base.specs.declared.id.FunctionName.{FunctionName}
use Rattle.lisp_base.specs.declared.value.Node.TheVariants.{Symbol}
use Rattle.lisp_program.specs.Forms.{Forms}
use Rattle.lisp_program.specs.WellMade.{Clauses, role_of}
use Rattle.lisp_program.specs.declared.form.CoreKind.{CoreKind}
use Rattle.lisp_program.specs.declared.form.CoreKind.TheVariants as k
use Rattle.form_points.specs.Operands.{first_of, operands_of, others_of, printed_of}
use Rattle.form_points.specs.Points.{Points, Done, Do, Enter, Handle, all_of, body_of, joined}
use Rattle.form_points.specs.Table.{points_of, table}
use Rattle.form_points.specs.declared.act.Act.TheVariants as act
use Rattle.form_points.specs.declared.act.Opening.TheVariants as opening
use Rattle.form_points.specs.declared.act.Question.TheVariants as question
use Rattle.lisp_code.specs.Held.{Holding, bound, one_more, rise, total}
use Rattle.lisp_code.specs.Lines.{EntersHandler, Way, clauses_at, laid, no_way, past, placed, seat_of}
use Rattle.lisp_code.specs.declared.instr.Instr.TheVariants as instr
use Rattle.form_compiler.specs.declared.task.Task.{Task}
use Rattle.form_compiler.specs.declared.task.Task.TheVariants as task
use Rattle.form_compiler.specs.inside.Gives.{AreGiving, Ones, seat_under, with_more}
use Rattle.form_compiler.specs.inside.Marks.{mark, placed_of, test_mark}
use Rattle.form_compiler.specs.inside.Tasks.{IsLight, IsSecond, way_for, Site, beside_of, deadline_tasks, handling, nil_at, onward, run, schedule}
use Rattle.form_compiler.proofs.Choices.{entered_after, if_chosen, unwind_protected, while_looped}
use Rattle.form_compiler.proofs.Gives.{bound-but_one, ones, ones-but_one, rise-all, rise-body, rise-bound, values-but_one}
use Rattle.form_compiler.proofs.Joined.{laid-joined, past-joined}
use Rattle.form_compiler.proofs.Scheduled.{acted, alone, asked_for, bound_in, call_lined, entering, serving, tail}
use Rattle.form_compiler.proofs.Taken.{all-beside, all_lines-beside, behind-beside, body-beside, body_lines-beside, clause_lines-beside}

-- how many points there are as forms
length-points : (u : Forms) → length (points_of u) ≡ count_of u
length-points NoTrees = refl
length-points (Tree kind p u more) = ap suc (length-points more)

module _ (names : List FunctionName) where
  -- a `handler-case`: the line that opens its frame, and then its tasks
  handled : (pl at end : ℕ) (h : Holding) (t : Points) (u b : Forms) (ts : List Task) → AreGiving Clauses u → end ≡ past at (Handle pl t (all_of (points_of u)) Done)
      → placed (EntersHandler (clauses_at (suc (past (suc at) t)) (all_of (points_of u)))) pl h (total h)
      ∷ laid names no_way h (suc at) t (placed_of [] (mark (instr.LeaveHandler end) pl (one_more h) (total h))
      ∷ run names (suc (past (suc at) t)) (task.Clauses (count_of u) end pl h ∷ ts) (beside_of u b))
      ≡ laid names no_way h at (Handle pl t (all_of (points_of u)) Done) (run names (past at (Handle pl t (all_of (points_of u)) Done)) ts b)
  handled pl at end h t u b ts c e =
      let way : Way = record { to = end; place = pl } in
      rw (all-beside u b, behind-beside u b, ← e)
      (ap (λ l. placed (EntersHandler (clauses_at (suc (past (suc at) t)) (all_of (points_of u)))) pl h (total h)
      ∷ laid names no_way h (suc at) t (placed_of [] (mark (instr.LeaveHandler end) pl (one_more h) (total h)) ∷ l))
      (clause_lines-beside names u way h (suc (past (suc at) t)) b _ c))

  pub handler_scheduled : (s : Site) (kind : CoreKind) (q : ℕ) (u more b : Forms) (ts : List Task) → AreGiving Clauses more
      → s.forms ≡ suc (count_of more) → s.end ≡ past s.at (table k.HandlerCase s.place (points_of (Tree kind q u more)))
      → placed (EntersHandler (clauses_at (suc (past (suc s.at) (table kind q (points_of u)))) (all_of (points_of more)))) s.place s.holding (total s.holding)
      ∷ run names (suc s.at) (handling s ts) (beside_of (Tree kind q u more) b)
      ≡ laid names no_way s.holding s.at (table k.HandlerCase s.place (points_of (Tree kind q u more)))
      (run names (past s.at (table k.HandlerCase s.place (points_of (Tree kind q u more)))) ts b)
  handler_scheduled s kind q u more b ts c n e = rw n (handled s.place s.at s.end s.holding (table kind q (points_of u)) more b ts c e)

  -- a `with-deadline`
  deadlined : (seconds replaces : Bool) (s : Site) (u b : Forms) (ts : List Task) → Ones u → s.forms ≡ count_of u
      → s.end ≡ past s.at (table (k.WithDeadline seconds replaces) s.place (points_of u))
      → run names s.at (deadline_tasks seconds replaces s ts) (beside_of u b)
      ≡ laid names no_way s.holding s.at (table (k.WithDeadline seconds replaces) s.place (points_of u)) (run names (past s.at (table (k.WithDeadline seconds replaces) s.place (points_of u))) ts b)
  deadlined false false s u b ts o c e = rw c (entering names (opening.Deadline false false) s u b s.holding s.at ts (ones-but_one u o) e)
  deadlined true false s u b ts o c e = rw c (entered_after names (opening.Deadline true false) s s.holding s.at u b ts o e)
  deadlined false true s u b ts o c e = rw c (entered_after names (opening.Deadline false true) s s.holding s.at u b ts o e)
  deadlined true true s NoTrees b ts o c e =
      rw c (ap (laid names no_way s.holding s.at (nil_at s.place)) (entered_after names (opening.Deadline true true) s (one_more s.holding) (suc s.at) NoTrees b ts tt e))
  deadlined true true s (Tree kind q u more) b ts o c e =
      let h : Holding = s.holding in
      let t : Points = table kind q (points_of u) in
      let x : Points = joined (first_of s.place (points_of more)) (Enter (opening.Deadline true true) s.place (body_of s.place (others_of (points_of more))) Done) in
      let end : s.end ≡ past (past s.at t) x = e ∙ past-joined s.at t x in
      rw (c, laid-joined names no_way h s.at t x, past-joined s.at t x, o.0 h)
      (ap (laid names no_way h s.at t) (entered_after names (opening.Deadline true true) s (one_more h) (past s.at t) more b ts o.1 end))

  -- a clause without a variable
  clause_plain : (class : Class) (s : Site) (u b : Forms) (ts : List Task) → Ones u → s.forms ≡ count_of u
      → run names s.at (task.Body s.forms s.place s.holding ∷ (onward s ∷ ts)) (beside_of u b)
      ≡ laid names s.way s.holding s.at (table (k.Clause class) s.place (points_of u)) (run names (past s.at (table (k.Clause class) s.place (points_of u))) ts b)
  clause_plain class s u b ts o c =
      rw (c, body-beside s.place u b, behind-beside u b) (body_lines-beside names s.place u s.holding s.at b _ (ones-but_one u o))

  -- a clause with a variable
  clause_given : (class : Class) (x : ℕ) (s : Site) (u b : Forms) (ts : List Task) → Ones u → s.forms ≡ count_of u
      → run names s.at (schedule names (k.ClauseWith class x) s ts) (beside_of u b)
      ≡ laid names s.way s.holding s.at (table (k.ClauseWith class x) s.place (points_of u)) (run names (past s.at (table (k.ClauseWith class x) s.place (points_of u))) ts b)
  clause_given class x s u b ts o c =
      bound_in names x 0 s u b (one_more s.holding) s.at (onward s ∷ ts) (ones-but_one u o) (rise-body s.place u o (bound (one_more s.holding))) (sym c)

  -- the tasks of a form, and then others, write the lines of the form and what the others write
  pub scheduled : (kind : CoreKind) (way : Way) (s : Site) (u b : Forms) (ts : List Task) → IsLight kind → AreGiving (seat_under (role_of kind)) u → s.way ≡ way_for kind way
      → s.forms ≡ count_of u → s.end ≡ past s.at (table kind s.place (points_of u)) → IsSecond kind s (beside_of u b)
      → run names s.at (schedule names kind s ts) (beside_of u b)
      ≡ laid names s.way s.holding s.at (table kind s.place (points_of u)) (run names (past s.at (table kind s.place (points_of u))) ts b)
  scheduled (k.Constant v) way s u b ts l g w c e q = rw c (alone names (act.Push v) s.place u b s.holding s.at ts refl)
  scheduled k.CurrentThread way s u b ts l g w c e q = rw c (alone names act.PushThread s.place u b s.holding s.at ts refl)
  scheduled (k.Function name) way s u b ts l g w c e q = rw c (alone names (act.PushFunction name) s.place u b s.holding s.at ts refl)
  scheduled (k.Local x) way s u b ts l g w c e q = rw c (alone names (act.ReadLocal x) s.place u b s.holding s.at ts refl)
  scheduled (k.Special v) way s u b ts l g w c e q = rw (c, behind-beside u b) refl
  scheduled (k.SetLocal x) way s u b ts l g w c e q = rw (w, c) (acted names 1 s.place (act.WriteLocal x) u b s.holding s.at ts (ones u g) refl)
  scheduled (k.SetSpecial v) way s u b ts l g w c e q = rw (w, c) (asked_for names 1 s.place (question.Write v) u b s.holding s.at ts (ones u g))
  scheduled (k.Defvar v) way s u b ts l g w c e q =
      rw (c, e) (ap (λ l. placed_of [] (test_mark (question.IsBound v) (past s.at (table (k.Defvar v) s.place (points_of u))) s.place s.holding) ∷ l)
      (asked_for names 1 s.place (question.Define v) u b s.holding (suc s.at) ts (ones u g)))
  scheduled (k.Defparameter v) way s u b ts l g w c e q = rw (w, c) (asked_for names 1 s.place (question.Define v) u b s.holding s.at ts (ones u g))
  scheduled (k.Defun f) way s u b ts l g w c e q = rw c (alone names (act.Push (Symbol f)) s.place u b s.holding s.at ts refl)
  scheduled (k.CompareAndSwap v) way s u b ts l g w c e q = rw (w, c) (asked_for names 2 s.place (question.CompareAndSwap v) u b s.holding s.at ts (ones u g))
  scheduled k.Progn way s u b ts l g w c e q =
      rw (w, c, behind-beside u b, body-beside s.place u b) (body_lines-beside names s.place u s.holding s.at b _ (ones-but_one u (ones u g)))
  scheduled k.If way s u b ts l g w c e q = rw w (if_chosen names s u b ts (ones u g) c e q)
  scheduled k.While way s u b ts l g w c e q = (while_looped names s u b ts (ones u g) c e)
  scheduled k.Let way s u b ts l g w c e q =
      rw (w, c, behind-beside u b, all-beside u b) (all_lines-beside names u s.holding s.at b _ (values-but_one 0 u g))
  scheduled (k.BindLocal x above) way s u b ts l g w c e q =
      rw w (bound_in names x above s u b s.holding s.at ts (bound-but_one above u g) (rise-bound above s.place u g (bound s.holding)) (sym c))
  scheduled (k.BindSpecial v above) way s u b ts l g w c e q =
      rw c (entering names (opening.Bind v above) s u b s.holding s.at ts (bound-but_one above u g) e)
  scheduled (k.Call f) way s u b ts l g w c e q =
      let n : ℕ = count_of u in
      let d : Points = all_of (points_of u) in
      let r : rise s.holding d ≡ with_more n s.holding = rw (← length-points u) (rise-all u s.holding (ones u g)) in
      rw (w, c, length-points u, all-beside u b, call_lined names (seat_of f names) n)
      (all_lines-beside names u s.holding s.at b _ (ones-but_one u (ones u g))
      ∙ tail names s.holding (with_more n s.holding) s.at d (Do (act.Call f n) s.place Done) _ b ts (behind-beside u b) r)
  scheduled (k.Apply f) way s u b ts l g w c e q = rw (w, c) (acted names (operands_of f) s.place (act.Apply f) u b s.holding s.at ts (ones u g) refl)
  scheduled (k.Print printing) way s u b ts l g w c e q = rw (w, c) (asked_for names (printed_of printing) s.place (question.Print printing) u b s.holding s.at ts (ones u g))
  scheduled (k.Serve service) way s u b ts l g w c e q = rw (w, c) (serving names service s.place s.end u b s.holding s.at ts (ones u g) e)
  scheduled (k.Block n) way s u b ts l g w c e q = rw c (entering names (opening.Block n) s u b s.holding s.at ts (ones-but_one u (ones u g)) e)
  scheduled (k.ReturnFrom n) way s u b ts l g w c e q = rw (w, c) (acted names 1 s.place (act.ReturnFrom n) u b s.holding s.at ts (ones u g) refl)
  scheduled k.Catch way s u b ts l g w c e q = rw (w, c) (entered_after names opening.Catch s s.holding s.at u b ts (ones u g) e)
  scheduled k.Throw way s u b ts l g w c e q = rw (w, c) (acted names 2 s.place act.Throw u b s.holding s.at ts (ones u g) refl)
  scheduled k.UnwindProtect way s u b ts l g w c e q = (unwind_protected names s u b ts (ones u g) c q)
  scheduled (k.WithoutInterrupts r) way s u b ts l g w c e q =
      rw c (entering names (opening.WithoutInterrupts r) s u b s.holding s.at ts (ones-but_one u (ones u g)) e)
  scheduled (k.AllowWithInterrupts r) way s u b ts l g w c e q =
      rw c (entering names (opening.AllowWithInterrupts r) s u b s.holding s.at ts (ones-but_one u (ones u g)) e)
  scheduled k.WithInterrupts way s u b ts l g w c e q = rw c (entering names opening.WithInterrupts s u b s.holding s.at ts (ones-but_one u (ones u g)) e)
  scheduled k.HandlerCase way s u b ts l g w c e q = absurd l
  scheduled (k.Clause class) way s u b ts l g w c e q = clause_plain class s u b ts (ones u g) c
  scheduled (k.ClauseWith class x) way s u b ts l g w c e q = clause_given class x s u b ts (ones u g) c
  scheduled (k.Signal condition) way s u b ts l g w c e q = rw c (alone names (act.Signal condition) s.place u b s.holding s.at ts refl)
  scheduled (k.WithDeadline seconds replaces) way s u b ts l g w c e q =
      deadlined seconds replaces s u b ts (ones u g) c e
      ∙ ap (λ (v : Way). laid names v s.holding s.at (table (k.WithDeadline seconds replaces) s.place (points_of u)) (run names (past s.at (table (k.WithDeadline seconds replaces) s.place (points_of u))) ts b)) (sym w)
  scheduled k.AbortThread way s u b ts l g w c e q = rw c (alone names act.AbortThread s.place u b s.holding s.at ts refl)
  scheduled k.ReturnFromThread way s u b ts l g w c e q = rw (w, c) (acted names 1 s.place act.ReturnFromThread u b s.holding s.at ts (ones u g) refl)
