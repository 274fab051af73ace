-- The tasks of forms with parts that are chosen, repeated, or done in a frame write their lines.
use Rattle.std.proofs.Common.{◌≡◌, ℕ, suc, List, [], ◌∷◌, refl, ap, ◌∙◌}
use Rattle.lisp_base.specs.Forest.{NoTrees, Tree, count_of}
use Rattle.lisp_base.specs.declared.id.FunctionName.{FunctionName}
use Rattle.lisp_program.specs.Forms.{Forms}
use Rattle.lisp_program.specs.declared.form.CoreKind.TheVariants as k
use Rattle.form_points.specs.Operands.{first_of, others_of}
use Rattle.form_points.specs.Points.{Points, Done, Choose, Loop, Enter, Protect, body_of, joined}
use Rattle.form_points.specs.Table.{points_of, table}
use Rattle.form_points.specs.declared.act.Act.TheVariants as act
use Rattle.form_points.specs.declared.act.Opening.{Opening}
use Rattle.lisp_code.specs.Held.{Holding, one_more, rise, total}
use Rattle.lisp_code.specs.Lines.{laid, no_way, past}
use Rattle.lisp_code.specs.declared.instr.Instr.TheVariants as instr
use Rattle.form_compiler.specs.declared.task.Task.{Task}
use Rattle.form_compiler.specs.declared.task.Task.TheVariants as task
use Rattle.form_compiler.specs.inside.Gives.{Ones}
use Rattle.form_compiler.specs.inside.Marks.{mark, placed_of}
use Rattle.form_compiler.specs.inside.Tasks.{IsSecond, Site, beside_of, choosing, framed, less, looping, nil_at, protecting, run}
use Rattle.form_compiler.proofs.Gives.{ones-but_one}
use Rattle.form_compiler.proofs.Joined.{laid-joined, past-joined}
use Rattle.form_compiler.proofs.Scheduled.{entering}
use Rattle.form_compiler.proofs.Taken.{behind-beside, body-beside, body_lines-beside}

module _ (names : List FunctionName) where
  -- a choice, part by part
  chosen : (pl at end second : ℕ) (h : Holding) (t x y : Points) (left b : Forms) (ts : List Task) → left ≡ b → rise h t ≡ one_more h
      → end ≡ past at (joined t (Choose pl x y Done)) → second ≡ suc (past (suc (past at t)) x)
      → laid names no_way h at t (placed_of [] (mark (instr.Branch second) pl (one_more h) (total h))
      ∷ laid names no_way h (suc (past at t)) x (placed_of [] (mark (instr.Jump end) pl (one_more h) (total h))
      ∷ laid names no_way h (suc (past (suc (past at t)) x)) y (run names (past (suc (past (suc (past at t)) x)) y) ts left)))
      ≡ laid names no_way h at (joined t (Choose pl x y Done)) (run names (past at (joined t (Choose pl x y Done))) ts b)
  chosen pl at end second h t x y left b ts same r e s =
      let c : Points = Choose pl x y Done in
      let whole : past at (joined t c) ≡ past (suc (past (suc (past at t)) x)) y = past-joined at t c in
      rw (same, s, e, laid-joined names no_way h at t c, whole, r) refl

  pub if_chosen : (s : Site) (u b : Forms) (ts : List Task) → Ones u → s.forms ≡ count_of u → s.end ≡ past s.at (table k.If s.place (points_of u)) → IsSecond k.If s (beside_of u b)
      → run names s.at (choosing s ts) (beside_of u b)
      ≡ laid names no_way s.holding s.at (table k.If s.place (points_of u)) (run names (past s.at (table k.If s.place (points_of u))) ts b)
  if_chosen s NoTrees b ts o c e q = rw c (chosen s.place s.at s.end s.second s.holding (nil_at s.place) (nil_at s.place) (nil_at s.place) b b ts refl refl e (rw c at q))
  if_chosen s (Tree k1 q1 u1 NoTrees) b ts o c e q =
      rw c (chosen s.place s.at s.end s.second s.holding (table k1 q1 (points_of u1)) (nil_at s.place) (nil_at s.place) b b ts refl (o.0 s.holding) e (rw c at q))
  if_chosen s (Tree k1 q1 u1 (Tree k2 q2 u2 NoTrees)) b ts o c e q =
      rw c (chosen s.place s.at s.end s.second s.holding (table k1 q1 (points_of u1)) (table k2 q2 (points_of u2)) (nil_at s.place) b b ts refl (o.0 s.holding) e (rw c at q))
  if_chosen s (Tree k1 q1 u1 (Tree k2 q2 u2 (Tree k3 q3 u3 more))) b ts o c e q =
      rw c (chosen s.place s.at s.end s.second s.holding (table k1 q1 (points_of u1)) (table k2 q2 (points_of u2)) (table k3 q3 (points_of u3)) _ b ts (behind-beside more b) (o.0 s.holding) e (rw c at q))

  -- a loop
  looped : (pl at end : ℕ) (h : Holding) (t d : Points) (left b : Forms) (ts : List Task) → left ≡ b → end ≡ past at (Loop pl t d Done)
      → laid names no_way h at t (placed_of [] (mark (instr.LoopTest end) pl (one_more h) (total (one_more h)))
      ∷ laid names no_way h (suc (past at t)) d (placed_of [] (mark (instr.Do act.Discard) pl (one_more h) (total h))
      ∷ (placed_of [] (mark (instr.Jump at) pl h (total h)) ∷ run names (suc (suc (past (suc (past at t)) d))) ts left)))
      ≡ laid names no_way h at (Loop pl t d Done) (run names (past at (Loop pl t d Done)) ts b)
  looped pl at end h t d left b ts same e = rw (same, e) refl

  pub while_looped : (s : Site) (u b : Forms) (ts : List Task) → Ones u → s.forms ≡ count_of u → s.end ≡ past s.at (table k.While s.place (points_of u))
      → run names s.at (looping s ts) (beside_of u b)
      ≡ laid names no_way s.holding s.at (table k.While s.place (points_of u)) (run names (past s.at (table k.While s.place (points_of u))) ts b)
  while_looped s NoTrees b ts o c e = rw c (looped s.place s.at s.end s.holding (nil_at s.place) (nil_at s.place) b b ts refl e)
  while_looped s (Tree kind q u more) b ts o c e =
      let h : Holding = s.holding in
      let t : Points = table kind q (points_of u) in
      rw (c, body-beside s.place more b)
      (ap (λ l. laid names no_way h s.at t (placed_of [] (mark (instr.LoopTest s.end) s.place (one_more h) (total (one_more h))) ∷ l))
      (body_lines-beside names s.place more h (suc (past s.at t)) b _ (ones-but_one more o.1))
      ∙ looped s.place s.at s.end h t (body_of s.place (points_of more)) _ b ts (behind-beside more b) e)

  -- a form that is protected, and its cleanup
  guarded_so : (pl at second : ℕ) (h : Holding) (t d : Points) (left b : Forms) (ts : List Task) → left ≡ b → second ≡ suc (past (suc at) t)
      → placed_of [] (mark (instr.EnterProtect second) pl h (total h)) ∷ laid names no_way h (suc at) t (placed_of [] (mark instr.LeaveProtect pl (one_more h) (total h))
      ∷ laid names no_way h (suc (past (suc at) t)) d (placed_of [] (mark instr.LeaveCleanup pl (one_more h) (total h)) ∷ run names (suc (past (suc (past (suc at) t)) d)) ts left))
      ≡ laid names no_way h at (Protect pl t d Done) (run names (past at (Protect pl t d Done)) ts b)
  guarded_so pl at second h t d left b ts same q = rw (same, q) refl

  pub unwind_protected : (s : Site) (u b : Forms) (ts : List Task) → Ones u → s.forms ≡ count_of u → IsSecond k.UnwindProtect s (beside_of u b)
      → run names s.at (protecting s ts) (beside_of u b)
      ≡ laid names no_way s.holding s.at (table k.UnwindProtect s.place (points_of u)) (run names (past s.at (table k.UnwindProtect s.place (points_of u))) ts b)
  unwind_protected s NoTrees b ts o c q = rw c (guarded_so s.place s.at s.second s.holding (nil_at s.place) (nil_at s.place) b b ts refl (rw c at q))
  unwind_protected s (Tree kind p u more) b ts o c q =
      let h : Holding = s.holding in
      let t : Points = table kind p (points_of u) in
      rw (c, body-beside s.place more b)
      (ap (λ l. placed_of [] (mark (instr.EnterProtect s.second) s.place h (total h)) ∷ laid names no_way h (suc s.at) t (placed_of [] (mark instr.LeaveProtect s.place (one_more h) (total h)) ∷ l))
      (body_lines-beside names s.place more h (suc (past (suc s.at) t)) b _ (ones-but_one more o.1))
      ∙ guarded_so s.place s.at s.second h t (body_of s.place (points_of more)) _ b ts (behind-beside more b) (rw c at q))

  -- a frame after an operand
  pub after_one : (o : Opening) (s : Site) (h : Holding) (at : ℕ) (t : Points) (u b : Forms) (ts : List Task) → Ones u → rise h t ≡ one_more h
      → s.end ≡ past at (joined t (Enter o s.place (body_of s.place (points_of u)) Done))
      → laid names no_way h at t (run names (past at t) (framed o (count_of u) s (one_more h) ts) (beside_of u b))
      ≡ laid names no_way h at (joined t (Enter o s.place (body_of s.place (points_of u)) Done)) (run names (past at (joined t (Enter o s.place (body_of s.place (points_of u)) Done))) ts b)
  after_one o s h at t u b ts ones r e =
      let x : Points = Enter o s.place (body_of s.place (points_of u)) Done in
      let end : s.end ≡ past (past at t) x = e ∙ past-joined at t x in
      rw (laid-joined names no_way h at t x, past-joined at t x, r)
      (ap (laid names no_way h at t) (entering names o s u b (one_more h) (past at t) ts (ones-but_one u ones) end))

  pub entered_after : (o : Opening) (s : Site) (h : Holding) (at : ℕ) (u b : Forms) (ts : List Task) → Ones u
      → s.end ≡ past at (joined (first_of s.place (points_of u)) (Enter o s.place (body_of s.place (others_of (points_of u))) Done))
      → run names at (task.Part (count_of u) s.place h ∷ framed o (less (count_of u)) s (one_more h) ts) (beside_of u b)
      ≡ laid names no_way h at (joined (first_of s.place (points_of u)) (Enter o s.place (body_of s.place (others_of (points_of u))) Done))
      (run names (past at (joined (first_of s.place (points_of u)) (Enter o s.place (body_of s.place (others_of (points_of u))) Done))) ts b)
  entered_after o s h at NoTrees b ts ones e = after_one o s h at (nil_at s.place) NoTrees b ts tt refl e
  entered_after o s h at (Tree kind p u more) b ts ones e = after_one o s h at (table kind p (points_of u)) more b ts ones.1 (ones.0 h) e
