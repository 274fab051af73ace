-- What the tasks of a form take is what stands under it, and their lines are those of its points.
use Rattle.std.proofs.Common.{◌≡◌, ℕ, zero, suc, List, [], ◌∷◌, refl, ap, sym}
use Rattle.lisp_base.specs.Forest.{NoTrees, Tree, behind, count_of}
use Rattle.lisp_base.specs.declared.id.FunctionName.{FunctionName}
use Rattle.lisp_program.specs.Forms.{Forms}
use Rattle.lisp_program.specs.WellMade.{Clauses, Role, Gives, Binds, Handles, Stand, role_of, standing}
use Rattle.lisp_program.specs.declared.form.CoreKind.{CoreKind}
use Rattle.lisp_program.specs.declared.form.CoreKind.TheVariants as k
use Rattle.form_points.specs.Operands.{operands}
use Rattle.form_points.specs.Points.{Points, Done, Do, Ask, Test, Choose, Loop, Turn, Enter, Protect, Handle, When, all_of, body_of, joined}
use Rattle.form_points.specs.Table.{points_of, table}
use Rattle.form_points.specs.declared.act.Act.TheVariants as act
use Rattle.lisp_code.specs.Held.{Holding, one_more, rise}
use Rattle.lisp_code.specs.Lines.{Placed, Way, laid, no_way, past}
use Rattle.form_compiler.specs.inside.Gives.{AllButOne, AreGiving, GivesAs, IsClause, Ones}
use Rattle.form_compiler.specs.inside.Marks.{act_mark, placed_of}
use Rattle.form_compiler.specs.inside.Tasks.{all, all_lines, beside_of, body, body_lines, clause_lines, nil_at, way_for, wanted, wanted_lines}
use Rattle.form_compiler.proofs.Joined.{laid-joined}

pub behind-beside : (u b : Forms) → behind (count_of u) (beside_of u b) ≡ b
behind-beside NoTrees b = refl
behind-beside (Tree k q u more) b = behind-beside more b

pub body-beside : (pl : ℕ) (u b : Forms) → body (count_of u) pl (beside_of u b) ≡ body_of pl (points_of u)
body-beside pl NoTrees b = refl
body-beside pl (Tree k q u NoTrees) b = refl
body-beside pl (Tree k q u (Tree k' q' u' more)) b =
    ap (λ c. joined (table k q (points_of u)) (Do act.Discard pl c)) (body-beside pl (Tree k' q' u' more) b)

pub all-beside : (u b : Forms) → all (count_of u) (beside_of u b) ≡ all_of (points_of u)
all-beside NoTrees b = refl
all-beside (Tree k q u more) b = ap (joined (table k q (points_of u))) (all-beside more b)

pub wanted-beside : (n pl : ℕ) (u b : Forms) → wanted n (count_of u) pl (beside_of u b) ≡ operands n pl (points_of u)
wanted-beside zero pl u b = refl
wanted-beside (suc n) pl NoTrees b = ap (joined (nil_at pl)) (wanted-beside n pl NoTrees b)
wanted-beside (suc n) pl (Tree k q u more) b = ap (joined (table k q (points_of u))) (wanted-beside n pl more b)

-- after a clause as much is held as before
clause-rise : (f : Points) (h : Holding) → IsClause f → rise h f ≡ h
clause-rise Done h c = absurd c
clause-rise (Do a p f) h c = absurd c
clause-rise (Ask q p f) h c = absurd c
clause-rise (Test q p more f) h c = absurd c
clause-rise (Choose p x y f) h c = absurd c
clause-rise (Loop p x y f) h c = absurd c
clause-rise (Turn p x y f) h c = absurd c
clause-rise (Enter o p x f) h c = absurd c
clause-rise (Protect p x y f) h c = absurd c
clause-rise (Handle p x y f) h c = absurd c
clause-rise (When class g x Done) h c = refl
clause-rise (When class g x (Do a p f)) h c = absurd c
clause-rise (When class g x (Ask q p f)) h c = absurd c
clause-rise (When class g x (Test q p more f)) h c = absurd c
clause-rise (When class g x (Choose p y z f)) h c = absurd c
clause-rise (When class g x (Loop p y z f)) h c = absurd c
clause-rise (When class g x (Turn p y z f)) h c = absurd c
clause-rise (When class g x (Enter o p y f)) h c = absurd c
clause-rise (When class g x (Protect p y z f)) h c = absurd c
clause-rise (When class g x (Handle p y z f)) h c = absurd c
clause-rise (When class g x (When class' g' y f)) h c = absurd c

-- what stands among clauses is a clause
clause-step : (role : Role) (f : Points) (b : Forms) → GivesAs role f → Stand (standing Clauses role) (λ s. Unit {0}) (λ s. AreGiving s b) → IsClause f × AreGiving Clauses b
clause-step (Gives under) f b g s = absurd s
clause-step (Binds above) f b g s = absurd s
clause-step Handles f b g s = (g, s.1)

-- so it goes along its way
pub clause-way : (kind : CoreKind) (way : Way) (b : Forms) → Stand (standing Clauses (role_of kind)) (λ s. Unit {0}) (λ s. AreGiving s b) → way_for kind way ≡ way
clause-way (k.Constant v) way b g = absurd g
clause-way k.CurrentThread way b g = absurd g
clause-way (k.Function n) way b g = absurd g
clause-way (k.Local x) way b g = absurd g
clause-way (k.Special v) way b g = absurd g
clause-way (k.SetLocal x) way b g = absurd g
clause-way (k.SetSpecial v) way b g = absurd g
clause-way (k.Defvar v) way b g = absurd g
clause-way (k.Defparameter v) way b g = absurd g
clause-way (k.Defun f) way b g = absurd g
clause-way (k.CompareAndSwap v) way b g = absurd g
clause-way k.Progn way b g = absurd g
clause-way k.If way b g = absurd g
clause-way k.While way b g = absurd g
clause-way k.Let way b g = absurd g
clause-way (k.BindLocal x a) way b g = absurd g
clause-way (k.BindSpecial v a) way b g = absurd g
clause-way (k.Call f) way b g = absurd g
clause-way (k.Apply f) way b g = absurd g
clause-way (k.Print p) way b g = absurd g
clause-way (k.Serve s) way b g = absurd g
clause-way (k.Block n) way b g = absurd g
clause-way (k.ReturnFrom n) way b g = absurd g
clause-way k.Catch way b g = absurd g
clause-way k.Throw way b g = absurd g
clause-way k.UnwindProtect way b g = absurd g
clause-way (k.WithoutInterrupts r) way b g = absurd g
clause-way (k.AllowWithInterrupts r) way b g = absurd g
clause-way k.WithInterrupts way b g = absurd g
clause-way k.HandlerCase way b g = absurd g
clause-way (k.Clause c) way b g = refl
clause-way (k.ClauseWith c x) way b g = refl
clause-way (k.Signal c) way b g = absurd g
clause-way (k.WithDeadline a c) way b g = absurd g
clause-way k.AbortThread way b g = absurd g
clause-way k.ReturnFromThread way b g = absurd g

-- the lines of a body, of forms in turn and of operands, where each gives one value
module _ (names : List FunctionName) where
  pub body_lines-beside : (pl : ℕ) (u : Forms) (h : Holding) (at : ℕ) (b : Forms) (next : List Placed) → AllButOne u
      → body_lines names (count_of u) pl h at (beside_of u b) next ≡ laid names no_way h at (body_of pl (points_of u)) next
  body_lines-beside pl NoTrees h at b next o = refl
  body_lines-beside pl (Tree k q u NoTrees) h at b next o = refl
  body_lines-beside pl (Tree k q u (Tree k' q' u' more)) h at b next o =
      let f : Points = table k q (points_of u) in
      let later : Points = body_of pl (points_of (Tree k' q' u' more)) in
      rw (laid-joined names no_way h at f (Do act.Discard pl later) next, o.0 h)
      (ap (λ l. laid names no_way h at f (placed_of [] (act_mark names act.Discard pl (one_more h)) ∷ l))
      (body_lines-beside pl (Tree k' q' u' more) h (suc (past at f)) b next o.1))

  pub all_lines-beside : (u : Forms) (h : Holding) (at : ℕ) (b : Forms) (next : List Placed) → AllButOne u
      → all_lines names (count_of u) h at (beside_of u b) next ≡ laid names no_way h at (all_of (points_of u)) next
  all_lines-beside NoTrees h at b next o = refl
  all_lines-beside (Tree k q u NoTrees) h at b next o = sym (laid-joined names no_way h at (table k q (points_of u)) Done next)
  all_lines-beside (Tree k q u (Tree k' q' u' more)) h at b next o =
      let f : Points = table k q (points_of u) in
      let later : Points = all_of (points_of (Tree k' q' u' more)) in
      rw (laid-joined names no_way h at f later next, o.0 h)
      (ap (laid names no_way h at f) (all_lines-beside (Tree k' q' u' more) (one_more h) (past at f) b next o.1))

  pub wanted_lines-beside : (n pl : ℕ) (u : Forms) (h : Holding) (at : ℕ) (b : Forms) (next : List Placed) → Ones u
      → wanted_lines names n (count_of u) pl h at (beside_of u b) next ≡ laid names no_way h at (operands n pl (points_of u)) next
  wanted_lines-beside zero pl u h at b next o = refl
  wanted_lines-beside (suc n) pl NoTrees h at b next o =
      ap (laid names no_way h at (nil_at pl)) (wanted_lines-beside n pl NoTrees (one_more h) (suc at) b next o)
  wanted_lines-beside (suc n) pl (Tree k q u more) h at b next o =
      let f : Points = table k q (points_of u) in
      rw (laid-joined names no_way h at f (operands n pl (points_of more)) next, o.0 h)
      (ap (laid names no_way h at f) (wanted_lines-beside n pl more (one_more h) (past at f) b next o.1))

  -- the lines of clauses, after each of which as much is held as before
  pub clause_lines-beside : (u : Forms) (way : Way) (h : Holding) (at : ℕ) (b : Forms) (next : List Placed) → AreGiving Clauses u
      → clause_lines names (count_of u) way h at (beside_of u b) next ≡ laid names way h at (all_of (points_of u)) next
  clause_lines-beside NoTrees way h at b next g = refl
  clause_lines-beside (Tree kind q u more) way h at b next g =
      let f : Points = table kind q (points_of u) in
      let both = clause-step (role_of kind) f more g.0 g.1 in
      rw (laid-joined names way h at f (all_of (points_of more)) next, clause-rise f h both.0, clause-way kind way more g.1)
      (ap (laid names way h at f) (clause_lines-beside more way h (past at f) b next both.1))
