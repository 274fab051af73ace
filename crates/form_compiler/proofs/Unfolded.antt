-- Tasks in place of a task write the same.
use Rattle.std.proofs.Common.{◌≡◌, ◌<◌, ℕ, zero, suc, List, ◌∷◌, refl, sym, arith}
use Rattle.lisp_base.specs.Forest.{NoTrees, Tree, behind}
use Rattle.lisp_base.specs.declared.id.FunctionName.{FunctionName}
use Rattle.lisp_program.specs.Forms.{Forms}
use Rattle.lisp_program.specs.declared.form.CoreKind.{CoreKind}
use Rattle.lisp_program.specs.declared.form.CoreKind.TheVariants as k
use Rattle.form_points.specs.Points.{Do}
use Rattle.form_points.specs.declared.act.Act.TheVariants as act
use Rattle.lisp_code.specs.Held.{Holding}
use Rattle.lisp_code.specs.Lines.{no_way}
use Rattle.form_compiler.specs.declared.task.Task.{Task}
use Rattle.form_compiler.specs.declared.task.Task.TheVariants.{Part, Body, All, Operands, Clauses}
use Rattle.form_compiler.specs.inside.Tasks.{all, all_tasks, body, body_tasks, clause_tasks, first, first_way, less, operand_tasks, others, part, part_left, part_tasks, run, wanted, way_for, weight}
use Rattle.form_compiler.proofs.Joined.{past-joined}

behind-none : (n : ℕ) (f : Forms) → f ≡ NoTrees → behind n f ≡ NoTrees
behind-none zero f e = e
behind-none (suc n) NoTrees e = refl
behind-none (suc n) (Tree k p u b) e = absurd cc

pub behind-others : (n : ℕ) (f : Forms) → behind (suc n) f ≡ behind n (others f)
behind-others n NoTrees = sym (behind-none n NoTrees refl)
behind-others n (Tree k p u b) = refl

behind-less : (there : ℕ) (f : Forms) → behind (less there) (part_left there f) ≡ behind there f
behind-less zero f = refl
behind-less (suc n) f = sym (behind-others n f)

-- a form has no way where there is none
kind-way : (kind : CoreKind) → way_for kind no_way ≡ no_way
kind-way (k.Constant v) = refl
kind-way k.CurrentThread = refl
kind-way (k.Function n) = refl
kind-way (k.Local x) = refl
kind-way (k.Special v) = refl
kind-way (k.SetLocal x) = refl
kind-way (k.SetSpecial v) = refl
kind-way (k.Defvar v) = refl
kind-way (k.Defparameter v) = refl
kind-way (k.Defun f) = refl
kind-way (k.CompareAndSwap v) = refl
kind-way k.Progn = refl
kind-way k.If = refl
kind-way k.While = refl
kind-way k.Let = refl
kind-way (k.BindLocal x a) = refl
kind-way (k.BindSpecial v a) = refl
kind-way (k.Call f) = refl
kind-way (k.Apply f) = refl
kind-way (k.Print p) = refl
kind-way (k.Serve s) = refl
kind-way (k.Block n) = refl
kind-way (k.ReturnFrom n) = refl
kind-way k.Catch = refl
kind-way k.Throw = refl
kind-way k.UnwindProtect = refl
kind-way (k.WithoutInterrupts r) = refl
kind-way (k.AllowWithInterrupts r) = refl
kind-way k.WithInterrupts = refl
kind-way k.HandlerCase = refl
kind-way (k.Clause c) = refl
kind-way (k.ClauseWith c x) = refl
kind-way (k.Signal c) = refl
kind-way (k.WithDeadline a c) = refl
kind-way k.AbortThread = refl
kind-way k.ReturnFromThread = refl

no-way : (f : Forms) → first_way f no_way ≡ no_way
no-way NoTrees = refl
no-way (Tree kind p u b) = kind-way kind

module _ (names : List FunctionName) where
  pub part_unfolded : (at there pl : ℕ) (h : Holding) (ts : List Task) (f : Forms) → run names at (part_tasks names there pl h ts) f ≡ run names at (Part there pl h ∷ ts) f
  part_unfolded at zero pl h ts f = refl
  part_unfolded at (suc n) pl h ts f = rw (no-way f) refl

  pub body_unfolded : (at n pl : ℕ) (h : Holding) (ts : List Task) (f : Forms) → run names at (body_tasks names n pl h ts) f ≡ run names at (Body n pl h ∷ ts) f
  body_unfolded at zero pl h ts f = refl
  body_unfolded at (suc zero) pl h ts f = rw (no-way f, behind-others zero f) refl
  body_unfolded at (suc (suc n)) pl h ts f =
      rw (no-way f, behind-others (suc n) f, past-joined at (first f) (Do act.Discard pl (body (suc n) pl (others f)))) refl

  pub all_unfolded : (at n : ℕ) (h : Holding) (ts : List Task) (f : Forms) → run names at (all_tasks n h ts) f ≡ run names at (All n h ∷ ts) f
  all_unfolded at zero h ts f = refl
  all_unfolded at (suc n) h ts f = rw (no-way f, behind-others n f, past-joined at (first f) (all n (others f))) refl

  pub operands_unfolded : (at n there pl : ℕ) (h : Holding) (ts : List Task) (f : Forms) → run names at (operand_tasks n there pl h ts) f ≡ run names at (Operands n there pl h ∷ ts) f
  operands_unfolded at zero there pl h ts f = refl
  operands_unfolded at (suc n) there pl h ts f =
      rw (← behind-less there f, past-joined at (part there pl f) (wanted n (less there) pl (part_left there f))) refl

  pub clauses_unfolded : (at n to pl : ℕ) (h : Holding) (ts : List Task) (f : Forms) → run names at (clause_tasks n to pl h ts) f ≡ run names at (Clauses n to pl h ∷ ts) f
  clauses_unfolded at zero to pl h ts f = refl
  clauses_unfolded at (suc n) to pl h ts f = rw (behind-others n f, past-joined at (first f) (all n (others f))) refl

  pub part_lighter : (there pl : ℕ) (h : Holding) (ts : List Task) → weight (part_tasks names there pl h ts) < weight (Part there pl h ∷ ts)
  part_lighter zero pl h ts = omega arith
  part_lighter (suc n) pl h ts = omega arith

  pub body_lighter : (n pl : ℕ) (h : Holding) (ts : List Task) → weight (body_tasks names n pl h ts) < weight (Body n pl h ∷ ts)
  body_lighter zero pl h ts = omega arith
  body_lighter (suc zero) pl h ts = omega arith
  body_lighter (suc (suc n)) pl h ts = omega arith

pub all_lighter : (n : ℕ) (h : Holding) (ts : List Task) → weight (all_tasks n h ts) < weight (All n h ∷ ts)
all_lighter zero h ts = omega arith
all_lighter (suc n) h ts = omega arith

pub operands_lighter : (n there pl : ℕ) (h : Holding) (ts : List Task) → weight (operand_tasks n there pl h ts) < weight (Operands n there pl h ∷ ts)
operands_lighter zero there pl h ts = omega arith
operands_lighter (suc n) there pl h ts = omega arith

pub clauses_lighter : (n to pl : ℕ) (h : Holding) (ts : List Task) → weight (clause_tasks n to pl h ts) < weight (Clauses n to pl h ∷ ts)
clauses_lighter zero to pl h ts = omega arith
clauses_lighter (suc n) to pl h ts = omega arith
