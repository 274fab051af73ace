-- Where the second part of a form begins.
use Rattle.std.proofs.Common.{◌≡◌, ◌≤◌, ℕ, suc, ◌+◌, arith}
use Rattle.lisp_base.specs.Forest.{NoTrees, Tree, count_of}
use Rattle.lisp_program.specs.Forms.{Forms}
use Rattle.lisp_program.specs.declared.form.CoreKind.{CoreKind}
use Rattle.lisp_program.specs.declared.form.CoreKind.TheVariants as k
use Rattle.form_points.specs.Points.{Choose, Done, Points}
use Rattle.form_points.specs.Table.{points_of, table}
use Rattle.lisp_code.specs.Lines.{past, size}
use Rattle.form_compiler.specs.inside.Seconds.{BeginsAt, branch_lines, protected_lines}
use Rattle.form_compiler.specs.inside.Steps.{most_lines}
use Rattle.form_compiler.specs.inside.Tasks.{IsSecond, Site, beside_of, less, nil_at, part, part_left}
use Rattle.form_compiler.proofs.Sized.{size-joined}
use Rattle.form_compiler.proofs.Steps.{past-size}

-- the parts before the second branch are a part of the form
branch-within : (pl : ℕ) (u b : Forms)
    → size (part (count_of u) 0 (beside_of u b)) + size (part (less (count_of u)) 0 (part_left (count_of u) (beside_of u b))) + 2 ≤ size (table k.If pl (points_of u))
branch-within pl NoTrees b = omega arith
branch-within pl (Tree k1 q1 u1 NoTrees) b =
    omega (arith, size-joined (table k1 q1 (points_of u1)) (Choose pl (nil_at pl) (nil_at pl) Done))
branch-within pl (Tree k1 q1 u1 (Tree k2 q2 u2 NoTrees)) b =
    omega (arith, size-joined (table k1 q1 (points_of u1)) (Choose pl (table k2 q2 (points_of u2)) (nil_at pl) Done))
branch-within pl (Tree k1 q1 u1 (Tree k2 q2 u2 (Tree k3 q3 u3 more))) b =
    omega (arith, size-joined (table k1 q1 (points_of u1)) (Choose pl (table k2 q2 (points_of u2)) (table k3 q3 (points_of u3)) Done))

protected-within : (pl : ℕ) (u b : Forms) → size (part (count_of u) 0 (beside_of u b)) + 2 ≤ size (table k.UnwindProtect pl (points_of u))
protected-within pl NoTrees b = omega arith
protected-within pl (Tree kind q u more) b = omega arith

-- where a form has room, its second part begins there
if-second : (pl : ℕ) (s : Site) (u b : Forms) → s.forms ≡ count_of u → s.at + size (table k.If pl (points_of u)) ≤ most_lines
    → s.second ≡ s.at + branch_lines s.forms (beside_of u b) → IsSecond k.If s (beside_of u b)
if-second pl s u b c room e =
    let f : Forms = beside_of u b in
    let t : Points = part s.forms 0 f in
    let x : Points = part (less s.forms) 0 (part_left s.forms f) in
    let inside : size t + size x + 2 ≤ size (table k.If pl (points_of u)) = rw c (branch-within pl u b) in
    omega (arith, e, room, inside, past-size t s.at, past-size x (suc (past s.at t)))

protected-second : (pl : ℕ) (s : Site) (u b : Forms) → s.forms ≡ count_of u → s.at + size (table k.UnwindProtect pl (points_of u)) ≤ most_lines
    → s.second ≡ s.at + protected_lines s.forms (beside_of u b) → IsSecond k.UnwindProtect s (beside_of u b)
protected-second pl s u b c room e =
    let t : Points = part s.forms 0 (beside_of u b) in
    let inside : size t + 2 ≤ size (table k.UnwindProtect pl (points_of u)) = rw c (protected-within pl u b) in
    omega (arith, e, room, inside, past-size t (suc s.at))

-- so it is for each kind
pub second_known : (kind : CoreKind) (pl : ℕ) (s : Site) (u b : Forms) → s.forms ≡ count_of u → s.at + size (table kind pl (points_of u)) ≤ most_lines
    → BeginsAt kind s.at s.second s.forms (beside_of u b) → IsSecond kind s (beside_of u b)
second_known (k.Constant v) pl s u b c room e = tt
second_known k.CurrentThread pl s u b c room e = tt
second_known (k.Function n) pl s u b c room e = tt
second_known (k.Local x) pl s u b c room e = tt
second_known (k.Special v) pl s u b c room e = tt
second_known (k.SetLocal x) pl s u b c room e = tt
second_known (k.SetSpecial v) pl s u b c room e = tt
second_known (k.Defvar v) pl s u b c room e = tt
second_known (k.Defparameter v) pl s u b c room e = tt
second_known (k.Defun f) pl s u b c room e = tt
second_known (k.CompareAndSwap v) pl s u b c room e = tt
second_known k.Progn pl s u b c room e = tt
second_known k.If pl s u b c room e = if-second pl s u b c room e
second_known k.While pl s u b c room e = tt
second_known k.Let pl s u b c room e = tt
second_known (k.BindLocal x a) pl s u b c room e = tt
second_known (k.BindSpecial v a) pl s u b c room e = tt
second_known (k.Call f) pl s u b c room e = tt
second_known (k.Apply f) pl s u b c room e = tt
second_known (k.Print p) pl s u b c room e = tt
second_known (k.Serve service) pl s u b c room e = tt
second_known (k.Block n) pl s u b c room e = tt
second_known (k.ReturnFrom n) pl s u b c room e = tt
second_known k.Catch pl s u b c room e = tt
second_known k.Throw pl s u b c room e = tt
second_known k.UnwindProtect pl s u b c room e = protected-second pl s u b c room e
second_known (k.WithoutInterrupts r) pl s u b c room e = tt
second_known (k.AllowWithInterrupts r) pl s u b c room e = tt
second_known k.WithInterrupts pl s u b c room e = tt
second_known k.HandlerCase pl s u b c room e = tt
second_known (k.Clause class) pl s u b c room e = tt
second_known (k.ClauseWith class x) pl s u b c room e = tt
second_known (k.Signal class) pl s u b c room e = tt
second_known (k.WithDeadline a t) pl s u b c room e = tt
second_known k.AbortThread pl s u b c room e = tt
second_known k.ReturnFromThread pl s u b c room e = tt
