-- A `handler-case` is taken up by its site.
use Rattle.std.proofs.Common.{◌≡◌, ◌≤◌, ◌<◌, ◌^◌, ◌*◌, ℕ, zero, suc, ◌+◌, List, [], ◌∷◌, ◌++◌, length, drop, get_or, refl, ap, sym, ◌∙◌, arith, length-append}
use Rattle.lisp_base.specs.Forest.{NoTrees, Tree, count_of}
use Rattle.lisp_base.specs.declared.id.FunctionName.{FunctionName}
use Rattle.lisp_program.specs.Forms.{Forms, forms_of}
use Rattle.lisp_program.specs.WellMade.{Each}
use Rattle.lisp_program.specs.declared.form.CoreKind.TheVariants as k
use Rattle.lisp_program.specs.declared.form.FormNode.{FormNode}
use Rattle.form_points.specs.Points.{Points, body_of}
use Rattle.form_points.specs.Table.{points_of}
use Rattle.lisp_code.specs.Held.{Holding, total}
use Rattle.lisp_code.specs.Lines.{EntersHandler, Placed, Way, laid, no_way, past, placed, size}
use Rattle.lisp_code.specs.declared.instr.Clause.{Clause}
use Rattle.form_compiler.specs.declared.extent.Extent.{Extent}
use Rattle.form_compiler.specs.declared.mark.Mark.{Mark}
use Rattle.form_compiler.specs.declared.task.Task.{Task}
use Rattle.form_compiler.specs.declared.task.Task.TheVariants as task
use Rattle.form_compiler.specs.inside.Extents.{extent_of, under_of}
use Rattle.form_compiler.specs.inside.Gives.{AreGiving}
use Rattle.form_compiler.specs.inside.Marks.{placed_of}
use Rattle.form_compiler.specs.inside.Seconds.{site}
use Rattle.form_compiler.specs.inside.Steps.{AreReady, Going, Stepped, most_lines, to_come}
use Rattle.form_compiler.specs.inside.Tasks.{Site, beside_of, body_lines, first, first_way, handling, less, others, run, starts, weight}
use Rattle.form_compiler.proofs.Begun.{Handled}
use Rattle.form_compiler.proofs.Handlers.{handler_taken}
use Rattle.form_compiler.proofs.Gives.{ones, ones-but_one}
use Rattle.form_compiler.proofs.Known.{count-few, front_all}
use Rattle.form_compiler.proofs.Longs.{laid_long}
use Rattle.form_compiler.proofs.Steps.{past-size}
use Rattle.form_compiler.proofs.Taken.{body_lines-beside}
use Rattle.form_compiler.proofs.Walk.{nodes_in-all}

handling-light : (n w : ℕ) → n < 2 ^ 32 → 2 + (1 + (2 * n + 2 + w)) ≤ w + 2 ^ 79
handling-light n w h = omega (arith, h)

less-small : (n : ℕ) → n < 2 ^ 32 → less n < 2 ^ 32
less-small zero h = h
less-small (suc n) h = omega (arith, h)

-- the first clause begins after the protected form and two lines more
first-clause : (start lines n a : ℕ) → lines ≡ n → a ≡ suc start + n → start + lines + 2 ≡ suc a
first-clause start lines n a l e = omega (arith, l, e)

pub handler_sited : (names : List FunctionName) (nodes : List FormNode) (at : ℕ) (d n : FormNode) (e : Extent) (start protected to place : ℕ) (h : Holding) (way : Way) (ts ts' : List Task) (lines lines' : List Placed) (row : List Clause)
    → at < length nodes → n ≡ get_or nodes at d → e ≡ extent_of n (forms_of (drop (at + 1) nodes)) → AreReady (forms_of (drop at nodes))
    → n.kind ≡ k.HandlerCase → start ≡ length lines → Handled nodes at start protected e.forms
    → row ≡ starts (less e.forms) (start + protected + 2) (others (forms_of (drop (at + 1) nodes)))
    → lines' ≡ lines ++ (placed (EntersHandler row) n.place h (total h) ∷ [])
    → length lines + size (first (forms_of (drop at nodes))) ≤ most_lines → ts' ≡ handling (site n e start 0 h way) ts → e.forms < 2 ^ 32
    → Stepped names nodes (task.Clause h to place) ts at lines ts' lines' (at + 1)
handler_sited names nodes at d n e start protected to place h way ts ts' lines lines' row inside is is' m kind begins parts r new room tasks few =
    let s : Site = site n e start 0 h way in
    let f : Forms = forms_of (drop (at + 1) nodes) in
    let there : start + protected + 2 ≡ suc (past (suc start) (first f)) =
    first-clause start protected (size (first f)) (past (suc start) (first f)) parts.protected (past-size (first f) (suc start)) in
    let r' : row ≡ starts (less e.forms) (suc (past (suc start) (first f))) (others f) = r ∙ ap (λ a. starts (less e.forms) a (others f)) there in
    let light : weight ts' ≤ weight ts + 2 ^ 79 = rw tasks (handling-light (less e.forms) (weight ts) (less-small e.forms few)) in
    handler_taken names nodes at d n e (task.Clause h to place) s ts ts' lines lines' row inside is is' m kind begins refl refl
    (ap (λ a. a + e.lines) begins) r' new room (λ g. refl) tasks light

-- what is still to come of the next form has room
pub form_fits : (names : List FunctionName) (nodes : List FormNode) (at : ℕ) (later : List Task) (h : Holding) (lines : List Placed)
    → length (to_come names nodes at (task.Form h ∷ later) lines) ≤ most_lines → length lines + size (first (forms_of (drop at nodes))) ≤ most_lines
form_fits names nodes at later h lines r =
    let f : Forms = forms_of (drop at nodes) in
    omega (
      arith,
      r,
      length-append lines (run names (length lines) (task.Form h ∷ later) f),
      laid_long (first f) names (first_way f no_way) h (length lines) (run names (past (length lines) (first f)) later (others f)),
    )

pub clause_fits : (names : List FunctionName) (nodes : List FormNode) (at to place : ℕ) (later : List Task) (h : Holding) (lines : List Placed)
    → length (to_come names nodes at (task.Clause h to place ∷ later) lines) ≤ most_lines → length lines + size (first (forms_of (drop at nodes))) ≤ most_lines
clause_fits names nodes at to place later h lines r =
    let f : Forms = forms_of (drop at nodes) in
    omega (
      arith,
      r,
      length-append lines (run names (length lines) (task.Clause h to place ∷ later) f),
      laid_long (first f) names (first_way f (record { to = to; place = place })) h (length lines) (run names (past (length lines) (first f)) later (others f)),
    )

beside-none : (f : Forms) → beside_of f NoTrees ≡ f
beside-none NoTrees = refl
beside-none (Tree kind p u b) = ap (λ g. Tree kind p u g) (beside-none b)

-- all of these nodes' forms are counted
forms-counted : (nodes : List FormNode) (e : Extent) → e ≡ under_of 0 (length nodes) (forms_of nodes) → e.forms ≡ count_of (forms_of nodes)
forms-counted nodes e is =
    let few : count_of (forms_of nodes) ≤ length nodes = omega (arith, count-few (forms_of nodes), nodes_in-all nodes) in
    ap (λ (x : Extent). x.forms) is ∙ ap count_of (front_all (length nodes) (forms_of nodes) few)

-- the task of a body, and a line after it, are its lines
pub body_begins : (names : List FunctionName) (nodes : List FormNode) (place : ℕ) (h : Holding) (last : Mark) (e : Extent) (ts : List Task) (lines : List Placed)
    → AreGiving Each (forms_of nodes) → AreReady (forms_of nodes) → length lines + size (body_of place (points_of (forms_of nodes))) < most_lines
    → e ≡ under_of 0 (length nodes) (forms_of nodes) → ts ≡ task.Body e.forms place h ∷ (task.Write last ∷ [])
    → Going names nodes 0 ts lines (lines ++ laid names no_way h (length lines) (body_of place (points_of (forms_of nodes))) (placed_of [] last ∷ []))
body_begins names nodes place h last e ts lines giving ready room is tasks =
    let f : Forms = forms_of nodes in
    let c : Points = body_of place (points_of f) in
    let end : List Placed = placed_of [] last ∷ [] in
    let counted : e.forms ≡ count_of f = forms-counted nodes e is in
    let written : body_lines names (count_of f) place h (length lines) f end ≡ laid names no_way h (length lines) c end =
    ap (λ g. body_lines names (count_of f) place h (length lines) g end) (sym (beside-none f))
    ∙ body_lines-beside names place f h (length lines) NoTrees end (ones-but_one f (ones f giving)) in
    let begun : run names (length lines) ts f ≡ laid names no_way h (length lines) c end =
    ap (λ x. run names (length lines) x f) tasks ∙ ap (λ n. body_lines names n place h (length lines) f end) counted ∙ written in
    record {
      inside = omega arith;
      all = ap (λ r. lines ++ r) begun;
      few = omega (arith, room, length-append lines (laid names no_way h (length lines) c end), laid_long c names no_way h (length lines) end);
      ready = ready;
    }
