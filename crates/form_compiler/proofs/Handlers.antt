-- A `handler-case` is taken up.
use Rattle.std.proofs.Common.{◌≡◌, ◌≤◌, ◌<◌, ◌^◌, ℕ, suc, ◌+◌, min, List, [], ◌∷◌, ◌++◌, true, false, length, drop, get_or, refl, ap, sym, subst, ◌∙◌, arith, append_assoc, length-append}
use Rattle.lisp_base.specs.Forest.{NoTrees, Tree, behind, count_of, front}
use Rattle.lisp_base.specs.declared.id.FunctionName.{FunctionName}
use Rattle.lisp_program.specs.Forms.{Forms, forms_of}
use Rattle.lisp_program.specs.WellMade.{Clauses, Guarded, Gives, Binds, Handles, Role, Stand, role_of, standing}
use Rattle.lisp_program.specs.declared.form.CoreKind.{CoreKind}
use Rattle.lisp_program.specs.declared.form.CoreKind.TheVariants as k
use Rattle.lisp_program.specs.declared.form.FormNode.{FormNode}
use Rattle.form_points.specs.Points.{Points, all_of}
use Rattle.form_points.specs.Table.{points_of, table}
use Rattle.lisp_code.specs.Held.{total}
use Rattle.lisp_code.specs.Lines.{EntersHandler, Placed, clauses_at, laid, no_way, past, placed, size}
use Rattle.lisp_code.specs.declared.instr.Clause.{Clause}
use Rattle.form_compiler.specs.declared.extent.Extent.{Extent}
use Rattle.form_compiler.specs.declared.task.Task.{Task}
use Rattle.form_compiler.specs.inside.Extents.{MOST, extent_of}
use Rattle.form_compiler.specs.inside.Gives.{AreGiving}
use Rattle.form_compiler.specs.inside.Steps.{AreReady, Stepped, most_lines}
use Rattle.form_compiler.specs.inside.Tasks.{Site, beside_of, first, handling, less, others, run, starts, weight}
use Rattle.form_compiler.proofs.Known.{node_at}
use Rattle.form_compiler.proofs.Steps.{form_stepped, front-behind, past-size}
use Rattle.form_compiler.proofs.Tasked.{handler_scheduled}

-- the clauses of forms that are clauses begin where their lines do
clause-start : (kind : CoreKind) (q at : ℕ) (u more b : Forms) → Stand (standing Clauses (role_of kind)) (λ s. Unit {0}) (λ s. AreGiving s more)
    → ((at' : ℕ) → starts (count_of more) at' (beside_of more b) ≡ clauses_at at' (all_of (points_of more)))
    → starts (suc (count_of more)) at (Tree kind q u (beside_of more b)) ≡ clauses_at at (all_of (points_of (Tree kind q u more)))
clause-start (k.Constant v) q at u more b g later = absurd g
clause-start k.CurrentThread q at u more b g later = absurd g
clause-start (k.Function n) q at u more b g later = absurd g
clause-start (k.Local x) q at u more b g later = absurd g
clause-start (k.Special v) q at u more b g later = absurd g
clause-start (k.SetLocal x) q at u more b g later = absurd g
clause-start (k.SetSpecial v) q at u more b g later = absurd g
clause-start (k.Defvar v) q at u more b g later = absurd g
clause-start (k.Defparameter v) q at u more b g later = absurd g
clause-start (k.Defun f) q at u more b g later = absurd g
clause-start (k.CompareAndSwap v) q at u more b g later = absurd g
clause-start k.Progn q at u more b g later = absurd g
clause-start k.If q at u more b g later = absurd g
clause-start k.While q at u more b g later = absurd g
clause-start k.Let q at u more b g later = absurd g
clause-start (k.BindLocal x a) q at u more b g later = absurd g
clause-start (k.BindSpecial v a) q at u more b g later = absurd g
clause-start (k.Call f) q at u more b g later = absurd g
clause-start (k.Apply f) q at u more b g later = absurd g
clause-start (k.Print p) q at u more b g later = absurd g
clause-start (k.Serve s) q at u more b g later = absurd g
clause-start (k.Block n) q at u more b g later = absurd g
clause-start (k.ReturnFrom n) q at u more b g later = absurd g
clause-start k.Catch q at u more b g later = absurd g
clause-start k.Throw q at u more b g later = absurd g
clause-start k.UnwindProtect q at u more b g later = absurd g
clause-start (k.WithoutInterrupts r) q at u more b g later = absurd g
clause-start (k.AllowWithInterrupts r) q at u more b g later = absurd g
clause-start k.WithInterrupts q at u more b g later = absurd g
clause-start k.HandlerCase q at u more b g later = absurd g
clause-start (k.Clause c) q at u more b g later = ap (λ l. record { class = c; is_given = false; start = at } ∷ l) (later _)
clause-start (k.ClauseWith c x) q at u more b g later = ap (λ l. record { class = c; is_given = true; start = at } ∷ l) (later _)
clause-start (k.Signal c) q at u more b g later = absurd g
clause-start (k.WithDeadline a c) q at u more b g later = absurd g
clause-start k.AbortThread q at u more b g later = absurd g
clause-start k.ReturnFromThread q at u more b g later = absurd g

step-clauses : (role : Role) (b : Forms) → Stand (standing Clauses role) (λ s. Unit {0}) (λ s. AreGiving s b) → AreGiving Clauses b
step-clauses (Gives under) b s = absurd s
step-clauses (Binds above) b s = absurd s
step-clauses Handles b s = s.1

pub starts-beside : (u b : Forms) (at : ℕ) → AreGiving Clauses u → starts (count_of u) at (beside_of u b) ≡ clauses_at at (all_of (points_of u))
starts-beside NoTrees b at g = refl
starts-beside (Tree kind q u more) b at g = clause-start kind q at u more b g.1 (λ at'. starts-beside more b at' (step-clauses (role_of kind) more g.1))

step-guarded : (role : Role) (b : Forms) → Stand (standing Guarded role) (λ s. Unit {0}) (λ s. AreGiving s b) → AreGiving Clauses b
step-guarded (Gives under) b s = s.1
step-guarded (Binds above) b s = absurd s
step-guarded Handles b s = absurd s

module _ (names : List FunctionName) where
  -- the line that opens the frame, and the tasks after it
  pub handler_written : (s : Site) (u b : Forms) (ts : List Task) (row : List Clause) → AreGiving Guarded u → s.forms ≡ count_of u
      → s.end ≡ past s.at (table k.HandlerCase s.place (points_of u))
      → row ≡ starts (less s.forms) (suc (past (suc s.at) (first (beside_of u b)))) (others (beside_of u b))
      → placed (EntersHandler row) s.place s.holding (total s.holding) ∷ run names (suc s.at) (handling s ts) (beside_of u b)
      ≡ laid names no_way s.holding s.at (table k.HandlerCase s.place (points_of u)) (run names (past s.at (table k.HandlerCase s.place (points_of u))) ts b)
  handler_written s NoTrees b ts row g c e r = absurd g
  handler_written s (Tree kind q u more) b ts row g c e r =
      let clauses : AreGiving Clauses more = step-guarded (role_of kind) more g.1 in
      let start : ℕ = suc (past (suc s.at) (table kind q (points_of u))) in
      let row' : row ≡ clauses_at start (all_of (points_of more)) =
      r ∙ ap (λ m. starts (less m) start (beside_of more b)) c ∙ starts-beside more b start clauses in
      ap (λ l. placed (EntersHandler l) s.place s.holding (total s.holding) ∷ run names (suc s.at) (handling s ts) (beside_of (Tree kind q u more) b)) row'
      ∙ handler_scheduled names s kind q u more b ts clauses c e

-- a list with one more, and what comes after it
after-one : {A : Type 0} (xs ys : List A) (x : A) → (xs ++ (x ∷ [])) ++ ys ≡ xs ++ (x ∷ ys)
after-one xs ys x = append_assoc xs (x ∷ []) ys

one-longer : {A : Type 0} (xs : List A) (x : A) → length (xs ++ (x ∷ [])) ≡ suc (length xs)
one-longer xs x = omega (arith, length-append xs (x ∷ []))

-- a `handler-case` is taken up, where the line that opens its frame is written
pub handler_taken : (names : List FunctionName) (nodes : List FormNode) (at : ℕ) (d n : FormNode) (e : Extent) (t : Task) (s : Site) (ts ts' : List Task) (lines lines' : List Placed) (row : List Clause)
    → at < length nodes → n ≡ get_or nodes at d → e ≡ extent_of n (forms_of (drop (at + 1) nodes)) → AreReady (forms_of (drop at nodes))
    → n.kind ≡ k.HandlerCase → s.at ≡ length lines → s.place ≡ n.place → s.forms ≡ e.forms → s.end ≡ length lines + e.lines
    → row ≡ starts (less s.forms) (suc (past (suc s.at) (first (forms_of (drop (at + 1) nodes))))) (others (forms_of (drop (at + 1) nodes)))
    → lines' ≡ lines ++ (placed (EntersHandler row) s.place s.holding (total s.holding) ∷ [])
    → length lines + size (first (forms_of (drop at nodes))) ≤ most_lines
    → ((f : Forms) → run names (length lines) (t ∷ ts) (Tree k.HandlerCase n.place (front n.parts (forms_of (drop (at + 1) nodes))) f)
    ≡ laid names no_way s.holding (length lines) (table k.HandlerCase n.place (points_of (front n.parts (forms_of (drop (at + 1) nodes))))) (run names (past (length lines) (table k.HandlerCase n.place (points_of (front n.parts (forms_of (drop (at + 1) nodes)))))) ts f))
    → ts' ≡ handling s ts → weight ts' ≤ weight ts + 2 ^ 79 → Stepped names nodes t ts at lines ts' lines' (at + 1)
handler_taken names nodes at d n e t s ts ts' lines lines' row h is is' m kind at' pl forms end r new room same tasks light =
    let f : Forms = forms_of (drop (at + 1) nodes) in
    let u : Forms = front n.parts f in
    let b : Forms = behind n.parts f in
    let us : List Points = points_of u in
    let c : Points = table n.kind n.place us in
    let whole : beside_of u b ≡ f = front-behind n.parts f in
    let here : forms_of (drop at nodes) ≡ Tree n.kind n.place u b = ap forms_of (node_at nodes at d n h is) in
    let ready : AreReady (Tree n.kind n.place u b) = subst AreReady here m in
    let ready' : AreReady (Tree k.HandlerCase n.place u b) = rw kind at ready in
    let counted : e.lines ≡ min (size c) MOST = rw is' refl in
    let small : length lines + size c ≤ most_lines = rw here at room in
    let lines-of : e.lines ≡ size c = omega (arith, counted, small) in
    let ends : s.end ≡ past s.at c = omega (arith, end, at', lines-of, past-size c s.at) in
    let end' : s.end ≡ past s.at (table k.HandlerCase n.place us) = ends ∙ ap (λ x. past s.at (table x n.place us)) kind in
    let forms' : s.forms ≡ count_of u = forms ∙ ap (λ (x : Extent). x.forms) is' in
    let r' : row ≡ starts (less s.forms) (suc (past (suc s.at) (first (beside_of u b)))) (others (beside_of u b)) = rw whole r in
    let opener : Placed = placed (EntersHandler row) s.place s.holding (total s.holding) in
    let written : opener ∷ run names (suc s.at) (handling s ts) (beside_of u b)
    ≡ laid names no_way s.holding s.at (table k.HandlerCase s.place us) (run names (past s.at (table k.HandlerCase s.place us)) ts b) =
    handler_written names s u b ts row ready'.0 forms' (rw pl end') r' in
    let moved : laid names no_way s.holding s.at (table k.HandlerCase s.place us) (run names (past s.at (table k.HandlerCase s.place us)) ts b)
    ≡ laid names no_way s.holding (length lines) (table k.HandlerCase n.place us) (run names (past (length lines) (table k.HandlerCase n.place us)) ts b) =
    ap (λ a. laid names no_way s.holding a (table k.HandlerCase s.place us) (run names (past a (table k.HandlerCase s.place us)) ts b)) at'
    ∙ ap (λ q. laid names no_way s.holding (length lines) (table k.HandlerCase q us) (run names (past (length lines) (table k.HandlerCase q us)) ts b)) pl in
    let longer : length lines' ≡ suc s.at = ap length new ∙ one-longer lines opener ∙ ap suc (sym at') in
    let begun : lines' ++ run names (length lines') ts' (beside_of u b) ≡ lines ++ (opener ∷ run names (suc s.at) (handling s ts) (beside_of u b)) =
    ap (λ a. lines' ++ run names a ts' (beside_of u b)) longer ∙ ap (λ x. lines' ++ run names (suc s.at) x (beside_of u b)) tasks
    ∙ ap (λ l. l ++ run names (suc s.at) (handling s ts) (beside_of u b)) new ∙ after-one lines _ opener in
    form_stepped names nodes at d n t ts ts' lines lines' h is m
    (begun ∙ ap (λ r. lines ++ r) (written ∙ moved ∙ sym (same b) ∙ ap (λ x. run names (length lines) (t ∷ ts) (Tree x n.place u b)) (sym kind))) light
