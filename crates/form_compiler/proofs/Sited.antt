-- A form is taken up by its site.
use Rattle.std.proofs.Common.{◌≡◌, ◌≤◌, ◌<◌, ◌^◌, ℕ, ◌+◌, List, length, drop, get_or, refl, ap, sym}
use Rattle.lisp_base.specs.Forest.{Tree, behind, count_of, front}
use Rattle.lisp_base.specs.declared.id.FunctionName.{FunctionName}
use Rattle.lisp_program.specs.Forms.{Forms, forms_of}
use Rattle.lisp_program.specs.declared.form.CoreKind.{CoreKind}
use Rattle.lisp_program.specs.declared.form.CoreKind.TheVariants as k
use Rattle.lisp_program.specs.declared.form.FormNode.{FormNode}
use Rattle.form_points.specs.Table.{points_of, table}
use Rattle.lisp_code.specs.Held.{Holding}
use Rattle.lisp_code.specs.Lines.{Placed, Way, size}
use Rattle.form_compiler.specs.declared.extent.Extent.{Extent}
use Rattle.form_compiler.specs.declared.task.Task.{Task}
use Rattle.form_compiler.specs.declared.task.Task.TheVariants as task
use Rattle.form_compiler.specs.inside.Extents.{extent_of}
use Rattle.form_compiler.specs.inside.Seconds.{BeginsAt, clause_of, site, way_by}
use Rattle.form_compiler.specs.inside.Steps.{AreReady, Stepped, most_lines}
use Rattle.form_compiler.specs.inside.Tasks.{IsLight, IsSecond, first, schedule, way_for, weight}
use Rattle.form_compiler.proofs.Known.{node_at}
use Rattle.form_compiler.proofs.Seconds.{second_known}
use Rattle.form_compiler.proofs.Steps.{front-behind, light_taken}

-- a clause goes along its way
by-way : (kind : CoreKind) (way : Way) → way_by (clause_of kind) way ≡ way_for kind way
by-way (k.Constant v) way = refl
by-way k.CurrentThread way = refl
by-way (k.Function n) way = refl
by-way (k.Local x) way = refl
by-way (k.Special v) way = refl
by-way (k.SetLocal x) way = refl
by-way (k.SetSpecial v) way = refl
by-way (k.Defvar v) way = refl
by-way (k.Defparameter v) way = refl
by-way (k.Defun f) way = refl
by-way (k.CompareAndSwap v) way = refl
by-way k.Progn way = refl
by-way k.If way = refl
by-way k.While way = refl
by-way k.Let way = refl
by-way (k.BindLocal x a) way = refl
by-way (k.BindSpecial v a) way = refl
by-way (k.Call f) way = refl
by-way (k.Apply f) way = refl
by-way (k.Print p) way = refl
by-way (k.Serve s) way = refl
by-way (k.Block n) way = refl
by-way (k.ReturnFrom n) way = refl
by-way k.Catch way = refl
by-way k.Throw way = refl
by-way k.UnwindProtect way = refl
by-way (k.WithoutInterrupts r) way = refl
by-way (k.AllowWithInterrupts r) way = refl
by-way k.WithInterrupts way = refl
by-way k.HandlerCase way = refl
by-way (k.Clause c) way = refl
by-way (k.ClauseWith c x) way = refl
by-way (k.Signal c) way = refl
by-way (k.WithDeadline a c) way = refl
by-way k.AbortThread way = refl
by-way k.ReturnFromThread way = refl

module _ (names : List FunctionName) (nodes : List FormNode) (at : ℕ) (d n : FormNode) (e : Extent) (start second : ℕ) (h : Holding) (way : Way) (ts ts' : List Task) (lines : List Placed) where
  second-here : at < length nodes → n ≡ get_or nodes at d → e ≡ extent_of n (forms_of (drop (at + 1) nodes)) → start + size (first (forms_of (drop at nodes))) ≤ most_lines
      → BeginsAt n.kind start second e.forms (forms_of (drop (at + 1) nodes)) → IsSecond n.kind (site n e start second h way) (forms_of (drop (at + 1) nodes))
  second-here inside is is' room b =
      let f : Forms = forms_of (drop (at + 1) nodes) in
      let u : Forms = front n.parts f in
      let whole = front-behind n.parts f in
      let here : forms_of (drop at nodes) ≡ Tree n.kind n.place u (behind n.parts f) = ap forms_of (node_at nodes at d n inside is) in
      let room' : start + size (table n.kind n.place (points_of u)) ≤ most_lines = rw here at room in
      let forms : e.forms ≡ count_of u = ap (λ (x : Extent). x.forms) is' in
      rw whole at (second_known n.kind n.place (site n e start second h way) u (behind n.parts f) forms room' (rw whole b))

  pub clause_sited : at < length nodes → n ≡ get_or nodes at d → e ≡ extent_of n (forms_of (drop (at + 1) nodes)) → AreReady (forms_of (drop at nodes)) → IsLight n.kind
      → start + size (first (forms_of (drop at nodes))) ≤ most_lines → BeginsAt n.kind start second e.forms (forms_of (drop (at + 1) nodes))
      → ts' ≡ schedule names n.kind (site n e start second h way) ts → weight ts' ≤ weight ts + 2 ^ 79 → length lines ≡ start
      → Stepped names nodes (task.Clause h way.to way.place) ts at lines ts' lines (at + 1)
  clause_sited inside is is' ready l room b tasks light long =
      light_taken names nodes at d n e (task.Clause h way.to way.place) way (site n e start second h way) ts ts' lines inside is is' ready l (by-way n.kind way) (sym long) refl refl
      (ap (λ m. m + e.lines) (sym long)) (second-here inside is is' room b) (rw long room) (λ f. rw (by-way n.kind way) refl) tasks light
