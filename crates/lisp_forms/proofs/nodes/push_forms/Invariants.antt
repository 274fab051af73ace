use Rattle.lisp_base.specs.Writing.{Wrote}
use Rattle.form_shapes.specs.declared.expanded.Expanded.TheVariants.{Form}
use Rattle.lisp_forms.specs.inside.Flat.{node, repeated}
use Rattle.lisp_forms.proofs.nodes.push_forms.Given as goal

-- so many are written
abbrev pub invariant-loop-done : goal.invariant-loop-done
invariant-loop-done l = Wrote l.fn.nodes l.nodes (repeated l._done (node (Form l.kind) l.place l.parts))
