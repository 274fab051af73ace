use Rattle.std.proofs.Common.{Some, [], drop}
use Rattle.lisp_base.proofs.Writing.{Writes}
use Rattle.form_shapes.specs.inside.Contexts.{scope_at}
use Rattle.lisp_forms.specs.inside.Known.{known_as}
use Rattle.lisp_forms.specs.inside.Flat.{flat}
use Rattle.lisp_forms.specs.Program
use Rattle.lisp_forms.proofs.top.top_forms.Given as goal

-- the forms so far, with those of the data that are left, are all
abbrev pub invariant-loop-datum : goal.invariant-loop-datum
invariant-loop-datum l =
    Writes (Some []) l.nodes (flat (Program.top_forms (scope_at l.within.base.now l.within.levels.now l.within.depth) (known_as l.known) (drop l.datum-index l.program))) (flat (Program.top_forms (scope_at l.within.base.now l.within.levels.now l.within.depth) Program.nothing_known l.program))
