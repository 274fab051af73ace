use Rattle.std.proofs.Common.{drop}
use Rattle.lisp_base.proofs.Writing.{Writes}
use Rattle.form_shapes.specs.inside.Contexts.{scope_at}
use Rattle.lisp_forms.specs.inside.Written.{bind_nodes}
use Rattle.lisp_forms.proofs.Binds.{binds_from}
use Rattle.lisp_forms.proofs.lets.push_binds.Given as goal

-- those so far, with those that are left, are all
abbrev pub invariant-loop-index : goal.invariant-loop-index
invariant-loop-index l =
    Writes l.fn.nodes l.nodes (binds_from l.within.base.now.specials.now l.place l.body l.number (drop l.index l.variables)) (bind_nodes (scope_at l.within.base.now l.within.levels.now l.within.depth) l.place l.body l.variables)
