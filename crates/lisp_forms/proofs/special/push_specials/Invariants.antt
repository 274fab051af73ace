use Rattle.std.proofs.Common.{drop}
use Rattle.lisp_base.proofs.Writing.{Writes}
use Rattle.lisp_forms.specs.inside.Written.{special_nodes}
use Rattle.lisp_forms.proofs.special.push_specials.Given as goal

-- those so far, with those that are left, are all
abbrev pub invariant-loop-index : goal.invariant-loop-index
invariant-loop-index l =
    Writes l.fn.nodes l.nodes (special_nodes l.specials l.place l.body l.number (drop l.index l.parameters)) (special_nodes l.specials l.place l.body 0 l.parameters)
