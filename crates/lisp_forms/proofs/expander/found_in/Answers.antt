use Rattle.lisp_forms.proofs.Limits.{first_end, places_end}
use Rattle.lisp_forms.proofs.expander.found_in.Goals as goal

pub returns-clause-refusal : goal.returns-clause-refusal
returns-clause-refusal c = λ e h.
    first_end c.loop-node.refusal c.loop-node.node-index c.args.nodes.now e c.loop-node-test.false c.loop-node.invariant.first h

pub returns-clause-functions : goal.returns-clause-functions
returns-clause-functions c = λ e h.
    places_end c.loop-node.functions.items c.loop-node.node-index c.args.nodes.now e c.loop-node-test.false c.loop-node.invariant.places h
