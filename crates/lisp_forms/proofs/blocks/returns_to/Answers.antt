use Rattle.std.proofs.Common.{◌∙◌, sym}
use Rattle.lisp_forms.proofs.Skipping.{found-flat, found_end, found_here}
use Rattle.lisp_forms.proofs.blocks.returns_to.Goals as goal

pub returns-then-leaves_here : goal.returns-then-leaves_here
returns-then-leaves_here c = λ e h.
    found_here c.args.number c.loop-node.skipped c.args.nodes.now c.loop-node.node-index c.node-item.result _ c.loop-node-test.true c.node-item.is
    (sym c.leaves_here.ensures ∙ c.if-leaves_here.true) c.loop-node.invariant.found
    ∙ found-flat c.args.number e c.args.nodes.now h

pub returns : goal.returns
returns c = λ e h.
    found_end c.args.number c.loop-node.skipped c.loop-node.node-index c.args.nodes.now e c.loop-node-test.false c.loop-node.invariant.found h
