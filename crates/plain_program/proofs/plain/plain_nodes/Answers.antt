use Rattle.std.proofs.Common.{◌∙◌, sym}
use Rattle.plain_program.proofs.Flatly.{nodes_written, unbuilt_written}
use Rattle.plain_program.proofs.plain.plain_nodes.Goals as goal

pub returns-in-Some-found-clause-unbuilt : goal.returns-in-Some-found-clause-unbuilt
returns-in-Some-found-clause-unbuilt c =
    sym (unbuilt_written c.loop-node.found c.args.main.now c.loop-node.node-index c.loop-node-test.false c.loop-node.invariant.least) ∙ c.in-Some-found.is

pub returns-in-None-found-clause-plain : goal.returns-in-None-found-clause-plain
returns-in-None-found-clause-plain c = (
  sym (unbuilt_written c.loop-node.found c.args.main.now c.loop-node.node-index c.loop-node-test.false c.loop-node.invariant.least) ∙ c.in-None-found.is,
  nodes_written c.loop-node.nodes.items c.args.main.now c.loop-node.node-index c.loop-node-test.false (c.loop-node.invariant.nodes c.in-None-found.is),
)
