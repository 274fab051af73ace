use Rattle.std.proofs.Common.{◌≡◌, None, drop, map, take}
use Rattle.plain_program.specs.inside.Nodes.{plain_node, unbuilt_from}
use Rattle.plain_program.proofs.plain.plain_nodes.Given as goal

-- the least place so far, with the forms that are left; where there is none, the nodes so far are those of the forms so far
abbrev pub invariant-loop-node : goal.invariant-loop-node
invariant-loop-node l = record {
  least : unbuilt_from l.found (drop l.node-index l.main) ≡ unbuilt_from None l.main;
  nodes : l.found ≡ None → l.nodes.items ≡ map plain_node (take l.node-index l.main);
}
