use Rattle.std.proofs.Common.{◌≡◌, ◌*◌, ◌≤◌, ◌^◌, drop}
use Rattle.lisp_forms.proofs.Skipping.{found_in}
use Rattle.lisp_forms.proofs.blocks.returns_to.Given as goal

-- what is left says whether some form leaves
abbrev pub invariant-loop-node : goal.invariant-loop-node
invariant-loop-node l = record {
  few : l.skipped ≤ l.node-index * 2 ^ 32;
  found : found_in l.number l.skipped (drop l.node-index l.nodes) ≡ found_in l.number 0 l.nodes;
}
