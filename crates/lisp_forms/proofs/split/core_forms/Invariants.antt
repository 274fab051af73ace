use Rattle.std.proofs.Common.{◌≡◌, ◌++◌, ◌+◌, ◌*◌, ◌≤◌, ◌^◌, drop}
use Rattle.lisp_forms.specs.inside.Written.{cores_in}
use Rattle.lisp_forms.proofs.split.core_forms.Given as goal

-- those so far, with those of what is left, are all
abbrev pub invariant-loop-node : goal.invariant-loop-node
invariant-loop-node l = record {
  few : l.skipped ≤ l.node-index * 2 ^ 32;
  few_left : l.left ≤ l.count + l.node-index * 2 ^ 32;
  written : l.forms.items ++ cores_in l.skipped l.left (drop l.node-index l.nodes) ≡ cores_in 0 l.count l.nodes;
}
