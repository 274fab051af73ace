use Rattle.std.proofs.Common.{◌≡◌, ◌++◌, None, drop}
use Rattle.lisp_forms.proofs.Limits.{first_in, places_in}
use Rattle.lisp_forms.proofs.expander.found_in.Given as goal

-- the first refusal so far, with the nodes that are left, and the places so far, with those of what is left, are all
abbrev pub invariant-loop-node : goal.invariant-loop-node
invariant-loop-node l = record {
  first : first_in l.refusal (drop l.node-index l.nodes) ≡ first_in None l.nodes;
  places : l.functions.items ++ places_in (drop l.node-index l.nodes) ≡ places_in l.nodes;
}
