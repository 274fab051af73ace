use Rattle.std.proofs.Common.{◌≡◌, drop}
use Rattle.form_compiler.specs.inside.Unbuilt.{unbuilt_from}
use Rattle.form_compiler.proofs.unbuilt.unbuilt_in.Given as goal

abbrev pub invariant-loop-node : goal.invariant-loop-node
invariant-loop-node l = unbuilt_from l.found (drop l.node-index l.nodes) ≡ unbuilt_from l.fn.before l.nodes
