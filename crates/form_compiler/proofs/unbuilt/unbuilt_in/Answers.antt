use Rattle.form_compiler.proofs.Leasts.{found_in}
use Rattle.form_compiler.proofs.unbuilt.unbuilt_in.Goals as goal

pub returns : goal.returns
returns c = found_in c.loop-node.found c.args.before c.args.nodes.now c.loop-node.node-index c.loop-node-test.false c.loop-node.invariant
