use Rattle.lisp_forms.proofs.Cores.{functions_end}
use Rattle.lisp_forms.proofs.split.functions_of.Goals as goal

pub returns : goal.returns
returns c = λ e h. functions_end c.loop-index.index c.args.nodes.now e _ c.loop-index-test.false c.loop-index.invariant h
