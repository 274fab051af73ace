use Rattle.std.proofs.Common.{◌∙◌}
use Rattle.lisp_forms.proofs.Cores.{cores-flat}
use Rattle.lisp_forms.proofs.split.split.Goals as goal

pub returns : goal.returns
returns c = λ e h many. (c.in_ok-main.ensures ∙ cores-flat c.args.count e c.args.nodes.now h many, c.in_ok-functions.ensures e h)
