use Rattle.lisp_forms.proofs.Skipping.{count_blocked}
use Rattle.lisp_forms.proofs.blocks.blocked_parts.Goals as goal

pub returns-else-returns_to : goal.returns-else-returns_to
returns-else-returns_to c = λ p e h many. count_blocked c.args.number p e c.returns_to.result c.args.count (c.returns_to.ensures e h) c.if-returns_to.false many
