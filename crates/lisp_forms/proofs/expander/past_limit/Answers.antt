use Rattle.std.proofs.Common.{arith}
use Rattle.lisp_forms.proofs.Limits.{within_limit}
use Rattle.lisp_forms.proofs.expander.past_limit.Goals as goal

pub returns-then-places-le-MOST_FUNCTIONS : goal.returns-then-places-le-MOST_FUNCTIONS
returns-then-places-le-MOST_FUNCTIONS c = within_limit c.args.places.now (omega arith)
