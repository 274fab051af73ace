use Rattle.lisp_base.proofs.Classes.{height}
use Rattle.lisp_base.proofs.condition.Class.+is_within.Given as goal

-- the call on the class above has fewer classes above it
abbrev pub decreases-is_within : goal.decreases-is_within
decreases-is_within l = height l.self
