use Rattle.std.proofs.Common.{◌≡◌, sym, ◌∙◌, arith, Some, subst, ◌<◌, ap}
use Rattle.lisp_base.specs.Classes.{above}
use Rattle.lisp_base.proofs.Classes.{height, height_from, one_higher}
use Rattle.lisp_base.proofs.condition.Class.+is_within.Goals as goal

pub is_within-requires : goal.is_within-requires
is_within-requires t c =
    let is : above c.args.self ≡ Some c.in-Some.above = sym c.above.ensures ∙ c.in-Some.is in
    let falls : height c.in-Some.above < height c.args.self = omega (arith, one_higher c.args.self, ap height_from is) in
    (subst (λ n. height c.in-Some.above < n) c.decreases falls, tt)
