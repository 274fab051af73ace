use Rattle.std.proofs.Common.{refl, arith}
use Rattle.std.proofs.lemmas.Bool.Decides.{nat_tests}
use Rattle.form_shapes.proofs.Odd.{pair_role-odd}
use Rattle.form_shapes.proofs.keywords.pair_role.Goals as goal

pub returns-then-index-eq1 : goal.returns-then-index-eq1
returns-then-index-eq1 c = rw (pair_role-odd c.args.index) (rw c.if-index-eq1.true refl)

pub returns-else-index-eq1 : goal.returns-else-index-eq1
returns-else-index-eq1 c = rw (pair_role-odd c.args.index) (grind (arith, nat_tests, c.if-index-eq1.false))
