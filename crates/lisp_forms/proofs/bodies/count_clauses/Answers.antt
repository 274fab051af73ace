use Rattle.std.proofs.Common.{ap, arith}
use Rattle.lisp_data.specs.Data.{count_of as data_in}
use Rattle.lisp_forms.proofs.Tally.{clauses_next, data_in-with_first, one_list-few}
use Rattle.lisp_forms.proofs.bodies.count_clauses.Goals as goal

pub loop-first-preserved : goal.loop-first-preserved
loop-first-preserved c = record {
  few = omega (arith, c.loop-first.invariant.few, c.in-Some.ensures.few, c.one_list-count.ensures, ap data_in c.in-Some.ensures.some, data_in-with_first c.in-Some.first c.in-Some.others, one_list-few c.in-Some.first);
  all = λ s p. rw c.one_list-count.ensures (clauses_next s p c.loop-first.count c.in-Some.first _ c.in-Some.others _ c.in-Some.ensures.some (c.loop-first.invariant.all s p));
}
