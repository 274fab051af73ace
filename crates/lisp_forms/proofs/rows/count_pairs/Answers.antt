use Rattle.std.proofs.Common.{◌∙◌, ap, arith, sym}
use Rattle.lisp_data.specs.Data.{count_of as data_in}
use Rattle.lisp_forms.proofs.Tally.{data_in-with_first, pairs_next}
use Rattle.lisp_forms.proofs.rows.count_pairs.Goals as goal

pub loop-first-preserved : goal.loop-first-preserved
loop-first-preserved c = record {
  few = omega (arith, c.loop-first.invariant.few, c.in-Some.ensures.few, ap data_in c.in-Some.ensures.some, data_in-with_first c.in-Some.first c.in-Some.others, ap data_in c.in-Some-split_first.ensures.some, data_in-with_first c.in-Some-split_first.field-0-0 c.in-Some-split_first.behind);
  all = λ s p. pairs_next s p c.loop-first.pairs c.in-Some.first c.in-Some-split_first.field-0-0 _ c.in-Some.others c.in-Some-split_first.behind _ c.in-Some.ensures.some c.in-Some-split_first.ensures.some (sym c.is_list.ensures ∙ c.if-is_list.false) (c.loop-first.invariant.all s p);
}
