use Rattle.std.proofs.Common.{ap, sym, ◌∙◌}
use Rattle.lisp_data.specs.Data.{AreItems, data_of}
use Rattle.lisp_data.specs.inside.DataCode.{data_back}
use Rattle.lisp_data.proofs.Beside.{one_item}
use Rattle.lisp_data.proofs.items.Items.of.Goals as goal

pub invariant_of-result : goal.invariant_of-result
invariant_of-result c = one_item _ _ c.nodes.ensures.nodes c.nodes.ensures.one c.nodes.ensures.short

pub returns-clause-same : goal.returns-clause-same
returns-clause-same c = ap data_of c.nodes.ensures.nodes ∙ data_back c.args.datum.now

pub returns-clause-one : goal.returns-clause-one
returns-clause-one c = let items : AreItems c.nodes.result.now 1 = invariant_of-result c in sym items.many

pub returns-clause-short : goal.returns-clause-short
returns-clause-short c = let items : AreItems c.nodes.result.now 1 = invariant_of-result c in rw items.whole c.nodes.ensures.short
