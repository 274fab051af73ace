-- The set's answers, as facts about the names.
use Rattle.symbol_table.proofs.Tables.{absent, found}
use Rattle.symbol_table.proofs.table.Table.number.Goals as goal

pub returns-in_err-index-clause-unknown : goal.returns-in_err-index-clause-unknown
returns-in_err-index-clause-unknown c = rw c.from_residual.ensures (absent _ _ _ c.self.view_is c.in_err-index.ensures.found)

pub returns-clause-known : goal.returns-clause-known
returns-clause-known c = found _ _ _ c.self.view_is _ c.in_ok-index.ensures.index
