use Rattle.plain_program.proofs.Tables.{one_main, one_table, same_forms}
use Rattle.plain_program.proofs.laws.one_table.Goals as goal

pub returns-clause-points : goal.returns-clause-points
returns-clause-points c = one_table

pub returns-clause-main : goal.returns-clause-main
returns-clause-main c = one_main

pub returns-clause-forms : goal.returns-clause-forms
returns-clause-forms c = same_forms
