-- The keys of the set, as names: a new one is behind the others.
use Rattle.symbol_table.proofs.Tables.{pushed, pushed_table}
use Rattle.symbol_table.proofs.table.Table.push.Goals as goal

pub returns-clause-added : goal.returns-clause-added
returns-clause-added c = pushed _ _ _ c.self.view_is _ _ c.in_ok-owned.ensures.ok c.in_ok-insert.ensures.keys c.requires.new

pub invariant_of-self-2 : goal.invariant_of-self-2
invariant_of-self-2 c = pushed_table _ _ _ c.self.view_is _ _ c.in_ok-owned.ensures.ok c.in_ok-insert.ensures.keys c.requires.new c.len-number.ensures.table c.requires.room

pub returns-clause-table : goal.returns-clause-table
returns-clause-table c = pushed_table _ _ _ c.self.view_is _ _ c.in_ok-owned.ensures.ok c.in_ok-insert.ensures.keys c.requires.new c.len-number.ensures.table c.requires.room
