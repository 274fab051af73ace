use Rattle.std.proofs.Common.{◌-◌, length}
use Rattle.lisp_reader.specs.Tables.{tables_of}
use Rattle.lisp_reader.proofs.Gathers.{Goes}
use Rattle.lisp_reader.proofs.gather.gather.Given as goal

abbrev pub invariant-loop-at : goal.invariant-loop-at
invariant-loop-at l =
    Goes l.text l.at (tables_of l.initial.symbols l.initial.texts) l.gatherer.opens (tables_of l.symbols l.texts) l.gatherer.marks.items

abbrev pub decreases-loop-at : goal.decreases-loop-at
decreases-loop-at l = length l.text - l.at
