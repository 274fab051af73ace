use Rattle.std.proofs.Common.{◌-◌, length}
use Rattle.lisp_reader.proofs.Literals.{Goes}
use Rattle.lisp_reader.proofs.scan.scan_literal.Given as goal

abbrev pub invariant-loop-next : goal.invariant-loop-next
invariant-loop-next l = Goes l.text l.at l.next l.escaped l.characters.items

abbrev pub decreases-loop-next : goal.decreases-loop-next
decreases-loop-next l = length l.text - l.next
