use Rattle.std.specs.Prelude.{reverse}
use Rattle.std.proofs.Common.{◌≡◌, length}
use Rattle.lisp_reader.specs.Gathering.{settled}
use Rattle.lisp_reader.proofs.opens.Opens.settle.Given as goal

abbrev pub invariant-loop-self : goal.invariant-loop-self
invariant-loop-self l = settled (reverse l.self-inside.items.items) ≡ settled (reverse l.initial.self-inside.items.items)

abbrev pub decreases-loop-self : goal.decreases-loop-self
decreases-loop-self l = length l.self-inside.items.items
