use Rattle.std.proofs.Common.{drop}
use Rattle.form_compiler.specs.inside.Seats.{AreSeats}
use Rattle.form_compiler.proofs.names.Names.of.Given as goal

abbrev pub invariant-loop-seat : goal.invariant-loop-seat
invariant-loop-seat l = AreSeats l.seats l.seat (drop l.seat l.fn.names.items)
