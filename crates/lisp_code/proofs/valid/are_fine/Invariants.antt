use Rattle.std.proofs.Common.{drop, ◌↔◌}
use Rattle.lisp_code.specs.Validity.{AreFine}
use Rattle.lisp_code.proofs.valid.are_fine.Given as goal

abbrev pub invariant-loop-at : goal.invariant-loop-at
invariant-loop-at l =
    AreFine l.parts l.at (drop l.at l.parts.heights) (drop l.at l.parts.instrs) ↔ AreFine l.parts 0 l.parts.heights l.parts.instrs
