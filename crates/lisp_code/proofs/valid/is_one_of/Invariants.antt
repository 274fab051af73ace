use Rattle.std.proofs.Common.{drop, ◌↔◌}
use Rattle.lisp_program.specs.WellMade.{IsOneOf}
use Rattle.lisp_code.proofs.valid.is_one_of.Given as goal

abbrev pub invariant-loop-other : goal.invariant-loop-other
invariant-loop-other l = IsOneOf l.symbol (drop l.other-index l.symbols) ↔ IsOneOf l.symbol l.symbols
