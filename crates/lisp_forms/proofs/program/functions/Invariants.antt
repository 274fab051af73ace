use Rattle.std.proofs.Common.{◌≡◌, [], drop}
use Rattle.lisp_forms.specs.Program.{functions_from}
use Rattle.lisp_forms.proofs.program.functions.Given as goal

-- the functions so far, with the data that are left
abbrev pub invariant-loop-datum : goal.invariant-loop-datum
invariant-loop-datum l = functions_from l.symbols l.known.items (drop l.datum-index l.program) ≡ functions_from l.symbols [] l.program
