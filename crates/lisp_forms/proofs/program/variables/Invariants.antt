use Rattle.std.proofs.Common.{◌≡◌, [], drop}
use Rattle.lisp_forms.specs.Program.{variables_from}
use Rattle.lisp_forms.proofs.program.variables.Given as goal

-- the variables so far, with the data that are left
abbrev pub invariant-loop-datum : goal.invariant-loop-datum
invariant-loop-datum l = variables_from l.symbols l.known.items (drop l.datum-index l.program) ≡ variables_from l.symbols [] l.program
