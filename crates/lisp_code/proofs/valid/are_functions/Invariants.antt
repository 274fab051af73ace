use Rattle.std.proofs.Common.{All, take}
use Rattle.lisp_code.specs.Validity.{IsFunction}
use Rattle.lisp_code.proofs.valid.are_functions.Given as goal

abbrev pub invariant-loop-function : goal.invariant-loop-function
invariant-loop-function l = All (IsFunction l.parts) (take l.function-index l.functions)
