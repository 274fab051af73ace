use Rattle.std.proofs.Common.{◌≡◌, ◌++◌, []}
use Rattle.plain_program.specs.inside.Flatten.{operand_steps}
use Rattle.plain_program.proofs.flatten.push_nils.Given as goal

-- so many are written
abbrev pub invariant-loop-done : goal.invariant-loop-done
invariant-loop-done l = l.steps.items ≡ l.fn.steps.items ++ operand_steps l._done []
