use Rattle.plain_program.specs.Program.{PlainProgram}
use Rattle.form_evaluator.specs.inside.Running.{Ran}
use Rattle.form_evaluator.proofs.run.Run.go.Given as goal

abbrev pub invariant-loop-turn : goal.invariant-loop-turn
invariant-loop-turn l = (f : PlainProgram) → Ran l.limit f 0 l.fn.self → Ran l.limit f l._turn l.self
