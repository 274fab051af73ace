use Rattle.std.proofs.Common.{◌≡◌, ◌++◌, reverse}
use Rattle.form_compiler.proofs.tasks.Tasks.put.Given as goal

-- the last tasks are put
abbrev pub invariant-loop-task : goal.invariant-loop-task
invariant-loop-task l = l.self ≡ reverse l.yielded ++ l.fn.self
