use Rattle.std.proofs.Common.{◌≡◌, map, take}
use Rattle.lisp_program.specs.Program.{FlatFunction}
use Rattle.form_compiler.proofs.names.Names.of_program.Given as goal

-- the names so far are those of the functions so far
abbrev pub invariant-loop-function : goal.invariant-loop-function
invariant-loop-function l = l.names.items ≡ map (λ (f : FlatFunction). f.name) (take l.function-index l.fn.program.functions)
