use Rattle.std.proofs.Common.{◌≡◌, ◌≤◌, ◌+◌, min, drop}
use Rattle.form_compiler.specs.inside.Extents.{MOST}
use Rattle.form_compiler.specs.inside.Lengths.{functions_size, program_size}
use Rattle.form_compiler.proofs.lengths.program_lines.Given as goal

-- the lines so far, and those of the functions that are left
abbrev pub invariant-loop-function : goal.invariant-loop-function
invariant-loop-function l = record {
  most : l.lines ≤ MOST;
  all : min (l.lines + functions_size (drop l.function-index l.fn.program.functions)) MOST ≡ min (program_size l.fn.program) MOST;
}
