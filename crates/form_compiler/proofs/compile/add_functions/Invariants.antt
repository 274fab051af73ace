use Rattle.std.proofs.Common.{drop}
use Rattle.lisp_program.specs.Program.{program_of}
use Rattle.form_compiler.specs.inside.Programs.{BodiesAreLayable, Laying, stretches_from}
use Rattle.form_compiler.proofs.compile.add_functions.Given as goal

-- what is laid out, with the functions that are left, is all
abbrev pub invariant-loop-function : goal.invariant-loop-function
invariant-loop-function l = record {
  all : Laying (program_of l.fn.program) (stretches_from (drop l.function-index l.fn.program.functions)) l.sheet l.functions.items;
  made : BodiesAreLayable (drop l.function-index l.fn.program.functions);
}
