use Rattle.std.proofs.Common.{◌+◌, drop}
use Rattle.lisp_program.specs.Program.{function_of, program_of}
use Rattle.lisp_code.specs.CodeOf.{aborting, stretch_of, stretches_of}
use Rattle.form_compiler.specs.Refusals.{IsRefusalOf}
use Rattle.form_compiler.specs.inside.Programs.{functions_refusal, stretches_from}
use Rattle.form_compiler.proofs.Compiled.{added_next, last_left, left_refused, next_first, others_layable}
use Rattle.form_compiler.proofs.Programs.{next-fits, passed-on}
use Rattle.form_compiler.proofs.compile.add_functions.Goals as goal

pub add_function-requires-clause-room : goal.add_function-requires-clause-room
add_function-requires-clause-room c =
    next-fits (program_of c.args.program.now) (stretch_of (function_of c.function-item.result)) _ _ _
    (next_first c.args.program.now c.loop-function.function-index c.function-item.result c.function-item.result c.loop-function.sheet c.loop-function.functions.items c.loop-function.invariant.all
    (rw c.functions-function-items.ensures at c.loop-function-test.true) (rw c.functions-function-items.ensures at c.function-item.is))
    c.requires.few

pub returns-in_err-code-clause-refused : goal.returns-in_err-code-clause-refused
returns-in_err-code-clause-refused c =
    passed-on c.from_residual.result c.in_err-code.field-0.0 (IsRefusalOf (functions_refusal c.args.names.now (stretches_of (program_of c.args.program.now)))) c.from_residual.ensures.1
    (left_refused (program_of c.args.program.now) c.args.names.now _ c.loop-function.sheet c.loop-function.functions.items c.in_err-code.field-0.0 c.requires.named
    (next_first c.args.program.now c.loop-function.function-index c.function-item.result c.function-item.result c.loop-function.sheet c.loop-function.functions.items c.loop-function.invariant.all
    (rw c.functions-function-items.ensures at c.loop-function-test.true) (rw c.functions-function-items.ensures at c.function-item.is))
    (c.in_err-code.ensures.refused (stretches_from (drop (c.loop-function.function-index + 1) c.args.program.now.functions))))

pub loop-function-preserved : goal.loop-function-preserved
loop-function-preserved c = record {
  all = added_next (program_of c.args.program.now) c.args.names.now (stretch_of (function_of c.function-item.result)) _ c.loop-function.sheet c.add_function.new.sheet
      c.loop-function.functions.items c.add_code.new.functions.items c.in_ok-code.code c.requires.named
      (next_first c.args.program.now c.loop-function.function-index c.function-item.result c.function-item.result c.loop-function.sheet c.loop-function.functions.items c.loop-function.invariant.all
      (rw c.functions-function-items.ensures at c.loop-function-test.true) (rw c.functions-function-items.ensures at c.function-item.is))
      c.in_ok-code.ensures.added c.in_ok-add_code.ensures;
  made = others_layable c.args.program.now.functions c.loop-function.function-index c.function-item.result c.function-item.result c.loop-function.invariant.made
      (rw c.functions-function-items.ensures at c.loop-function-test.true) (rw c.functions-function-items.ensures at c.function-item.is);
}

pub returns-clause-laid : goal.returns-clause-laid
returns-clause-laid c =
    added_next (program_of c.args.program.now) c.args.names.now aborting _ c.loop-function.sheet c.add_aborting.new.sheet c.loop-function.functions.items c.add_code-2.new.functions.items
    c.in_ok-code-2.code c.requires.named
    (last_left c.args.program.now c.loop-function.function-index c.loop-function.sheet c.loop-function.functions.items c.loop-function.invariant.all
    (rw c.functions-function-items.ensures at c.loop-function-test.false))
    c.in_ok-code-2.ensures.added c.in_ok-add_code-2.ensures
