use Rattle.std.proofs.Common.{sym}
use Rattle.form_compiler.proofs.Namings.{names_written}
use Rattle.form_compiler.proofs.names.Names.of_program.Goals as goal

pub returns : goal.returns
returns c =
    rw (sym (names_written c.args.program.now c.loop-function.names.items c.loop-function.function-index (rw (sym c.functions-function-items.ensures) c.loop-function-test.false) c.loop-function.invariant), sym c.in_ok-push-2.ensures.items)
    c.of.ensures
