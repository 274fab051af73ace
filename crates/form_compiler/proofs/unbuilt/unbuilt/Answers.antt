use Rattle.std.proofs.Common.{None, sym}
use Rattle.lisp_program.specs.Forms.{forms_of}
use Rattle.form_compiler.specs.Refusals.{least, unbuilt_in}
use Rattle.form_compiler.proofs.Leasts.{found_in_bodies}
use Rattle.form_compiler.proofs.unbuilt.unbuilt.Goals as goal

pub returns : goal.returns
returns c =
    found_in_bodies c.loop-function.found (least None (unbuilt_in (forms_of c.args.program.now.main))) c.args.program.now.functions
    c.loop-function.function-index (rw (sym c.functions-function-items.ensures) c.loop-function-test.false) c.loop-function.invariant
