use Rattle.std.proofs.Common.{◌≡◌, None, drop}
use Rattle.lisp_program.specs.Forms.{forms_of}
use Rattle.form_compiler.specs.Refusals.{least, unbuilt_in}
use Rattle.form_compiler.specs.inside.Unbuilt.{bodies_from}
use Rattle.form_compiler.proofs.unbuilt.unbuilt.Given as goal

abbrev pub invariant-loop-function : goal.invariant-loop-function
invariant-loop-function l =
    bodies_from l.found (drop l.function-index l.fn.program.functions) ≡ bodies_from (least None (unbuilt_in (forms_of l.fn.program.main))) l.fn.program.functions
