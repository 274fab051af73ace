use Rattle.lisp_program.specs.Program.{program_of}
use Rattle.lisp_session.proofs.Read.{unbuilt_passed}
use Rattle.lisp_session.proofs.program.read_into.Goals as goal

pub returns-in_err-forms-clause-refused : goal.returns-in_err-forms-clause-refused
returns-in_err-forms-clause-refused c =
    unbuilt_passed c.from_residual-in_err-forms.result c.args.bytes.now _ (program_of c.in_ok-program.program) c.in_err-forms.field-0.0 c.in_ok-program.ensures.read
    c.from_residual-in_err-forms.ensures.1 c.in_err-forms.ensures.refused
