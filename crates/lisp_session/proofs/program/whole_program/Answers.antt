use Rattle.lisp_program.specs.Program.{program_of}
use Rattle.lisp_session.proofs.Read.{data_read, data_told, text_passed}
use Rattle.lisp_session.proofs.program.whole_program.Goals as goal

pub returns-in_err-data-clause-refused : goal.returns-in_err-data-clause-refused
returns-in_err-data-clause-refused c =
    text_passed c.from_residual.result c.args.bytes.now _ _ _ _ c.in_err-data.field-0.0 c.requires.0 c.requires.1 c.from_residual.ensures.1 c.in_err-data.ensures.refused

pub returns-clause-read : goal.returns-clause-read
returns-clause-read c =
    data_read c.expand.result program_of c.args.bytes.now _ _ _ _ _ c.requires.0 c.requires.1 c.in_ok-data.ensures.read
    (rw c.in_ok-program.ensures at (rw c.as_slice.ensures.value at c.expand.ensures.expanded))

pub returns-clause-refused : goal.returns-clause-refused
returns-clause-refused c =
    data_told c.expand.result c.args.bytes.now _ _ _ _ _ c.requires.0 c.requires.1 c.in_ok-data.ensures.read
    (rw c.in_ok-program.ensures at (rw c.as_slice.ensures.value at c.expand.ensures.refused))
