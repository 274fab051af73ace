use Rattle.form_compiler.proofs.Opened.{clause_fits, form_fits}
use Rattle.form_compiler.proofs.step.step.Goals as goal

pub take_next-requires-clause-room : goal.take_next-requires-clause-room
take_next-requires-clause-room c =
    form_fits c.args.names.now c.args.nodes.now c.args.at c.args.tasks.now c.in-Form.hold c.args.sheet.now (rw c.in-Form.is at c.requires.room)

pub take_next-requires-in-Clause-clause-room : goal.take_next-requires-in-Clause-clause-room
take_next-requires-in-Clause-clause-room c =
    clause_fits c.args.names.now c.args.nodes.now c.args.at c.in-Clause.to c.in-Clause.place c.args.tasks.now c.in-Clause.hold c.args.sheet.now
    (rw c.in-Clause.is at c.requires.room)
