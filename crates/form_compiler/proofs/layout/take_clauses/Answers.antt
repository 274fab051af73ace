use Rattle.form_compiler.proofs.Steps.{clauses_taken}
use Rattle.form_compiler.proofs.layout.take_clauses.Goals as goal

pub returns : goal.returns
returns c nodes at lines inside = clauses_taken c.args.names.now nodes c.args.tasks.now _ at lines c.args.forms c.args.to c.args.place c.args.hold c.in_ok-push_clauses.ensures inside
