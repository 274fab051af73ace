use Rattle.form_compiler.proofs.Steps.{body_taken}
use Rattle.form_compiler.proofs.layout.take_body.Goals as goal

pub returns : goal.returns
returns c nodes at lines inside = body_taken c.args.names.now nodes c.args.tasks.now _ at lines c.args.forms c.args.place c.args.hold c.in_ok-push_body.ensures inside
