use Rattle.form_compiler.proofs.Steps.{all_taken}
use Rattle.form_compiler.proofs.layout.take_all.Goals as goal

pub returns : goal.returns
returns c nodes at lines inside = all_taken c.args.names.now nodes c.args.tasks.now _ at lines c.args.forms c.args.hold c.in_ok-push_all.ensures inside
