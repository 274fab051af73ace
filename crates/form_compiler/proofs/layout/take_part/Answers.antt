use Rattle.form_compiler.proofs.Steps.{part_taken}
use Rattle.form_compiler.proofs.layout.take_part.Goals as goal

pub returns : goal.returns
returns c nodes at lines inside = part_taken c.args.names.now nodes c.args.tasks.now _ at lines c.args.there c.args.place c.args.hold c.in_ok-push_part.ensures inside
