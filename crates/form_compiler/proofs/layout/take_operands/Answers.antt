use Rattle.form_compiler.proofs.Steps.{operands_taken}
use Rattle.form_compiler.proofs.layout.take_operands.Goals as goal

pub returns : goal.returns
returns c nodes at lines inside = operands_taken c.args.names.now nodes c.args.tasks.now _ at lines c.args.wanted c.args.there c.args.place c.args.hold c.in_ok-push_operands.ensures inside
