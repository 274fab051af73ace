use Rattle.form_compiler.proofs.Known.{same_length}
use Rattle.form_compiler.proofs.Opened.{body_begins}
use Rattle.form_compiler.proofs.step.lay_out.Goals as goal

pub under-forms-requires-clause-whole : goal.under-forms-requires-clause-whole
under-forms-requires-clause-whole c = same_length _ _ (rw c.deref.ensures.value c.in_ok-extents.ensures)

pub loop-task-init : goal.loop-task-init
loop-task-init c =
    body_begins c.args.names.now c.args.nodes.now c.args.place c.args.hold c.args.last c.under-forms.result c.put.new.self c.args.sheet.now c.requires.giving c.requires.ready c.requires.room
    c.under-forms.ensures (rw c.new-tasks.ensures at c.in_ok-put.ensures)
