use Rattle.std.proofs.Common.{length, ap, ◌∙◌}
use Rattle.form_compiler.proofs.Lined.{handler_opened}
use Rattle.form_compiler.proofs.sheet.Sheet.open_handler.Goals as goal

pub returns : goal.returns
returns c =
    handler_opened c.self.inside.rows.items c.push.new.self.items c.args.clauses c.self.inside.marks.items c.reserve.new.self.items c.push_reserved.new.self.items
    c.in_ok-row.row c.args.place c.args.height c.args.held c.args.self.now c.self.invariant
    (c.in_ok-row.ensures ∙ ap length c.as_slice.ensures.value) c.in_ok-push.ensures.items c.reserve.ensures.items c.push_reserved.ensures.items c.self.view_is
