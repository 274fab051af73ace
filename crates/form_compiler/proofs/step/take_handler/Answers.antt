use Rattle.std.proofs.Common.{◌+◌, arith, drop, get_or, refl, ap, ◌∙◌}
use Rattle.lisp_program.specs.Forms.{forms_of}
use Rattle.lisp_program.specs.declared.form.FormNode.{FormNode}
use Rattle.form_compiler.proofs.Begun.{Handled, handled}
use Rattle.form_compiler.proofs.Known.{few_under, nothing, same_length}
use Rattle.form_compiler.proofs.Opened.{handler_sited}
use Rattle.form_compiler.proofs.Steps.{extent_here, first_here, first_lines}
use Rattle.form_compiler.proofs.step.take_handler.Goals as goal

pub bounds-extents-at : goal.bounds-extents-at
bounds-extents-at c = omega (arith, same_length _ _ c.requires.known, c.requires.inside)

pub site_of-site-requires-clause-room : goal.site_of-site-requires-clause-room
site_of-site-requires-clause-room c =
    omega (
      arith,
      c.requires.room,
      c.len-start.ensures,
      first_lines _ _ (first_here c.args.nodes.now c.args.extents.now c.args.at nothing c.requires.known c.requires.inside),
    )

pub site_of-site-requires-clause-few : goal.site_of-site-requires-clause-few
site_of-site-requires-clause-few c =
    few_under c.index-nodes-at.result (forms_of (drop (c.args.at + 1) c.args.nodes.now)) _
    (extent_here c.args.nodes.now c.args.extents.now c.args.at _ nothing _ _ c.requires.known c.requires.inside c.index-nodes-at.is refl)

-- what is known of the lines of the form
parts : (c : goal.After-less) → Handled c.args.nodes.now c.args.at c.len-start.result c.lines_of.result (get_or c.args.extents.now c.args.at nothing).forms
parts c =
    handled c.args.nodes.now c.args.at c.len-start.result c.lines_of.result c.index-nodes-at.result c.index-nodes-at.result (get_or c.args.extents.now c.args.at nothing) c.requires.inside c.index-nodes-at.is
    (extent_here c.args.nodes.now c.args.extents.now c.args.at _ nothing _ _ c.requires.known c.requires.inside c.index-nodes-at.is refl) c.requires.ready
    (ap (λ (n : FormNode). n.kind) c.index-nodes-at.is ∙ c.requires.handler _) (rw c.len-start.ensures c.requires.room) c.lines_of.ensures.lines

pub clauses_from-requires-clause-room : goal.clauses_from-requires-clause-room
clauses_from-requires-clause-room c = rw (c.less.ensures, c.next_of-clauses.ensures.forms) (parts c).room

pub returns : goal.returns
returns c names to place =
    handler_sited names c.args.nodes.now c.args.at c.index-nodes-at.result c.index-nodes-at.result (get_or c.args.extents.now c.args.at nothing) c.len-start.result c.lines_of.result to place c.args.hold
    (record { to = 0; place = 0 }) c.args.tasks.now c.push_handling.new.tasks c.args.sheet.now c.open_handler.new.self c.in_ok-row.row.items
    c.requires.inside c.index-nodes-at.is
    (extent_here c.args.nodes.now c.args.extents.now c.args.at _ nothing _ _ c.requires.known c.requires.inside c.index-nodes-at.is refl) c.requires.ready
    (ap (λ (n : FormNode). n.kind) c.index-nodes-at.is ∙ c.requires.handler _) c.len-start.ensures
    (handled c.args.nodes.now c.args.at c.len-start.result c.lines_of.result c.index-nodes-at.result c.index-nodes-at.result (get_or c.args.extents.now c.args.at nothing) c.requires.inside c.index-nodes-at.is
    (extent_here c.args.nodes.now c.args.extents.now c.args.at _ nothing _ _ c.requires.known c.requires.inside c.index-nodes-at.is refl) c.requires.ready
    (ap (λ (n : FormNode). n.kind) c.index-nodes-at.is ∙ c.requires.handler _) (rw c.len-start.ensures c.requires.room) c.lines_of.ensures.lines)
    (rw (c.less.ensures, c.next_of-clauses.ensures.forms) at c.in_ok-row.ensures) (rw (c.height.ensures, c.in_ok-total.ensures) at c.in_ok-open_handler.ensures)
    c.requires.room (rw c.site_of-site.ensures.site at c.in_ok-push_handling.ensures) (rw c.site_of-site.ensures.site at c.site_of-site.ensures.few)
