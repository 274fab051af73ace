use Rattle.std.proofs.Common.{◌+◌, arith, drop, refl, sym, subst}
use Rattle.lisp_program.specs.Forms.{forms_of}
use Rattle.form_compiler.proofs.Known.{few_under, nothing, same_length}
use Rattle.form_compiler.proofs.Sited.{clause_sited}
use Rattle.form_compiler.proofs.Steps.{extent_here, first_here, first_lines}
use Rattle.lisp_program.specs.declared.form.FormNode.{FormNode}
use Rattle.form_compiler.specs.inside.Tasks.{IsLight}
use Rattle.form_compiler.proofs.layout.take_light.Goals as goal

pub bounds-extents-at : goal.bounds-extents-at
bounds-extents-at c = omega (arith, same_length _ _ c.requires.known, c.requires.inside)

pub site_of-site-requires-clause-room : goal.site_of-site-requires-clause-room
site_of-site-requires-clause-room c =
    omega (arith, c.requires.room, first_lines _ _ (first_here c.args.nodes.now c.args.extents.now c.args.at nothing c.requires.known c.requires.inside))

pub site_of-site-requires-clause-few : goal.site_of-site-requires-clause-few
site_of-site-requires-clause-few c =
    few_under c.index-nodes-at.result (forms_of (drop (c.args.at + 1) c.args.nodes.now)) _
    (extent_here c.args.nodes.now c.args.extents.now c.args.at _ nothing _ _ c.requires.known c.requires.inside c.index-nodes-at.is refl)

pub returns : goal.returns
returns c lines l =
    clause_sited c.args.names.now c.args.nodes.now c.args.at _ c.index-nodes-at.result _ c.args.start c.second_of-second.result c.args.hold (record { to = c.args.way.to; place = c.args.way.place }) _ _ lines
    c.requires.inside c.index-nodes-at.is
    (extent_here c.args.nodes.now c.args.extents.now c.args.at _ nothing _ _ c.requires.known c.requires.inside c.index-nodes-at.is refl) c.requires.ready
    (subst (λ (n : FormNode). IsLight n.kind) (sym c.index-nodes-at.is) (c.requires.light _)) c.requires.room
    c.second_of-second.ensures (rw c.site_of-site.ensures.site at c.in_ok-push_schedule.ensures.tasks) c.in_ok-push_schedule.ensures.light l
