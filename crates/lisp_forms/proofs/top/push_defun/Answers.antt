use Rattle.std.proofs.Common.{◌∷◌, [], ◌∙◌, ap, subst}
use Rattle.lisp_base.specs.Writing.{Wrote}
use Rattle.lisp_base.proofs.Writing.{written_whole}
use Rattle.form_shapes.specs.declared.expanded.Expanded.TheVariants.{Defun}
use Rattle.form_shapes.specs.declared.levels.Level.TheVariants.{Block}
use Rattle.form_shapes.specs.Bindings.{function_body_of}
use Rattle.form_shapes.specs.inside.Contexts.{scope_at, with_opened}
use Rattle.form_shapes.specs.Seats.{parameters_in}
use Rattle.form_shapes.specs.Scopes.{Scope, inside}
use Rattle.lisp_forms.specs.inside.Flat.{node}
use Rattle.lisp_forms.proofs.Lambdas.{within-depth}
use Rattle.lisp_forms.proofs.Parts.{where_ok}
use Rattle.lisp_forms.proofs.Tops.{written_defun}
use Rattle.lisp_forms.proofs.top.push_defun.Goals as goal

pub returns : goal.returns
returns c =
    let s : Scope = scope_at c.args.within.base.now c.args.within.levels.now c.args.within.depth in
    let inner : Scope = with_opened s c.open.new.self in
    written_defun s inner c.args.place c.args.name c.in-Ok-received_within.open.depth c.count-forms.result c.blocked_parts-blocked.result c.args.arguments c.function_body_of-body.result
    c.as_slice-bound.result.now c.in-Ok-finish.written.items c.args.nodes.now c.push_node.new.nodes c.push_specials.new.nodes c.push_blocked.new.nodes
    (c.as_slice-bound.ensures.value ∙ c.in-Ok.ensures ∙ ap parameters_in c.skip.ensures)
    (where_ok c.open.result c.is_err.result c.is_err.ensures.value c.if-is_err.false c.open.ensures s ∙ ap (λ t. inside t (Block c.args.name)) c.in-Ok-received_within.ensures)
    (c.function_body_of-body.ensures.is ∙ ap (function_body_of s.names) c.skip-2.ensures)
    (written_whole _ _ c.in-Ok-finish.written.items _ c.new-written.ensures c.in-Ok-finish.ensures c.push_all.ensures)
    c.count-forms.ensures.is
    (ap (λ (t : Scope). t.depth) c.in-Ok-received_within.ensures ∙ within-depth s c.as_slice-bound.result.now)
    (λ q e same. c.blocked_parts-blocked.ensures q e (c.as_slice.ensures.value ∙ same))
    (subst (λ m. Wrote c.args.nodes.now c.push_node.new.nodes (node (Defun c.args.name c.in-Ok-received_within.open.depth) c.args.place m ∷ [])) c.special_parts-parts.ensures c.push_node.ensures)
    c.push_specials.ensures
    c.push_blocked.ensures
