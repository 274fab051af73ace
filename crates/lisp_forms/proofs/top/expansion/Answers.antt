use Rattle.std.specs.List.{list_any}
use Rattle.std.proofs.Common.{◌∙◌, ap, reverse, sym}
use Rattle.form_shapes.specs.inside.Contexts.{scope_at}
use Rattle.form_shapes.specs.Scopes.{Scope}
use Rattle.lisp_forms.specs.Blocks.{lowered}
use Rattle.lisp_forms.specs.Program.{nothing_known, top_forms}
use Rattle.lisp_forms.specs.Trees.{Expansion}
use Rattle.lisp_forms.specs.inside.Flat.{flat}
use Rattle.lisp_forms.specs.inside.Made.{is_in_block}
use Rattle.lisp_forms.proofs.Blockless.{lowered-same}
use Rattle.lisp_forms.proofs.Expands.{count-top}
use Rattle.lisp_forms.proofs.top.expansion.Goals as goal

pub returns : goal.returns
returns c =
    let s : Scope = scope_at c.args.within.base.now c.args.within.levels.now c.args.within.depth in
    let e : Expansion = top_forms s nothing_known c.args.program.now in
    c.in_ok-made.ensures e c.in_ok-forms.ensures (c.in_ok-count.ensures ∙ sym (count-top s nothing_known c.args.program.now))
    ∙ ap (λ gone. flat (lowered (reverse gone) e)) c.new.ensures.items

pub returns-then-not-has_block : goal.returns-then-not-has_block
returns-then-not-has_block c =
    let s : Scope = scope_at c.args.within.base.now c.args.within.levels.now c.args.within.depth in
    let e : Expansion = top_forms s nothing_known c.args.program.now in
    c.in_ok-forms.ensures
    ∙ ap flat (sym (lowered-same e (ap (list_any (λ n. is_in_block n.kind)) (sym (c.as_slice.ensures.value ∙ c.in_ok-forms.ensures)) ∙ sym c.has_block.ensures ∙ c.if-not-has_block.true)))
