use Rattle.std.proofs.Common.{[], ◌∙◌, refl, reverse}
use Rattle.lisp_forms.proofs.Lowering.{lowered_start}
use Rattle.lisp_forms.proofs.Making.{made_flat}
use Rattle.lisp_forms.proofs.lowered.lowered.Goals as goal

pub loop-index-init : goal.loop-index-init
loop-index-init c = λ e is many.
    lowered_start e c.args.count (reverse c.args.gone.items) c.new.result.items _ c.args.nodes.items [] c.new.ensures.items refl is many
    (made_flat e c.as_slice.result.now c.in_ok-made.made.items (c.as_slice.ensures.value ∙ is) c.in_ok-made.ensures)
