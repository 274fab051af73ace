use Rattle.std.proofs.Common.{◌≡◌, ◌++◌, ◌-◌, drop, length, reverse, take}
use Rattle.lisp_base.specs.Forest.{count_of}
use Rattle.lisp_forms.specs.Blocks
use Rattle.lisp_forms.specs.Trees.{Expansion}
use Rattle.lisp_forms.specs.inside.Flat.{flat}
use Rattle.lisp_forms.specs.inside.Lowering.{frames_of, lowered_in}
use Rattle.lisp_forms.proofs.lowered.lowered.Given as goal

-- those so far, with what becomes of those that are left, are all
abbrev pub invariant-loop-index : goal.invariant-loop-index
invariant-loop-index l =
    (e : Expansion) → l.fn.nodes.items ≡ flat e → l.count ≡ count_of e
    → take l.index l.all.items ++ lowered_in (frames_of l.pass) (reverse l.made.items) (drop l.index l.all.items) ≡ flat (Blocks.lowered (reverse l.fn.gone.items) e)

abbrev pub decreases-loop-index : goal.decreases-loop-index
decreases-loop-index l = length l.all.items - l.index
