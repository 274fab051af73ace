use Rattle.std.proofs.Common.{◌≡◌, length}
use Rattle.lisp_forms.specs.inside.Lowering.{closed, frames_of}
use Rattle.lisp_forms.proofs.lowered.Pass.close.Given as goal

-- the same forms are left
abbrev pub invariant-loop-self : goal.invariant-loop-self
invariant-loop-self l = closed (frames_of l.self) ≡ closed (frames_of l.fn.self)

abbrev pub decreases-loop-self : goal.decreases-loop-self
decreases-loop-self l = length l.self.outer.items
