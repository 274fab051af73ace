use Rattle.std.proofs.Common.{◌≡◌, drop}
use Rattle.form_shapes.specs.Bindings.{are_different}
use Rattle.form_shapes.proofs.bindings.are_different.Given as goal

-- those that are left say whether any is there twice
abbrev pub invariant-loop-index : goal.invariant-loop-index
invariant-loop-index l = are_different l.symbols ≡ are_different (drop l.index l.symbols)
