use Rattle.std.proofs.Common.{◌≡◌, ◌==◌, ◌||◌, drop}
use Rattle.std.specs.List.{list_any}
use Rattle.form_shapes.proofs.levels.holds.Given as goal

-- what was found, with what is left, is all
abbrev pub invariant-loop-key : goal.invariant-loop-key
invariant-loop-key l = (l.any || list_any (λ k. k == l.sought) (drop l.key-index l.keys)) ≡ list_any (λ k. k == l.sought) l.keys
