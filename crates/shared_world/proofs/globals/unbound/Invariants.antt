use Rattle.std.proofs.Common.{◌≡◌, ◌++◌, drop}
use Rattle.world_semantics.specs.World.{unbound_all}
use Rattle.shared_world.proofs.globals.unbound.Given as goal

-- those that are there, with those to come, are all
abbrev pub invariant-loop-at : goal.invariant-loop-at
invariant-loop-at l = l.globals.items ++ unbound_all (drop l.at l.specials) ≡ unbound_all l.specials
