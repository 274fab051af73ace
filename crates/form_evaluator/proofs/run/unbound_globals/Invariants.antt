use Rattle.std.proofs.Common.{◌≡◌, ◌++◌, drop}
use Rattle.world_semantics.specs.World.{unbound_all}
use Rattle.form_evaluator.proofs.run.unbound_globals.Given as goal

abbrev pub invariant-loop-at : goal.invariant-loop-at
invariant-loop-at l = l.globals ++ unbound_all (drop l.at l.specials) ≡ unbound_all l.specials
