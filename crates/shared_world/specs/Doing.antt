-- What a call does that does an operation on the shared objects.
use Rattle.std.specs.Prelude.{◌≡◌}
use Rattle.lisp_base.specs.declared.id.Actor.{Actor}
use Rattle.world_semantics.specs.Effect.{Answers, Waits as WaitsFor, effect_of}
use Rattle.world_semantics.specs.World.{World}
use Rattle.world_semantics.specs.declared.op.Op.{Op}
use Rattle.shared_world.specs.declared.world.Outcome.{Outcome}
use Rattle.shared_world.specs.declared.world.Outcome.TheVariants.{Done, Memory, Waits}

-- the operation is done, with this reply; or it waits, and nothing changes; or memory ran out, and nothing changes
abbrev pub Did : Op → Actor → (old : World) → Outcome → (new : World) → Type 0
Did op by old (Done reply) new = effect_of op by old ≡ Answers reply new
Did op by old Waits new = (effect_of op by old ≡ WaitsFor) × (new ≡ old)
Did op by old Memory new = new ≡ old
