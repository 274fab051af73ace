-- What an operation does to the shared objects.
use Rattle.std.specs.Prelude.{ℕ, List, Option, Some, None, slice_get, slice_set, is_some}
use Rattle.lisp_base.specs.declared.id.Actor.{Actor}
use Rattle.lisp_base.specs.declared.id.Actor.TheVariants.{Thread, Runner}
use Rattle.lisp_base.specs.declared.value.Node.{Node}
use Rattle.world_semantics.specs.declared.op.Op.{Op}
use Rattle.world_semantics.specs.declared.op.Op.TheVariants.{Get, Set, Boundp, Out, Finish}
use Rattle.world_semantics.specs.declared.op.Reply.{Reply}
use Rattle.world_semantics.specs.declared.op.Reply.TheVariants.{Okay, Value, Unbound, Truth}
use Rattle.world_semantics.specs.declared.phase.Ending.{Ending}
use Rattle.world_semantics.specs.declared.phase.Phase.{Phase}
use Rattle.world_semantics.specs.declared.phase.Phase.TheVariants.{Alive, Ended}
use Rattle.world_semantics.specs.World.{World, global_of, with_global}

-- an operation has a reply and a world after it, or it waits and changes nothing
pub data Outcome : Type 0 where
  Answers : (reply : Reply) (after : World) → Outcome
  Waits : Outcome

-- the phase of a thread after its `finish`: only one that is alive ends
abbrev pub phase_after : Ending → Phase → Phase
phase_after ending Alive = Ended ending
phase_after ending (Ended before) = Ended before

-- the phases after thread t has ended so
abbrev pub ended_from : Option Phase → ℕ → Ending → List Phase → List Phase
ended_from None t ending phases = phases
ended_from (Some phase) t ending phases = slice_set phases t (phase_after ending phase)

-- the phases after an actor's `finish`; the runner is no thread
abbrev pub phases_after : Actor → Ending → List Phase → List Phase
phases_after (Thread t) ending phases = ended_from (slice_get phases t) t ending phases
phases_after Runner ending phases = phases

-- the reply to `get`
abbrev pub value_reply : Option Node → Reply
value_reply None = Unbound
value_reply (Some v) = Value v

-- the effect of an operation
abbrev pub effect_of : Op → Actor → World → Outcome
-- `get` gives the global value, or says that there is none
effect_of (Get s) by w = Answers (value_reply (global_of s w.globals)) w
-- `set` writes the global value
effect_of (Set s v) by w = Answers Okay (record w { globals = with_global s v w.globals })
-- `boundp` says whether there is a global value
effect_of (Boundp s) by w = Answers (Truth (is_some (global_of s w.globals))) w
-- `out` prints, and changes no object
effect_of (Out printed) by w = Answers Okay w
-- `finish` ends the thread that does it
effect_of (Finish ending) by w = Answers Okay (record w { phases = phases_after by ending w.phases })

-- the reply, where there is one
abbrev pub reply_of : Outcome → Option Reply
reply_of (Answers reply after) = Some reply
reply_of Waits = None

-- the world after an operation; where it waits, the world before it
abbrev pub world_after : Outcome → World → World
world_after (Answers reply after) before = after
world_after Waits before = before
