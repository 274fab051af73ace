-- When a run is over.
use Rattle.std.specs.Prelude.{◌≡◌, ℕ, suc, List, [], ◌∷◌, Bool, true, false, ◌&&◌, nat_lt, is_some}
use Rattle.lisp_base.specs.declared.id.Actor.TheVariants.{Thread}
use Rattle.world_semantics.specs.World.{World}
use Rattle.world_semantics.specs.Effect.{effect_of, reply_of}
use Rattle.plain_threads.specs.State.{ThreadState}
use Rattle.plain_threads.specs.declared.next.Next.{Next}
use Rattle.plain_threads.specs.declared.next.Next.TheVariants.{Local, Operation, Nothing}
use Rattle.plain_threads.specs.Step.{next_of}
use Rattle.plain_runs.specs.Replay.{Configuration}

-- a local point can always be taken, and an operation where it does not wait
abbrev pub goes_on : Next → ℕ → World → Bool
goes_on Local t w = true
goes_on (Operation op) t w = is_some (reply_of (effect_of op (Thread t) w))
goes_on Nothing t w = false

-- a thread can step where it has points left, and what comes next goes on
abbrev pub can_step : ℕ → World → ℕ → ThreadState → Bool
can_step limit w t s = nat_lt s.points limit && goes_on (next_of s) t w

-- of these threads, numbered from t, none can step
abbrev pub NoneCanStep : ℕ → World → ℕ → List ThreadState → Type 0
NoneCanStep limit w t [] = Unit {0}
NoneCanStep limit w t (s ∷ ss) = (can_step limit w t s ≡ false) × NoneCanStep limit w (suc t) ss

-- The run is over where no thread can step: each has ended, waits, or is out of points. Nothing has a due time
-- yet for which the runner would wait.
abbrev pub IsOver : ℕ → Configuration → Type 0
IsOver limit c = NoneCanStep limit c.world 0 c.threads
