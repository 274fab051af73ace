-- When a run is over.
use Rattle.std.specs.Prelude.{◌≡◌, ℕ, suc, List, [], ◌∷◌, Bool, true, false, is_some}
use Rattle.lisp_base.specs.declared.id.Actor.TheVariants.{Thread}
use Rattle.world_semantics.specs.Effect.{effect_of, reply_of}
use Rattle.world_semantics.specs.World.{World}
use Rattle.thread_semantics.specs.Next.{Local, Next, Operation, OutOfPoints, Over, next_of}
use Rattle.thread_semantics.specs.State.{Setting, ThreadState}
use Rattle.run_semantics.specs.Replay.{Configuration}

-- a local point can always be taken, and an operation where it does not wait
abbrev pub goes_on : Next → ℕ → World → Bool
goes_on Local t w = true
goes_on (Operation op) t w = is_some (reply_of (effect_of op (Thread t) w))
goes_on OutOfPoints t w = false
goes_on Over t w = false

-- a thread can step where what comes next goes on
abbrev pub can_step : Setting → World → ℕ → ThreadState → Bool
can_step setting w t s = goes_on (next_of setting s) t w

-- of these threads, numbered from t, none can step
abbrev pub NoneCanStep : Setting → World → ℕ → List ThreadState → Type 0
NoneCanStep setting w t [] = Unit {0}
NoneCanStep setting w t (s ∷ ss) = (can_step setting w t s ≡ false) × NoneCanStep setting w (suc t) ss

-- The run is over where no thread can step: each has ended, waits, or is out of points. Nothing has a due time yet for which the runner
-- would wait.
abbrev pub IsOver : Setting → Configuration → Type 0
IsOver setting c = NoneCanStep setting c.world 0 c.threads
