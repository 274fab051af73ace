-- Which journals are runs of a program.
use Rattle.std.specs.Prelude.{◌≡◌, ℕ, suc, ◌<◌, List, [], ◌∷◌, Option, Some, None, map, slice_get, slice_set}
use Rattle.lisp_base.specs.declared.id.Actor.{Actor}
use Rattle.lisp_base.specs.declared.id.Actor.TheVariants.{Thread, Runner}
use Rattle.plain_program.specs.Program.{PlainProgram}
use Rattle.world_semantics.specs.declared.entry.Entry.{Entry}
use Rattle.world_semantics.specs.World.{World, first_world}
use Rattle.world_semantics.specs.Effect.{effect_of, reply_of, world_after}
use Rattle.plain_threads.specs.State.{ThreadState, first_state}
use Rattle.plain_threads.specs.declared.next.Next.TheVariants.{Operation}
use Rattle.plain_threads.specs.Step.{next_of, after_reply, closed}

-- the shared objects, the threads by number, and the points that the runner took
pub record Configuration : Type 0 where
  pub world : World
  pub threads : List ThreadState
  pub runner : ℕ

-- main is the only thread, before its first point
abbrev pub first_configuration : PlainProgram → Configuration
first_configuration p = record { world = first_world p.specials; threads = first_state p.forms ∷ []; runner = 0 }

-- The entry is the next operation of a thread that has come to it: the thread has points left, the entry has the number
-- of the next point, and the effect gives just the entry's reply.
pub record MayDo (limit : ℕ) (s : ThreadState) (w : World) (e : Entry) : Type 0 where
  pub operation : next_of s ≡ Operation e.op
  pub left : s.points < limit
  pub point : e.point ≡ suc s.points
  pub answer : reply_of (effect_of e.op e.actor w) ≡ Some e.reply

-- a thread that was made comes to the entry's operation by local points alone
abbrev pub ThreadMayDo : ℕ → Option ThreadState → World → Entry → Type 0
ThreadMayDo limit None w e = ⊥
ThreadMayDo limit (Some s) w e = MayDo limit (closed limit s) w e

-- the entry may come next; the runner has no operation yet
abbrev pub IsLegalBy : Actor → ℕ → Configuration → Entry → Type 0
IsLegalBy (Thread t) limit c e = ThreadMayDo limit (slice_get c.threads t) c.world e
IsLegalBy Runner limit c e = ⊥

-- the threads after an entry of thread t
abbrev pub threads_after : ℕ → Option ThreadState → ℕ → Entry → List ThreadState → List ThreadState
threads_after limit None t e threads = threads
threads_after limit (Some s) t e threads = slice_set threads t (after_reply e.reply (closed limit s))

abbrev pub threads_by : Actor → ℕ → Entry → List ThreadState → List ThreadState
threads_by (Thread t) limit e threads = threads_after limit (slice_get threads t) t e threads
threads_by Runner limit e threads = threads

-- what an entry that may come next leads to
abbrev pub after_entry : ℕ → Entry → Configuration → Configuration
after_entry limit e c = record c {
  world = world_after (effect_of e.op e.actor c.world) c.world;
  threads = threads_by e.actor limit e c.threads;
}

-- each entry may come in its turn, with tickets that count up from this one
abbrev pub AreLegal : ℕ → ℕ → Configuration → List Entry → Type 0
AreLegal limit ticket c [] = Unit {0}
AreLegal limit ticket c (e ∷ es) =
    (e.ticket ≡ ticket) × IsLegalBy e.actor limit c e × AreLegal limit (suc ticket) (after_entry limit e c) es

-- what the entries lead to, one after the other
abbrev pub after_entries : ℕ → List Entry → Configuration → Configuration
after_entries limit [] c = c
after_entries limit (e ∷ es) c = after_entries limit es (after_entry limit e c)

-- each thread goes on by local points as far as it can
abbrev pub all_closed : ℕ → Configuration → Configuration
all_closed limit c = record c { threads = map (closed limit) c.threads }

-- The journal is a run of the program: its entries may come one after the other, from ticket 1 on, and lead to
-- this configuration, in which each thread has gone on as far as it can.
pub record Replays (limit : ℕ) (p : PlainProgram) (journal : List Entry) (c : Configuration) : Type 0 where
  pub legal : AreLegal limit 1 (first_configuration p) journal
  pub last : c ≡ all_closed limit (after_entries limit journal (first_configuration p))
