-- Which journals are runs of a program.
use Rattle.std.specs.Prelude.{◌≡◌, ℕ, suc, List, [], ◌∷◌, Option, Some, None, map, slice_get, slice_set}
use Rattle.lisp_base.specs.Limits.{Numbers}
use Rattle.lisp_base.specs.declared.id.Actor.{Actor}
use Rattle.lisp_base.specs.declared.id.Actor.TheVariants.{Thread, Runner}
use Rattle.lisp_program.specs.Program.{Program}
use Rattle.world_semantics.specs.Effect.{effect_of, reply_of, world_after}
use Rattle.world_semantics.specs.World.{World, first_world}
use Rattle.world_semantics.specs.declared.entry.Entry.{Entry}
use Rattle.thread_semantics.specs.Next.{Operation, next_of}
use Rattle.thread_semantics.specs.Replies.{after_reply, closed}
use Rattle.thread_semantics.specs.Start.{first_state, setting_of}
use Rattle.thread_semantics.specs.State.{Setting, ThreadState}

-- the shared objects, the threads by number, and the points that the runner took
pub record Configuration : Type 0 where
  pub world : World
  pub threads : List ThreadState
  pub runner : ℕ

-- main is the only thread, before its first point
abbrev pub first_configuration : Program → Configuration
first_configuration p = record { world = first_world p.specials; threads = first_state p ∷ []; runner = 0 }

-- The entry is the next operation of a thread that has come to it: the entry has the number of the next point, and the effect gives just
-- the entry's reply.
pub record MayDo (setting : Setting) (s : ThreadState) (w : World) (e : Entry) : Type 0 where
  pub operation : next_of setting s ≡ Operation e.op
  pub point : e.point ≡ suc s.points
  pub answer : reply_of (effect_of e.op e.actor w) ≡ Some e.reply

-- a thread that was made comes to the entry's operation by local points alone
abbrev pub ThreadMayDo : Setting → Option ThreadState → World → Entry → Type 0
ThreadMayDo setting None w e = ⊥
ThreadMayDo setting (Some s) w e = MayDo setting (closed setting s) w e

-- the entry may come next; the runner has no operation yet
abbrev pub IsLegalBy : Actor → Setting → Configuration → Entry → Type 0
IsLegalBy (Thread t) setting c e = ThreadMayDo setting (slice_get c.threads t) c.world e
IsLegalBy Runner setting c e = ⊥

-- the threads after an entry of thread t
abbrev pub threads_after : Setting → Option ThreadState → ℕ → Entry → List ThreadState → List ThreadState
threads_after setting None t e threads = threads
threads_after setting (Some s) t e threads = slice_set threads t (after_reply e.reply (closed setting s))

abbrev pub threads_by : Actor → Setting → Entry → List ThreadState → List ThreadState
threads_by (Thread t) setting e threads = threads_after setting (slice_get threads t) t e threads
threads_by Runner setting e threads = threads

-- what an entry that may come next leads to
abbrev pub after_entry : Setting → Entry → Configuration → Configuration
after_entry setting e c = record c {
  world = world_after (effect_of e.op e.actor c.world) c.world;
  threads = threads_by e.actor setting e c.threads;
}

-- each entry may come in its turn, with tickets that count up from this one
abbrev pub AreLegal : Setting → (ticket : ℕ) → Configuration → List Entry → Type 0
AreLegal setting ticket c [] = Unit {0}
AreLegal setting ticket c (e ∷ es) =
    (e.ticket ≡ ticket) × IsLegalBy e.actor setting c e × AreLegal setting (suc ticket) (after_entry setting e c) es

-- what the entries lead to, one after the other
abbrev pub after_entries : Setting → List Entry → Configuration → Configuration
after_entries setting [] c = c
after_entries setting (e ∷ es) c = after_entries setting es (after_entry setting e c)

-- each thread goes on by local points as far as it can
abbrev pub all_closed : Setting → Configuration → Configuration
all_closed setting c = record c { threads = map (closed setting) c.threads }

-- The journal is a run of the program: its entries may come one after the other, from ticket 1 on, and lead to this configuration, in
-- which each thread has gone on as far as it can.
pub record Replays (limits : Numbers) (p : Program) (journal : List Entry) (c : Configuration) : Type 0 where
  pub legal : AreLegal (setting_of limits p) 1 (first_configuration p) journal
  pub last : c ≡ all_closed (setting_of limits p) (after_entries (setting_of limits p) journal (first_configuration p))
