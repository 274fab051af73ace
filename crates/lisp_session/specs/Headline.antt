-- What the top calls promise.
use Rattle.std.specs.Prelude.{◌≡◌, ℕ, ◌<◌, ◌≤◌, ◌⊎◌, suc, List, [], ◌∷◌, ◌++◌, Bool, true, false, Option, Some, None, length, take}
use Rattle.std.specs.Io.KnownBytes.{Appends, Consumes, Keeps}
use Rattle.lisp_base.specs.declared.refusal.Refusal.{Refusal}
use Rattle.lisp_edge.specs.Faults.{Rose}
use Rattle.plain_program.specs.Program.{PlainProgram}
use Rattle.world_semantics.specs.declared.entry.Entry.{Entry}
use Rattle.plain_runs.specs.Replay.{Configuration, Replays}
use Rattle.plain_runs.specs.Over.{IsOver}
use Rattle.plain_runs.specs.Report.{report_of, status_of}
use Rattle.lisp_reader.specs.Reading.{longest}
use Rattle.lisp_reader.specs.Tables.{Tables}
use Rattle.lisp_session.specs.Programs.{Reads, IsRefused}
use Rattle.lisp_journal.specs.Journal.{journal_text}
use Rattle.lisp_journal.specs.Report.{report_text}
use Rattle.lisp_journal.specs.Refusal.{refusal_line, words_line}

-- only the empty list of words is accepted
abbrev pub are_accepted : {W : Type 0} → List W → Bool
are_accepted [] = true
are_accepted (word ∷ words) = false

-- how many points a thread may take
abbrev pub steps : ℕ
steps = 100000

-- The bytes are an accepted program, and it has a run that is over, with this text and this status: a journal that
-- replays as a run of the interleaving semantics, and the report of its last state, in which no thread can step. Both
-- are written with the names of the program's symbols and the texts of its string literals.
-- The status is 0 exactly where every thread has ended there, else 3.
pub record IsRunText (bytes text : List ℕ) (status : ℕ) : Type 0 where
  pub program : PlainProgram
  pub tables : Tables
  pub reads : Reads bytes tables program
  pub journal : List Entry
  pub last : Configuration
  pub replays : Replays steps program journal last
  pub over : IsOver steps last
  pub written : text ≡ journal_text tables.symbols tables.literals journal ++ report_text tables.symbols tables.literals (report_of steps last)
  pub which : status ≡ status_of last.threads

-- where the source tells what it has left, these bytes are all that it had, and it has none left
abbrev pub IsWhole : Option (List ℕ) → Option (List ℕ) → List ℕ → Type 0
IsWhole None left' bytes = Unit {0}
IsWhole (Some all) None bytes = ⊥
IsWhole (Some all) (Some rest) bytes = (bytes ≡ all) × (rest ≡ [])

-- The headline: what the source had left was an accepted program, and the sink gained the whole text of a run of it.
pub record Headline (left left' held held' : Option (List ℕ)) (status : ℕ) : Type 0 where
  pub bytes : List ℕ
  pub source : IsWhole left left' bytes
  pub text : List ℕ
  pub run : IsRunText bytes text status
  pub sink : Appends held held' text

-- These bytes were taken from the source: what it had left is these and what it has left now, where it tells that. There
-- are at most 1,048,577, one more than the longest program has.
pub record WereTaken (left left' : Option (List ℕ)) (bytes : List ℕ) : Type 0 where
  pub taken : Consumes left left' bytes
  pub few : length bytes ≤ suc longest

-- nothing is left, where the source told what it had left
abbrev pub IsEmptied : (left left' : Option (List ℕ)) → Type 0
IsEmptied None left' = Unit {0}
IsEmptied (Some all) left' = left' ≡ Some []

-- these bytes were taken, and where they are no more than the longest program has nothing is left
pub record WereRead (left left' : Option (List ℕ)) (bytes : List ℕ) : Type 0 where
  pub taken : WereTaken left left' bytes
  pub ended : length bytes ≤ longest → IsEmptied left left'

-- where the source tells what it has left, that is refused for this reason at this place
abbrev pub IsRefusedText : Option (List ℕ) → Refusal → ℕ → Type 0
IsRefusedText None refusal place = Unit {0}
IsRefusedText (Some all) refusal place = IsRefused all refusal place

-- the bytes that were read are refused for this reason at this place, and so is what the source had left
pub record RefusesText (left left' : Option (List ℕ)) (bytes : List ℕ) (refusal : Refusal) (place : ℕ) : Type 0 where
  pub read : WereRead left left' bytes
  pub refused : IsRefused bytes refusal place
  pub source : IsRefusedText left refusal place

-- what the source had left is refused, and the sink gained the line that says why
pub record RefusedProgram (left left' held held' : Option (List ℕ)) : Type 0 where
  pub bytes : List ℕ
  pub refusal : Refusal
  pub place : ℕ
  pub refuses : RefusesText left left' bytes refusal place
  pub sink : Appends held held' (refusal_line refusal place)

-- A text that is written as a whole where the sink does not fail and memory does not run out: that of a run, the line for
-- a program that is refused, or the line for words that are not accepted.
pub data IsAnswer (accepted : Bool) (left left' : Option (List ℕ)) : List ℕ → Type 0 where
  of_a_run : {text : List ℕ} (bytes : List ℕ) (status : ℕ) → accepted ≡ true → IsWhole left left' bytes → IsRunText bytes text status
      → IsAnswer accepted left left' text
  of_a_refusal : (bytes : List ℕ) (refusal : Refusal) (place : ℕ) → accepted ≡ true → RefusesText left left' bytes refusal place
      → IsAnswer accepted left left' (refusal_line refusal place)
  of_words : accepted ≡ false → IsAnswer accepted left left' words_line

-- the sink gained a front of such a text, shorter than the text
pub record WroteFront (accepted : Bool) (left left' held held' : Option (List ℕ)) : Type 0 where
  pub text : List ℕ
  pub answer : IsAnswer accepted left left' text
  pub count : ℕ
  pub shorter : count < length text
  pub sink : Appends held held' (take count text)

-- the run ended: every thread has ended, or some thread is out of points
abbrev pub IsRunStatus : ℕ → Type 0
IsRunStatus status = (status ≡ 0) ⊎ (status ≡ 3)

-- The statuses that there are: those of a run, and words that are not accepted, a refused program, a read fault, a write
-- fault, memory that ran out.
abbrev pub IsStatus : ℕ → Type 0
IsStatus status = (status ≡ 0) ⊎ (status ≡ 3) ⊎ (status ≡ 2) ⊎ (status ≡ 4) ⊎ (status ≡ 5) ⊎ (status ≡ 6) ⊎ (status ≡ 7)

-- some bytes were taken from the source
pub record TookSome (left left' : Option (List ℕ)) : Type 0 where
  pub bytes : List ℕ
  pub were : WereTaken left left' bytes

-- where the source tells what it had left, and that is no longer than a program may be, nothing is left
abbrev pub TookAll : (left left' : Option (List ℕ)) → Type 0
TookAll None left' = Unit {0}
TookAll (Some all) left' = length all ≤ longest → left' ≡ Some []

-- What a top call promises: of the words, whether they are accepted; of the source, what it had left and its count of faults,
-- before and after; of the sink, what it held and its count of faults, before and after; and the status.
pub record Promise (accepted : Bool) (left left' : Option (List ℕ)) (reads reads' : ℕ) (held held' : Option (List ℕ)) (writes writes' : ℕ) (status : ℕ) : Type 0 where
  -- the run ended
  pub headline : IsRunStatus status → (accepted ≡ true) × Headline left left' held held' status
  -- the words are not accepted, and the line that says so was written
  pub refused_words : status ≡ 2 → (accepted ≡ false) × Appends held held' words_line
  -- the program is refused, and the line that says why was written
  pub refused_program : status ≡ 4 → (accepted ≡ true) × RefusedProgram left left' held held'
  -- the source failed, and nothing was written
  pub read_fault : status ≡ 5 → (accepted ≡ true) × Rose reads reads' × Keeps held held'
  -- the sink failed, and a front of a text was written
  pub write_fault : status ≡ 6 → Rose writes writes' × WroteFront accepted left left' held held'
  -- memory ran out, and a front of a text was written, or nothing
  pub memory : status ≡ 7 → Keeps held held' ⊎ WroteFront accepted left left' held held'
  -- there is no other status
  pub others : IsStatus status
  -- a program that the source tells is run where the words are accepted, no end fails and memory does not run out
  pub complete : (bytes : List ℕ) (tables : Tables) (program : PlainProgram) → accepted ≡ true → left ≡ Some bytes → Reads bytes tables program
      → ¬ Rose reads reads' → ¬ Rose writes writes' → IsRunStatus status ⊎ (status ≡ 7)
  -- another text that it tells is refused then
  pub refuses : (bytes : List ℕ) (refusal : Refusal) (place : ℕ) → accepted ≡ true → left ≡ Some bytes → IsRefused bytes refusal place
      → ¬ Rose reads reads' → ¬ Rose writes writes' → (status ≡ 4) ⊎ (status ≡ 7)
  -- words that are not accepted are refused where the sink does not fail and memory does not run out
  pub refuses_words : accepted ≡ false → ¬ Rose writes writes' → (status ≡ 2) ⊎ (status ≡ 7)
  -- the count of faults of the source is as it was, but at a read fault
  pub no_read_fault : ¬ (status ≡ 5) → reads' ≡ reads
  -- that of the sink is as it was, but at a write fault
  pub no_write_fault : ¬ (status ≡ 6) → writes' ≡ writes
  -- with accepted words, what the source had left is what was taken and what is left
  pub took : accepted ≡ true → TookSome left left'
  -- and it was taken to its end, but at a read fault and where memory ran out
  pub took_all : accepted ≡ true → ¬ (status ≡ 5) → ¬ (status ≡ 7) → TookAll left left'
