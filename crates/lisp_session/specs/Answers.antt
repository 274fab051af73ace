-- What is answered to words and bytes, before anything is written.
use Rattle.std.specs.Prelude.{◌≡◌, ℕ, List, ◌++◌, Bool, true, false}
use Rattle.lisp_base.specs.declared.refusal.Refusal.{Refusal}
use Rattle.plain_runs.specs.Run.{RunsAs}
use Rattle.plain_program.specs.Program.{PlainProgram}
use Rattle.lisp_reader.specs.Tables.{Tables, tables_of}
use Rattle.lisp_journal.specs.Journal.{journal_text}
use Rattle.lisp_journal.specs.Report.{report_text}
use Rattle.lisp_journal.specs.Refusal.{refusal_line, words_line}
use Rattle.lisp_session.specs.Headline.{IsRunStatus, IsRunText, steps}
use Rattle.lisp_session.specs.Programs.{IsRefused, Reads}
use Rattle.lisp_session.specs.declared.answer.Answer.{Answer}
use Rattle.lisp_session.specs.declared.answer.Answer.TheVariants.{Ran, Refused, RefusedWords}
use Rattle.lisp_session.specs.declared.answer.RunLeft.{RunLeft}

-- the text of an answer: journal and report of a run, or the line of a refusal
abbrev pub answer_text : Answer → List ℕ
answer_text (Ran run) = journal_text run.symbols run.texts run.entries ++ report_text run.symbols run.texts run.report
answer_text (Refused refusal place) = refusal_line refusal place
answer_text RefusedWords = words_line

-- its status: that of a run stands in the report
abbrev pub answer_status : Answer → ℕ
answer_status (Ran run) = run.report.status
answer_status (Refused refusal place) = 4
answer_status RefusedWords = 2

-- The bytes are a program, with these symbols and string literals, and it has a run with these entries that ends with this
-- report.
pub record LeftBy (bytes : List ℕ) (run : RunLeft) : Type 0 where
  pub program : PlainProgram
  pub reads : Reads bytes (tables_of run.symbols run.texts) program
  pub runs : RunsAs steps program run.entries run.report

-- what an answer says of the bytes, and whether the words are accepted
abbrev pub Says : (accepted : Bool) (bytes : List ℕ) → Answer → Type 0
Says accepted bytes (Ran run) = (accepted ≡ true) × LeftBy bytes run
Says accepted bytes (Refused refusal place) = (accepted ≡ true) × IsRefused bytes refusal place
Says accepted bytes RefusedWords = accepted ≡ false

-- What `answer_to` promises of words and bytes.
pub record Answers (accepted : Bool) (bytes : List ℕ) (answer : Answer) : Type 0 where
  -- what was answered is so
  pub says : Says accepted bytes answer
  -- where the run ended, the text is that of a run of the program that the bytes are
  pub headline : IsRunStatus (answer_status answer) → (accepted ≡ true) × IsRunText bytes (answer_text answer) (answer_status answer)
  -- a program is run where the words are accepted
  pub complete : (tables : Tables) (program : PlainProgram) → accepted ≡ true → Reads bytes tables program → IsRunStatus (answer_status answer)
  -- other bytes are refused then
  pub refuses : (refusal : Refusal) (place : ℕ) → accepted ≡ true → IsRefused bytes refusal place → answer ≡ Refused refusal place
  -- other words are refused
  pub refuses_words : accepted ≡ false → answer ≡ RefusedWords
