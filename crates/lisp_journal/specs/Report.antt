-- The text of the report.
use Rattle.std.specs.Prelude.{ℕ, suc, Bool, true, false, cond, List, [], ◌∷◌, ◌++◌, if◌then◌else◌, ◌==◌, Option, Some, None, codes}
use Rattle.std.specs.Fmt.{decimal}
use Rattle.lisp_base.specs.declared.value.Node.{Node}
use Rattle.lisp_base.specs.declared.value.Node.TheVariants.{Symbol}
use Rattle.world_semantics.specs.declared.phase.Phase.{Phase}
use Rattle.world_semantics.specs.declared.phase.Phase.TheVariants.{Alive, Ended}
use Rattle.plain_runs.specs.declared.report.PhaseReport.{PhaseReport}
use Rattle.plain_runs.specs.declared.report.PhaseReport.TheVariants.{Ended as IsEnded, OutOfPoints, Runnable}
use Rattle.plain_runs.specs.declared.report.Report.{Report}
use Rattle.plain_runs.specs.declared.report.ThreadLine.{ThreadLine}
use Rattle.std.specs.List.{flat_map}
use Rattle.world_semantics.specs.declared.global.Global.{Global}
use Rattle.plain_runs.specs.declared.report.FrameWord.{FrameWord}
use Rattle.plain_runs.specs.declared.report.FrameWord.TheVariants.{Bind}
use Rattle.plain_runs.specs.declared.report.OpenForm.{OpenForm}
use Rattle.lisp_journal.specs.Line.{value_text}
use Rattle.lisp_journal.specs.Journal.{ending_text}

-- the name of a thread; that of main is written so, though it is kept as NIL
abbrev pub name_text : (symbols literals : List (List ℕ)) → ℕ → Node → List ℕ
name_text symbols literals number name = if number == 0 then codes "\"main thread\"" else value_text symbols literals name

-- how a thread ended, or that it has not
abbrev pub phase_text : (symbols literals : List (List ℕ)) → Phase → List ℕ
phase_text symbols literals Alive = codes "alive"
phase_text symbols literals (Ended ending) = ending_text symbols literals ending

-- Where a thread stands. In a report of a run that is over no thread can go on, so the last line is never written.
abbrev pub standing_text : (symbols literals : List (List ℕ)) → PhaseReport → Phase → List ℕ
standing_text symbols literals IsEnded phase = phase_text symbols literals phase
standing_text symbols literals OutOfPoints phase = codes "out-of-points"
standing_text symbols literals Runnable phase = codes "runnable"

-- the word for a kind of open form
abbrev pub frame_word : FrameWord → List ℕ
frame_word Bind = codes "bind"

-- the line of an open form
abbrev pub open_text : OpenForm → List ℕ
open_text f = codes "  open " ++ frame_word f.kind ++ codes " " ++ decimal f.place ++ codes "\n"

-- the line of a thread
abbrev pub line_text : (symbols literals : List (List ℕ)) → ℕ → ThreadLine → List ℕ
line_text symbols literals number line =
    codes "thread " ++ decimal number ++ codes " " ++ name_text symbols literals number line.name ++ codes " " ++ standing_text symbols literals line.machine.phase line.phase ++ codes " points " ++ decimal line.machine.points ++ codes "\n"

-- the line of a thread, and those of its open forms, innermost first
abbrev pub thread_text : (symbols literals : List (List ℕ)) → ℕ → ThreadLine → List ℕ
thread_text symbols literals number line = line_text symbols literals number line ++ flat_map open_text line.machine.frames

-- the lines of threads that are numbered from here on
abbrev pub thread_texts : (symbols literals : List (List ℕ)) → ℕ → List ThreadLine → List ℕ
thread_texts symbols literals number [] = []
thread_texts symbols literals number (line ∷ lines) = thread_text symbols literals number line ++ thread_texts symbols literals (suc number) lines

-- the global value of a special variable, where it has one
abbrev pub held_text : (symbols literals : List (List ℕ)) → Option Node → List ℕ
held_text symbols literals None = codes "unbound"
held_text symbols literals (Some v) = value_text symbols literals v

-- the line of a special variable
abbrev pub global_text : (symbols literals : List (List ℕ)) → Global → List ℕ
global_text symbols literals g = codes "global " ++ value_text symbols literals (Symbol g.symbol) ++ codes " " ++ held_text symbols literals g.value ++ codes "\n"

-- the last lines: the status, and the end
abbrev pub end_text : ℕ → List ℕ
end_text status = codes "status " ++ decimal status ++ codes "\nend\n"

-- the report: its first line, the lines of each thread, a line for each special variable, the status, and its last line
abbrev pub report_text : (symbols literals : List (List ℕ)) → Report → List ℕ
report_text symbols literals r = codes "report 1\n" ++ thread_texts symbols literals 0 r.threads ++ flat_map (global_text symbols literals) r.globals ++ end_text r.status

-- what is left to write of a report after its first line: open forms, the lines of threads from a number on, lines of special
-- variables, and the last lines or nothing
abbrev pub lines_left : (is_done : Bool) → (symbols literals : List (List ℕ)) → List OpenForm → (number : ℕ) → List ThreadLine → List Global → (status : ℕ) → List ℕ
lines_left is_done symbols literals forms number threads globals status =
    flat_map open_text forms ++ (thread_texts symbols literals number threads ++ (flat_map (global_text symbols literals) globals ++ cond is_done [] (end_text status)))

-- what is left to write of a report, with its first line or without
abbrev pub report_left : (is_begun is_done : Bool) → (symbols literals : List (List ℕ)) → List OpenForm → (number : ℕ) → List ThreadLine → List Global → (status : ℕ) → List ℕ
report_left true is_done symbols literals forms number threads globals status = lines_left is_done symbols literals forms number threads globals status
report_left false is_done symbols literals forms number threads globals status = codes "report 1\n" ++ lines_left is_done symbols literals forms number threads globals status
