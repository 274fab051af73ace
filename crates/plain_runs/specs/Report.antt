-- The report of a last configuration.
use Rattle.std.specs.Prelude.{ℕ, List, [], ◌∷◌, Bool, true, false, if◌then◌else◌, nat_lt}
use Rattle.lisp_base.specs.Value.{nil}
use Rattle.world_semantics.specs.declared.phase.Phase.{Phase}
use Rattle.plain_threads.specs.State.{FrameKind, BindFrame, Frame, Control, At, Exit, Ended, ThreadState}
use Rattle.plain_runs.specs.declared.report.FrameWord.{FrameWord}
use Rattle.plain_runs.specs.declared.report.FrameWord.TheVariants.{Bind}
use Rattle.plain_runs.specs.declared.report.OpenForm.{OpenForm}
use Rattle.plain_runs.specs.declared.report.PhaseReport.{PhaseReport}
use Rattle.plain_runs.specs.declared.report.PhaseReport.TheVariants.{Ended as IsEnded, OutOfPoints, Runnable}
use Rattle.plain_runs.specs.declared.report.ThreadReport.{ThreadReport}
use Rattle.plain_runs.specs.declared.report.ThreadLine.{ThreadLine}
use Rattle.plain_runs.specs.declared.report.Report.{Report}
use Rattle.plain_runs.specs.Replay.{Configuration}

-- a thread that has not ended can go on, or is out of points
abbrev pub unless_out : ℕ → ℕ → PhaseReport
unless_out limit points = if nat_lt points limit then Runnable else OutOfPoints

abbrev pub phase_shown : Control → ℕ → ℕ → PhaseReport
phase_shown (At points values) limit taken = unless_out limit taken
phase_shown (Exit target) limit taken = unless_out limit taken
phase_shown Ended limit taken = IsEnded

-- the word for a kind of frame in the report
abbrev pub word_for : FrameKind → FrameWord
word_for (BindFrame bindings) = Bind

-- the open forms, innermost first
abbrev pub open_forms : List Frame → List OpenForm
open_forms [] = []
open_forms (f ∷ fs) = (record { kind = word_for f.kind; place = f.place }) ∷ open_forms fs

-- what the state of a thread shows
abbrev pub thread_report : ℕ → ThreadState → ThreadReport
thread_report limit s = record { phase = phase_shown s.control limit s.points; points = s.points; frames = open_forms s.frames }

-- A line for each thread, by number, with the phase that all threads see. Each name is kept as NIL, since main is the
-- only thread.
abbrev pub thread_lines : ℕ → List Phase → List ThreadState → List ThreadLine
thread_lines limit phases [] = []
thread_lines limit [] (s ∷ ss) = []
thread_lines limit (phase ∷ phases) (s ∷ ss) = (record { name = nil; phase = phase; machine = thread_report limit s }) ∷ thread_lines limit phases ss

abbrev pub has_ended : Control → Bool
has_ended (At points values) = false
has_ended (Exit target) = false
has_ended Ended = true

-- 0 where every thread has ended, else 3
abbrev pub status_of : List ThreadState → ℕ
status_of [] = 0
status_of (s ∷ ss) = if has_ended s.control then status_of ss else 3

-- each thread, each special variable in order of definition, and the status
abbrev pub report_of : ℕ → Configuration → Report
report_of limit c = record {
  threads = thread_lines limit c.world.phases c.threads;
  globals = c.world.globals;
  status = status_of c.threads;
}
