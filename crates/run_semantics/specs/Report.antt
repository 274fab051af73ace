-- The report of a last configuration.
use Rattle.std.specs.Prelude.{ℕ, List, [], ◌∷◌, Bool, true, false, if◌then◌else◌, nat_lt}
use Rattle.lisp_base.specs.Limits.{Numbers}
use Rattle.lisp_base.specs.Value.{nil}
use Rattle.world_semantics.specs.declared.phase.Phase.{Phase}
use Rattle.thread_semantics.specs.State.{At, BindFrame, BlockFrame, CallFrame, CatchFrame, CleanupFrame, Control, Ended, Exit, Frame, FrameKind, HandlerFrame, ProtectFrame, ThreadState}
use Rattle.run_semantics.specs.declared.report.FrameWord.{FrameWord}
use Rattle.run_semantics.specs.declared.report.FrameWord.TheVariants as word
use Rattle.run_semantics.specs.declared.report.OpenForm.{OpenForm}
use Rattle.run_semantics.specs.declared.report.PhaseReport.{PhaseReport}
use Rattle.run_semantics.specs.declared.report.PhaseReport.TheVariants.{Ended as IsEnded, OutOfPoints, Runnable}
use Rattle.run_semantics.specs.declared.report.Report.{Report}
use Rattle.run_semantics.specs.declared.report.ThreadLine.{ThreadLine}
use Rattle.run_semantics.specs.declared.report.ThreadReport.{ThreadReport}
use Rattle.run_semantics.specs.Replay.{Configuration}

-- a thread that has not ended can go on, or is out of points
abbrev pub unless_out : (limit points : ℕ) → PhaseReport
unless_out limit points = if nat_lt points limit then Runnable else OutOfPoints

-- the phase that a thread's control shows
abbrev pub phase_shown : Control → (limit points : ℕ) → PhaseReport
phase_shown (At points values) limit taken = unless_out limit taken
phase_shown (Exit target) limit taken = unless_out limit taken
phase_shown Ended limit taken = IsEnded

-- the word for a kind of frame in the report
abbrev pub word_for : FrameKind → FrameWord
word_for (CallFrame variables) = word.Call
word_for (BindFrame bindings) = word.Bind
word_for (BlockFrame entry) = word.Block
word_for (CatchFrame tag) = word.Catch
word_for (ProtectFrame cleanup) = word.Protect
word_for (CleanupFrame kept) = word.Cleanup
word_for (HandlerFrame clauses) = word.Handler

-- the open forms, innermost first
abbrev pub open_forms : List Frame → List OpenForm
open_forms [] = []
open_forms (f ∷ fs) = (record { kind = word_for f.kind; place = f.place }) ∷ open_forms fs

-- what the state of a thread shows
abbrev pub thread_report : Numbers → ThreadState → ThreadReport
thread_report limits s = record { phase = phase_shown s.control limits.steps s.points; points = s.points; frames = open_forms s.frames }

-- A line for each thread, by number, with the phase that all threads see. Each name is kept as NIL, since main is the only thread.
abbrev pub thread_lines : Numbers → List Phase → List ThreadState → List ThreadLine
thread_lines limits phases [] = []
thread_lines limits [] (s ∷ ss) = []
thread_lines limits (phase ∷ phases) (s ∷ ss) =
    (record { name = nil; phase = phase; machine = thread_report limits s }) ∷ thread_lines limits phases ss

-- a thread has ended
abbrev pub has_ended : Control → Bool
has_ended (At points values) = false
has_ended (Exit target) = false
has_ended Ended = true

-- 0 where every thread has ended, else 3
abbrev pub status_of : List ThreadState → ℕ
status_of [] = 0
status_of (s ∷ ss) = if has_ended s.control then status_of ss else 3

-- each thread, each special variable in order of definition, and the status
abbrev pub report_of : Numbers → Configuration → Report
report_of limits c = record {
  threads = thread_lines limits c.world.phases c.threads;
  globals = c.world.globals;
  status = status_of c.threads;
}
