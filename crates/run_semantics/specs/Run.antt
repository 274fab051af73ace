-- Whole runs.
use Rattle.std.specs.Prelude.{◌≡◌, List}
use Rattle.lisp_base.specs.Limits.{Numbers}
use Rattle.lisp_program.specs.Program.{Program}
use Rattle.world_semantics.specs.declared.entry.Entry.{Entry}
use Rattle.thread_semantics.specs.Start.{setting_of}
use Rattle.run_semantics.specs.Over.{IsOver}
use Rattle.run_semantics.specs.Replay.{Configuration, Replays}
use Rattle.run_semantics.specs.Report.{report_of}
use Rattle.run_semantics.specs.declared.report.Report.{Report}

-- with these numbers the program has a run with this journal, which ends with this report
pub record RunsAs (limits : Numbers) (p : Program) (journal : List Entry) (report : Report) : Type 0 where
  pub last : Configuration
  pub replays : Replays limits p journal last
  pub over : IsOver (setting_of limits p) last
  pub reported : report ≡ report_of limits last
