-- Whole runs.
use Rattle.std.specs.Prelude.{◌≡◌, ℕ, List}
use Rattle.plain_program.specs.Program.{PlainProgram}
use Rattle.world_semantics.specs.declared.entry.Entry.{Entry}
use Rattle.plain_runs.specs.declared.report.Report.{Report}
use Rattle.plain_runs.specs.Replay.{Configuration, Replays}
use Rattle.plain_runs.specs.Over.{IsOver}
use Rattle.plain_runs.specs.Report.{report_of}

-- with at most limit points for each thread, the program has a run with this journal, which ends with this report
pub record RunsAs (limit : ℕ) (p : PlainProgram) (journal : List Entry) (report : Report) : Type 0 where
  pub last : Configuration
  pub replays : Replays limit p journal last
  pub over : IsOver limit last
  pub reported : report ≡ report_of limit last
