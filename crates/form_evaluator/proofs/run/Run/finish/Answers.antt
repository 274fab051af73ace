use Rattle.form_evaluator.proofs.Reported.{run_over}
use Rattle.form_evaluator.proofs.run.Run.finish.Goals as goal

pub returns : goal.returns
returns c =
    λ p h. rw (c.of.ensures, c.in_ok-vec.ensures.items, c.nil.ensures) (run_over c.args.limit p c.args.self _ _ _ h c.status-status.ensures c.phase_report-reported.ensures c.in_ok-open_forms.ensures)
