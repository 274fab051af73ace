use Rattle.session_tests.proofs.Statuses.{sure_status}
use Rattle.session_tests.proofs.sure.run_surely.Goals as goal

pub returns : goal.returns
returns c = let p = c.run_one.ensures.promise in sure_status _ p.others (λ e. (p.read_fault e).1) (λ e. (p.write_fault e).0)
