use Rattle.form_evaluator.proofs.run.run_program.Goals as goal

pub go-requires : goal.go-requires
go-requires c = (_, c.in_ok-run.ensures c.args.limit)
