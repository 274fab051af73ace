use Rattle.plain_program.proofs.Flattened.{main_written}
use Rattle.plain_program.proofs.flatten.main_steps.Goals as goal

pub returns : goal.returns
returns c =
    let w = rw c.new-steps.ensures.items at c.in_ok-push_body.ensures in
    main_written c.args.nodes.now c.push_body.new.steps.items c.push_end.new.steps.items c.in_ok-push_body.field-0 w c.in_ok-push_end.ensures
