use Rattle.std.proofs.Common.{ap, ◌∙◌}
use Rattle.form_points.specs.declared.act.Question.TheVariants.{EndThread}
use Rattle.form_compiler.specs.inside.Marks.{ask_mark}
use Rattle.form_compiler.proofs.Programs.{main-fits, main-laid-out}
use Rattle.form_compiler.proofs.compile.lay_main.Goals as goal

pub lay_out-requires-clause-room : goal.lay_out-requires-clause-room
lay_out-requires-clause-room c =
    main-fits c.args.program.now c.args.sheet.now c.main.result.now c.requires.empty c.main.ensures c.requires.few

pub returns : goal.returns
returns c =
    main-laid-out c.args.program.now c.args.names.now c.args.sheet.now c.lay_out.new.sheet c.main.result.now c.begun-begun.result c.in_ok-end.end
    c.requires.made c.requires.empty c.main.ensures c.begun-begun.ensures (c.in_ok-end.ensures ∙ ap (ask_mark EndThread 0) c.in_ok-one_more.ensures) c.in_ok-lay_out.ensures
