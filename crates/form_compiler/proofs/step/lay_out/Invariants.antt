use Rattle.std.proofs.Common.{◌+◌, ◌-◌, ◌*◌, ◌++◌, [], ◌∷◌, length}
use Rattle.lisp_program.specs.Forms.{forms_of}
use Rattle.form_points.specs.Points.{body_of}
use Rattle.form_points.specs.Table.{points_of}
use Rattle.lisp_code.specs.Lines.{laid, no_way}
use Rattle.form_compiler.specs.inside.Marks.{placed_of}
use Rattle.form_compiler.specs.inside.Steps.{Going, SHARE}
use Rattle.form_compiler.specs.inside.Tasks.{weight}
use Rattle.form_compiler.proofs.step.lay_out.Given as goal

-- what is written, with what is still to be written, is all
abbrev pub invariant-loop-task : goal.invariant-loop-task
invariant-loop-task l =
    Going l.names l.nodes l.at l.tasks l.sheet
    (l.fn.sheet ++ laid l.names no_way l.fn.hold (length l.fn.sheet) (body_of l.fn.place (points_of (forms_of l.nodes))) (placed_of [] l.fn.last ∷ []))

abbrev pub decreases-loop-task : goal.decreases-loop-task
decreases-loop-task l = SHARE * (length l.nodes - l.at) + weight l.tasks
