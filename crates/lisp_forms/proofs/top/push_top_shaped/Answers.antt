use Rattle.form_shapes.specs.inside.Contexts.{scope_at}
use Rattle.lisp_forms.proofs.Tops.{written_otherwise}
use Rattle.lisp_forms.proofs.top.push_top_shaped.Goals as goal

pub returns-in_default : goal.returns-in_default
returns-in_default c =
    written_otherwise (scope_at c.args.within.base.now c.args.within.levels.now c.args.within.depth) c.args.place c.args.shape c.args.arguments _ _ c.in_default.not-Defun c.push_shaped.ensures
