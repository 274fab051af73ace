-- Points that hold all that is held when they begin.
use Rattle.std.specs.Prelude.{◌≤◌, ℕ, List}
use Rattle.lisp_base.specs.Forest.{NoTrees, Tree}
use Rattle.lisp_base.specs.declared.id.FunctionName.{FunctionName}
use Rattle.lisp_program.specs.Forms.{Forms}
use Rattle.form_points.specs.Points.{Points}
use Rattle.form_points.specs.Table.{points_of, table}
use Rattle.lisp_code.specs.CodeOf.{most_held}
use Rattle.lisp_code.specs.Held.{Holding, total}
use Rattle.lisp_code.specs.Lines.{Placed, Way, laid}

-- wherever these points begin, a line of theirs, or one after them, holds at least what is held then
abbrev pub Reaches : Points → Type 0
Reaches points = (names : List FunctionName) (way : Way) (h : Holding) (at : ℕ) (next : List Placed) → total h ≤ most_held (laid names way h at points next)

-- so do each of these forms
abbrev pub AllReach : Forms → Type 0
AllReach NoTrees = Unit {0}
AllReach (Tree k p under beside) = Reaches (table k p (points_of under)) × AllReach beside
