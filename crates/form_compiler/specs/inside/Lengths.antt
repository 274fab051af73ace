-- How many lines a program has, from the lines of its bodies.
use Rattle.std.specs.Prelude.{ℕ, suc, ◌+◌, List, [], ◌∷◌}
use Rattle.lisp_program.specs.Forms.{forms_of}
use Rattle.lisp_program.specs.Program.{FlatFunction, FlatProgram}
use Rattle.lisp_program.specs.declared.form.FormNode.{FormNode}
use Rattle.form_points.specs.Points.{body_of}
use Rattle.form_points.specs.Table.{points_of}
use Rattle.lisp_code.specs.Lines.{size}

-- the lines of forms as a body
abbrev pub body_size : List FormNode → ℕ
body_size nodes = size (body_of 0 (points_of (forms_of nodes)))

-- the lines of functions, each of which ends with one that leaves its frame, and those of the function of `terminate-thread`
abbrev pub functions_size : List FlatFunction → ℕ
functions_size [] = 2
functions_size (f ∷ fs) = suc (body_size f.body + functions_size fs)

-- the lines of a program; main ends with one that ends the thread
abbrev pub program_size : FlatProgram → ℕ
program_size p = suc (body_size p.main + functions_size p.functions)
