-- The least place of a form that is not run, found node by node.
use Rattle.std.specs.Prelude.{ℕ, List, [], ◌∷◌, Option}
use Rattle.lisp_program.specs.Program.{FlatFunction}
use Rattle.lisp_program.specs.Forms.{forms_of}
use Rattle.lisp_program.specs.declared.form.FormNode.{FormNode}
use Rattle.form_compiler.specs.Refusals.{least, unbuilt_at, unbuilt_in}

-- the least of this place and those of the forms that are not run
abbrev pub unbuilt_from : Option ℕ → List FormNode → Option ℕ
unbuilt_from found [] = found
unbuilt_from found (n ∷ ns) = unbuilt_from (least found (unbuilt_at n.kind n.place)) ns

-- the same through the bodies of functions
abbrev pub bodies_from : Option ℕ → List FlatFunction → Option ℕ
bodies_from found [] = found
bodies_from found (f ∷ fs) = bodies_from (least found (unbuilt_in (forms_of f.body))) fs
