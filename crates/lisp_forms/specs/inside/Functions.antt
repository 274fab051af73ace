-- Functions written flat.
use Rattle.std.specs.Prelude.{ℕ, List, [], ◌∷◌}
use Rattle.lisp_base.specs.declared.id.FunctionName.TheVariants.{Named, At}
use Rattle.lisp_program.specs.Forms.{preorder}
use Rattle.lisp_program.specs.Program.{FlatFunction, Function}
use Rattle.lisp_program.specs.declared.form.FormNode.{FormNode}
use Rattle.form_shapes.specs.declared.expanded.Expanded.{Expanded}
use Rattle.form_shapes.specs.declared.expanded.Expanded.TheVariants.{Form, InBlock, Lambda, Defun, Refused, RefusedFunction}
use Rattle.form_shapes.specs.declared.expanded.ExpandedNode.{ExpandedNode}
use Rattle.lisp_forms.specs.inside.Written.{cores_in}

-- a function with its body written flat
abbrev pub flat_function : Function → FlatFunction
flat_function f = record { name = f.name; place = f.place; params = f.params; body = preorder f.body }

-- the function that a form is, with this body
abbrev pub flat_of : Expanded → ℕ → List FormNode → List FlatFunction
flat_of (Form kind) p body = []
flat_of (InBlock n turning) p body = []
flat_of (Lambda parameters) p body = (record { name = At p; place = p; params = parameters; body = body }) ∷ []
flat_of (Defun f parameters) p body = (record { name = Named f; place = p; params = parameters; body = body }) ∷ []
flat_of (Refused refusal) p body = []
flat_of (RefusedFunction refusal) p body = []

-- the function that a node is, with these nodes after it
abbrev pub function_here : ExpandedNode → List ExpandedNode → List FlatFunction
function_here n ns = flat_of n.kind n.place (cores_in 0 n.parts ns)
