-- Programs as forests of core forms, and how such forests are written flat, in preorder.
use Rattle.std.specs.Prelude.{List, [], ◌∷◌, ◌++◌}
use Rattle.lisp_base.specs.Forest.{Forest, NoTrees, Tree, count_of, front, behind}
use Rattle.lisp_program.specs.declared.form.CoreKind.{CoreKind}
use Rattle.lisp_program.specs.declared.form.FormNode.{FormNode}

-- core forms beside one another
abbrev pub Forms : Type 0
Forms = Forest CoreKind

-- the nodes of forms: each form before the forms under it, and these before the forms beside it
abbrev pub preorder : Forms → List FormNode
preorder NoTrees = []
preorder (Tree k p under beside) = (record { kind = k; place = p; parts = count_of under }) ∷ (preorder under ++ preorder beside)

-- a node takes as many of the forms after it as it has parts
abbrev pub node_in_front : FormNode → Forms → Forms
node_in_front n f = Tree n.kind n.place (front n.parts f) (behind n.parts f)

-- the forms that are written as these nodes
abbrev pub forms_of : List FormNode → Forms
forms_of [] = NoTrees
forms_of (n ∷ ns) = node_in_front n (forms_of ns)
