-- Programs as forests of core forms, and how such forests are written flat, in preorder.
use Rattle.std.specs.Prelude.{List, [], ◌∷◌, ◌++◌}
use Rattle.lisp_base.specs.Forest.{Forest, NoTrees, Tree, count_of, front, behind}
use Rattle.plain_program.specs.declared.form.PlainKind.{PlainKind}
use Rattle.plain_program.specs.declared.form.PlainNode.{PlainNode}

-- core forms beside one another
abbrev pub PlainForms : Type 0
PlainForms = Forest PlainKind

-- the nodes of forms: each form before the forms under it, and these before the forms beside it
abbrev pub preorder : PlainForms → List PlainNode
preorder NoTrees = []
preorder (Tree k p under beside) = (record { kind = k; place = p; parts = count_of under }) ∷ (preorder under ++ preorder beside)

-- a node takes as many of the forms after it as it has parts
abbrev pub node_in_front : PlainNode → PlainForms → PlainForms
node_in_front n f = Tree n.kind n.place (front n.parts f) (behind n.parts f)

-- the forms that are written as these nodes
abbrev pub forms_of : List PlainNode → PlainForms
forms_of [] = NoTrees
forms_of (n ∷ ns) = node_in_front n (forms_of ns)
