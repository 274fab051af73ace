use Rattle.std.proofs.Common.{arith}
use Rattle.form_compiler.proofs.Known.{nothing, same_length}
use Rattle.form_compiler.proofs.Steps.{first_here, first_others}
use Rattle.form_compiler.proofs.Walk.{first_within}
use Rattle.form_compiler.proofs.layout.next_of.Goals as goal

pub bounds-extents-at : goal.bounds-extents-at
bounds-extents-at c = omega (arith, same_length _ _ c.requires.known)

pub overflow_add-result : goal.overflow_add-result
overflow_add-result c =
    omega (arith, first_within c.args.nodes.now c.args.at _ c.requires.inside (first_here c.args.nodes.now c.args.extents.now c.args.at nothing c.requires.known (omega arith)))

pub returns-then-at-nodes-clause-forms : goal.returns-then-at-nodes-clause-forms
returns-then-at-nodes-clause-forms c =
    first_others _ _ _ (first_here c.args.nodes.now c.args.extents.now c.args.at nothing c.requires.known (omega arith))

pub returns-then-at-nodes-clause-within : goal.returns-then-at-nodes-clause-within
returns-then-at-nodes-clause-within c =
    first_within c.args.nodes.now c.args.at _ c.requires.inside (first_here c.args.nodes.now c.args.extents.now c.args.at nothing c.requires.known (omega arith))
