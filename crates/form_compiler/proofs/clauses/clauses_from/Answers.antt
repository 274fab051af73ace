use Rattle.std.proofs.Common.{◌+◌, ◌-◌, arith, drop, get_or, refl}
use Rattle.lisp_program.specs.Forms.{forms_of}
use Rattle.form_compiler.proofs.Begun.{Noting, none_after, noted, noted_all, noted_out}
use Rattle.form_compiler.proofs.Known.{nothing, same_length}
use Rattle.form_compiler.proofs.Steps.{first_here, first_lines}
use Rattle.form_compiler.proofs.clauses.clauses_from.Goals as goal
use Rattle.form_compiler.proofs.clauses.clauses_from.Goals.{then-loop-left-test+else-node-nodes, else-loop-left-test}

-- the clause is written down
next : (c : goal.In_ok-note_clause)
    → Noting c.args.nodes.now c.args.from c.args.start c.args.forms (c.loop-left.node + (get_or c.args.extents.now c.loop-left.node nothing).nodes)
    (c.loop-left.at + (get_or c.args.extents.now c.loop-left.node nothing).lines) (c.loop-left.left - 1) c.note_clause.new.row.items
next c =
    noted c.args.nodes.now c.args.extents.now c.args.from c.args.start c.args.forms c.loop-left.node c.loop-left.at c.loop-left.left (c.loop-left.left - 1) c.index-nodes-node.result _ _ _ _
    c.loop-left.invariant c.requires.known (omega arith) refl refl (omega arith) (λ n p u b. c.in_ok-note_clause.ensures n p u b)

pub bounds-extents-node : goal.bounds-extents-node
bounds-extents-node c = omega (arith, same_length _ _ c.requires.known)

pub overflow_add-at : goal.overflow_add-at
overflow_add-at c =
    omega (
      arith,
      c.loop-left.invariant.room,
      first_lines _ (forms_of (drop c.loop-left.node c.args.nodes.now)) (first_here c.args.nodes.now c.args.extents.now c.loop-left.node nothing c.requires.known (omega arith)),
    )

pub bounds-extents-node-in-loop-left : goal.bounds-extents-node-in-loop-left
bounds-extents-node-in-loop-left c = omega (arith, same_length _ _ c.requires.known)

pub overflow_add-node : goal.overflow_add-node
overflow_add-node c = omega (arith, (next c).inside)

pub loop-left-preserved : goal.loop-left-preserved
loop-left-preserved c = next c

pub returns : goal.returns
returns c = elim c.loop-left-test.branch [
  | then-loop-left-test+else-node-nodes w ↦ noted_out _ _ _ _ _ _ _ _ c.loop-left.invariant (none_after c.loop-left.node c.args.nodes.now (omega arith))
  | else-loop-left-test w ↦ noted_all _ _ _ _ _ _ _ _ c.loop-left.invariant (omega arith)
]
