use Rattle.std.proofs.Common.{arith, drop}
use Rattle.lisp_program.specs.Forms.{forms_of}
use Rattle.form_compiler.proofs.Known.{nothing, same_length}
use Rattle.form_compiler.proofs.Steps.{first_here, first_lines}
use Rattle.form_compiler.proofs.layout.lines_of.Goals as goal

pub bounds-extents-at : goal.bounds-extents-at
bounds-extents-at c = omega (arith, same_length _ _ c.requires)

pub returns-then-at-nodes-clause-lines : goal.returns-then-at-nodes-clause-lines
returns-then-at-nodes-clause-lines c = first_lines _ _ (first_here c.args.nodes.now c.args.extents.now c.args.at nothing c.requires (omega arith))

pub returns-then-at-nodes-clause-few : goal.returns-then-at-nodes-clause-few
returns-then-at-nodes-clause-few c =
    omega (arith, first_lines _ (forms_of (drop c.args.at c.args.nodes.now)) (first_here c.args.nodes.now c.args.extents.now c.args.at nothing c.requires (omega arith)))
