use Rattle.std.proofs.Common.{◌+◌, arith}
use Rattle.form_compiler.proofs.Known.{extent_made, nodes_fit}
use Rattle.form_compiler.proofs.sizes.extent_at.Goals as goal

pub overflow_add-result : goal.overflow_add-result
overflow_add-result c =
    omega (arith, c.requires.inside, nodes_fit c.args.nodes.now (c.args.at + 1) c.used.result c.index-nodes-at.result.parts c.under-under.result c.under-under.ensures)

pub returns : goal.returns
returns c =
    extent_made c.args.nodes.now c.args.at _ c.index-nodes-at.result c.row_of-row.result c.used.result c.row_lines.result c.capped-lines.result c.under-under.result
    (omega (arith, c.requires.inside)) c.index-nodes-at.is c.row_of-row.ensures c.used.ensures c.under-under.ensures c.row_lines.ensures c.capped-lines.ensures
