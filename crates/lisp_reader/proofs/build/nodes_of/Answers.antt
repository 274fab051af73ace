use Rattle.std.proofs.Common.{reverse, arith}
use Rattle.std.proofs.lemmas.List.{length-reverse}
use Rattle.std.proofs.lemmas.Iterator.Adapters.{YieldsList-from_rev_slice}
use Rattle.std.proofs.lemmas.Iterator.Consumers.{YieldsList-from_copied, YieldsList-turn}
use Rattle.lisp_reader.proofs.Building.{built_first, built_nodes, built_total}
use Rattle.lisp_reader.proofs.build.nodes_of.Goals as goal

pub add-requires-clause-items : goal.add-requires-clause-items
add-requires-clause-items c =
    let turn = YieldsList-turn (YieldsList-from_copied (YieldsList-from_rev_slice c.args.marks.now cc)) c.loop-mark.yielded _ c.loop-mark.yielded_by _ _ c.in-Some.mark c.in-Some.is c.next.ensures.steps in
    rw c.loop-mark.invariant.made (omega (arith, turn.0, built_total (reverse c.loop-mark.yielded), length-reverse c.loop-mark.yielded, length-reverse c.args.marks.now))

pub add-requires-clause-nodes : goal.add-requires-clause-nodes
add-requires-clause-nodes c =
    let turn = YieldsList-turn (YieldsList-from_copied (YieldsList-from_rev_slice c.args.marks.now cc)) c.loop-mark.yielded _ c.loop-mark.yielded_by _ _ c.in-Some.mark c.in-Some.is c.next.ensures.steps in
    rw c.loop-mark.invariant.made (omega (arith, turn.0, built_nodes (reverse c.loop-mark.yielded), length-reverse c.loop-mark.yielded, length-reverse c.args.marks.now))

pub add-requires-clause-first : goal.add-requires-clause-first
add-requires-clause-first c = rw c.loop-mark.invariant.made (built_first (reverse c.loop-mark.yielded))
