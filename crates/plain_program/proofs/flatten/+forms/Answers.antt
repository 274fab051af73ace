use Rattle.std.proofs.Common.{arith, inr}
use Rattle.plain_program.proofs.Flattened.{form_written, all_written, form_more, none_there, body_written, operands_missing, operands_written}
use Rattle.plain_program.proofs.flatten.+forms.Goals as goal

pub push_form-returns-clause-writes : goal.push_form-returns-clause-writes
push_form-returns-clause-writes t c =
    form_written _ _ _ _ _ _ _ _ c.requires c.index-nodes-at.is c.in_ok-push_opening.ensures c.in_ok-next.ensures (rw c.as_slice-start.ensures.value at c.in_ok-push_closing.ensures)

pub push_forms-returns-then-at-nodes : goal.push_forms-returns-then-at-nodes
push_forms-returns-then-at-nodes t c = all_written _ _ _ _ _ _ _ _ c.loop-done.invariant (omega arith)

pub push_forms-loop-done-preserved : goal.push_forms-loop-done-preserved
push_forms-loop-done-preserved t c =
    form_more _ _ _ _ _ _ _ _ _ _ _ _ c.loop-done.invariant (omega arith) (omega (arith, c.loop-done.invariant.within)) c.in_ok-at.ensures.writes c.in_ok-at.ensures.on c.in_ok-push_between.ensures

pub push_body-returns-then-from-nodes : goal.push_body-returns-then-from-nodes
push_body-returns-then-from-nodes t c = none_there _ _ _ _ _ c.requires (omega arith) c.in_ok-push_nil-2.ensures

pub push_body-returns : goal.push_body-returns
push_body-returns t c = body_written _ _ _ _ _ _ (omega arith) (omega (arith, c.requires)) c.in_ok-push_forms.ensures

pub push_operands-returns-then-from-nodes : goal.push_operands-returns-then-from-nodes
push_operands-returns-then-from-nodes t c = operands_missing _ _ _ _ _ _ c.requires (inr (omega arith)) c.in_ok-push_nils-2.ensures

pub push_operands-returns : goal.push_operands-returns
push_operands-returns t c =
    operands_written _ _ _ _ _ _ _ _ _ _ _ (omega arith) (omega arith) (omega (arith, c.requires)) c.in_ok-next.ensures.writes c.in_ok-push_operands.ensures
