use Rattle.std.proofs.Common.{◌+◌, ◌-◌, ◌*◌, length}
use Rattle.plain_program.proofs.Flattened.{Writing}
use Rattle.plain_program.proofs.flatten.+forms.Given as goal

-- each call has fewer nodes left, or is a part of its caller's work on the same nodes
abbrev pub decreases-push_form : goal.decreases-push_form
decreases-push_form l = 5 * (length l.nodes.now - l.at)

abbrev pub decreases-push_under : goal.decreases-push_under
decreases-push_under l = 5 * (length l.nodes.now - l.from) + 4

abbrev pub decreases-push_operands : goal.decreases-push_operands
decreases-push_operands l = 5 * (length l.nodes.now - l.from) + 3

abbrev pub decreases-pass_over : goal.decreases-pass_over
decreases-pass_over l = 5 * (length l.nodes.now - l.from) + 2

abbrev pub decreases-push_body : goal.decreases-push_body
decreases-push_body l = 5 * (length l.nodes.now - l.from) + 2

abbrev pub decreases-push_forms : goal.decreases-push_forms
decreases-push_forms l = 5 * (length l.nodes.now - l.from) + 1

-- what is written so far, with what is still to come, is all that is to be written
abbrev pub invariant-push_forms-loop-done : goal.invariant-push_forms-loop-done
invariant-push_forms-loop-done l =
    Writing l.nodes l.from l.count l.body l.fn.steps.items l.steps.items l.at (l.count - l.done)
