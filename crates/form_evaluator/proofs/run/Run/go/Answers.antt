use Rattle.std.proofs.Common.{arith}
use Rattle.form_evaluator.proofs.Turned.{out_of_points, counted}
use Rattle.form_evaluator.proofs.run.Run.go.Goals as goal

pub turn-requires-clause-points : goal.turn-requires-clause-points
turn-requires-clause-points c =
    let r = c.loop-turn.invariant c.requires.0 c.requires.1 in omega (arith, counted _ _ _ _ r)

pub turn-requires-clause-entries : goal.turn-requires-clause-entries
turn-requires-clause-entries c =
    let r = c.loop-turn.invariant c.requires.0 c.requires.1 in omega (arith, r.few)

pub returns-then-not-branch : goal.returns-then-not-branch
returns-then-not-branch c =
    λ f r. rw c.if-not-branch.true at (c.in_ok-turn.ensures c.args.limit f c.loop-turn._turn (c.loop-turn.invariant f r) (omega arith))

pub returns : goal.returns
returns c = λ f r. out_of_points _ _ f _ (c.loop-turn.invariant f r) c.loop-turn-test.false
