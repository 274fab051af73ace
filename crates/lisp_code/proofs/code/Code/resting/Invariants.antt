use Rattle.std.proofs.Common.{◌≡◌, ◌<◌, ◌-◌, length}
use Rattle.lisp_code.specs.Resting.{resting_of}
use Rattle.lisp_code.proofs.code.Code.resting.Given as goal

abbrev pub invariant-loop-to : goal.invariant-loop-to
invariant-loop-to l = record {
  inside : l.here < length l.self.instrs;
  rests : resting_of l.self.instrs l.here ≡ resting_of l.self.instrs l.at;
}

abbrev pub decreases-loop-to : goal.decreases-loop-to
decreases-loop-to l = length l.self.instrs - l.here
