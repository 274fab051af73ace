use Rattle.std.proofs.Common.{◌≡◌, reverse}
use Rattle.lisp_reader.specs.inside.Build.{built}
use Rattle.lisp_reader.proofs.build.nodes_of.Given as goal

abbrev pub invariant-loop-mark : goal.invariant-loop-mark
invariant-loop-mark l =
    record {
      can : (goal.iterator-loop-mark).can_next l.mark-iterator;
      finite : (goal.iterator-loop-mark).is_finite l.mark-iterator;
      made : l.builder ≡ built (reverse l.yielded);
    }
