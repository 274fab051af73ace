use Rattle.std.proofs.Common.{◌≡◌, reverse}
use Rattle.lisp_forms.specs.inside.Made.{seen_as, seen_of}
use Rattle.lisp_forms.proofs.made.made_blocks.Given as goal

abbrev pub invariant-loop-node : goal.invariant-loop-node
invariant-loop-node l =
    record {
      can : (goal.iterator-loop-node).can_next l.node-iterator;
      finite : (goal.iterator-loop-node).is_finite l.node-iterator;
      so_far : seen_as l.seen ≡ seen_of (reverse l.yielded);
    }
