use Rattle.std.proofs.Common.{◌≡◌, ◌+◌, ◌≤◌, drop}
use Rattle.lisp_forms.specs.Program
use Rattle.lisp_forms.proofs.expander.before.Given as goal

-- those so far, with those of what is left, are all
abbrev pub invariant-loop-other : goal.invariant-loop-other
invariant-loop-other l = record {
  few : l.count ≤ l.other-index;
  all : l.count + Program.before l.place (drop l.other-index l.places) ≡ Program.before l.place l.places;
}
