use Rattle.std.proofs.Common.{◌≡◌, ◌≤◌, false, drop}
use Rattle.form_shapes.specs.Controls
use Rattle.form_shapes.proofs.Taken.{more}
use Rattle.form_shapes.proofs.control.taken_by.Given as goal

-- the arguments so far, with those of what is left, are all
abbrev pub invariant-loop-byte : goal.invariant-loop-byte
invariant-loop-byte l = record {
  few : l.taken ≤ l.byte-index;
  all : Controls.taken_by false l.fn.control ≡ more l.taken (Controls.taken_by l.is_directive (drop l.byte-index l.byte-items));
}
