use Rattle.std.proofs.Common.{◌≡◌, ◌+◌, ◌-◌, ◌≤◌}
use Rattle.form_shapes.specs.Keywords
use Rattle.form_shapes.proofs.keywords.part_count.Given as goal

-- the parts so far, with those of what is left, are all
abbrev pub invariant-loop-index : goal.invariant-loop-index
invariant-loop-index l = record {
  few : l.parts ≤ l.index;
  all : l.parts + Keywords.part_count l.roles l.index (l.count - l.index) ≡ Keywords.part_count l.roles 0 l.count;
}
