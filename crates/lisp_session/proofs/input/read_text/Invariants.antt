use Rattle.std.proofs.Common.{◌≡◌, length, ◌-◌, ◌≤◌}
use Rattle.std.specs.Io.KnownBytes.{Consumes}
use Rattle.lisp_session.proofs.input.read_text.Given as goal

abbrev pub invariant-loop-block : goal.invariant-loop-block
invariant-loop-block g l = record {
  taken : Consumes (g.S.Source.left l.fn.source) (g.S.Source.left l.source) l.text.items;
  few : length l.text.items ≤ 1048577;
  kept : g.S.Source.faults l.source ≡ g.S.Source.faults l.fn.source;
}

abbrev pub decreases-loop-block : goal.decreases-loop-block
decreases-loop-block g l = 1048577 - length l.text.items
