use Rattle.std.proofs.Common.{◌≡◌, ◌-◌}
use Rattle.lisp_data.specs.Data.{behind}
use Rattle.lisp_data.proofs.items.Items.skip.Given as goal

-- what is behind the rest of those to be skipped is the same
abbrev pub invariant-loop-skipped : goal.invariant-loop-skipped
invariant-loop-skipped l = record { same : behind (l.number - l._skipped) l.left ≡ behind l.number l.self }
