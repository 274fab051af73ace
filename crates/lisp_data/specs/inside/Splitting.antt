-- Where a datum ends among nodes.
use Rattle.std.specs.Prelude.{◌≡◌, ℕ, ◌-◌, ◌<◌, ◌≤◌, List, drop, take, length}
use Rattle.lisp_data.specs.declared.datum.DatumNode.{DatumNode}
use Rattle.lisp_data.specs.Data.{behind, data_of, front, written}

-- the datum that begins at a node ends before another
pub record IsEnd (nodes : List DatumNode) (at next : ℕ) : Type 0 where
  pub further : at < next
  pub inside : next ≤ length nodes
  pub first : take (next - at) (drop at nodes) ≡ written (front 1 (data_of (drop at nodes)))
  pub rest : drop next nodes ≡ written (behind 1 (data_of (drop at nodes)))
