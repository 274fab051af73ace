-- Statuses over ends that never fail.
use Rattle.std.proofs.Common.{◌≡◌, ℕ, inl, inr, ◌⊎◌, arith}
use Rattle.lisp_edge.specs.Faults.{Rose}
use Rattle.lisp_session.specs.Headline.{IsStatus}
use Rattle.session_tests.specs.Sure.{IsSureStatus}

-- a status that neither end gives by a fault
pub sure_status : (status : ℕ) → IsStatus status → (status ≡ 5 → Rose 0 0) → (status ≡ 6 → Rose 0 0) → IsSureStatus status
sure_status status (inl e) reads writes = inl e
sure_status status (inr (inl e)) reads writes = inr (inl e)
sure_status status (inr (inr (inl e))) reads writes = inr (inr (inl e))
sure_status status (inr (inr (inr (inl e)))) reads writes = inr (inr (inr (inl e)))
sure_status status (inr (inr (inr (inr (inl e))))) reads writes = let rose : Rose 0 0 = reads e in absurd (omega arith)
sure_status status (inr (inr (inr (inr (inr (inl e)))))) reads writes = let rose : Rose 0 0 = writes e in absurd (omega arith)
sure_status status (inr (inr (inr (inr (inr (inr e)))))) reads writes = inr (inr (inr (inr e)))
