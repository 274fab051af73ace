-- What a timer is seen as.
use Rattle.std.specs.Prelude.{ℕ}

-- its number, and the number of its thread
pub record TimerNumbers : Type 0 where
  pub number : ℕ
  pub thread : ℕ
