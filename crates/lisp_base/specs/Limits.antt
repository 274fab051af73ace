-- The numbers that a run is given: its limit of points, how often a thread looks, and how many workers it has.
use Rattle.std.specs.Prelude.{◌≡◌, ℕ, ◌≤◌, Result, Ok, Err}
use Rattle.lisp_base.specs.declared.limits.LimitsError.{LimitsError}
use Rattle.lisp_base.specs.declared.limits.LimitsError.TheVariants.{StepsOutOfRange, LookOutOfRange, WorkersOutOfRange}

-- the three numbers
pub record Numbers : Type 0 where
  pub steps : ℕ
  pub look : ℕ
  pub workers : ℕ

-- a number is at least 1 and at most `most`
abbrev pub IsUpTo : ℕ → ℕ → Type 0
IsUpTo most number = (1 ≤ number) × (number ≤ most)

abbrev pub AreSteps : ℕ → Type 0
AreSteps = IsUpTo 1000000

abbrev pub IsLook : ℕ → Type 0
IsLook = IsUpTo 256

abbrev pub AreWorkers : ℕ → Type 0
AreWorkers = IsUpTo 64

-- each number is in its range
pub record AreInRange (n : Numbers) : Type 0 where
  pub steps : AreSteps n.steps
  pub look : IsLook n.look
  pub workers : AreWorkers n.workers

-- an error names the first number that is out of its range; where all are in range, these are the numbers
abbrev pub Limit : Numbers → Result Numbers LimitsError → Type 0
Limit n (Ok limits) = (limits ≡ n) × AreInRange n
Limit n (Err StepsOutOfRange) = ¬ AreSteps n.steps
Limit n (Err LookOutOfRange) = AreSteps n.steps × ¬ IsLook n.look
Limit n (Err WorkersOutOfRange) = AreSteps n.steps × (IsLook n.look × ¬ AreWorkers n.workers)
