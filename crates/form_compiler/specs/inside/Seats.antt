-- The numbers of functions in a map.
use Rattle.std.specs.Prelude.{◌≡◌, ℕ, ◌+◌, List, Option, Some, None}
use Rattle.std.specs.BTreeMap.{BTreeMap, get}
use Rattle.std.specs.Ordering.{nat_cmp}
use Rattle.lisp_base.specs.declared.id.FunctionName.{FunctionName}
use Rattle.lisp_code.specs.Lines.{seat_of}

-- so much later, where there is one
abbrev pub shifted : ℕ → Option ℕ → Option ℕ
shifted at None = None
shifted at (Some n) = Some (at + n)

-- each symbol has the number of the first of these functions whose name it is, which are numbered from a number on
abbrev pub AreSeats : BTreeMap ℕ ℕ → ℕ → List FunctionName → Type 0
AreSeats m at names = (s : ℕ) → get nat_cmp m s ≡ shifted at (seat_of s names)
