-- What a top call may come to over ends that never fail.
use Rattle.std.specs.Prelude.{◌≡◌, ℕ, ◌⊎◌}

-- a status other than that of a read fault, 5, and that of a write fault, 6
abbrev pub IsSureStatus : ℕ → Type 0
IsSureStatus status = (status ≡ 0) ⊎ (status ≡ 3) ⊎ (status ≡ 2) ⊎ (status ≡ 4) ⊎ (status ≡ 7)
