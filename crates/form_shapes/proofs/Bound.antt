-- The variables of bindings and the symbols of a list, one by one.
use Rattle.std.proofs.Common.{ℕ, List, ◌++◌, Option, Some, None}

-- these in front of others, where there are such
abbrev pub behind_these : List ℕ → Option (List ℕ) → Option (List ℕ)
behind_these xs None = None
behind_these xs (Some ys) = Some (xs ++ ys)
