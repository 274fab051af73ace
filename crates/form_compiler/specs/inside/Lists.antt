-- Lists from their front.
use Rattle.std.specs.Prelude.{List, [], ◌∷◌, Option, Some, None}

-- the first of a list
abbrev pub front_of : {T : Type 0} → List T → Option T
front_of [] = None
front_of (x ∷ xs) = Some x

-- all but the first
abbrev pub behind_front : {T : Type 0} → List T → List T
behind_front [] = []
behind_front (x ∷ xs) = xs
