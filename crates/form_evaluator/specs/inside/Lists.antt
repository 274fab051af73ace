-- Small words on lists.
use Rattle.std.specs.Prelude.{List, [], ◌∷◌, Option, Some, None}

-- the first item
abbrev pub front_of : {T : Type 0} → List T → Option T
front_of [] = None
front_of (x ∷ xs) = Some x
