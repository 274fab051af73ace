-- Lists seen as stacks: the first item is the top.
use Rattle.std.specs.Prelude.{List, [], ◌∷◌, Option, Some, None}

-- the top, if there is one
abbrev pub top_of : {T : Type 0} → List T → Option T
top_of [] = None
top_of (x ∷ xs) = Some x

-- what is below the top
abbrev pub below : {T : Type 0} → List T → List T
below [] = []
below (x ∷ xs) = xs
