-- What is written in several steps, where memory may run out.
use Rattle.std.specs.Prelude.{List, [], ◌++◌, Bool, true, false, Option, Some, None, ◌≡◌, ⊤}

-- what is written so far, or nothing where memory ran out
abbrev pub shown : {A : Type 0} → Bool → List A → Option (List A)
shown true items = None
shown false items = Some items

-- these items were written after the old ones, unless memory ran out, in which case nothing is written from then on
abbrev pub Wrote : {A : Type 0} → (old new : Option (List A)) → List A → Type 0
Wrote old None items = ⊤
Wrote None (Some after) items = ⊥
Wrote (Some before) (Some after) items = after ≡ before ++ items

-- nothing is written, where memory did not run out
abbrev pub emptied : {A : Type 0} → Option (List A) → Option (List A)
emptied None = None
emptied (Some items) = Some []
