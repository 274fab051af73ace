-- What is open, and which of it is an implicit block that is not made.
use Rattle.std.specs.Prelude.{ℕ, List, [], ◌∷◌, false, ◌≡◌, length}
use Rattle.lisp_forms.specs.Blocks.{returns_to}
use Rattle.lisp_forms.specs.Trees.{Expansion}
use Rattle.form_laws.specs.Scoping.{Opening, Entry}

-- an opening that stays, or an implicit block that is not made
pub data Mark : Type 0 where
  Stays : Opening → Mark
  Gone : Mark

-- all that is open, where all implicit blocks are made
abbrev pub all_of : List Mark → List Opening
all_of [] = []
all_of (Stays o ∷ ms) = o ∷ all_of ms
all_of (Gone ∷ ms) = Entry ∷ all_of ms

-- what is left of it
abbrev pub left_of : List Mark → List Opening
left_of [] = []
left_of (Stays o ∷ ms) = o ∷ left_of ms
left_of (Gone ∷ ms) = left_of ms

-- the numbers of the blocks that are not made
abbrev pub gone_of : List Mark → List ℕ
gone_of [] = []
gone_of (Stays o ∷ ms) = gone_of ms
gone_of (Gone ∷ ms) = length ms ∷ gone_of ms

-- nothing in these returns to one of these blocks
abbrev pub AreUnused : List ℕ → Expansion → Type 0
AreUnused [] e = Unit {0}
AreUnused (n ∷ ns) e = (returns_to n e ≡ false) × AreUnused ns e
