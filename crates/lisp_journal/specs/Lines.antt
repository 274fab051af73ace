-- Texts that are written a line at a time.
use Rattle.std.specs.Prelude.{◌≡◌, ℕ, ◌<◌, List, [], ◌++◌, Bool, true, false, Option, Some, None, length, ⊤}
use Rattle.lisp_base.specs.Writing.{Wrote}

-- the next line was written: what was left is that line, which is not empty, and what is left now
pub record WroteLine (left left' : List ℕ) (text text' : Option (List ℕ)) : Type 0 where
  pub line : List ℕ
  pub is : left ≡ line ++ left'
  pub shorter : length left' < length left
  pub wrote : Wrote text text' line

-- nothing is left, and nothing was written
pub record WroteNothing (left left' : List ℕ) (text text' : Option (List ℕ)) : Type 0 where
  pub was : left ≡ []
  pub is : left' ≡ []
  pub kept : text' ≡ text

-- whether there was a line to write
abbrev pub WritesNext : (left left' : List ℕ) (text text' : Option (List ℕ)) → Bool → Type 0
WritesNext left left' text text' true = WroteLine left left' text text'
WritesNext left left' text text' false = WroteNothing left left' text text'

-- the whole is what was written and what is left, unless memory ran out
abbrev pub IsCut : (whole : List ℕ) → (text : Option (List ℕ)) → (left : List ℕ) → Type 0
IsCut whole None left = ⊤
IsCut whole (Some text) left = whole ≡ text ++ left
