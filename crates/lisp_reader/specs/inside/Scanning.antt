-- How one part is scanned at a place of a text.
use Rattle.std.specs.Prelude.{◌≡◌, ℕ, ◌<◌, ◌≤◌, List, ◌∷◌, Bool, not, ◌==◌, length, take, drop, string_bytes}
use Rattle.lisp_base.specs.Bytes.{newline}
use Rattle.std.specs.Str.{IsUtf8}
use Rattle.lisp_reader.specs.declared.scan.PartKind.{PartKind}
use Rattle.lisp_reader.specs.declared.scan.PartKind.TheVariants.{Open, Close, Quote, Text, OpenText, Token}
use Rattle.lisp_reader.specs.declared.scan.Scanned.{Scanned}
use Rattle.lisp_reader.specs.declared.scan.Scanned.TheVariants.{Blank, Found}
use Rattle.lisp_reader.specs.Parts.{Between, Part, Opens, Closes, Quotes, Literal, OpenLiteral, Token', parts_from}

-- a byte that does not end its line
abbrev pub is_on_line : ℕ → Bool
is_on_line b = not (b == newline)

-- the part of this kind that begins at a place of a text; a token has so many letters
abbrev pub part_of : List ℕ → ℕ → PartKind → Part
part_of text at Open = Opens at
part_of text at Close = Closes at
part_of text at (Quote function) = Quotes function at
part_of text at (Text characters) = Literal at (string_bytes characters)
part_of text at OpenText = OpenLiteral at
part_of text at (Token count) = Token' at (take count (drop at text))

-- A text goes on at a later place, where a character begins.
pub record GoesOn (text : List ℕ) (at next : ℕ) : Type 0 where
  pub further : at < next
  pub inside : next ≤ length text
  pub whole : IsUtf8 (drop next text)

-- what was scanned at a place: nothing that counts, or a part; and where the text goes on
abbrev pub IsScanned : List ℕ → ℕ → Scanned → Type 0
IsScanned text at (Blank next) = GoesOn text at next × (parts_from Between at (drop at text) ≡ parts_from Between next (drop next text))
IsScanned text at (Found kind next) = GoesOn text at next × (parts_from Between at (drop at text) ≡ part_of text at kind ∷ parts_from Between next (drop next text))
