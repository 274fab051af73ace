-- What the reader says of a text.
use Rattle.std.specs.Prelude.{◌≡◌, ◌⊎◌, ℕ, ◌<◌, ◌≤◌, List, [], None, length}
use Rattle.std.specs.Str.{IsUtf8, IsValidUpTo}
use Rattle.lisp_base.specs.declared.refusal.Refusal.{Refusal}
use Rattle.lisp_base.specs.declared.refusal.Refusal.TheVariants.{NotUtf8, TooLong}
use Rattle.lisp_base.specs.declared.refusal.Rejection.{Rejection}
use Rattle.lisp_base.specs.declared.refusal.Rejection.TheVariants.{Refused, Memory}
use Rattle.lisp_data.specs.Data.{Data, each}
use Rattle.lisp_reader.specs.Gathering.{faulty, gathered, HoldsFront, with_parts}
use Rattle.lisp_reader.specs.Grammar.{Items, data_in, spelled}
use Rattle.lisp_reader.specs.Parts.{parts_of}
use Rattle.lisp_reader.specs.Tables.{Tables}

-- the greatest length of a program, in bytes
abbrev pub longest : ℕ
longest = 1048576

-- a text that is short enough and UTF-8
pub record IsText (bytes : List ℕ) : Type 0 where
  pub short : length bytes ≤ longest
  pub utf8 : IsUtf8 bytes

-- The text reads as these data, from the tables before to those after: its parts spell items without a fault in the order of
-- reading, the tables get the symbols and literals of its parts in this order, and the data are those items.
pub record Reads (bytes : List ℕ) (before after : Tables) (read : List Data) : Type 0 where
  pub text : IsText bytes
  pub items : Items
  pub spells : spelled items ≡ parts_of bytes
  pub readable : (gathered [] before (parts_of bytes)).fault ≡ None
  pub tables : after ≡ with_parts before (parts_of bytes)
  pub same : read ≡ each (data_in after items)

-- A text is refused for this reason at this place, by the first of these that applies: it is too long; it is not UTF-8, where the
-- place is that of the first byte that belongs to no character; it has a fault in the order of reading.
pub data IsRefused (bytes : List ℕ) (before after : Tables) (refusal : Refusal) (place : ℕ) : Type 0 where
  too_long : longest < length bytes → refusal ≡ TooLong → place ≡ longest → after ≡ before → IsRefused bytes before after refusal place
  not_utf8 : length bytes ≤ longest → ¬ IsUtf8 bytes → refusal ≡ NotUtf8 → IsValidUpTo bytes place → after ≡ before
      → IsRefused bytes before after refusal place
  in_reading : IsText bytes → gathered [] before (parts_of bytes) ≡ faulty refusal place after → IsRefused bytes before after refusal place

-- A refusal says why the text is refused. Where memory ran out the tables hold the symbols and literals of the beginning of the text.
abbrev pub IsRefusal : List ℕ → Tables → Tables → Rejection → Type 0
IsRefusal bytes before after (Refused refusal place) = IsRefused bytes before after refusal place
IsRefusal bytes before after Memory = HoldsFront (parts_of bytes) before after

-- a text has at most one reading
abbrev pub OneReading : Type 0
OneReading =
    (bytes : List ℕ) (before after after' : Tables) (d e : List Data) → Reads bytes before after d → Reads bytes before after' e
    → (after ≡ after') × (d ≡ e)

-- a text that is read is not refused
abbrev pub NeverBoth : Type 0
NeverBoth =
    (bytes : List ℕ) (before after after' : Tables) (d : List Data) (refusal : Refusal) (place : ℕ) → Reads bytes before after d
    → IsRefused bytes before after' refusal place → ⊥

-- a text is refused for one reason at one place
abbrev pub OneRefusal : Type 0
OneRefusal =
    (bytes : List ℕ) (before after after' : Tables) (r s : Refusal) (p q : ℕ) → IsRefused bytes before after r p → IsRefused bytes before after' s q
    → (r ≡ s) × (p ≡ q) × (after ≡ after')

-- the text reads as some data
pub record IsReadable (bytes : List ℕ) (before : Tables) : Type 0 where
  pub after : Tables
  pub read : List Data
  pub reads : Reads bytes before after read

-- the text is refused for some reason at some place
pub record IsRefusable (bytes : List ℕ) (before : Tables) : Type 0 where
  pub after : Tables
  pub refusal : Refusal
  pub place : ℕ
  pub refused : IsRefused bytes before after refusal place

-- each text is read or refused
abbrev pub ReadOrRefused : Type 0
ReadOrRefused = (bytes : List ℕ) (before : Tables) → IsReadable bytes before ⊎ IsRefusable bytes before
