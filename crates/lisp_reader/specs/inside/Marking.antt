-- Parts as marks: parts in which all symbols, literals and numbers are known.
use Rattle.std.specs.Prelude.{◌≡◌, ◌⊎◌, ℕ, pos, true, false, List, [], ◌∷◌, ◌++◌, Option, Some, None}
use Rattle.lisp_base.specs.declared.refusal.Refusal.{Refusal}
use Rattle.lisp_base.specs.declared.refusal.Rejection.{Rejection}
use Rattle.lisp_base.specs.declared.refusal.Rejection.TheVariants.{Refused, Memory}
use Rattle.lisp_data.specs.declared.datum.Leaf.{Leaf}
use Rattle.lisp_data.specs.declared.datum.Leaf.TheVariants.{Int, Text as TextLeaf}
use Rattle.lisp_reader.specs.declared.gather.Mark.{Mark}
use Rattle.lisp_reader.specs.declared.gather.MarkKind.{MarkKind}
use Rattle.lisp_reader.specs.declared.gather.MarkKind.TheVariants.{Open, Close, Quote, ALeaf}
use Rattle.lisp_reader.specs.declared.opens.Opening.{Opening}
use Rattle.lisp_reader.specs.Gathering.{Gathered, HoldsFront, at_end, datum_ends, faulty, gathered, no_more, place_in, place_of, quote_name, taken, with_part}
use Rattle.lisp_reader.specs.Grammar.{leaf_of}
use Rattle.lisp_reader.specs.Meanings.{meaning_in}
use Rattle.lisp_reader.specs.Parts.{Part, Opens, Closes, Quotes, Literal, OpenLiteral, Token'}
use Rattle.lisp_reader.specs.Tables.{Tables, grown, has_room, number_in}

-- the mark of a part, where these are the tables
abbrev pub kind_in : Tables → Part → MarkKind
kind_in t (Opens p) = Open
kind_in t (Closes p) = Close
kind_in t (Quotes function p) = Quote (number_in t.symbols (quote_name function))
kind_in t (Literal p characters) = ALeaf (TextLeaf (number_in t.literals characters))
kind_in t (OpenLiteral p) = ALeaf (Int (pos 0))
kind_in t (Token' p letters) = ALeaf (leaf_of t.symbols letters (meaning_in letters))

abbrev pub mark_of : Tables → Part → Mark
mark_of t part = record { kind = kind_in t part; place = place_in part }

-- a part is taken: what is open, the tables and the marks after it
pub record TookPart (part : Part) (os os' : List Opening) (t t' : Tables) (before after : List Mark) : Type 0 where
  pub fine : (taken os t part).fault ≡ None
  pub opens : os' ≡ (taken os t part).opens
  pub tables : t' ≡ (taken os t part).tables
  pub marks : after ≡ before ++ mark_of t' part ∷ []

-- A part is refused for its fault at its place, and the tables are those after it. Where memory ran out the tables
-- may have what it uses.
abbrev pub RefusedPart : Part → List Opening → Tables → Tables → Rejection → Type 0
RefusedPart part os t t' (Refused refusal place) = ((taken os t part).fault ≡ Some refusal) × (place ≡ place_in part) × (t' ≡ (taken os t part).tables)
RefusedPart part os t t' Memory = (t' ≡ t) ⊎ (t' ≡ with_part t part)

-- a name is interned: there was room for it, and it has its number
pub record IsInterned (old new : List (List ℕ)) (name : List ℕ) (id : ℕ) : Type 0 where
  pub room : has_room old name ≡ true
  pub number : id ≡ number_in new name
  pub names : new ≡ grown old name

-- a name is refused for this reason at this place, since there is no room for it; where memory ran out the names are as they were
abbrev pub IsNotInterned : Refusal → ℕ → List (List ℕ) → List (List ℕ) → List ℕ → Rejection → Type 0
IsNotInterned full at old new name (Refused refusal place) = (has_room old name ≡ false) × (refusal ≡ full) × (place ≡ at) × (new ≡ old)
IsNotInterned full at old new name Memory = new ≡ old

-- a token is a leaf: whatever is open and whatever the literals, it ends a datum, and the symbols grow
pub record IsLeaf (letters : List ℕ) (old new : List (List ℕ)) (leaf : Leaf) : Type 0 where
  pub ends : (os : List Opening) (literals : List (List ℕ)) (place : ℕ) →
      taken os (record { symbols = old; literals = literals }) (Token' place letters) ≡ datum_ends os (record { symbols = new; literals = literals })
  pub same : leaf ≡ leaf_of new letters (meaning_in letters)

-- a token is refused, whatever is open and whatever the literals; where memory ran out the symbols are as they were
abbrev pub IsNoLeaf : List ℕ → ℕ → List (List ℕ) → List (List ℕ) → Rejection → Type 0
IsNoLeaf letters at old new (Refused refusal place) =
    ((os : List Opening) (literals : List (List ℕ)) →
    taken os (record { symbols = old; literals = literals }) (Token' at letters) ≡ no_more refusal os (record { symbols = new; literals = literals }))
    × (place ≡ at)
IsNoLeaf letters at old new Memory = new ≡ old

-- the marks of parts, each with the tables after it
abbrev pub marks_from : List Opening → Tables → List Part → List Mark
marks_from os t [] = []
marks_from os t (part ∷ ps) = mark_of (taken os t part).tables part ∷ marks_from (taken os t part).opens (taken os t part).tables ps

-- the place of the innermost that is open
abbrev pub innermost_place : List Opening → Option ℕ
innermost_place [] = None
innermost_place (o ∷ os) = Some (place_of o)

-- no fault, and these tables
abbrev pub faultless : Tables → Gathered
faultless t = record { fault = None; tables = t }

-- a refusal is the fault that these parts come to, with the tables at it; where memory ran out, the tables are those of the first
-- parts, up to some part
abbrev pub IsRefusalOf : List Part → Tables → Tables → Rejection → Type 0
IsRefusalOf ps before after (Refused refusal place) = gathered [] before ps ≡ faulty refusal place after
IsRefusalOf ps before after Memory = HoldsFront ps before after

-- at the end, a refusal is the fault of what is open
abbrev pub IsEndRefusal : List Opening → Tables → Rejection → Type 0
IsEndRefusal os t (Refused refusal place) = at_end os t ≡ faulty refusal place t
IsEndRefusal os t Memory = ⊥
