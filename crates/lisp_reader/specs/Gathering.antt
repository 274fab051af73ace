-- What is gathered of the parts of a text, in the order of reading: the first fault, and the names and literals so far.
use Rattle.std.specs.Prelude.{◌≡◌, ℕ, List, [], ◌∷◌, ◌++◌, Bool, true, false, ◌==◌, Option, Some, None, if◌then◌else◌, length, codes}
use Rattle.lisp_base.specs.declared.refusal.Refusal.{Refusal}
use Rattle.lisp_base.specs.declared.refusal.Refusal.TheVariants.{BadToken, EndInside, NumberTooLarge, TooDeep, TooManySymbols, TooManyTexts, UnmatchedClose}
use Rattle.lisp_base.specs.declared.refusal.Refused.{Refused}
use Rattle.lisp_reader.specs.declared.meaning.Meaning.{Meaning}
use Rattle.lisp_reader.specs.declared.meaning.Meaning.TheVariants.{Integer, Time, Symbol, Keyword, TooLarge, Bad}
use Rattle.lisp_reader.specs.declared.opens.Opening.{Opening}
use Rattle.lisp_reader.specs.declared.opens.Opening.TheVariants.{List as AList, Quote as AQuote}
use Rattle.lisp_reader.specs.Meanings.{keyword_name, meaning_in, symbol_name}
use Rattle.lisp_reader.specs.Parts.{Part, Opens, Closes, Quotes, Literal, OpenLiteral, Token'}
use Rattle.lisp_reader.specs.Tables.{Tables, grown, has_room}

-- the place of what is open
abbrev pub place_of : Opening → ℕ
place_of (AList p) = p
place_of (AQuote p) = p

-- what reading comes to: the first fault, if there is one, and the tables at its end
pub record Gathered : Type 0 where
  pub fault : Option Refused
  pub tables : Tables

abbrev pub faulty : Refusal → ℕ → Tables → Gathered
faulty refusal place t = record { fault = Some (record { refusal = refusal; place = place }); tables = t }

abbrev pub with_symbol : List ℕ → Tables → Tables
with_symbol name t = record t { symbols = grown t.symbols name }

abbrev pub with_literal : List ℕ → Tables → Tables
with_literal characters t = record t { literals = grown t.literals characters }

-- what is open after a datum has ended: it ends all quotes that wait for it
abbrev pub settled : List Opening → List Opening
settled [] = []
settled (AList p ∷ os) = AList p ∷ os
settled (AQuote p ∷ os) = settled os

-- the symbol that a quote is written for
abbrev pub quote_name : (function : Bool) → List ℕ
quote_name true = codes "FUNCTION"
quote_name false = codes "QUOTE"

-- what is open after a closing parenthesis, where the innermost that is open is a list
abbrev pub closed_by : List Opening → Option (List Opening)
closed_by [] = None
closed_by (AList p ∷ os) = Some os
closed_by (AQuote p ∷ os) = None

-- the symbol that a token means, where it means one
abbrev pub symbol_in : List ℕ → Meaning → Option (List ℕ)
symbol_in letters (Integer z) = None
symbol_in letters (Time t) = None
symbol_in letters (Symbol start) = Some (symbol_name start letters)
symbol_in letters Keyword = Some (keyword_name letters)
symbol_in letters TooLarge = None
symbol_in letters Bad = None

-- the fault of a token by itself
abbrev pub token_fault : Meaning → Option Refusal
token_fault (Integer z) = None
token_fault (Time t) = None
token_fault (Symbol start) = None
token_fault Keyword = None
token_fault TooLarge = Some NumberTooLarge
token_fault Bad = Some BadToken

-- what is gathered of one part: the fault that it has, and what is open and in the tables after it
pub record Taken : Type 0 where
  pub fault : Option Refusal
  pub opens : List Opening
  pub tables : Tables

abbrev pub no_more : Refusal → List Opening → Tables → Taken
no_more refusal os t = record { fault = Some refusal; opens = os; tables = t }

-- a datum ends
abbrev pub datum_ends : List Opening → Tables → Taken
datum_ends os t = record { fault = None; opens = settled os; tables = t }

-- something opens, unless it would be nested 257 deep
abbrev pub opening : Opening → List Opening → Tables → Taken
opening o os t = if length os == 256 then no_more TooDeep os t else record { fault = None; opens = o ∷ os; tables = t }

abbrev pub closing : Option (List Opening) → List Opening → Tables → Taken
closing None os t = no_more UnmatchedClose os t
closing (Some around) os t = datum_ends around t

-- a symbol is used, and the datum ends
abbrev pub symbol_ends : Option (List ℕ) → List Opening → Tables → Taken
symbol_ends None os t = datum_ends os t
symbol_ends (Some name) os t = if has_room t.symbols name then datum_ends os (with_symbol name t) else no_more TooManySymbols os t

abbrev pub token_ends : List ℕ → Meaning → Option Refusal → List Opening → Tables → Taken
token_ends letters m (Some refusal) os t = no_more refusal os t
token_ends letters m None os t = symbol_ends (symbol_in letters m) os t

-- One more part. Nesting too deep comes before a table that is full.
abbrev pub taken : List Opening → Tables → Part → Taken
taken os t (Opens p) = opening (AList p) os t
taken os t (Closes q) = closing (closed_by os) os t
taken os t (Quotes function p) =
    if length os == 256 then no_more TooDeep os t
    else if has_room t.symbols (quote_name function) then opening (AQuote p) os (with_symbol (quote_name function) t)
    else no_more TooManySymbols os t
taken os t (Literal p characters) = if has_room t.literals characters then datum_ends os (with_literal characters t) else no_more TooManyTexts os t
taken os t (OpenLiteral p) = no_more EndInside os t
taken os t (Token' p letters) = token_ends letters (meaning_in letters) (token_fault (meaning_in letters)) os t

-- the place of a part
abbrev pub place_in : Part → ℕ
place_in (Opens p) = p
place_in (Closes q) = q
place_in (Quotes function p) = p
place_in (Literal p characters) = p
place_in (OpenLiteral p) = p
place_in (Token' p letters) = p

-- the text ends inside the innermost that is open, if anything is open
abbrev pub at_end : List Opening → Tables → Gathered
at_end [] t = record { fault = None; tables = t }
at_end (o ∷ os) t = faulty EndInside (place_of o) t

-- reading ends with a part that has a fault; else what comes after the part counts
abbrev pub unless_fault : Option Refusal → ℕ → Tables → Gathered → Gathered
unless_fault None place t later = later
unless_fault (Some refusal) place t later = faulty refusal place t

-- what is gathered of parts, where these are open and these are the tables
abbrev pub gathered : List Opening → Tables → List Part → Gathered
gathered os t [] = at_end os t
gathered os t (part ∷ ps) =
    unless_fault (taken os t part).fault (place_in part) (taken os t part).tables (gathered (taken os t part).opens (taken os t part).tables ps)

-- a symbol that is used, where there is one
abbrev pub with_named : Option (List ℕ) → Tables → Tables
with_named None t = t
with_named (Some name) t = with_symbol name t

-- the tables with the symbol or the literal that a part uses
abbrev pub with_part : Tables → Part → Tables
with_part t (Opens p) = t
with_part t (Closes q) = t
with_part t (Quotes function p) = with_symbol (quote_name function) t
with_part t (Literal p characters) = with_literal characters t
with_part t (OpenLiteral p) = t
with_part t (Token' p letters) = with_named (symbol_in letters (meaning_in letters)) t

-- the tables with all that these parts use, in their order
abbrev pub with_parts : Tables → List Part → Tables
with_parts t [] = t
with_parts t (part ∷ ps) = with_parts (with_part t part) ps

-- the tables have what the first parts use, up to some part
pub record HoldsFront (ps : List Part) (before after : Tables) : Type 0 where
  pub used : List Part
  pub others : List Part
  pub split : ps ≡ used ++ others
  pub tables : after ≡ with_parts before used
