-- What parts without a fault put into the tables: what they use.
use Rattle.std.proofs.Common.{◌≡◌, ℕ, Bool, true, false, ◌==◌, if◌then◌else◌, List, [], ◌∷◌, length, Option, Some, None, refl, ap, ◌∙◌}
use Rattle.lisp_base.specs.declared.refusal.Refusal.{Refusal}
use Rattle.lisp_base.specs.declared.refusal.Refusal.TheVariants.{EndInside, TooDeep, TooManySymbols, TooManyTexts, UnmatchedClose}
use Rattle.lisp_reader.specs.declared.opens.Opening.{Opening}
use Rattle.lisp_reader.specs.Gathering.{Taken, closed_by, closing, gathered, no_more, place_in, quote_name, symbol_ends, symbol_in, taken, token_ends, token_fault, unless_fault, with_named, with_part, with_parts, with_symbol}
use Rattle.lisp_reader.specs.Meanings.{meaning_in}
use Rattle.lisp_reader.specs.Parts.{Part, Opens, Closes, Quotes, Literal, OpenLiteral, Token'}
use Rattle.lisp_reader.specs.Tables.{Tables, has_room}

-- what is taken without a fault has these tables
abbrev Uses : Taken → Tables → Type 0
Uses x u = x.fault ≡ None → x.tables ≡ u

-- either of two
either : (b : Bool) (x y : Taken) (u : Tables) → Uses x u → Uses y u → Uses (if b then x else y) u
either true x y u f g = f
either false x y u f g = g

-- a fault is one
fault_uses : (refusal : Refusal) (os : List Opening) (t u : Tables) → Uses (no_more refusal os t) u
fault_uses refusal os t u h = absurd (cc)

-- a token's name
name_uses : (os : List Opening) (t : Tables) (o : Option (List ℕ)) → Uses (symbol_ends o os t) (with_named o t)
name_uses os t None = λ _. refl
name_uses os t (Some name) = either (has_room t.symbols name) _ _ _ (λ _. refl) (fault_uses TooManySymbols os t _)

-- a token
token_uses : (letters : List ℕ) (os : List Opening) (t : Tables) (f : Option Refusal)
    → Uses (token_ends letters (meaning_in letters) f os t) (with_named (symbol_in letters (meaning_in letters)) t)
token_uses letters os t None = name_uses os t (symbol_in letters (meaning_in letters))
token_uses letters os t (Some refusal) = fault_uses refusal os t _

-- a parenthesis that closes
close_uses : (os : List Opening) (t : Tables) (around : Option (List Opening)) → Uses (closing around os t) t
close_uses os t None = fault_uses UnmatchedClose os t t
close_uses os t (Some o) = λ _. refl

-- without a fault, the tables behind a part are those with what it uses
pub taken_uses : (os : List Opening) (t : Tables) (part : Part) → (taken os t part).fault ≡ None → (taken os t part).tables ≡ with_part t part
taken_uses os t (Opens p) = either (length os == 256) _ _ _ (fault_uses TooDeep os t _) (λ _. refl)
taken_uses os t (Closes q) = close_uses os t (closed_by os)
taken_uses os t (Quotes function p) =
    let name = quote_name function in
    either (length os == 256) _ _ _ (fault_uses TooDeep os t _)
    (either (has_room t.symbols name) _ _ _ (either (length os == 256) _ _ _ (fault_uses TooDeep os (with_symbol name t) _) (λ _. refl)) (fault_uses TooManySymbols os t _))
taken_uses os t (Literal p characters) = either (has_room t.literals characters) _ _ _ (λ _. refl) (fault_uses TooManyTexts os t _)
taken_uses os t (OpenLiteral p) = fault_uses EndInside os t _
taken_uses os t (Token' p letters) = token_uses letters os t (token_fault (meaning_in letters))

-- without a fault, the tables at the end are those with all that the parts use
pub tables_used : (os : List Opening) (t : Tables) (ps : List Part) → (gathered os t ps).fault ≡ None → (gathered os t ps).tables ≡ with_parts t ps
tables_used [] t [] h = refl
tables_used (o ∷ os) t [] h = refl
tables_used os t (part ∷ ps) h =
    by (taken os t part).fault (taken_uses os t part) (tables_used (taken os t part).opens (taken os t part).tables ps) h
  where
    by : (f : Option Refusal) → (f ≡ None → (taken os t part).tables ≡ with_part t part)
        → ((gathered (taken os t part).opens (taken os t part).tables ps).fault ≡ None
        → (gathered (taken os t part).opens (taken os t part).tables ps).tables ≡ with_parts (taken os t part).tables ps)
        → (unless_fault f (place_in part) (taken os t part).tables (gathered (taken os t part).opens (taken os t part).tables ps)).fault ≡ None
        → (unless_fault f (place_in part) (taken os t part).tables (gathered (taken os t part).opens (taken os t part).tables ps)).tables ≡ with_parts (with_part t part) ps
    by None first later h = later h ∙ ap (λ (u : Tables). with_parts u ps) (first refl)
    by (Some refusal) first later h = absurd (cc)
