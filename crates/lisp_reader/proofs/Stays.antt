-- Why the numbers of names stay as the tables grow: the marks of parts are those with the tables at the end.
use Rattle.std.specs.List.{list_any}
use Rattle.std.specs.Str.{bytes_eq}
use Rattle.std.proofs.Common.{◌≡◌, ℕ, ◌+◌, Bool, true, false, not, ◌||◌, cond, if◌then◌else◌, ◌==◌, List, [], ◌∷◌, ◌++◌, length, map, Option, Some, None, refl, ap, subst, sym, ◌∙◌}
use Rattle.std.proofs.lemmas.List.Folds.{list_any-append}
use Rattle.std.proofs.lemmas.Slice.Eq.{bytes_eq-Decides}
use Rattle.lisp_base.specs.declared.refusal.Refusal.{Refusal}
use Rattle.lisp_base.specs.declared.refusal.Refusal.TheVariants.{EndInside, TooDeep, TooManySymbols, TooManyTexts, UnmatchedClose}
use Rattle.lisp_data.specs.declared.datum.Leaf.TheVariants.{Symbol as SymbolLeaf, Text as TextLeaf}
use Rattle.lisp_reader.specs.declared.gather.MarkKind.TheVariants.{Quote, ALeaf}
use Rattle.lisp_reader.specs.declared.meaning.Meaning.{Meaning}
use Rattle.lisp_reader.specs.declared.meaning.Meaning.TheVariants.{Integer, Time, Symbol, Keyword, TooLarge, Bad}
use Rattle.lisp_reader.specs.declared.opens.Opening.{Opening}
use Rattle.lisp_reader.specs.Gathering.{Gathered, Taken, closed_by, closing, gathered, no_more, place_in, quote_name, symbol_ends, symbol_in, taken, token_ends, token_fault, unless_fault, with_literal, with_symbol}
use Rattle.lisp_reader.specs.inside.Marking.{faultless, kind_in, mark_of, marks_from}
use Rattle.lisp_reader.specs.Grammar.{leaf_of}
use Rattle.lisp_reader.specs.Meanings.{keyword_name, meaning_in, symbol_name}
use Rattle.lisp_reader.specs.Parts.{Part, Opens, Closes, Quotes, Literal, OpenLiteral, Token'}
use Rattle.lisp_reader.specs.Tables.{Tables, grown, has_room, number_in}

-- a name is among the names
abbrev IsKnown : List (List ℕ) → List ℕ → Type 0
IsKnown names name = list_any (bytes_eq name) names ≡ true

-- a name that is known keeps its number when others come behind
number_kept : (names more : List (List ℕ)) (x : List ℕ) → IsKnown names x → number_in (names ++ more) x ≡ number_in names x
number_kept [] more x h = cc
number_kept (y ∷ ys) more x h = by (bytes_eq x y) (number_kept ys more x) h
  where
    by : (b : Bool) → (IsKnown ys x → number_in (ys ++ more) x ≡ number_in ys x) → (b || list_any (bytes_eq x) ys) ≡ true
        → cond (not b) (1 + number_in (ys ++ more) x) 0 ≡ cond (not b) (1 + number_in ys x) 0
    by true ih k = refl
    by false ih k = ap (λ n. 1 + n) (ih k)

-- a name that was put among the names is known
known_grown : (names : List (List ℕ)) (x : List ℕ) → IsKnown (grown names x) x
known_grown names x = by (list_any (bytes_eq x) names) refl
  where
    by : (b : Bool) → list_any (bytes_eq x) names ≡ b → IsKnown (if b then names else names ++ x ∷ []) x
    by true h = h
    by false h =
        let itself : bytes_eq x x ≡ true = (bytes_eq-Decides x x).1 refl in
        rw (list_any-append (bytes_eq x) names (x ∷ []), h, itself) refl

-- what is known of names is known of others, under the same numbers
abbrev Keeps : List (List ℕ) → List (List ℕ) → Type 0
Keeps names others = (x : List ℕ) → IsKnown names x → IsKnown others x × (number_in others x ≡ number_in names x)

-- another name leaves the known ones
grown_keeps : (names : List (List ℕ)) (name : List ℕ) → Keeps names (grown names name)
grown_keeps names name x h = by (list_any (bytes_eq name) names)
  where
    by : (b : Bool) → IsKnown (if b then names else names ++ name ∷ []) x × (number_in (if b then names else names ++ name ∷ []) x ≡ number_in names x)
    by true = (h, refl)
    by false = (rw (list_any-append (bytes_eq x) names (name ∷ []), h) refl, number_kept names (name ∷ []) x h)

-- so with both tables
record Extends (t t' : Tables) : Type 0 where
  symbols : Keeps t.symbols t'.symbols
  literals : Keeps t.literals t'.literals

-- tables extend themselves
same_extends : (t : Tables) → Extends t t
same_extends t = record { symbols = λ x h. (h, refl); literals = λ x h. (h, refl) }

-- and step by step
further_extends : (t u v : Tables) → Extends t u → Extends u v → Extends t v
further_extends t u v a b =
    record {
      symbols = λ x h. ((b.symbols x (a.symbols x h).0).0, (b.symbols x (a.symbols x h).0).1 ∙ (a.symbols x h).1);
      literals = λ x h. ((b.literals x (a.literals x h).0).0, (b.literals x (a.literals x h).0).1 ∙ (a.literals x h).1);
    }

-- the name of a token is known
abbrev KnowsName : List (List ℕ) → Option (List ℕ) → Type 0
KnowsName names None = Unit {0}
KnowsName names (Some name) = IsKnown names name

-- the names of a part are known
abbrev Knows : Tables → Part → Type 0
Knows t (Opens p) = Unit {0}
Knows t (Closes q) = Unit {0}
Knows t (Quotes function p) = IsKnown t.symbols (quote_name function)
Knows t (Literal p characters) = IsKnown t.literals characters
Knows t (OpenLiteral p) = Unit {0}
Knows t (Token' p letters) = KnowsName t.symbols (symbol_in letters (meaning_in letters))

-- what is taken extends the tables, and where there is no fault the names of the part are known
record Took (t : Tables) (part : Part) (x : Taken) : Type 0 where
  extends : Extends t x.tables
  knows : x.fault ≡ None → Knows x.tables part

-- either of two
either : (t : Tables) (part : Part) (b : Bool) (x y : Taken) → (b ≡ true → Took t part x) → (b ≡ false → Took t part y) → Took t part (if b then x else y)
either t part true x y f g = f refl
either t part false x y f g = g refl

-- nothing more comes of a fault
took_fault : (t : Tables) (part : Part) (refusal : Refusal) (os : List Opening) → Took t part (no_more refusal os t)
took_fault t part refusal os = record { extends = same_extends t; knows = λ h. absurd (cc) }

-- a symbol comes into the tables
symbol_extends : (t : Tables) (name : List ℕ) → Extends t (with_symbol name t)
symbol_extends t name = record { symbols = grown_keeps t.symbols name; literals = λ x h. (h, refl) }

-- a literal does
literal_extends : (t : Tables) (name : List ℕ) → Extends t (with_literal name t)
literal_extends t name = record { symbols = λ x h. (h, refl); literals = grown_keeps t.literals name }

-- a token's name
took_name : (p : ℕ) (letters : List ℕ) (os : List Opening) (t : Tables) (o : Option (List ℕ)) → symbol_in letters (meaning_in letters) ≡ o
    → Took t (Token' p letters) (symbol_ends o os t)
took_name p letters os t None is = record { extends = same_extends t; knows = λ _. subst (KnowsName t.symbols) (sym is) tt }
took_name p letters os t (Some name) is =
    either t (Token' p letters) (has_room t.symbols name) _ _
    (λ _. record { extends = symbol_extends t name; knows = λ _. subst (KnowsName (grown t.symbols name)) (sym is) (known_grown t.symbols name) })
    (λ _. took_fault t (Token' p letters) TooManySymbols os)

-- a token
took_token : (p : ℕ) (letters : List ℕ) (os : List Opening) (t : Tables) (f : Option Refusal) → Took t (Token' p letters) (token_ends letters (meaning_in letters) f os t)
took_token p letters os t None = took_name p letters os t (symbol_in letters (meaning_in letters)) refl
took_token p letters os t (Some refusal) = took_fault t (Token' p letters) refusal os

-- a parenthesis that closes
took_close : (q : ℕ) (os : List Opening) (t : Tables) (around : Option (List Opening)) → Took t (Closes q) (closing around os t)
took_close q os t None = took_fault t (Closes q) UnmatchedClose os
took_close q os t (Some o) = record { extends = same_extends t; knows = λ _. tt }

-- any part
took : (os : List Opening) (t : Tables) (part : Part) → Took t part (taken os t part)
took os t (Opens p) =
    either t (Opens p) (length os == 256) _ _ (λ _. took_fault t (Opens p) TooDeep os) (λ _. record { extends = same_extends t; knows = λ _. tt })
took os t (Closes q) = took_close q os t (closed_by os)
took os t (Quotes function p) =
    let name = quote_name function in
    either t (Quotes function p) (length os == 256) _ _ (λ _. took_fault t (Quotes function p) TooDeep os)
    (λ _. either t (Quotes function p) (has_room t.symbols name) _ _
    (λ _. either t (Quotes function p) (length os == 256) (no_more TooDeep os (with_symbol name t)) _
    (λ _. record { extends = symbol_extends t name; knows = λ _. known_grown t.symbols name })
    (λ _. record { extends = symbol_extends t name; knows = λ _. known_grown t.symbols name }))
    (λ _. took_fault t (Quotes function p) TooManySymbols os))
took os t (Literal p characters) =
    either t (Literal p characters) (has_room t.literals characters) _ _
    (λ _. record { extends = literal_extends t characters; knows = λ _. known_grown t.literals characters })
    (λ _. took_fault t (Literal p characters) TooManyTexts os)
took os t (OpenLiteral p) = took_fault t (OpenLiteral p) EndInside os
took os t (Token' p letters) = took_token p letters os t (token_fault (meaning_in letters))

-- the leaf of a token whose name is known stays
leaf_kept : (letters : List ℕ) (m : Meaning) (names others : List (List ℕ)) → Keeps names others → KnowsName names (symbol_in letters m)
    → leaf_of names letters m ≡ leaf_of others letters m
leaf_kept letters (Integer z) names others k h = refl
leaf_kept letters (Time t) names others k h = refl
leaf_kept letters (Symbol start) names others k h = ap SymbolLeaf (sym (k (symbol_name start letters) h).1)
leaf_kept letters Keyword names others k h = ap SymbolLeaf (sym (k (keyword_name letters) h).1)
leaf_kept letters TooLarge names others k h = refl
leaf_kept letters Bad names others k h = refl

-- the kind of a part whose names are known stays
kind_kept : (part : Part) (t t' : Tables) → Extends t t' → Knows t part → kind_in t part ≡ kind_in t' part
kind_kept (Opens p) t t' e h = refl
kind_kept (Closes q) t t' e h = refl
kind_kept (Quotes function p) t t' e h = ap Quote (sym (e.symbols (quote_name function) h).1)
kind_kept (Literal p characters) t t' e h = ap (λ n. ALeaf (TextLeaf n)) (sym (e.literals characters h).1)
kind_kept (OpenLiteral p) t t' e h = refl
kind_kept (Token' p letters) t t' e h = ap ALeaf (leaf_kept letters (meaning_in letters) t.symbols t'.symbols e.symbols h)

-- the tables at the end extend those at the beginning
end_extends : (os : List Opening) (t : Tables) (ps : List Part) → Extends t (gathered os t ps).tables
end_extends [] t [] = same_extends t
end_extends (o ∷ os) t [] = same_extends t
end_extends os t (part ∷ ps) = by (taken os t part).fault (end_extends (taken os t part).opens (taken os t part).tables ps)
  where
    by : (f : Option Refusal) → Extends (taken os t part).tables (gathered (taken os t part).opens (taken os t part).tables ps).tables
        → Extends t (unless_fault f (place_in part) (taken os t part).tables (gathered (taken os t part).opens (taken os t part).tables ps)).tables
    by None later = further_extends t (taken os t part).tables _ (took os t part).extends later
    by (Some refusal) later = (took os t part).extends

-- without a fault, a part has none, and what comes after it neither
parts_fine : (f : Option Refusal) (place : ℕ) (t end : Tables) (later : Gathered) → unless_fault f place t later ≡ faultless end → (f ≡ None) × (later ≡ faultless end)
parts_fine None place t end later h = (refl, h)
parts_fine (Some refusal) place t end later h = let e = ap (λ (g : Gathered). g.fault) h in absurd (cc)

-- without a fault, the marks with the tables behind each are those with the tables at the end
pub marks_stay : (os : List Opening) (t end : Tables) (ps : List Part) → gathered os t ps ≡ faultless end → marks_from os t ps ≡ map (mark_of end) ps
marks_stay os t end [] h = refl
marks_stay os t end (part ∷ ps) h =
    let u = (taken os t part).tables in
    let later = gathered (taken os t part).opens u ps in
    let fine = parts_fine (taken os t part).fault (place_in part) u end later h in
    let extends : Extends u end = subst (λ (g : Gathered). Extends u g.tables) fine.1 (end_extends (taken os t part).opens u ps) in
    let kind = kind_kept part u end extends ((took os t part).knows fine.0) in
    ap (λ k. (record { kind = k; place = place_in part }) ∷ marks_from (taken os t part).opens u ps) kind
    ∙ ap (λ ms. mark_of end part ∷ ms) (marks_stay (taken os t part).opens u end ps fine.1)
