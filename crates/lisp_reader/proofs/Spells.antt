-- A text without a fault in the order of reading spells items.
use Rattle.std.proofs.Common.{◌≡◌, ℕ, Bool, true, false, cond, List, [], ◌∷◌, ◌++◌, ◌==◌, length, Option, Some, None, refl, ap, subst, sym, ◌∙◌, append_assoc}
use Rattle.lisp_base.specs.declared.refusal.Refusal.{Refusal}
use Rattle.lisp_base.specs.declared.refusal.Refusal.TheVariants.{TooDeep, TooManySymbols, TooManyTexts}
use Rattle.lisp_reader.specs.declared.meaning.Meaning.{Meaning}
use Rattle.lisp_reader.specs.declared.opens.Opening.{Opening}
use Rattle.lisp_reader.specs.declared.opens.Opening.TheVariants.{List as AList, Quote as AQuote}
use Rattle.lisp_reader.specs.Gathering.{Taken, gathered, place_in, quote_name, settled, symbol_ends, symbol_in, taken, token_ends, token_fault, unless_fault}
use Rattle.lisp_reader.specs.Grammar.{Item, TokenItem, LiteralItem, ListItem, QuoteItem, Items, NoItems, ItemAnd, spelled, spelled_item}
use Rattle.lisp_reader.specs.Meanings.{meaning_in}
use Rattle.lisp_reader.specs.Parts.{Part, Opens, Closes, Quotes, Literal, OpenLiteral, Token'}
use Rattle.lisp_reader.specs.Tables.{Tables, has_room}

-- parts spell items to the end
record Ends (ps : List Part) : Type 0 where
  items : Items
  all : ps ≡ spelled items

-- they spell items to the end of a list, and what is behind it is so
record Closed (P : List Part → Type 0) (ps : List Part) : Type 0 where
  items : Items
  close : ℕ
  rest : List Part
  split : ps ≡ spelled items ++ Closes close ∷ rest
  further : P rest

-- they spell an item, and what is behind it is so
record Begins (P : List Part → Type 0) (ps : List Part) : Type 0 where
  item : Item
  rest : List Part
  split : ps ≡ spelled_item item ++ rest
  further : P rest

-- parts behind a datum, where these are open: its quotes are done, the lists around it end
abbrev After : List Opening → List Part → Type 0
After [] ps = Ends ps
After (AList p ∷ os) ps = Closed (After os) ps
After (AQuote p ∷ os) ps = After os ps

-- parts where these are open: a quote waits for an item
abbrev Inside : List Opening → List Part → Type 0
Inside [] ps = Ends ps
Inside (AList p ∷ os) ps = Closed (After os) ps
Inside (AQuote p ∷ os) ps = Begins (After os) ps

-- an item in front of what may stand behind it
more : (os : List Opening) (i : Item) (rest : List Part) → After os rest → Inside os (spelled_item i ++ rest)
more [] i rest h = record { items = ItemAnd i h.items; all = ap (λ x. spelled_item i ++ x) h.all }
more (AList p ∷ os) i rest h =
    record {
      items = ItemAnd i h.items;
      close = h.close;
      rest = h.rest;
      split = ap (λ x. spelled_item i ++ x) h.split ∙ sym (append_assoc (spelled_item i) (spelled h.items) (Closes h.close ∷ h.rest));
      further = h.further;
    }
more (AQuote p ∷ os) i rest h = record { item = i; rest = rest; split = refl; further = h }

-- once the quotes are done, what comes is behind a datum
ended : (os : List Opening) (ps : List Part) → Inside (settled os) ps → After os ps
ended [] ps h = h
ended (AList p ∷ os) ps h = h
ended (AQuote p ∷ os) ps h = ended os ps h

-- without a fault, a choice is the one without
chosen : (b : Bool) (x y : Taken) (refusal : Refusal) → x.fault ≡ Some refusal → (cond b x y).fault ≡ None → cond b x y ≡ y
chosen true x y refusal f h = cc
chosen false x y refusal f h = refl

-- the same with the fault second
kept : (b : Bool) (x y : Taken) (refusal : Refusal) → y.fault ≡ Some refusal → (cond b x y).fault ≡ None → cond b x y ≡ x
kept true x y refusal f h = refl
kept false x y refusal f h = cc

-- a list in front
list_inside : (p : ℕ) (os : List Opening) (ps : List Part) → Closed (After os) ps → Inside os (Opens p ∷ ps)
list_inside p os ps h =
    let all : (spelled h.items ++ Closes h.close ∷ []) ++ h.rest ≡ ps = append_assoc (spelled h.items) (Closes h.close ∷ []) h.rest ∙ sym h.split in
    subst (λ x. Inside os (Opens p ∷ x)) all (more os (ListItem p h.close h.items) h.rest h.further)

-- a quote in front
quote_inside : (function : Bool) (p : ℕ) (os : List Opening) (ps : List Part) → Begins (After os) ps → Inside os (Quotes function p ∷ ps)
quote_inside function p os ps h =
    subst (λ x. Inside os (Quotes function p ∷ x)) (sym h.split) (more os (QuoteItem function p h.item) h.rest h.further)

-- an end of a list in front
close_inside : (q : ℕ) (os : List Opening) (t : Tables) (ps : List Part) → (taken os t (Closes q)).fault ≡ None
    → Inside (taken os t (Closes q)).opens ps → Inside os (Closes q ∷ ps)
close_inside q [] t ps fine h = cc
close_inside q (AList p ∷ os) t ps fine h = record { items = NoItems; close = q; rest = ps; split = refl; further = ended os ps h }
close_inside q (AQuote p ∷ os) t ps fine h = cc

-- what is open behind a symbol
symbol_opens : (o : Option (List ℕ)) (os : List Opening) (t : Tables) → (symbol_ends o os t).fault ≡ None → (symbol_ends o os t).opens ≡ settled os
symbol_opens None os t h = refl
symbol_opens (Some name) os t h = ap (λ (x : Taken). x.opens) (kept (has_room t.symbols name) _ _ TooManySymbols refl h)

-- what is open behind a token
token_opens : (letters : List ℕ) (m : Meaning) (f : Option Refusal) (os : List Opening) (t : Tables) → (token_ends letters m f os t).fault ≡ None
    → (token_ends letters m f os t).opens ≡ settled os
token_opens letters m (Some refusal) os t h = cc
token_opens letters m None os t h = symbol_opens (symbol_in letters m) os t h

-- a part without a fault in front
part_inside : (os : List Opening) (t : Tables) (part : Part) (ps : List Part) → (taken os t part).fault ≡ None → Inside (taken os t part).opens ps
    → Inside os (part ∷ ps)
part_inside os t (Opens p) ps fine h =
    let is = chosen (length os == 256) _ _ TooDeep refl fine in
    list_inside p os ps (subst (λ (x : Taken). Inside x.opens ps) is h)
part_inside os t (Closes q) ps fine h = close_inside q os t ps fine h
part_inside os t (Quotes function p) ps fine h =
    let outer = chosen (length os == 256) _ _ TooDeep refl fine in
    let fine' = subst (λ (x : Taken). x.fault ≡ None) outer fine in
    let room = kept (has_room t.symbols (quote_name function)) _ _ TooManySymbols refl fine' in
    let fine'' = subst (λ (x : Taken). x.fault ≡ None) room fine' in
    let last = chosen (length os == 256) _ _ TooDeep refl fine'' in
    quote_inside function p os ps (subst (λ (x : Taken). Inside x.opens ps) (outer ∙ room ∙ last) h)
part_inside os t (Literal p characters) ps fine h =
    let is = kept (has_room t.literals characters) _ _ TooManyTexts refl fine in
    more os (LiteralItem p characters) ps (ended os ps (subst (λ (x : Taken). Inside x.opens ps) is h))
part_inside os t (OpenLiteral p) ps fine h = cc
part_inside os t (Token' p letters) ps fine h =
    let is = token_opens letters (meaning_in letters) (token_fault (meaning_in letters)) os t fine in
    more os (TokenItem p letters) ps (ended os ps (subst (λ (x : List Opening). Inside x ps) is h))

-- parts without a fault spell items
inside : (os : List Opening) (t : Tables) (ps : List Part) → (gathered os t ps).fault ≡ None → Inside os ps
inside [] t [] h = record { items = NoItems; all = refl }
inside (o ∷ os) t [] h = cc
inside os t (part ∷ ps) h =
    by (taken os t part).fault refl h (λ g. inside (taken os t part).opens (taken os t part).tables ps g)
  where
    by : (f : Option Refusal) → (taken os t part).fault ≡ f
        → (unless_fault f (place_in part) (taken os t part).tables (gathered (taken os t part).opens (taken os t part).tables ps)).fault ≡ None
        → ((gathered (taken os t part).opens (taken os t part).tables ps).fault ≡ None → Inside (taken os t part).opens ps)
        → Inside os (part ∷ ps)
    by None is g later = part_inside os t part ps is (later g)
    by (Some refusal) is g later = cc

-- the items that a text without a fault spells
pub record Spelled (ps : List Part) : Type 0 where
  pub items : Items
  pub spells : spelled items ≡ ps

pub spells_items : (t : Tables) (ps : List Part) → (gathered [] t ps).fault ≡ None → Spelled ps
spells_items t ps h = let i : Ends ps = inside [] t ps h in record { items = i.items; spells = sym i.all }
