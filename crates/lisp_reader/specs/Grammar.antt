-- What a text holds, and the data that it is read as.
use Rattle.std.specs.Prelude.{ℕ, pos, List, [], ◌∷◌, ◌++◌, Bool}
use Rattle.lisp_data.specs.declared.datum.Leaf.{Leaf}
use Rattle.lisp_data.specs.declared.datum.Leaf.TheVariants.{Int, Symbol as SymbolLeaf, Text as TextLeaf, Time as TimeLeaf}
use Rattle.lisp_data.specs.Data.{Data, NoData, Atom, Listed}
use Rattle.lisp_reader.specs.declared.meaning.Meaning.{Meaning}
use Rattle.lisp_reader.specs.declared.meaning.Meaning.TheVariants.{Integer, Time, Symbol, Keyword, TooLarge, Bad}
use Rattle.lisp_reader.specs.Gathering.{quote_name}
use Rattle.lisp_reader.specs.Meanings.{keyword_name, meaning_in, symbol_name}
use Rattle.lisp_reader.specs.Parts.{Part, Opens, Closes, Quotes, Literal, Token'}
use Rattle.lisp_reader.specs.Tables.{Tables, number_in}

-- the leaf that a token is, where these are the symbols; what a token with a fault is does not matter
abbrev pub leaf_of : List (List ℕ) → List ℕ → Meaning → Leaf
leaf_of symbols letters (Integer z) = Int z
leaf_of symbols letters (Time t) = TimeLeaf t
leaf_of symbols letters (Symbol start) = SymbolLeaf (number_in symbols (symbol_name start letters))
leaf_of symbols letters Keyword = SymbolLeaf (number_in symbols (keyword_name letters))
leaf_of symbols letters TooLarge = Int (pos 0)
leaf_of symbols letters Bad = Int (pos 0)

mutual
  -- what a text holds at one place: a token, a string literal, a list with the places of its parentheses, or a quote and what it quotes
  pub data Item : Type 0 where
    TokenItem : (place : ℕ) (letters : List ℕ) → Item
    LiteralItem : (place : ℕ) (characters : List ℕ) → Item
    ListItem : (place close : ℕ) (under : Items) → Item
    QuoteItem : (function : Bool) (place : ℕ) (quoted : Item) → Item

  -- items one after the other
  pub data Items : Type 0 where
    NoItems : Items
    ItemAnd : (first : Item) (others : Items) → Items

abbrev mutual
  -- the parts with which an item is written
  pub spelled_item : Item → List Part
  spelled_item (TokenItem p letters) = Token' p letters ∷ []
  spelled_item (LiteralItem p characters) = Literal p characters ∷ []
  spelled_item (ListItem p q under) = Opens p ∷ (spelled under ++ Closes q ∷ [])
  spelled_item (QuoteItem function p quoted) = Quotes function p ∷ spelled_item quoted

  -- the parts of items, one after the other
  pub spelled : Items → List Part
  spelled NoItems = []
  spelled (ItemAnd first others) = spelled_item first ++ spelled others

abbrev mutual
  -- an item as a datum, before others, where these are the tables: `'x` is the list `(QUOTE x)`, and `#'x` the list `(FUNCTION x)`
  pub datum_in : Tables → Item → Data → Data
  datum_in t (TokenItem p letters) beside = Atom (leaf_of t.symbols letters (meaning_in letters)) p beside
  datum_in t (LiteralItem p characters) beside = Atom (TextLeaf (number_in t.literals characters)) p beside
  datum_in t (ListItem p q under) beside = Listed p (data_in t under) beside
  datum_in t (QuoteItem function p quoted) beside =
      Listed p (Atom (SymbolLeaf (number_in t.symbols (quote_name function))) p (datum_in t quoted NoData)) beside

  -- items as data
  pub data_in : Tables → Items → Data
  data_in t NoItems = NoData
  data_in t (ItemAnd first others) = datum_in t first (data_in t others)
