-- Data as trees, and the same written flat, in preorder.
use Rattle.std.specs.Prelude.{◌≡◌, ◌<◌, ◌^◌, ℕ, zero, suc, List, [], ◌∷◌, ◌++◌, length}
use Rattle.lisp_data.specs.declared.datum.DatumKind.{DatumKind}
use Rattle.lisp_data.specs.declared.datum.DatumKind.TheVariants.{List as AList, Int as AnInt, Symbol as ASymbol, Text as AText, Time as ATime}
use Rattle.lisp_data.specs.declared.datum.DatumNode.{DatumNode}
use Rattle.lisp_data.specs.declared.datum.Leaf.{Leaf}
use Rattle.lisp_data.specs.declared.datum.Leaf.TheVariants.{Int, Symbol, Text, Time}

-- Data beside one another: none, or a first datum with the data beside it. A datum is a leaf, or a list with its items under it.
pub data Data : Type 0 where
  NoData : Data
  Atom : (leaf : Leaf) (place : ℕ) (beside : Data) → Data
  Listed : (place : ℕ) (under beside : Data) → Data

-- how many data stand beside one another
abbrev pub count_of : Data → ℕ
count_of NoData = 0
count_of (Atom leaf p beside) = suc (count_of beside)
count_of (Listed p under beside) = suc (count_of beside)

-- the first n data
abbrev pub front : ℕ → Data → Data
front zero d = NoData
front (suc n) NoData = NoData
front (suc n) (Atom leaf p beside) = Atom leaf p (front n beside)
front (suc n) (Listed p under beside) = Listed p under (front n beside)

-- the data after the first n
abbrev pub behind : ℕ → Data → Data
behind zero d = d
behind (suc n) NoData = NoData
behind (suc n) (Atom leaf p beside) = behind n beside
behind (suc n) (Listed p under beside) = behind n beside

-- each datum by itself
abbrev pub each : Data → List Data
each NoData = []
each (Atom leaf p beside) = Atom leaf p NoData ∷ each beside
each (Listed p under beside) = Listed p under NoData ∷ each beside

-- a leaf as a node
abbrev pub leaf_kind : Leaf → DatumKind
leaf_kind (Int z) = AnInt z
leaf_kind (Symbol s) = ASymbol s
leaf_kind (Text s) = AText s
leaf_kind (Time t) = ATime t

-- a node of this kind at this place
abbrev pub node_at : DatumKind → ℕ → DatumNode
node_at k p = record { place = p; kind = k }

-- each datum before its items, and these before the data beside it; a list says how many items it has, and how many nodes these are
abbrev pub written : Data → List DatumNode
written NoData = []
written (Atom leaf p beside) = node_at (leaf_kind leaf) p ∷ written beside
written (Listed p under beside) = node_at (AList (count_of under) (length (written under))) p ∷ (written under ++ written beside)

-- how many nodes stand in a node, by what it says
abbrev pub nodes_under : DatumKind → ℕ
nodes_under (AList items nodes) = nodes
nodes_under (AnInt z) = 0
nodes_under (ASymbol s) = 0
nodes_under (AText s) = 0
nodes_under (ATime t) = 0

-- a node before data: a list takes as many of them as it has items
abbrev pub begun : DatumKind → ℕ → Data → Data
begun (AList items nodes) p d = Listed p (front items d) (behind items d)
begun (AnInt z) p d = Atom (Int z) p d
begun (ASymbol s) p d = Atom (Symbol s) p d
begun (AText s) p d = Atom (Text s) p d
begun (ATime t) p d = Atom (Time t) p d

-- the data that are written so
abbrev pub data_of : List DatumNode → Data
data_of [] = NoData
data_of (n ∷ ns) = begun n.kind n.place (data_of ns)

-- these nodes are those of whole data
abbrev pub AreWhole : List DatumNode → Type 0
AreWhole nodes = written (data_of nodes) ≡ nodes

-- These nodes are those of whole data. They are fewer than 2^30, which is more than any text has.
pub record AreData (nodes : List DatumNode) : Type 0 where
  pub whole : AreWhole nodes
  pub short : length nodes < 2 ^ 30

-- These nodes are those of one whole datum. They are fewer than 2^30, which is more than any text has.
pub record IsDatum (nodes : List DatumNode) : Type 0 where
  pub whole : AreWhole nodes
  pub one : count_of (data_of nodes) ≡ 1
  pub short : length nodes < 2 ^ 30

-- These nodes are those of so many data. They are fewer than 2^30, which is more than any text has.
pub record AreItems (nodes : List DatumNode) (count : ℕ) : Type 0 where
  pub whole : AreWhole nodes
  pub many : count ≡ count_of (data_of nodes)
  pub short : length nodes < 2 ^ 30
