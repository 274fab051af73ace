-- The marks of items build the nodes of their data.
use Rattle.std.proofs.Common.{◌≡◌, ℕ, suc, ◌+◌, ◌-◌, ◌≤◌, List, [], ◌∷◌, ◌++◌, length, map, refl, ap, sym, ◌∙◌, arith, add-one, append_assoc, append-nil, length-append, sum_by}
use Rattle.std.proofs.lemmas.List.Sums.{sum_by-cons}
use Rattle.lisp_data.specs.declared.datum.DatumNode.{DatumNode}
use Rattle.lisp_data.specs.declared.datum.Leaf.{Leaf}
use Rattle.lisp_data.specs.declared.datum.Leaf.TheVariants.{Int, Symbol as SymbolLeaf, Text as TextLeaf, Time}
use Rattle.lisp_data.specs.Data.{Data, NoData, Atom, Listed, count_of, leaf_kind, nodes_under, written}
use Rattle.lisp_reader.specs.declared.build.Builder.{Builder}
use Rattle.lisp_reader.specs.declared.build.Partial.{Partial}
use Rattle.lisp_reader.specs.declared.gather.Mark.{Mark}
use Rattle.lisp_reader.specs.declared.gather.MarkKind.{MarkKind}
use Rattle.lisp_reader.specs.declared.gather.MarkKind.TheVariants.{Open, Close, Quote, ALeaf}
use Rattle.lisp_reader.specs.inside.Build.{built, first_size, moved, opened, or_nothing, partial, quoted, total, with_item}
use Rattle.lisp_reader.specs.Gathering.{quote_name}
use Rattle.lisp_reader.specs.Grammar.{Item, ItemAnd, Items, ListItem, LiteralItem, NoItems, QuoteItem, TokenItem, data_in, datum_in, leaf_of, spelled, spelled_item}
use Rattle.lisp_reader.specs.inside.Marking.{mark_of}
use Rattle.lisp_reader.specs.Meanings.{meaning_in}
use Rattle.lisp_reader.specs.Parts.{Part, Closes}
use Rattle.lisp_reader.specs.inside.Stack.{below, top_of}
use Rattle.lisp_reader.specs.Tables.{Tables, number_in}

-- what is written for data, each in front of the next
abbrev all_written : List Data → List DatumNode
all_written [] = []
all_written (e ∷ es) = written e ++ all_written es

-- these data of a list, after which those of the lists around it stand
abbrev partly : Data → List Data → Partial
partly d es = partial (count_of d) (length (all_written es))

-- the lists around, each with its data
abbrev levels : List Data → List Partial
levels [] = []
levels (e ∷ es) = partly e es ∷ levels es

-- a builder that shows the data of the innermost list, and those of the lists around it
abbrev shown : Data → List Data → Builder
shown d es = record { inner = partly d es; outer = levels es; nodes = written d ++ all_written es }

-- a leaf in front
atom_shows : (leaf : Leaf) (p : ℕ) (d : Data) (es : List Data) → with_item (leaf_kind leaf) p (shown d es) ≡ shown (Atom leaf p d) es
atom_shows leaf p d es =
    ap (λ n. record { inner = partial n (length (all_written es)); outer = levels es; nodes = written (Atom leaf p d) ++ all_written es })
    (add-one (count_of d))

-- a leaf is one node
leaf_size : (leaf : Leaf) → nodes_under (leaf_kind leaf) + 1 ≡ 1
leaf_size (Int z) = refl
leaf_size (SymbolLeaf s) = refl
leaf_size (TextLeaf s) = refl
leaf_size (Time t) = refl

-- what stands before some nodes is as long as all but these
span : (xs ys : List DatumNode) → length (xs ++ ys) - length ys ≡ length xs
span xs ys = omega (arith, length-append xs ys)

-- a list in front
list_shows : (p : ℕ) (under d : Data) (es : List Data) → opened p (shown under (d ∷ es)) ≡ shown (Listed p under d) es
list_shows p under d es =
    rw (span (written under) (written d ++ all_written es), append_assoc (written under) (written d) (all_written es), add-one (count_of d)) refl

-- an item is one datum
one_datum : (t : Tables) (i : Item) (d : Data) → count_of (datum_in t i d) ≡ suc (count_of d)
one_datum t (TokenItem p letters) d = refl
one_datum t (LiteralItem p characters) d = refl
one_datum t (ListItem p q under) d = refl
one_datum t (QuoteItem function p i) d = refl

-- its nodes stand in front of the others
datum_written : (t : Tables) (i : Item) (d : Data) → written (datum_in t i d) ≡ written (datum_in t i NoData) ++ written d
datum_written t (TokenItem p letters) d = refl
datum_written t (LiteralItem p characters) d = refl
datum_written t (ListItem p q under) d = rw (append-nil (written (data_in t under))) refl
datum_written t (QuoteItem function p i) d = rw (append-nil (written (datum_in t i NoData))) refl

-- the first node says how many nodes the item has
first_says : (t : Tables) (i : Item) (d : Data) (ns : List DatumNode)
    → first_size (top_of (written (datum_in t i d) ++ ns)) ≡ length (written (datum_in t i NoData))
first_says t (TokenItem p letters) d ns = leaf_size (leaf_of t.symbols letters (meaning_in letters))
first_says t (LiteralItem p characters) d ns = refl
first_says t (ListItem p q under) d ns = rw (append-nil (written (data_in t under))) (add-one (length (written (data_in t under))))
first_says t (QuoteItem function p i) d ns = rw (append-nil (written (datum_in t i NoData))) (add-one (suc (length (written (datum_in t i NoData)))))

-- a quote in front of an item
quote_shows : (t : Tables) (i : Item) (id p : ℕ) (d : Data) (es : List Data)
    → quoted id p (shown (datum_in t i d) es) ≡ shown (Listed p (Atom (SymbolLeaf id) p (datum_in t i NoData)) d) es
quote_shows t i id p d es =
    rw (
      first_says t i d (all_written es),
      add-one (length (written (datum_in t i NoData))),
      one_datum t i d,
      one_datum t i NoData,
      datum_written t i d,
      append_assoc (written (datum_in t i NoData)) (written d) (all_written es),
    ) refl

mutual
  -- the marks of an item in front of what is shown
  item_builds : (t : Tables) (i : Item) (d : Data) (es : List Data) (ps : List Part) → built (map (mark_of t) ps) ≡ shown d es
      → built (map (mark_of t) (spelled_item i ++ ps)) ≡ shown (datum_in t i d) es
  item_builds t (TokenItem p letters) d es ps h =
      let leaf = leaf_of t.symbols letters (meaning_in letters) in ap (moved (ALeaf leaf) p) h ∙ atom_shows leaf p d es
  item_builds t (LiteralItem p characters) d es ps h =
      let leaf = TextLeaf (number_in t.literals characters) in ap (moved (ALeaf leaf) p) h ∙ atom_shows leaf p d es
  item_builds t (ListItem p q under) d es ps h =
      let closed : built (map (mark_of t) (Closes q ∷ ps)) ≡ shown NoData (d ∷ es) = ap (moved Close q) h in
      let inside : built (map (mark_of t) (spelled under ++ (Closes q ∷ ps))) ≡ shown (data_in t under) (d ∷ es) =
      items_build t under (d ∷ es) (Closes q ∷ ps) closed in
      rw (append_assoc (spelled under) (Closes q ∷ []) ps) (ap (moved Open p) inside ∙ list_shows p (data_in t under) d es)
  item_builds t (QuoteItem function p i) d es ps h =
      let id = number_in t.symbols (quote_name function) in
      ap (moved (Quote id) p) (item_builds t i d es ps h) ∙ quote_shows t i id p d es

  -- the marks of items at the front of the innermost list
  items_build : (t : Tables) (is : Items) (es : List Data) (ps : List Part) → built (map (mark_of t) ps) ≡ shown NoData es
      → built (map (mark_of t) (spelled is ++ ps)) ≡ shown (data_in t is) es
  items_build t NoItems es ps h = h
  items_build t (ItemAnd first others) es ps h =
      rw (append_assoc (spelled_item first) (spelled others) ps)
      (item_builds t first (data_in t others) es (spelled others ++ ps) (items_build t others es ps h))

-- the marks of a text build the nodes of its data
pub nodes_built : (t : Tables) (is : Items) (ps : List Part) → spelled is ≡ ps → (built (map (mark_of t) ps)).nodes ≡ written (data_in t is)
nodes_built t is ps h =
    let all : spelled is ++ [] ≡ ps = append-nil (spelled is) ∙ h in
    ap (λ (x : List Part). (built (map (mark_of t) x)).nodes) (sym all) ∙ ap (λ (b : Builder). b.nodes) (items_build t is [] [] refl)
    ∙ append-nil (written (data_in t is))

-- the beginning of a list leaves the list around it, with one item more
left_total : (outer : List Partial) → (or_nothing (top_of outer)).items + 1 + sum_by (λ l. l.items) (below outer) ≤ sum_by (λ l. l.items) outer + 1
left_total [] = omega arith
left_total (l ∷ outer) = rw (sum_by-cons (λ (k : Partial). k.items) l outer) (omega arith)

-- each mark adds at most one datum
moved_total : (k : MarkKind) (p : ℕ) (b : Builder) → total (moved k p b) ≤ total b + 1
moved_total Open p b = omega (arith, left_total b.outer)
moved_total Close p b = rw (sum_by-cons (λ (k : Partial). k.items) b.inner b.outer) (omega arith)
moved_total (Quote id) p b = omega arith
moved_total (ALeaf leaf) p b = omega arith

-- no more data are counted than there are marks
pub built_total : (ms : List Mark) → total (built ms) ≤ length ms
built_total [] = omega arith
built_total (m ∷ ms) = omega (arith, built_total ms, moved_total m.kind m.place (built ms))

-- each mark adds at most two nodes
moved_nodes : (k : MarkKind) (p : ℕ) (b : Builder) → length (moved k p b).nodes ≤ length b.nodes + 2
moved_nodes Open p b = omega arith
moved_nodes Close p b = omega arith
moved_nodes (Quote id) p b = omega arith
moved_nodes (ALeaf leaf) p b = omega arith

-- so there are few nodes
pub built_nodes : (ms : List Mark) → length (built ms).nodes ≤ length ms + length ms
built_nodes [] = omega arith
built_nodes (m ∷ ms) = omega (arith, built_nodes ms, moved_nodes m.kind m.place (built ms))

-- the first datum has no more nodes than there are
moved_first : (k : MarkKind) (p : ℕ) (b : Builder) → first_size (top_of b.nodes) ≤ length b.nodes
    → first_size (top_of (moved k p b).nodes) ≤ length (moved k p b).nodes
moved_first Open p b h = omega arith
moved_first Close p b h = h
moved_first (Quote id) p b h = omega arith
moved_first (ALeaf leaf) p b h = omega (arith, leaf_size leaf)

pub built_first : (ms : List Mark) → first_size (top_of (built ms).nodes) ≤ length (built ms).nodes
built_first [] = omega arith
built_first (m ∷ ms) = moved_first m.kind m.place (built ms) (built_first ms)
