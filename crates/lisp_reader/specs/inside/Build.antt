-- The nodes of data, built mark by mark from the last to the first.
use Rattle.std.specs.Prelude.{ℕ, ◌+◌, ◌-◌, List, [], ◌∷◌, Option, Some, None, length, sum_by}
use Rattle.lisp_data.specs.declared.datum.DatumKind.{DatumKind}
use Rattle.lisp_data.specs.declared.datum.DatumKind.TheVariants.{List as AList, Symbol as ASymbol}
use Rattle.lisp_data.specs.Data.{leaf_kind, node_at, nodes_under}
use Rattle.lisp_data.specs.declared.datum.DatumNode.{DatumNode}
use Rattle.lisp_reader.specs.declared.build.Builder.{Builder}
use Rattle.lisp_reader.specs.declared.build.Partial.{Partial}
use Rattle.lisp_reader.specs.declared.gather.Mark.{Mark}
use Rattle.lisp_reader.specs.declared.gather.MarkKind.{MarkKind}
use Rattle.lisp_reader.specs.declared.gather.MarkKind.TheVariants.{Open, Close, Quote, ALeaf}
use Rattle.lisp_reader.specs.inside.Stack.{top_of, below}

-- a list of so many items, after which so many nodes stand
abbrev pub partial : ℕ → ℕ → Partial
partial items after = record { items = items; after = after }

-- nothing built
abbrev pub nothing_built : Builder
nothing_built = record { inner = partial 0 0; outer = []; nodes = [] }

-- one more datum at the beginning of the innermost list
abbrev pub with_item : DatumKind → ℕ → Builder → Builder
with_item k p b = record b { inner = partial (b.inner.items + 1) b.inner.after; nodes = node_at k p ∷ b.nodes }

-- the end of a list, of which no item is seen yet
abbrev pub closed : Builder → Builder
closed b = record b { inner = partial 0 (length b.nodes); outer = b.inner ∷ b.outer }

-- a list, or nothing of one
abbrev pub or_nothing : Option Partial → Partial
or_nothing None = partial 0 0
or_nothing (Some l) = l

-- the beginning of a list: in it stand all nodes but those after its end
abbrev pub opened : ℕ → Builder → Builder
opened p b =
    with_item (AList b.inner.items (length b.nodes - b.inner.after)) p (record b { inner = or_nothing (top_of b.outer); outer = below b.outer })

-- how many nodes the first datum has, by its node
abbrev pub first_size : Option DatumNode → ℕ
first_size None = 0
first_size (Some n) = nodes_under n.kind + 1

-- a quote makes a list of two items: its symbol, and the datum after it
abbrev pub quoted : ℕ → ℕ → Builder → Builder
quoted id p b = record b { nodes = node_at (AList 2 (first_size (top_of b.nodes) + 1)) p ∷ (node_at (ASymbol id) p ∷ b.nodes) }

-- one mark of this kind at this place, before the others
abbrev pub moved : MarkKind → ℕ → Builder → Builder
moved Open p b = opened p b
moved Close p b = closed b
moved (Quote id) p b = quoted id p b
moved (ALeaf leaf) p b = with_item (leaf_kind leaf) p b

-- what these marks build
abbrev pub built : List Mark → Builder
built [] = nothing_built
built (m ∷ ms) = moved m.kind m.place (built ms)

-- how many data are counted
abbrev pub total : Builder → ℕ
total b = b.inner.items + sum_by (λ l. l.items) b.outer
