-- The first of several data, by the end of its nodes.
use Rattle.std.proofs.Common.{◌≡◌, ℕ, zero, suc, ◌-◌, ◌<◌, ◌≤◌, ◌^◌, List, [], ◌∷◌, ◌++◌, length, take, drop, get_or, refl, ap, subst, sym, ◌∙◌, arith, length-drop, length-take, append-nil}
use Rattle.std.proofs.lemmas.List.{length-append, take_all}
use Rattle.lisp_data.specs.declared.datum.DatumKind.TheVariants.{List as AList}
use Rattle.lisp_data.specs.declared.datum.DatumNode.{DatumNode}
use Rattle.lisp_data.specs.declared.datum.Leaf.{Leaf}
use Rattle.lisp_data.specs.declared.items.First.{First}
use Rattle.lisp_data.specs.declared.items.First.TheVariants.{Leaf as FirstLeaf, List as FirstList}
use Rattle.lisp_data.specs.First.{with_first}
use Rattle.lisp_data.specs.Data.{Data, NoData, Atom, Listed, AreItems, begun, behind, count_of, data_of, front, leaf_kind, node_at, written}
use Rattle.lisp_data.specs.inside.DataCode.{data_back, leaf_begun}
use Rattle.lisp_data.specs.inside.Splitting.{IsEnd}
use Rattle.lisp_data.proofs.Ends.{count-behind}

-- one datum by itself
pub one_item : (nodes : List DatumNode) (d : Data) → nodes ≡ written d → count_of d ≡ 1 → length nodes < 2 ^ 30 → AreItems nodes 1
one_item nodes d is one short =
    let read : data_of nodes ≡ d = ap data_of is ∙ data_back d in
    record { whole = ap written read ∙ sym is; many = rw read (sym one); short = short }

-- there are no more data than nodes
count-written : (d : Data) → count_of d ≤ length (written d)
count-written NoData = omega arith
count-written (Atom leaf p beside) = omega (arith, count-written beside)
count-written (Listed p under beside) = omega (arith, count-written beside, length-append (written under) (written beside))

-- so they are few
pub few_items : (nodes : List DatumNode) (count : ℕ) → AreItems nodes count → count_of (data_of nodes) < 2 ^ 30
few_items nodes count items =
    let fits : length (written (data_of nodes)) < 2 ^ 30 = rw (items.whole) items.short in
    omega (arith, fits, count-written (data_of nodes))

-- where there are none, they are none
pub no_items : (d : Data) → 0 ≡ count_of d → d ≡ NoData
no_items NoData h = refl
no_items (Atom leaf p beside) h = absurd (omega arith)
no_items (Listed p under beside) h = absurd (omega arith)

-- all behind the end are those behind the first
behind_end : (nodes : List DatumNode) (next : ℕ) → IsEnd nodes 0 next
    → take (length nodes - next) (drop next nodes) ≡ written (behind 1 (data_of nodes))
behind_end nodes next end =
    let few : length (drop next nodes) ≤ length nodes - next = omega (arith, length-drop next nodes) in
    take_all (length nodes - next) (drop next nodes) few ∙ end.rest

-- they read as those behind the first
others_read : (nodes : List DatumNode) (next : ℕ) → IsEnd nodes 0 next
    → data_of (take (length nodes - next) (drop next nodes)) ≡ behind 1 (data_of nodes)
others_read nodes next end = ap data_of (behind_end nodes next end) ∙ data_back (behind 1 (data_of nodes))

-- the others are whole, and one fewer
pub other_items : (nodes : List DatumNode) (count next : ℕ) → AreItems nodes count → IsEnd nodes 0 next
    → AreItems (take (length nodes - next) (drop next nodes)) (count - 1)
other_items nodes count next items end =
    let ns : List DatumNode = take (length nodes - next) (drop next nodes) in
    let read : data_of ns ≡ behind 1 (data_of nodes) = others_read nodes next end in
    record {
      whole = ap written read ∙ sym (behind_end nodes next end);
      many = rw read (omega (arith, items.many, count-behind 1 (data_of nodes)));
      short = omega (arith, items.short, length-drop next nodes, length-take (length nodes - next) (drop next nodes));
    }

-- the nodes that stand under a list
record IsUnder (m : ℕ) (ns : List DatumNode) (next : ℕ) : Type 0 where
  under : take (next - 1) ns ≡ written (front m (data_of ns))
  many : count_of (front m (data_of ns)) ≡ m

-- a list's nodes are those of its items
under_list : (m s p : ℕ) (ns : List DatumNode) (next : ℕ) → IsEnd (node_at (AList m s) p ∷ ns) 0 next → IsUnder m ns next
under_list m s p ns zero end = absurd (omega (arith, end.further))
under_list m s p ns (suc e) end =
    let d : Data = data_of ns in
    let all : suc e - 0 ≡ suc e = omega arith in
    let size : ℕ = length (written (front m d)) in
    let h : node_at (AList m s) p ∷ take e ns ≡ node_at (AList (count_of (front m d)) size) p ∷ (written (front m d) ++ []) = rw all at end.first in
    let node : node_at (AList (count_of (front m d)) size) p ≡ node_at (AList m s) p = cc in
    let is : AList (count_of (front m d)) size ≡ AList m s = ap (λ (x : DatumNode). x.kind) node in
    let one : suc e - 1 ≡ e = omega arith in
    let rest : take e ns ≡ written (front m d) ++ [] = cc in
    record { under = rw one (rest ∙ append-nil (written (front m d))); many = cc }

-- a list's items are as many as it says
pub first_items : (nodes : List DatumNode) (count m s next : ℕ) (n : DatumNode) → AreItems nodes count → IsEnd nodes 0 next
    → (get_or nodes 0 n).kind ≡ AList m s → AreItems (take (next - 1) (drop 1 nodes)) m
first_items [] count m s next n items end is = absurd (omega (arith, end.further, end.inside))
first_items (n' ∷ ns) count m s next n items end is =
    let at : IsUnder m ns next = under_list m s n'.place ns next (subst (λ k. IsEnd (node_at k n'.place ∷ ns) 0 next) is end) in
    let read : data_of (take (next - 1) ns) ≡ front m (data_of ns) = ap data_of at.under ∙ data_back (front m (data_of ns)) in
    record {
      whole = ap written read ∙ sym at.under;
      many = rw read (sym at.many);
      short = omega (arith, items.short, length-take (next - 1) ns);
    }

-- whole data are a list in front of nodes, with its items under it, and the others
pub split_list : (nodes : List DatumNode) (m s next : ℕ) (n : DatumNode) (first : First)
    → first ≡ FirstList (get_or nodes 0 n).place (data_of (take (next - 1) (drop 1 nodes))) → IsEnd nodes 0 next → (get_or nodes 0 n).kind ≡ AList m s
    → data_of nodes ≡ with_first first (data_of (take (length nodes - next) (drop next nodes)))
split_list [] m s next n first f end is = absurd (omega (arith, end.further, end.inside))
split_list (n' ∷ ns) m s next n first f end is =
    let at : IsUnder m ns next = under_list m s n'.place ns next (subst (λ k. IsEnd (node_at k n'.place ∷ ns) 0 next) is end) in
    let read : data_of (take (next - 1) ns) ≡ front m (data_of ns) = ap data_of at.under ∙ data_back (front m (data_of ns)) in
    let here : data_of (n' ∷ ns) ≡ Listed n'.place (front m (data_of ns)) (behind m (data_of ns)) = ap (λ k. begun k n'.place (data_of ns)) is in
    let others : data_of (take (length (n' ∷ ns) - next) (drop next (n' ∷ ns))) ≡ behind m (data_of ns) =
    others_read (n' ∷ ns) next end ∙ ap (behind 1) here in
    rw (f, read, others) here

-- whole data are a leaf and the others
pub split_leaf : (nodes : List DatumNode) (leaf : Leaf) (next : ℕ) (n : DatumNode) (first : First)
    → first ≡ FirstLeaf leaf (get_or nodes 0 n).place → IsEnd nodes 0 next → (get_or nodes 0 n).kind ≡ leaf_kind leaf
    → data_of nodes ≡ with_first first (data_of (take (length nodes - next) (drop next nodes)))
split_leaf [] leaf next n first f end is = absurd (omega (arith, end.further, end.inside))
split_leaf (n' ∷ ns) leaf next n first f end is =
    let here : data_of (n' ∷ ns) ≡ Atom leaf n'.place (data_of ns) = ap (λ k. begun k n'.place (data_of ns)) is ∙ leaf_begun leaf n'.place (data_of ns) in
    let others : data_of (take (length (n' ∷ ns) - next) (drop next (n' ∷ ns))) ≡ data_of ns =
    others_read (n' ∷ ns) next end ∙ ap (behind 1) here in
    rw (f, others) here
