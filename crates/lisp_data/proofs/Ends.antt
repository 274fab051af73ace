-- Where a datum ends among the nodes of whole data.
use Rattle.std.proofs.Common.{◌≡◌, ℕ, zero, suc, ◌+◌, ◌-◌, ◌<◌, ◌≤◌, ◌^◌, List, [], ◌∷◌, ◌++◌, length, take, drop, get_or, refl, ap, sym, ◌∙◌, arith, add-one, drop-cons, length-append, length-drop, length-take, append_assoc, append-nil}
use Rattle.std.proofs.lemmas.List.{drop_all, drop-drop}
use Rattle.std.proofs.Math.Seq.{drop-append_seam, take-append_seam}
use Rattle.lisp_data.specs.declared.datum.DatumKind.{DatumKind}
use Rattle.lisp_data.specs.declared.datum.DatumKind.TheVariants.{List as AList, Int as AnInt, Symbol as ASymbol, Text as AText, Time as ATime}
use Rattle.lisp_data.specs.declared.datum.DatumNode.{DatumNode}
use Rattle.lisp_data.specs.Data.{Data, NoData, Atom, Listed, AreWhole, IsDatum, begun, behind, count_of, data_of, each, front, node_at, nodes_under, written}
use Rattle.lisp_data.specs.inside.DataCode.{data_back}
use Rattle.lisp_data.specs.inside.Splitting.{IsEnd}

-- how many are left behind some
pub count-behind : (n : ℕ) (d : Data) → count_of (behind n d) ≡ count_of d - n
count-behind zero d = omega arith
count-behind (suc n) NoData = omega arith
count-behind (suc n) (Atom leaf p beside) = omega (arith, count-behind n beside)
count-behind (suc n) (Listed p under beside) = omega (arith, count-behind n beside)

-- the node at a place, and those behind it
drop-at : (nodes : List DatumNode) (at : ℕ) (n : DatumNode) → at < length nodes → n ≡ get_or nodes at n → drop at nodes ≡ n ∷ drop (at + 1) nodes
drop-at nodes at n h is = let e : drop at nodes ≡ get_or nodes at n ∷ drop (suc at) nodes = drop-cons nodes at n h in rw (add-one, is) e

-- what a node before whole nodes says of them: the first datum, and those after it
record Fronted (k : DatumKind) (p : ℕ) (n : DatumNode) (ns : List DatumNode) : Type 0 where
  inside : nodes_under k ≤ length ns
  first : n ∷ take (nodes_under k) ns ≡ written (front 1 (begun k p (data_of ns)))
  rest : drop (nodes_under k) ns ≡ written (behind 1 (begun k p (data_of ns)))

-- the nodes of the first datum are as many as the first node says
fronted : (k : DatumKind) (p : ℕ) (n : DatumNode) (ns : List DatumNode) → written (begun k p (data_of ns)) ≡ n ∷ ns → n.kind ≡ k → Fronted k p n ns
fronted (AList m s) p n ns h e =
    let f : List DatumNode = written (front m (data_of ns)) in
    let b : List DatumNode = written (behind m (data_of ns)) in
    let node : node_at (AList (count_of (front m (data_of ns))) (length f)) p ≡ n = cc in
    let is : AList (count_of (front m (data_of ns))) (length f) ≡ AList m s = ap (λ (x : DatumNode). x.kind) node ∙ e in
    let span : length f ≡ s = cc in
    let all : f ++ b ≡ ns = cc in
    let first' : take s ns ≡ f = ap (take s) (sym all) ∙ ap (λ j. take j (f ++ b)) (sym span) ∙ take-append_seam f b in
    record {
      inside = omega (arith, span, ap length all, length-append f b);
      first = ap (λ x. x ∷ take s ns) (sym node) ∙ ap (λ xs. node_at (AList (count_of (front m (data_of ns))) (length f)) p ∷ xs) (first' ∙ sym (append-nil f));
      rest = ap (drop s) (sym all) ∙ ap (λ j. drop j (f ++ b)) (sym span) ∙ drop-append_seam f b;
    }
fronted (AnInt z) p n ns h e = record { inside = omega arith; first = cc; rest = cc }
fronted (ASymbol s) p n ns h e = record { inside = omega arith; first = cc; rest = cc }
fronted (AText s) p n ns h e = record { inside = omega arith; first = cc; rest = cc }
fronted (ATime t) p n ns h e = record { inside = omega arith; first = cc; rest = cc }

-- a datum ends after the nodes that stand in its first
pub ends : (nodes : List DatumNode) (at : ℕ) (n : DatumNode) → AreWhole (drop at nodes) → at < length nodes → n ≡ get_or nodes at n
    → IsEnd nodes at (at + 1 + nodes_under n.kind)
ends nodes at n whole h is =
    let ns : List DatumNode = drop (at + 1) nodes in
    let here : drop at nodes ≡ n ∷ ns = drop-at nodes at n h is in
    let whole' : AreWhole (n ∷ ns) = rw here at whole in
    let f : Fronted n.kind n.place n ns = fronted n.kind n.place n ns whole' refl in
    let size : at + 1 + nodes_under n.kind - at ≡ suc (nodes_under n.kind) = omega arith in
    record {
      further = omega arith;
      inside = omega (arith, f.inside, length-drop (at + 1) nodes);
      first = rw (size, here) f.first;
      rest = sym (drop-drop (nodes_under n.kind) (at + 1) nodes) ∙ rw here f.rest;
    }

-- a first node begins a datum
some_begun : (k : DatumKind) (p : ℕ) (d : Data) → 1 ≤ count_of (begun k p d)
some_begun (AList m s) p d = omega arith
some_begun (AnInt z) p d = omega arith
some_begun (ASymbol s) p d = omega arith
some_begun (AText s) p d = omega arith
some_begun (ATime t) p d = omega arith

-- some data are written where some nodes are left
some_data : (ns : List DatumNode) → 0 < length ns → 1 ≤ count_of (data_of ns)
some_data [] h = absurd (omega arith)
some_data (n ∷ ns) h = some_begun n.kind n.place (data_of ns)

-- some data are a first one and those behind it
each_parts : (d : Data) → 1 ≤ count_of d → each d ≡ front 1 d ∷ each (behind 1 d)
each_parts NoData h = absurd (omega arith)
each_parts (Atom leaf p beside) h = refl
each_parts (Listed p under beside) h = refl

-- the first of some data is one
count_first : (d : Data) → 1 ≤ count_of d → count_of (front 1 d) ≡ 1
count_first NoData h = absurd (omega arith)
count_first (Atom leaf p beside) h = refl
count_first (Listed p under beside) h = refl

-- the data that are split so far, with those at a node and behind it, are all
pub record SplitAt (nodes : List DatumNode) (at : ℕ) (data' : List Data) : Type 0 where
  pub within : at ≤ length nodes
  pub whole : AreWhole (drop at nodes)
  pub all : data' ++ each (data_of (drop at nodes)) ≡ each (data_of nodes)

-- the nodes up to the end of a datum are those of one whole datum
pub one_datum : (nodes : List DatumNode) (at next : ℕ) → length nodes < 2 ^ 30 → at < length nodes → IsEnd nodes at next
    → IsDatum (take (next - at) (drop at nodes))
one_datum nodes at next few h end =
    let d : Data = data_of (drop at nodes) in
    let some : 0 < length (drop at nodes) = omega (arith, length-drop at nodes) in
    let fewer : length (take (next - at) (drop at nodes)) < 2 ^ 30 = omega (arith, few, length-drop at nodes, length-take (next - at) (drop at nodes)) in
    record {
      whole = rw end.first (ap written (data_back (front 1 d)));
      one = rw end.first (ap count_of (data_back (front 1 d)) ∙ count_first d (some_data (drop at nodes) some));
      short = fewer;
    }

-- one datum more is split
pub split_more : (nodes : List DatumNode) (at next : ℕ) (data' : List Data) (datum : Data) → SplitAt nodes at data' → at < length nodes → IsEnd nodes at next
    → datum ≡ data_of (take (next - at) (drop at nodes)) → SplitAt nodes next (data' ++ datum ∷ [])
split_more nodes at next data' datum s h end is =
    let d : Data = data_of (drop at nodes) in
    let some : 0 < length (drop at nodes) = omega (arith, length-drop at nodes) in
    let first' : datum ≡ front 1 d = is ∙ ap data_of end.first ∙ data_back (front 1 d) in
    let rest' : data_of (drop next nodes) ≡ behind 1 d = ap data_of end.rest ∙ data_back (behind 1 d) in
    let parts : datum ∷ each (data_of (drop next nodes)) ≡ each d = rw (first', rest') (sym (each_parts d (some_data (drop at nodes) some))) in
    record {
      within = end.inside;
      whole = ap written rest' ∙ sym end.rest;
      all = append_assoc data' (datum ∷ []) (each (data_of (drop next nodes))) ∙ ap (λ ds. data' ++ ds) parts ∙ s.all;
    }

-- no node is left, so all are split
pub split_all : (nodes : List DatumNode) (at : ℕ) (data' : List Data) → SplitAt nodes at data' → length nodes ≤ at → data' ≡ each (data_of nodes)
split_all nodes at data' s h =
    let nothing : drop at nodes ≡ [] = drop_all at nodes h in
    sym (append-nil data') ∙ ap (λ ns. data' ++ each (data_of ns)) (sym nothing) ∙ s.all
