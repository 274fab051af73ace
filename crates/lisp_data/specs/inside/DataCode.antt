-- How the logic stores data: as the nodes that are written for them, which give them back.
use Rattle.std.specs.Coded.{Coded, code_by, coded×, coded_list, coded_ℕ, coded_ℤ}
use Rattle.std.proofs.Common.{◌≡◌, ℕ, zero, suc, ℤ, pos, negsuc, List, [], ◌++◌, length, refl, ap, sym, ◌∙◌, append_assoc, append-nil}
use Rattle.lisp_data.specs.declared.datum.DatumKind.{DatumKind}
use Rattle.lisp_data.specs.declared.datum.DatumKind.TheVariants.{List as AList, Int as AnInt, Symbol as ASymbol, Text as AText, Time as ATime}
use Rattle.lisp_data.specs.declared.datum.DatumNode.{DatumNode}
use Rattle.lisp_data.specs.declared.datum.Leaf.{Leaf}
use Rattle.lisp_data.specs.declared.datum.Leaf.TheVariants.{Int, Symbol, Text, Time}
use Rattle.lisp_data.specs.Data.{Data, NoData, Atom, Listed, begun, behind, count_of, data_of, front, leaf_kind, node_at, written}

-- the data of both, one after the other
abbrev pub append : Data → Data → Data
append NoData e = e
append (Atom leaf p beside) e = Atom leaf p (append beside e)
append (Listed p under beside) e = Listed p under (append beside e)

-- with no data after them
pub append_none : (d : Data) → append d NoData ≡ d
append_none NoData = refl
append_none (Atom leaf p beside) = ap (Atom leaf p) (append_none beside)
append_none (Listed p under beside) = ap (Listed p under) (append_none beside)

-- the first of both are those of the first
pub front_append : (d e : Data) → front (count_of d) (append d e) ≡ d
front_append NoData e = refl
front_append (Atom leaf p beside) e = ap (Atom leaf p) (front_append beside e)
front_append (Listed p under beside) e = ap (Listed p under) (front_append beside e)

-- the others are those of the second
pub behind_append : (d e : Data) → behind (count_of d) (append d e) ≡ e
behind_append NoData e = refl
behind_append (Atom leaf p beside) e = behind_append beside e
behind_append (Listed p under beside) e = behind_append beside e

-- a leaf before data
pub leaf_begun : (leaf : Leaf) (p : ℕ) (d : Data) → begun (leaf_kind leaf) p d ≡ Atom leaf p d
leaf_begun (Int z) p d = refl
leaf_begun (Symbol s) p d = refl
leaf_begun (Text s) p d = refl
leaf_begun (Time t) p d = refl

-- what is written for data, with other nodes after it, reads as these data with theirs after them
pub data_in_front : (d : Data) (ns : List DatumNode) → data_of (written d ++ ns) ≡ append d (data_of ns)
data_in_front NoData ns = refl
data_in_front (Atom leaf p beside) ns = leaf_begun leaf p (data_of (written beside ++ ns)) ∙ ap (Atom leaf p) (data_in_front beside ns)
data_in_front (Listed p under beside) ns =
    let rest : data_of ((written under ++ written beside) ++ ns) ≡ append under (append beside (data_of ns)) =
    ap data_of (append_assoc (written under) (written beside) ns) ∙ data_in_front under (written beside ++ ns)
    ∙ ap (append under) (data_in_front beside ns) in
    ap (begun (AList (count_of under) (length (written under))) p) rest
    ∙ ap (λ e. Listed p e (behind (count_of under) (append under (append beside (data_of ns))))) (front_append under (append beside (data_of ns)))
    ∙ ap (Listed p under) (behind_append under (append beside (data_of ns)))

-- what is written for data reads as them
pub data_back : (d : Data) → data_of (written d) ≡ d
data_back d = ap data_of (sym (append-nil (written d))) ∙ data_in_front d [] ∙ append_none d

-- a kind as three numbers
abbrev pub numbers_of : DatumKind → ℕ × (ℕ × ℤ)
numbers_of (AList n s) = (0, (n, pos s))
numbers_of (AnInt z) = (1, (0, z))
numbers_of (ASymbol s) = (2, (s, pos 0))
numbers_of (AText s) = (3, (s, pos 0))
numbers_of (ATime t) = (4, (t, pos 0))

-- a number that is not negative
abbrev pub natural : ℤ → ℕ
natural (pos n) = n
natural (negsuc n) = 0

-- the kind with these numbers
abbrev pub kind_with : ℕ → ℕ → ℤ → DatumKind
kind_with zero n z = AList n (natural z)
kind_with (suc zero) n z = AnInt z
kind_with (suc (suc zero)) n z = ASymbol n
kind_with (suc (suc (suc zero))) n z = AText n
kind_with (suc (suc (suc (suc k)))) n z = ATime n

-- the numbers give the kind back
pub kind_back : (k : DatumKind) → kind_with (numbers_of k).0 (numbers_of k).1.0 (numbers_of k).1.1 ≡ k
kind_back (AList n s) = refl
kind_back (AnInt z) = refl
kind_back (ASymbol s) = refl
kind_back (AText s) = refl
kind_back (ATime t) = refl

-- a node is stored as its place and these numbers
abbrev pub node_code : Coded DatumNode
node_code =
    code_by (ℕ × (ℕ × (ℕ × ℤ))) (coded× coded_ℕ (coded× coded_ℕ (coded× coded_ℕ coded_ℤ))) (λ n. (n.place, numbers_of n.kind))
    (λ c. node_at (kind_with c.1.0 c.1.1.0 c.1.1.1) c.0) (λ n. ap (λ k. node_at k n.place) (kind_back n.kind))

-- data are stored as their nodes
abbrev pub data_code : Coded Data
data_code = code_by (List DatumNode) (coded_list node_code) written data_of data_back
