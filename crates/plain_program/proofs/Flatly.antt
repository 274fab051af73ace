-- Forms written flat: their plain forms, and the least place of one that is not run yet.
use Rattle.std.proofs.Common.{arith, ◌≡◌, ℕ, zero, suc, List, [], ◌∷◌, Option, Some, None, map, min, length, take, drop, ◌≤◌, refl, ap, sym, ◌∙◌}
use Rattle.std.proofs.Math.ListN.{drop_of_length-le}
use Rattle.std.proofs.lemmas.List.{take_all}
use Rattle.lisp_base.specs.Forest.{Forest, NoTrees, Tree, behind, front}
use Rattle.lisp_program.specs.Forms.{Forms, forms_of as core_forms_of}
use Rattle.lisp_program.specs.declared.form.FormNode.{FormNode}
use Rattle.plain_program.specs.Forms.{forms_of}
use Rattle.plain_program.specs.declared.form.PlainNode.{PlainNode}
use Rattle.plain_program.specs.inside.Nodes.{plain_node, unbuilt_from}
use Rattle.plain_program.specs.Plain.{first_unbuilt, kind_or_nil, least, mapped, place_without, plain_forms, plain_kind}

-- the first so many of trees of another kind
front-mapped : {K L : Type 0} (g : K → L) (n : ℕ) (f : Forest K) → front n (mapped g f) ≡ mapped g (front n f)
front-mapped g zero f = refl
front-mapped g (suc n) NoTrees = refl
front-mapped g (suc n) (Tree k p under beside) = ap (Tree (g k) p (mapped g under)) (front-mapped g n beside)

-- those behind them
behind-mapped : {K L : Type 0} (g : K → L) (n : ℕ) (f : Forest K) → behind n (mapped g f) ≡ mapped g (behind n f)
behind-mapped g zero f = refl
behind-mapped g (suc n) NoTrees = refl
behind-mapped g (suc n) (Tree k p under beside) = behind-mapped g n beside

-- the plain nodes are those of the plain forms
plain_written : (ns : List FormNode) → forms_of (map plain_node ns) ≡ plain_forms (core_forms_of ns)
plain_written [] = refl
plain_written (n ∷ ns) =
    rw (plain_written ns, front-mapped (λ k. kind_or_nil (plain_kind k)) n.parts (core_forms_of ns), behind-mapped (λ k. kind_or_nil (plain_kind k)) n.parts (core_forms_of ns)) refl

-- the least of three numbers
min-assoc : (a b c : ℕ) → min (min a b) c ≡ min a (min b c)
min-assoc a b c = omega arith

-- the least of three places
least-assoc : (a b c : Option ℕ) → least (least a b) c ≡ least a (least b c)
least-assoc None b c = refl
least-assoc (Some a) None c = refl
least-assoc (Some a) (Some b) None = refl
least-assoc (Some a) (Some b) (Some c) = ap Some (min-assoc a b c)

-- nothing on the right
least-none : (a : Option ℕ) → least a None ≡ a
least-none None = refl
least-none (Some a) = refl

-- the least of all is that of the first so many and of those behind them
least-parts : (n : ℕ) (f : Forms) → least (first_unbuilt (front n f)) (first_unbuilt (behind n f)) ≡ first_unbuilt f
least-parts zero f = refl
least-parts (suc n) NoTrees = refl
least-parts (suc n) (Tree k p under beside) =
    least-assoc (place_without (plain_kind k) p) (least (first_unbuilt under) (first_unbuilt (front n beside))) (first_unbuilt (behind n beside))
    ∙ ap (least (place_without (plain_kind k) p))
    (least-assoc (first_unbuilt under) (first_unbuilt (front n beside)) (first_unbuilt (behind n beside))
    ∙ ap (least (first_unbuilt under)) (least-parts n beside))

-- the least of nodes, with one from before
least-from : (found : Option ℕ) (ns : List FormNode) → unbuilt_from found ns ≡ least found (first_unbuilt (core_forms_of ns))
least-from found [] = sym (least-none found)
least-from found (n ∷ ns) =
    least-from (least found (place_without (plain_kind n.kind) n.place)) ns
    ∙ least-assoc found (place_without (plain_kind n.kind) n.place) (first_unbuilt (core_forms_of ns))
    ∙ ap (λ rest. least found (least (place_without (plain_kind n.kind) n.place) rest)) (sym (least-parts n.parts (core_forms_of ns)))

-- the nodes of all forms are those of the plain forms
pub nodes_written : (nodes : List PlainNode) (ns : List FormNode) (at : ℕ) → length ns ≤ at → nodes ≡ map plain_node (take at ns)
    → forms_of nodes ≡ plain_forms (core_forms_of ns)
nodes_written nodes ns at end is =
    ap forms_of (is ∙ ap (map plain_node) (take_all at ns end)) ∙ plain_written ns

-- the least of all nodes is that of their forms
pub unbuilt_written : (found : Option ℕ) (ns : List FormNode) (at : ℕ) → length ns ≤ at → unbuilt_from found (drop at ns) ≡ unbuilt_from None ns
    → found ≡ first_unbuilt (core_forms_of ns)
unbuilt_written found ns at end is = sym (ap (unbuilt_from found) (drop_of_length-le ns end)) ∙ is ∙ least-from None ns
