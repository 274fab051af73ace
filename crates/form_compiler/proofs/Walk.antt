-- Passing over forms by their extents.
use Rattle.std.proofs.Common.{◌≡◌, ◌≤◌, ◌<◌, ℕ, zero, suc, ◌+◌, ◌-◌, min, List, [], ◌∷◌, length, drop, get_or, refl, ap, sym, ◌∙◌, arith, drop-cons}
use Rattle.std.proofs.lemmas.List.{drop_all, drop-drop, length-drop}
use Rattle.std.specs.Prelude.{pred}
use Rattle.lisp_base.specs.Forest.{NoTrees, Tree, count_of, front, behind}
use Rattle.lisp_program.specs.declared.form.FormNode.{FormNode}
use Rattle.lisp_program.specs.Forms.{Forms, forms_of}
use Rattle.form_compiler.specs.declared.extent.Extent.{Extent}
use Rattle.form_compiler.specs.inside.Extents.{MOST, nodes_in, lines_in, added, under_of, extent_of, extents_of}
use Rattle.form_compiler.proofs.Sized.{lines_in-none}

front_none : (n : ℕ) (f : Forms) → f ≡ NoTrees → front n f ≡ NoTrees
front_none zero f e = refl
front_none (suc n) NoTrees e = refl
front_none (suc n) (Tree k p u b) e = absurd cc

behind_none : (n : ℕ) (f : Forms) → f ≡ NoTrees → behind n f ≡ NoTrees
behind_none zero f e = e
behind_none (suc n) NoTrees e = refl
behind_none (suc n) (Tree k p u b) e = absurd cc

nodes_in-front : (a k : ℕ) (f : Forms) → nodes_in (front (a + k) f) ≡ nodes_in (front a f) + nodes_in (front k (behind a f))
nodes_in-front zero k f = let e : 0 + k ≡ k = omega arith in rw e (omega arith)
nodes_in-front (suc a) k NoTrees =
    omega (arith, ap nodes_in (front_none (suc a + k) NoTrees refl), ap nodes_in (front_none k NoTrees refl))
nodes_in-front (suc a) k (Tree q p u b) =
    let e : suc a + k ≡ suc (a + k) = omega arith in
    rw e (omega (arith, nodes_in-front a k b))

behind-add : (a k : ℕ) (f : Forms) → behind (a + k) f ≡ behind k (behind a f)
behind-add zero k f = let e : 0 + k ≡ k = omega arith in rw e refl
behind-add (suc a) k NoTrees = behind_none (suc a + k) NoTrees refl ∙ sym (behind_none k NoTrees refl)
behind-add (suc a) k (Tree q p u b) =
    let e : suc a + k ≡ suc (a + k) = omega arith in
    rw e (behind-add a k b)

nodes_in-parts : (n : ℕ) (f : Forms) → nodes_in (front n f) + nodes_in (behind n f) ≡ nodes_in f
nodes_in-parts zero f = omega arith
nodes_in-parts (suc n) NoTrees = omega arith
nodes_in-parts (suc n) (Tree k p u b) = omega (arith, nodes_in-parts n b)

-- each node stands in the forest once
pub nodes_in-all : (ns : List FormNode) → nodes_in (forms_of ns) ≡ length ns
nodes_in-all [] = refl
nodes_in-all (n ∷ ns) = omega (arith, nodes_in-all ns, nodes_in-parts n.parts (forms_of ns))

-- behind the nodes of the first k forms stand the others
pub passed : (k : ℕ) (ns : List FormNode) → forms_of (drop (nodes_in (front k (forms_of ns))) ns) ≡ behind k (forms_of ns)
passed zero ns = refl
passed (suc k) [] = refl
passed (suc k) (n ∷ ns) =
    rw (← nodes_in-front n.parts k (forms_of ns)) (passed (n.parts + k) ns ∙ behind-add n.parts k (forms_of ns))

pub within : (k : ℕ) (ns : List FormNode) → nodes_in (front k (forms_of ns)) ≤ length ns
within k ns = omega (arith, nodes_in-parts k (forms_of ns), nodes_in-all ns)

pub extents-dropped : (j : ℕ) (ns : List FormNode) → drop j (extents_of ns) ≡ extents_of (drop j ns)
extents-dropped zero ns = refl
extents-dropped (suc j) [] = refl
extents-dropped (suc j) (n ∷ ns) = extents-dropped j ns

pub length-extents : (ns : List FormNode) → length (extents_of ns) ≡ length ns
length-extents [] = refl
length-extents (n ∷ ns) = omega (arith, length-extents ns)

-- what is known from a node on is known from a later one on
pub known_later : (nodes : List FormNode) (extents : List Extent) (from at : ℕ) → drop from extents ≡ extents_of (drop from nodes) → from ≤ at
    → drop at extents ≡ extents_of (drop at nodes)
known_later nodes extents from at known h =
    let e : at ≡ from + (at - from) = omega arith in
    rw (e, ← drop-drop (at - from) from extents, ← drop-drop (at - from) from nodes, known) (extents-dropped (at - from) (drop from nodes))

-- an extent is that of the first of these forms
pub record FirstOf (e : Extent) (f : Forms) : Type 0 where
  pub nodes : e.nodes ≡ nodes_in (front 1 f)
  pub lines : e.lines ≡ min (lines_in 1 f) MOST
  pub some : count_of (front 1 f) ≡ 1

first_of : (e : Extent) (es : List Extent) (ns : List FormNode) → e ∷ es ≡ extents_of ns → FirstOf e (forms_of ns)
first_of e es [] h = absurd cc
first_of e es (n ∷ ns) h =
    let same : e ≡ extent_of n (forms_of ns) = cc in
    record { nodes = rw same (omega arith); lines = rw same (ap (λ n. min n MOST) (omega arith)); some = refl }

pub first_at : (nodes : List FormNode) (extents : List Extent) (at : ℕ) (d e : Extent) → drop at extents ≡ extents_of (drop at nodes) → at < length extents
    → e ≡ get_or extents at d → FirstOf e (forms_of (drop at nodes))
first_at nodes extents at d e known h is = first_of e (drop (suc at) extents) (drop at nodes) (rw is (sym (drop-cons extents at d h)) ∙ known)

-- the node behind the first form
pub first_passed : (nodes : List FormNode) (at : ℕ) (e : Extent) → FirstOf e (forms_of (drop at nodes))
    → forms_of (drop (at + e.nodes) nodes) ≡ behind 1 (forms_of (drop at nodes))
first_passed nodes at e f = rw (← drop-drop e.nodes at nodes, f.nodes) (passed 1 (drop at nodes))

pub first_within : (nodes : List FormNode) (at : ℕ) (e : Extent) → at ≤ length nodes → FirstOf e (forms_of (drop at nodes)) → at + e.nodes ≤ length nodes
first_within nodes at e h f = omega (arith, f.nodes, within 1 (drop at nodes), length-drop at nodes)

count-front : (r : ℕ) (f : Forms) → count_of (front (suc r) f) ≡ count_of (front 1 f) + count_of (front r (behind 1 f))
count-front r NoTrees = omega (arith, ap count_of (front_none r NoTrees refl))
count-front r (Tree k p u b) = omega arith

nodes_step : (r : ℕ) (f : Forms) → nodes_in (front (suc r) f) ≡ nodes_in (front 1 f) + nodes_in (front r (behind 1 f))
nodes_step r NoTrees = omega (arith, ap nodes_in (front_none r NoTrees refl))
nodes_step r (Tree k p u b) = omega arith

lines_step : (n r : ℕ) (f : Forms) → lines_in n (front (suc r) f) ≡ added n (lines_in 1 f) + lines_in (pred n) (front r (behind 1 f))
lines_step zero r f = omega arith
lines_step (suc n) r NoTrees = omega (arith, lines_in-none n (front r NoTrees) (front_none r NoTrees refl))
lines_step (suc n) r (Tree k p u b) = omega arith

-- so many forms are passed: what is counted, with what is left, is all
pub record Walking (nodes : List FormNode) (from parts used at forms lines : ℕ) : Type 0 where
  pub after : from ≤ at
  pub inside : at ≤ length nodes
  pub few : forms ≤ parts
  pub small : lines ≤ MOST
  pub counted : min (lines + lines_in (used - forms) (front (parts - forms) (forms_of (drop at nodes)))) MOST ≡ min (lines_in used (front parts (forms_of (drop from nodes)))) MOST
  pub passes : at + nodes_in (front (parts - forms) (forms_of (drop at nodes))) ≡ from + nodes_in (front parts (forms_of (drop from nodes)))
  pub number : forms + count_of (front (parts - forms) (forms_of (drop at nodes))) ≡ count_of (front parts (forms_of (drop from nodes)))

pub walk_begins : (nodes : List FormNode) (from parts used : ℕ) → from ≤ length nodes → Walking nodes from parts used from 0 0
walk_begins nodes from parts used h =
    let p : parts - 0 ≡ parts = omega arith in
    let u : used - 0 ≡ used = omega arith in
    record { after = omega arith; inside = h; few = omega arith; small = omega arith; counted = rw (p, u) (omega arith); passes = rw p (omega arith); number = rw p (omega arith) }

added-capped : (n l : ℕ) → added n (min l MOST) ≡ min (added n l) MOST
added-capped zero l = refl
added-capped (suc n) l = refl

capped_step : (lines more rest all total lines' : ℕ) → min (lines + all) MOST ≡ total → lines' ≡ min (lines + min more MOST) MOST → all ≡ more + rest → min (lines' + rest) MOST ≡ total
capped_step lines more rest all total lines' c l a = omega (arith, c, l, a)

walk_by : (nodes : List FormNode) (from parts used at forms lines lines' : ℕ) (e : Extent) (r n : ℕ) → parts - forms ≡ suc r → used - forms ≡ n
    → parts - (forms + 1) ≡ r → used - (forms + 1) ≡ pred n
    → Walking nodes from parts used at forms lines → FirstOf e (forms_of (drop at nodes)) → lines' ≡ min (lines + added n e.lines) MOST
    → Walking nodes from parts used (at + e.nodes) (forms + 1) lines'
walk_by nodes from parts used at forms lines lines' e r n p u p' u' w f l =
    let g : Forms = forms_of (drop at nodes) in
    let behind' : forms_of (drop (at + e.nodes) nodes) ≡ behind 1 g = first_passed nodes at e f in
    let counted : min (lines + lines_in n (front (suc r) g)) MOST ≡ min (lines_in used (front parts (forms_of (drop from nodes)))) MOST = rw (p, u) at w.counted in
    let passes : at + nodes_in (front (suc r) g) ≡ from + nodes_in (front parts (forms_of (drop from nodes))) = rw p at w.passes in
    let number : forms + count_of (front (suc r) g) ≡ count_of (front parts (forms_of (drop from nodes))) = rw p at w.number in
    let l' : lines' ≡ min (lines + added n (min (lines_in 1 g) MOST)) MOST = rw f.lines at l in
    record {
      after = omega (arith, w.after);
      inside = first_within nodes at e w.inside f;
      few = omega (arith, p);
      small = omega (arith, l');
      counted = rw (p', u', behind') (capped_step _ _ _ _ _ _ counted (l' ∙ ap (λ x. min (lines + x) MOST) (added-capped n (lines_in 1 g))) (lines_step n r g));
      passes = rw (p', behind') (omega (arith, passes, f.nodes, nodes_step r g));
      number = rw (p', behind') (omega (arith, number, f.some, count-front r g));
    }

less-one : (n : ℕ) → n - 1 ≡ pred n
less-one zero = refl
less-one (suc n) = omega arith

less-minus : (a b : ℕ) → a - (b + 1) ≡ pred (a - b)
less-minus a b = let e : a - (b + 1) ≡ (a - b) - 1 = omega arith in e ∙ less-one (a - b)

-- one form more is passed
pub walk_goes_on : (nodes : List FormNode) (extents : List Extent) (from parts used at forms lines lines' : ℕ) (d e : Extent)
    → Walking nodes from parts used at forms lines → drop from extents ≡ extents_of (drop from nodes) → at < length extents → forms < parts
    → e ≡ get_or extents at d → lines' ≡ min (lines + added (used - forms) e.lines) MOST → Walking nodes from parts used (at + e.nodes) (forms + 1) lines'
walk_goes_on nodes extents from parts used at forms lines lines' d e w known h some is l =
    walk_by nodes from parts used at forms lines lines' e (parts - (forms + 1)) (used - forms) (omega arith) refl refl (less-minus used forms) w
    (first_at nodes extents at d e (known_later nodes extents from at known w.after) h is) l

-- all are passed
walked_by : (nodes : List FormNode) (from parts used at forms lines : ℕ) → Walking nodes from parts used at forms lines
    → front (parts - forms) (forms_of (drop at nodes)) ≡ NoTrees
    → record { lines = lines; nodes = at - from; forms = forms } ≡ under_of used parts (forms_of (drop from nodes))
walked_by nodes from parts used at forms lines w e =
    let counted : min (lines + lines_in (used - forms) NoTrees) MOST ≡ min (lines_in used (front parts (forms_of (drop from nodes)))) MOST = rw e at w.counted in
    let passes : at + 0 ≡ from + nodes_in (front parts (forms_of (drop from nodes))) = rw e at w.passes in
    let number : forms + 0 ≡ count_of (front parts (forms_of (drop from nodes))) = rw e at w.number in
    let a : lines ≡ min (lines_in used (front parts (forms_of (drop from nodes)))) MOST = omega (arith, counted, w.small, lines_in-none (used - forms) NoTrees refl) in
    let b : at - from ≡ nodes_in (front parts (forms_of (drop from nodes))) = omega (arith, passes) in
    let c : forms ≡ count_of (front parts (forms_of (drop from nodes))) = omega (arith, number) in
    rw (a, b, ← c) refl

pub walked_all : (nodes : List FormNode) (from parts used at forms lines : ℕ) → Walking nodes from parts used at forms lines → parts ≤ forms
    → record { lines = lines; nodes = at - from; forms = forms } ≡ under_of used parts (forms_of (drop from nodes))
walked_all nodes from parts used at forms lines w h =
    let e : parts - forms ≡ 0 = omega arith in
    walked_by nodes from parts used at forms lines w (rw e refl)

nothing_left : (nodes : List FormNode) (at : ℕ) → length nodes ≤ at → forms_of (drop at nodes) ≡ NoTrees
nothing_left nodes at h = ap forms_of (drop_all at nodes h)

pub walked_out : (nodes : List FormNode) (from parts used at forms lines : ℕ) → Walking nodes from parts used at forms lines → length nodes ≤ at
    → record { lines = lines; nodes = at - from; forms = forms } ≡ under_of used parts (forms_of (drop from nodes))
walked_out nodes from parts used at forms lines w h =
    walked_by nodes from parts used at forms lines w (front_none (parts - forms) (forms_of (drop at nodes)) (nothing_left nodes at h))
