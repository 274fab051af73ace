-- Extents of the forms at nodes.
use Rattle.std.proofs.Common.{◌≡◌, ◌≤◌, ◌<◌, ℕ, zero, suc, ◌+◌, ◌-◌, min, List, ◌∷◌, length, drop, get_or, refl, ap, sym, ◌∙◌, arith, drop-cons, add-one}
use Rattle.std.proofs.lemmas.List.{length-drop}
use Rattle.lisp_base.specs.Forest.{NoTrees, Tree, count_of, front}
use Rattle.lisp_program.specs.declared.form.FormNode.{FormNode}
use Rattle.lisp_program.specs.Forms.{Forms, forms_of}
use Rattle.form_points.specs.Points.{body_of}
use Rattle.form_points.specs.Table.{points_of, table}
use Rattle.lisp_code.specs.Lines.{size}
use Rattle.form_compiler.specs.declared.extent.Extent.{Extent}
use Rattle.form_compiler.specs.declared.row.Row.{Row}
use Rattle.form_compiler.specs.inside.Extents.{MOST, extent_of, nodes_in, lines_in, gaps, row_of, row_lines, used, under_of, extents_of}
use Rattle.form_compiler.proofs.Sized.{body_sized, lines_in-all, row_capped, row_sized}
use Rattle.form_compiler.proofs.Walk.{extents-dropped, length-extents, nodes_in-all, within}

abbrev pub nothing : Extent
nothing = record { lines = 0; nodes = 0; forms = 0 }

pub same_length : (nodes : List FormNode) (extents : List Extent) → extents ≡ extents_of nodes → length extents ≡ length nodes
same_length nodes extents e = rw e (length-extents nodes)

pub known_from : (nodes : List FormNode) (extents : List Extent) (at : ℕ) → extents ≡ extents_of nodes → drop at extents ≡ extents_of (drop at nodes)
known_from nodes extents at e = rw e (extents-dropped at nodes)

-- the node at a place, and those behind it
pub node_at : (nodes : List FormNode) (at : ℕ) (d n : FormNode) → at < length nodes → n ≡ get_or nodes at d → drop at nodes ≡ n ∷ drop (at + 1) nodes
node_at nodes at d n h is = let e : drop at nodes ≡ get_or nodes at d ∷ drop (suc at) nodes = drop-cons nodes at d h in rw (add-one, is) e

pub nodes_fit : (nodes : List FormNode) (at u parts : ℕ) (under : Extent) → under ≡ under_of u parts (forms_of (drop at nodes)) → under.nodes ≤ length nodes - at
nodes_fit nodes at u parts under e =
    omega (arith, ap (λ (x : Extent). x.nodes) e, within parts (drop at nodes), length-drop at nodes)

pub few_in-front : (n : ℕ) (f : Forms) → count_of (front n f) ≤ n
few_in-front zero f = omega arith
few_in-front (suc n) NoTrees = omega arith
few_in-front (suc n) (Tree k p u b) = omega (arith, few_in-front n b)

-- the extent of the form at a node is made of that of the forms under it
pub extent_made : (nodes : List FormNode) (at : ℕ) (d n : FormNode) (row : Row) (u total lines : ℕ) (under : Extent) → at < length nodes
    → n ≡ get_or nodes at d → row ≡ row_of n.kind → u ≡ used row n.parts → under ≡ under_of u n.parts (forms_of (drop (at + 1) nodes))
    → total ≡ row_lines row under.forms under.lines → lines ≡ min total MOST
    → record { lines = lines; nodes = under.nodes + 1; forms = under.forms } ∷ extents_of (drop (at + 1) nodes) ≡ extents_of (drop at nodes)
extent_made nodes at d n row u total lines under h here r is e t l =
    let f : Forms = forms_of (drop (at + 1) nodes) in
    let few : count_of (front n.parts f) ≤ n.parts = few_in-front n.parts f in
    let e' : under ≡ under_of (used (row_of n.kind) n.parts) n.parts f = rw (is, r) at e in
    let t' : total ≡ row_lines (row_of n.kind) under.forms under.lines = rw r at t in
    let lines' : lines ≡ min (size (table n.kind n.place (points_of (front n.parts f)))) MOST =
    l ∙ ap (λ x. min x MOST) (t' ∙ ap (λ (x : Extent). row_lines (row_of n.kind) x.forms x.lines) e') ∙ row_capped (row_of n.kind) _ _
    ∙ ap (λ x. min x MOST) (sym (row_sized n.kind n.place n.parts (front n.parts f) few)) in
    let nodes' : under.nodes + 1 ≡ suc (nodes_in (front n.parts f)) = omega (arith, ap (λ (x : Extent). x.nodes) e') in
    let forms' : under.forms ≡ count_of (front n.parts f) = ap (λ (x : Extent). x.forms) e' in
    rw (node_at nodes at d n h here, lines', nodes', forms') refl

-- the forms under a node are no more than its parts
pub few_under : (n : FormNode) (f : Forms) (e : Extent) → e ≡ extent_of n f → e.forms ≤ n.parts
few_under n f e is = omega (arith, ap (λ (x : Extent). x.forms) is, few_in-front n.parts f)

pub count-few : (f : Forms) → count_of f ≤ nodes_in f
count-few NoTrees = omega arith
count-few (Tree k p u b) = omega (arith, count-few b)

pub front_all : (n : ℕ) (f : Forms) → count_of f ≤ n → front n f ≡ f
front_all zero NoTrees h = refl
front_all (suc n) NoTrees h = refl
front_all zero (Tree k p u b) h = absurd (omega arith)
front_all (suc n) (Tree k p u b) h = ap (λ g. Tree k p u g) (front_all n b (omega arith))

-- the lines of a body are those of its forms and those between them
pub body_known : (nodes : List FormNode) (e : Extent) (g lines : ℕ) → e ≡ under_of (length nodes) (length nodes) (forms_of nodes) → g ≡ gaps e.forms
    → lines ≡ min (e.lines + g) MOST → (place : ℕ) → lines ≡ min (size (body_of place (points_of (forms_of nodes)))) MOST
body_known nodes e g lines is between l place =
    let f : Forms = forms_of nodes in
    let few : count_of f ≤ length nodes = omega (arith, count-few f, nodes_in-all nodes) in
    let is' : e ≡ record { lines = min (lines_in (length nodes) f) MOST; nodes = nodes_in f; forms = count_of f } = rw (front_all (length nodes) f few) at is in
    let lines' : e.lines ≡ min (lines_in (count_of f) f) MOST = ap (λ (x : Extent). x.lines) is' ∙ ap (λ x. min x MOST) (lines_in-all (length nodes) f few) in
    let forms' : g ≡ gaps (count_of f) = between ∙ ap (λ (x : Extent). gaps x.forms) is' in
    omega (arith, l, lines', forms', body_sized place f)
