-- Where the clauses of a handler begin is written down one after the other.
use Rattle.std.proofs.Common.{◌≡◌, ◌≤◌, ◌<◌, ℕ, zero, suc, ◌+◌, min, List, [], ◌∷◌, ◌++◌, length, drop, get_or, refl, ap, sym, ◌∙◌, arith, append-nil, subst}
use Rattle.lisp_base.specs.Forest.{NoTrees, Tree, behind, count_of, front}
use Rattle.lisp_program.specs.WellMade.{Guarded}
use Rattle.lisp_program.specs.declared.form.CoreKind.TheVariants as k
use Rattle.lisp_program.specs.declared.form.FormNode.{FormNode}
use Rattle.lisp_program.specs.Forms.{Forms, forms_of}
use Rattle.form_points.specs.Points.{Points}
use Rattle.form_points.specs.Table.{points_of, table}
use Rattle.lisp_code.specs.Lines.{past, size}
use Rattle.lisp_code.specs.declared.instr.Clause.{Clause}
use Rattle.form_compiler.specs.declared.extent.Extent.{Extent}
use Rattle.form_compiler.specs.inside.Extents.{MOST, extent_of, extents_of, lines_in}
use Rattle.form_compiler.specs.inside.Gives.{AreGiving}
use Rattle.form_compiler.specs.inside.Steps.{AreReady, most_lines}
use Rattle.form_compiler.specs.inside.Tasks.{beside_of, first, less, others, starts}
use Rattle.form_compiler.proofs.Known.{node_at, nothing}
use Rattle.form_compiler.proofs.Sized.{all_sized}
use Rattle.form_compiler.proofs.Steps.{first_here, first_lines, first_others, front-behind, past-size}
use Rattle.form_compiler.proofs.Walk.{FirstOf, first_within}

-- what is written down, with what is left, is all
pub record Noting (nodes : List FormNode) (from start forms node at left : ℕ) (row : List Clause) : Type 0 where
  pub inside : node ≤ length nodes
  pub room : at + lines_in left (forms_of (drop node nodes)) ≤ most_lines
  pub same : row ++ starts left at (forms_of (drop node nodes)) ≡ starts forms start (forms_of (drop from nodes))

-- the lines of the next form are counted whole
whole-lines : (e : Extent) (c : Points) (at more : ℕ) → e.lines ≡ min (size c) MOST → at + (size c + more) ≤ most_lines → e.lines ≡ size c
whole-lines e c at more l r = omega (arith, l, r)

pub noted : (nodes : List FormNode) (extents : List Extent) (from start forms node at left left' : ℕ) (d n : FormNode) (e : Extent) (row row' : List Clause)
    → Noting nodes from start forms node at left row → extents ≡ extents_of nodes → node < length nodes → n ≡ get_or nodes node d → e ≡ get_or extents node nothing → left ≡ suc left'
    → ((m p : ℕ) (u b : Forms) → row' ++ starts m (past at (table n.kind p (points_of u))) b ≡ row ++ starts (suc m) at (Tree n.kind p u b))
    → Noting nodes from start forms (node + e.nodes) (at + e.lines) left' row'
noted nodes extents from start forms node at left left' d n e row row' s known h is is' l written =
    let f : Forms = forms_of (drop (node + 1) nodes) in
    let u : Forms = front n.parts f in
    let b : Forms = behind n.parts f in
    let c : Points = table n.kind n.place (points_of u) in
    let here : forms_of (drop node nodes) ≡ Tree n.kind n.place u b = ap forms_of (node_at nodes node d n h is) in
    let there : FirstOf e (forms_of (drop node nodes)) = rw is' (first_here nodes extents node nothing known h) in
    let after : forms_of (drop (node + e.nodes) nodes) ≡ b = first_others nodes node e there ∙ ap others here in
    let room : at + (size c + lines_in left' b) ≤ most_lines = rw (l, here) at s.room in
    let counted : e.lines ≡ min (size c) MOST = first_lines e (forms_of (drop node nodes)) there ∙ ap (λ g. min (size (first g)) MOST) here in
    let lines : e.lines ≡ size c = whole-lines e c at (lines_in left' b) counted room in
    let position : at + e.lines ≡ past at c = ap (λ m. at + m) lines ∙ sym (past-size c at) in
    let same : row ++ starts (suc left') at (Tree n.kind n.place u b) ≡ starts forms start (forms_of (drop from nodes)) = rw (l, here) at s.same in
    record {
      inside = first_within nodes node e s.inside there;
      room = rw after (omega (arith, room, lines));
      same = rw (after, position) (written left' n.place u b ∙ same);
    }

-- nothing is left
none-left : (left at : ℕ) (f : Forms) → (left ≡ 0) → starts left at f ≡ []
none-left zero at f e = refl
none-left (suc n) at f e = absurd (omega (arith, e))

no-forms : (left at : ℕ) → starts left at NoTrees ≡ []
no-forms zero at = refl
no-forms (suc n) at = refl

pub noted_all : (nodes : List FormNode) (from start forms node at left : ℕ) (row : List Clause) → Noting nodes from start forms node at left row → left ≡ 0
    → row ≡ starts forms start (forms_of (drop from nodes))
noted_all nodes from start forms node at left row s e =
    sym (append-nil row) ∙ ap (λ l. row ++ l) (sym (none-left left at (forms_of (drop node nodes)) e)) ∙ s.same

pub noted_out : (nodes : List FormNode) (from start forms node at left : ℕ) (row : List Clause) → Noting nodes from start forms node at left row
    → forms_of (drop node nodes) ≡ NoTrees → row ≡ starts forms start (forms_of (drop from nodes))
noted_out nodes from start forms node at left row s e =
    sym (append-nil row) ∙ ap (λ l. row ++ l) (sym (ap (starts left at) e ∙ no-forms left at)) ∙ s.same

-- no form begins after the last node
pub none_after : (node : ℕ) (nodes : List FormNode) → length nodes ≤ node → forms_of (drop node nodes) ≡ NoTrees
none_after zero [] h = refl
none_after zero (n ∷ ns) h = absurd (omega (arith, h))
none_after (suc m) [] h = refl
none_after (suc m) (n ∷ ns) h = none_after m ns (omega (arith, h))

pub noting_begins : (nodes : List FormNode) (from start forms : ℕ) → from ≤ length nodes → start + lines_in forms (forms_of (drop from nodes)) ≤ most_lines
    → Noting nodes from start forms from start forms []
noting_begins nodes from start forms h r = record { inside = h; room = r; same = refl }

lines-beside : (u b : Forms) → lines_in (count_of u) (beside_of u b) ≡ lines_in (count_of u) u
lines-beside NoTrees b = refl
lines-beside (Tree kind p u more) b = ap (λ m. size (table kind p (points_of u)) + m) (lines-beside more b)

-- the protected form, the clauses, and two lines more are a `handler-case`
handler-parts : (p : ℕ) (u b : Forms) → AreGiving Guarded u
    → size (first (beside_of u b)) + 2 + lines_in (less (count_of u)) (others (beside_of u b)) ≡ size (table k.HandlerCase p (points_of u))
handler-parts p NoTrees b g = absurd g
handler-parts p (Tree kind q u more) b g = omega (arith, lines-beside more b, all_sized more)

-- what is known of the lines of a `handler-case`: those of the protected form are counted whole, and its clauses have room
pub record Handled (nodes : List FormNode) (at start lines forms : ℕ) : Type 0 where
  pub protected : lines ≡ size (first (forms_of (drop (at + 1) nodes)))
  pub room : start + lines + 2 + lines_in (less forms) (others (forms_of (drop (at + 1) nodes))) ≤ most_lines

part-counted : (start lines x y z : ℕ) → lines ≡ min x MOST → x + 2 + y ≡ z → start + z ≤ most_lines → lines ≡ x
part-counted start lines x y z l e r = omega (arith, l, e, r)

parts-room : (start lines x y z : ℕ) → lines ≡ x → x + 2 + y ≡ z → start + z ≤ most_lines → start + lines + 2 + y ≤ most_lines
parts-room start lines x y z l e r = omega (arith, l, e, r)

pub handled : (nodes : List FormNode) (at start lines : ℕ) (d n : FormNode) (e : Extent) → at < length nodes → n ≡ get_or nodes at d
    → e ≡ extent_of n (forms_of (drop (at + 1) nodes)) → AreReady (forms_of (drop at nodes)) → n.kind ≡ k.HandlerCase
    → start + size (first (forms_of (drop at nodes))) ≤ most_lines → lines ≡ min (size (first (forms_of (drop (at + 1) nodes)))) MOST
    → Handled nodes at start lines e.forms
handled nodes at start lines d n e h is is' m kind room l =
    let f : Forms = forms_of (drop (at + 1) nodes) in
    let u : Forms = front n.parts f in
    let b : Forms = behind n.parts f in
    let whole : beside_of u b ≡ f = front-behind n.parts f in
    let here : forms_of (drop at nodes) ≡ Tree k.HandlerCase n.place u b =
    ap forms_of (node_at nodes at d n h is) ∙ ap (λ x. Tree x n.place u b) kind in
    let ready : AreReady (Tree k.HandlerCase n.place u b) = subst AreReady here m in
    let small : start + size (table k.HandlerCase n.place (points_of u)) ≤ most_lines = rw here at room in
    let forms : e.forms ≡ count_of u = ap (λ (x : Extent). x.forms) is' in
    let parts : size (first f) + 2 + lines_in (less e.forms) (others f) ≡ size (table k.HandlerCase n.place (points_of u)) =
    ap (λ m. size (first f) + 2 + lines_in (less m) (others f)) forms
    ∙ subst (λ g. size (first g) + 2 + lines_in (less (count_of u)) (others g) ≡ size (table k.HandlerCase n.place (points_of u))) whole
    (handler-parts n.place u b ready.0) in
    let counted : lines ≡ size (first f) = part-counted start lines (size (first f)) (lines_in (less e.forms) (others f)) _ l parts small in
    record { protected = counted; room = parts-room start lines (size (first f)) (lines_in (less e.forms) (others f)) _ counted parts small }
