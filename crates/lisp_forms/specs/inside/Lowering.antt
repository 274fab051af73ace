-- The pass over nodes that leaves out the implicit blocks that are not made.
use Rattle.std.specs.Prelude.{ℕ, zero, suc, ◌+◌, ◌-◌, List, [], ◌∷◌, Bool, true, false, reverse}
use Rattle.form_shapes.specs.declared.expanded.Expanded.{Expanded}
use Rattle.form_shapes.specs.declared.expanded.Expanded.TheVariants.{Form, InBlock, Lambda, Defun, Refused, RefusedFunction}
use Rattle.form_shapes.specs.declared.expanded.ExpandedNode.{ExpandedNode}
use Rattle.lisp_forms.specs.declared.lowered.Kept.{Kept}
use Rattle.lisp_forms.specs.declared.lowered.Kept.TheVariants.{AllButLast, These}
use Rattle.lisp_forms.specs.declared.lowered.Outer.{Outer}
use Rattle.lisp_forms.specs.declared.lowered.Pass.{Pass}
use Rattle.lisp_forms.specs.Blocks.{lowered_kind}
use Rattle.lisp_forms.specs.inside.Flat.{node}

-- a form round the next node: how many forms are left under it, and the blocks round them that are not made, the innermost first
pub record Frame : Type 0 where
  pub left : ℕ
  pub gone : List ℕ

-- these without the first
abbrev pub tail_of : {A : Type 0} → List A → List A
tail_of [] = []
tail_of (x ∷ xs) = xs

-- the blocks that are not made after a form, by those that are not made in it
abbrev pub kept_of : Kept → List ℕ → List ℕ
kept_of AllButLast gone = tail_of gone
kept_of (These others) gone = reverse others.items

-- the forms that go on, the innermost first, after one in which these blocks are not made
abbrev pub outer_of : List ℕ → List Outer → List Frame
outer_of gone [] = []
outer_of gone (o ∷ os) = (record { left = o.left; gone = kept_of o.kept gone }) ∷ outer_of (kept_of o.kept gone) os

-- the forms round the next node, the innermost first
abbrev pub frames_of : Pass → List Frame
frames_of p = (record { left = p.left; gone = reverse p.gone.items }) ∷ outer_of (reverse p.gone.items) (reverse p.outer.items)

-- a form, or where nothing is left under it the others
abbrev pub or_outer : ℕ → (these others : List Frame) → List Frame
or_outer zero these others = others
or_outer (suc left) these others = these

-- the forms that are not done; the outermost stays
abbrev pub closed : List Frame → List Frame
closed [] = []
closed (f ∷ []) = f ∷ []
closed (f ∷ (g ∷ fs)) = or_outer f.left (f ∷ (g ∷ fs)) (closed (g ∷ fs))

-- the blocks that are not made round the next node
abbrev pub gone_at : List Frame → List ℕ
gone_at [] = []
gone_at (f ∷ fs) = f.gone

-- A form with so many under it, in which these blocks are not made, in another, under which so many are left after it.
abbrev pub in_frame : (parts : ℕ) → (inner : List ℕ) → (left : ℕ) → List ℕ → List Frame → List Frame
in_frame parts inner left gone fs = (record { left = parts; gone = inner }) ∷ ((record { left = left; gone = gone }) ∷ fs)

-- so many forms more under a form
abbrev pub more_in : (parts left : ℕ) → List ℕ → List Frame → List Frame
more_in parts left gone fs = (record { left = parts + left; gone = gone }) ∷ fs

-- the forms round the node after one of this kind with so many under it, where so many are left after it
abbrev pub entered_in : (left : ℕ) → List ℕ → List Frame → Expanded → (parts : ℕ) → (made : Bool) → List Frame
entered_in left gone fs (Form kind) parts made = more_in parts left gone fs
entered_in left gone fs (InBlock n turning) parts true = more_in parts left gone fs
entered_in left gone fs (InBlock n turning) parts false = in_frame parts (n ∷ gone) left gone fs
entered_in left gone fs (Lambda parameters) parts made = in_frame parts [] left gone fs
entered_in left gone fs (Defun name parameters) parts made = in_frame parts [] left gone fs
entered_in left gone fs (Refused refusal) parts made = more_in parts left gone fs
entered_in left gone fs (RefusedFunction refusal) parts made = in_frame parts [] left gone fs

-- the forms round the node after this one
abbrev pub entered : List Frame → ExpandedNode → Bool → List Frame
entered [] n made = []
entered (f ∷ fs) n made = entered_in (f.left - 1) f.gone fs n.kind n.parts made

-- the first, where there is one
abbrev pub first_made : List Bool → Bool
first_made [] = false
first_made (made ∷ others) = made

-- whether the block of a node is made, where this is told of the blocks from it on
abbrev pub made_at : Expanded → List Bool → Bool
made_at (InBlock n turning) made = first_made made
made_at _ made = false

-- what is told of the blocks after it
abbrev pub made_behind : Expanded → List Bool → List Bool
made_behind (InBlock n turning) made = tail_of made
made_behind _ made = made

-- a node where these blocks round it are not made
abbrev pub lowered_node : List ℕ → ExpandedNode → Bool → ExpandedNode
lowered_node gone n made = node (lowered_kind gone n.kind made) n.place n.parts

-- these nodes without the blocks that are not made
abbrev pub lowered_in : List Frame → List Bool → List ExpandedNode → List ExpandedNode
lowered_in fs made [] = []
lowered_in fs made (n ∷ ns) =
    lowered_node (gone_at (closed fs)) n (made_at n.kind made)
    ∷ lowered_in (entered (closed fs) n (made_at n.kind made)) (made_behind n.kind made) ns
