-- To which implicit blocks something returns, as the code finds it, from the last node on.
use Rattle.std.specs.Prelude.{ℕ, zero, suc, ◌-◌, List, [], ◌∷◌, ◌++◌, Bool, true, false, Option, Some, None, ◌==◌, length, get_or, take, drop}
use Rattle.std.specs.List.{list_any}
use Rattle.lisp_base.specs.Forest.{NoTrees, Tree}
use Rattle.form_shapes.specs.declared.expanded.Expanded.{Expanded}
use Rattle.form_shapes.specs.declared.expanded.Expanded.TheVariants.{Form, InBlock, Lambda, Defun, Refused, RefusedFunction}
use Rattle.form_shapes.specs.declared.expanded.ExpandedNode.{ExpandedNode}
use Rattle.lisp_forms.specs.declared.made.Seen.{Seen as CodeSeen}
use Rattle.lisp_forms.specs.Blocks.{exit_of, is_made}
use Rattle.lisp_forms.specs.Trees.{Expansion}

-- a form has an implicit block
abbrev pub is_in_block : Expanded → Bool
is_in_block (InBlock n turning) = true
is_in_block _ = false

-- what was seen of nodes: for each form that belongs to none of them how many returns were seen before it, the returns, and for each
-- form with an implicit block whether it is made
pub record Seen : Type 0 where
  pub ends : List ℕ
  pub returns : List ℕ
  pub made : List Bool

-- what the code has seen
abbrev pub seen_as : CodeSeen → Seen
seen_as s = record { ends = s.ends.items; returns = s.returns.items; made = s.made.items }

-- nothing was seen
abbrev pub nothing_seen : Seen
nothing_seen = record { ends = []; returns = []; made = [] }

-- a number is among those after the first so many
abbrev pub has_from : List ℕ → ℕ → ℕ → Bool
has_from xs start n = list_any (λ x. x == n) (drop start xs)

-- how many returns were seen before what belongs to a form with so many under it
abbrev pub bottom_of : ℕ → Seen → ℕ
bottom_of zero s = length s.returns
bottom_of (suc parts) s = get_or s.ends (length s.ends - suc parts) 0

-- the returns after one, where there is one
abbrev pub with_return : Option ℕ → List ℕ → List ℕ
with_return None returns = returns
with_return (Some b) returns = returns ++ b ∷ []

-- the returns after a node: those in a function are not seen from without
abbrev pub returns_seen : Expanded → ℕ → List ℕ → List ℕ
returns_seen (Form kind) bottom returns = with_return (exit_of kind) returns
returns_seen (InBlock n turning) bottom returns = returns
returns_seen (Lambda parameters) bottom returns = take bottom returns
returns_seen (Defun f parameters) bottom returns = take bottom returns
returns_seen (Refused refusal) bottom returns = returns
returns_seen (RefusedFunction refusal) bottom returns = take bottom returns

-- whether the block of a node is made, after those that were seen
abbrev pub made_seen : Expanded → ℕ → List ℕ → List Bool → List Bool
made_seen (InBlock n turning) bottom returns made = made ++ has_from returns bottom n ∷ []
made_seen _ bottom returns made = made

-- one more node is seen, which stands before the others
abbrev pub seen_node : ExpandedNode → Seen → Seen
seen_node n s =
    let bottom : ℕ = bottom_of n.parts s in
    record {
      ends = take (length s.ends - n.parts) s.ends ++ bottom ∷ [];
      returns = returns_seen n.kind bottom s.returns;
      made = made_seen n.kind bottom s.returns s.made;
    }

-- what is seen of these nodes
abbrev pub seen_of : List ExpandedNode → Seen
seen_of [] = nothing_seen
seen_of (n ∷ ns) = seen_node n (seen_of ns)

-- whether a form of this kind has its block made, after others
abbrev pub with_made : Expanded → Expansion → List Bool → List Bool
with_made (InBlock n turning) under made = made ++ is_made (InBlock n turning) under ∷ []
with_made _ under made = made

-- for each form of these with an implicit block, from the last on, whether it is made
abbrev pub made_of : Expansion → List Bool
made_of NoTrees = []
made_of (Tree kind p under beside) = with_made kind under (made_of beside ++ made_of under)
