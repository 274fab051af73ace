-- Implicit blocks, which are only made where something in them returns to them.
use Rattle.std.specs.Prelude.{ℕ, ◌-◌, List, [], ◌∷◌, Bool, true, false, ◌||◌, ◌==◌, Option, Some, None, if◌then◌else◌, length, nat_lt}
use Rattle.lisp_base.specs.Forest.{NoTrees, Tree}
use Rattle.lisp_program.specs.declared.form.CoreKind.{CoreKind}
use Rattle.lisp_program.specs.declared.form.CoreKind.TheVariants as k
use Rattle.form_shapes.specs.declared.expanded.Expanded.{Expanded}
use Rattle.form_shapes.specs.declared.expanded.Expanded.TheVariants.{Form, InBlock, Lambda, Defun, Refused, RefusedFunction}
use Rattle.form_shapes.specs.declared.expanded.Turning.{Turning}
use Rattle.form_shapes.specs.declared.expanded.Turning.TheVariants.{While, Let}
use Rattle.lisp_forms.specs.Trees.{Expansion, form, only}

-- the kind of a form round which an implicit block may stand
abbrev pub turning_kind : Turning → CoreKind
turning_kind While = k.While
turning_kind Let = k.Let

-- the number of the block to which a form of this kind returns
abbrev pub exit_of : CoreKind → Option ℕ
exit_of (k.ReturnFrom b) = Some b
exit_of _ = None

-- it is this number
abbrev pub is_that : ℕ → Option ℕ → Bool
is_that n None = false
is_that n (Some b) = b == n

-- what stands for a form returns to the block with this number
abbrev pub is_return_to : ℕ → Expanded → Bool
is_return_to n (Form kind) = is_that n (exit_of kind)
is_return_to n _ = false

-- a function: what is in it is another call
abbrev pub is_function : Expanded → Bool
is_function (Form kind) = false
is_function (InBlock n turning) = false
is_function (Lambda parameters) = true
is_function (Defun f parameters) = true
is_function (Refused refusal) = false
is_function (RefusedFunction refusal) = true

-- some form of these returns to the block with this number
abbrev pub returns_to : ℕ → Expansion → Bool
returns_to n NoTrees = false
returns_to n (Tree kind p under beside) = is_return_to n kind || (if is_function kind then false else returns_to n under) || returns_to n beside

-- something in a form of this kind, with these under it, returns to its implicit block
abbrev pub is_made : Expanded → Expansion → Bool
is_made (InBlock n turning) under = returns_to n under
is_made _ under = false

-- How many of the blocks that are not made stand round the level with this number. Their numbers are given, the innermost first: those
-- that stand round it have lesser ones.
abbrev pub not_made_round : List ℕ → ℕ → ℕ
not_made_round [] x = 0
not_made_round (n ∷ ns) x = if nat_lt n x then length (n ∷ ns) else not_made_round ns x

-- a number where these blocks are not made: how many levels that are made stand round it
abbrev pub less : List ℕ → ℕ → ℕ
less gone x = x - not_made_round gone x

-- a kind of form where these blocks round it are not made
abbrev pub lowered_core : List ℕ → CoreKind → CoreKind
lowered_core gone (k.Local x) = k.Local (less gone x)
lowered_core gone (k.SetLocal x) = k.SetLocal (less gone x)
lowered_core gone (k.BindLocal x above) = k.BindLocal (less gone x) above
lowered_core gone (k.Block x) = k.Block (less gone x)
lowered_core gone (k.ReturnFrom x) = k.ReturnFrom (less gone x)
lowered_core gone (k.WithoutInterrupts x) = k.WithoutInterrupts (less gone x)
lowered_core gone (k.AllowWithInterrupts x) = k.AllowWithInterrupts (less gone x)
lowered_core gone (k.ClauseWith class x) = k.ClauseWith class (less gone x)
lowered_core gone kind = kind

-- what stands for a form where these blocks round it are not made; its own block is made or not
abbrev pub lowered_kind : List ℕ → Expanded → (made : Bool) → Expanded
lowered_kind gone (Form kind) made = Form (lowered_core gone kind)
lowered_kind gone (InBlock n turning) true = InBlock (less gone n) turning
lowered_kind gone (InBlock n turning) false = Form (turning_kind turning)
lowered_kind gone (Lambda parameters) made = Lambda parameters
lowered_kind gone (Defun f parameters) made = Defun f parameters
lowered_kind gone (Refused refusal) made = Refused refusal
lowered_kind gone (RefusedFunction refusal) made = RefusedFunction refusal

-- the blocks that are not made round what is under a form: in a function there are none
abbrev pub not_made_under : List ℕ → Expanded → (made : Bool) → List ℕ
not_made_under gone (Form kind) made = gone
not_made_under gone (InBlock n turning) true = gone
not_made_under gone (InBlock n turning) false = n ∷ gone
not_made_under gone (Lambda parameters) made = []
not_made_under gone (Defun f parameters) made = []
not_made_under gone (Refused refusal) made = gone
not_made_under gone (RefusedFunction refusal) made = []

-- These without the implicit blocks to which nothing returns, where the given ones round them are not made either: each level that is
-- open in such a block has a number less.
abbrev pub lowered : List ℕ → Expansion → Expansion
lowered gone NoTrees = NoTrees
lowered gone (Tree kind p under beside) =
    let made : Bool = is_made kind under in
    Tree (lowered_kind gone kind made) p (lowered (not_made_under gone kind made) under) (lowered gone beside)

-- the body of a `defun` in its implicit block
abbrev pub blocked : ℕ → ℕ → Expansion → Expansion
blocked n p body = if returns_to n body then only (form (k.Block n) p body) else lowered (n ∷ []) body
