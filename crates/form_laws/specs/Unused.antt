-- That an implicit block to which nothing returns changes nothing.
use Rattle.std.specs.Prelude.{◌≡◌, ◌<◌, ℕ, List, ◌∷◌, Bool, true, false, All}
use Rattle.lisp_base.specs.Forest.{NoTrees, Tree}
use Rattle.lisp_data.specs.Data.{Data}
use Rattle.form_shapes.specs.declared.expanded.Expanded.{Expanded}
use Rattle.form_shapes.specs.declared.expanded.Expanded.TheVariants.{Form, InBlock, Lambda, Defun, Refused, RefusedFunction}
use Rattle.form_shapes.specs.declared.levels.Level.TheVariants.{Block}
use Rattle.form_shapes.specs.declared.keywords.Roles.{Roles}
use Rattle.form_shapes.specs.Bindings.{opened_by}
use Rattle.form_shapes.specs.Scopes.{Scope, deeper, inside}
use Rattle.lisp_forms.specs.Blocks.{lowered, returns_to}
use Rattle.lisp_forms.specs.Expansion.{body_in, function_body_in, within_first}
use Rattle.lisp_forms.specs.Trees.{Expansion}

-- each level that can be named has a number below the depth
abbrev pub IsNumbered : Scope → Type 0
IsNumbered s = All (λ l. l.number < s.depth) s.levels

-- what stands for a form is a refusal
abbrev pub is_refusal : Expanded → Bool
is_refusal (Form kind) = false
is_refusal (InBlock n turning) = false
is_refusal (Lambda parameters) = false
is_refusal (Defun f parameters) = false
is_refusal (Refused refusal) = true
is_refusal (RefusedFunction refusal) = true

-- nothing in these is refused
abbrev pub IsAccepted : Expansion → Type 0
IsAccepted NoTrees = Unit {0}
IsAccepted (Tree kind p under beside) = (is_refusal kind ≡ false) × IsAccepted under × IsAccepted beside

-- What is read so is read inside a block with any name, and the blocks `gone` round it are not made. Nothing of it is refused, and
-- nothing returns to the block. Then it stands for the same where the block is left out as where there is no block.
abbrev pub IsUnchanged : (Scope → Expansion) → Type 0
IsUnchanged read =
    (s : Scope) (b : ℕ) (gone : List ℕ) → IsNumbered s → All (λ n. n < s.depth) gone → IsAccepted (read (inside s (Block b)))
    → returns_to s.depth (read (inside s (Block b))) ≡ false → lowered (s.depth ∷ gone) (read (inside s (Block b))) ≡ lowered gone (read s)

-- what the body of a `dotimes` with this variable is read by, where that with its block is given
abbrev pub in_turns : ℕ → Scope → Scope
in_turns x s = opened_by (deeper (deeper s)) x

-- An implicit block to which nothing returns changes nothing: neither the body of a `loop`, nor the number of turns, the body and the
-- result of a `dotimes`, nor the body of a `defun`, which are those of these data that come after so many.
pub record UnusedBlockChangesNothing : Type 0 where
  pub loops : (m : ℕ) (d : Data) → IsUnchanged (λ s. body_in s m d)
  pub counts : (roles : Roles) (d : Data) → IsUnchanged (λ s. within_first s roles d)
  pub turns : (x m : ℕ) (d : Data) → IsUnchanged (λ s. body_in (in_turns x s) m d)
  pub results : (x : ℕ) (roles : Roles) (d : Data) → IsUnchanged (λ s. within_first (in_turns x s) roles d)
  pub functions : (m : ℕ) (d : Data) → IsUnchanged (λ s. function_body_in s m d)
