-- When forms are those of another expansion with one block more round them.
use Rattle.std.proofs.Common.{◌≡◌, ◌⊎◌, inr, ℕ, suc, ◌-◌, ◌<◌, ◌≤◌, nat_lt, Bool, true, false, Option, Some, None, if◌then◌else◌, refl, arith}
use Rattle.std.proofs.lemmas.Bool.Decides.{nat_tests}
use Rattle.lisp_base.specs.Forest.{NoTrees, Tree, append}
use Rattle.lisp_program.specs.declared.form.CoreKind.{CoreKind}
use Rattle.lisp_program.specs.declared.form.CoreKind.TheVariants as k
use Rattle.form_shapes.specs.declared.expanded.Expanded.{Expanded}
use Rattle.form_shapes.specs.declared.expanded.Expanded.TheVariants.{Form, InBlock, Lambda, Defun, Refused, RefusedFunction}
use Rattle.lisp_forms.specs.Blocks.{exit_of, is_that}
use Rattle.lisp_forms.specs.Trees.{Expansion, Single}

-- the number of a level without the block with this number
abbrev pub shift : ℕ → ℕ → ℕ
shift n x = if nat_lt n x then x - 1 else x

-- a number, where there is one
abbrev pub shifted_number : ℕ → Option ℕ → Option ℕ
shifted_number n None = None
shifted_number n (Some x) = Some (shift n x)

-- a kind of form without the block
abbrev pub shifted_core : ℕ → CoreKind → CoreKind
shifted_core n (k.Local x) = k.Local (shift n x)
shifted_core n (k.SetLocal x) = k.SetLocal (shift n x)
shifted_core n (k.BindLocal x above) = k.BindLocal (shift n x) above
shifted_core n (k.Block x) = k.Block (shift n x)
shifted_core n (k.ReturnFrom x) = k.ReturnFrom (shift n x)
shifted_core n (k.WithoutInterrupts x) = k.WithoutInterrupts (shift n x)
shifted_core n (k.AllowWithInterrupts x) = k.AllowWithInterrupts (shift n x)
shifted_core n (k.ClauseWith class x) = k.ClauseWith class (shift n x)
shifted_core n kind = kind

-- what stands for a form, without the block
abbrev pub shifted_kind : ℕ → Expanded → Expanded
shifted_kind n (Form kind) = Form (shifted_core n kind)
shifted_kind n (InBlock m turning) = InBlock (shift n m) turning
shifted_kind n (Lambda parameters) = Lambda parameters
shifted_kind n (Defun f parameters) = Defun f parameters
shifted_kind n (Refused refusal) = Refused refusal
shifted_kind n (RefusedFunction refusal) = RefusedFunction refusal

-- what stands for a form is refused or returns to the block: what it is without the block does not matter
abbrev pub IsFree : ℕ → Expanded → Type 0
IsFree n (Form kind) = is_that n (exit_of kind) ≡ true
IsFree n (InBlock m turning) = ⊥
IsFree n (Lambda parameters) = ⊥
IsFree n (Defun f parameters) = ⊥
IsFree n (Refused refusal) = Unit {0}
IsFree n (RefusedFunction refusal) = Unit {0}

-- an implicit block is inside the block
abbrev pub IsDeep : ℕ → Expanded → Type 0
IsDeep n (Form kind) = Unit {0}
IsDeep n (InBlock m turning) = n < m
IsDeep n (Lambda parameters) = Unit {0}
IsDeep n (Defun f parameters) = Unit {0}
IsDeep n (Refused refusal) = Unit {0}
IsDeep n (RefusedFunction refusal) = Unit {0}

-- what is under a function is the same, and under any other form it is related
abbrev pub Under : Expanded → (same related : Type 0) → Type 0
Under (Form kind) same related = related
Under (InBlock m turning) same related = related
Under (Lambda parameters) same related = same
Under (Defun f parameters) same related = same
Under (Refused refusal) same related = related
Under (RefusedFunction refusal) same related = same

-- a form and the same form without the block
abbrev pub Alike : ℕ → (kind : Expanded) (p : ℕ) (kind' : Expanded) (p' : ℕ) → (same related : Type 0) → Type 0
Alike n kind p kind' p' same related = IsFree n kind ⊎ ((kind' ≡ shifted_kind n kind) × IsDeep n kind × (p' ≡ p) × Under kind same related)

-- forms and the same forms without the block
abbrev pub Related : ℕ → Expansion → Expansion → Type 0
Related n NoTrees NoTrees = Unit {0}
Related n NoTrees (Tree kind p under beside) = ⊥
Related n (Tree kind p under beside) NoTrees = ⊥
Related n (Tree kind p under beside) (Tree kind' p' under' beside') =
    Alike n kind p kind' p' (under ≡ under') (Related n under under') × Related n beside beside'

-- one form and the same form without the block
abbrev pub RelatedOne : ℕ → Single → Single → Type 0
RelatedOne n a b = Alike n a.kind a.place b.kind b.place (a.under ≡ b.under) (Related n a.under b.under)

-- a form of the same kind
pub like : {F S : Type 0} {kind : Expanded} {p : ℕ} → S → F ⊎ ((kind ≡ kind) × Unit {0} × (p ≡ p) × S)
like h = inr (refl, tt, refl, h)

-- and one with another number
pub moved : {F S : Type 0} {kind kind' : Expanded} {p : ℕ} → kind' ≡ kind → S → F ⊎ ((kind' ≡ kind) × Unit {0} × (p ≡ p) × S)
moved e h = inr (e, tt, refl, h)

-- a number inside the block is one less without it
pub above : (n m : ℕ) → n ≤ m → m ≡ shift n (suc m)
above n m h = by (nat_lt n (suc m)) refl
  where
    by : (t : Bool) → nat_lt n (suc m) ≡ t → m ≡ (if t then suc m - 1 else suc m)
    by true e = omega arith
    by false e = grind (arith, nat_tests)

-- one outside it stays
pub below : (n x : ℕ) → x ≤ n → x ≡ shift n x
below n x h = by (nat_lt n x) refl
  where
    by : (t : Bool) → nat_lt n x ≡ t → x ≡ (if t then x - 1 else x)
    by true e = grind (arith, nat_tests)
    by false e = refl

-- forms after others
pub related-append : (n : ℕ) (f f' g g' : Expansion) → Related n f f' → Related n g g' → Related n (append f g) (append f' g')
related-append n NoTrees NoTrees g g' h i = i
related-append n NoTrees (Tree kind p under beside) g g' h i = absurd h
related-append n (Tree kind p under beside) NoTrees g g' h i = absurd h
related-append n (Tree kind p under beside) (Tree kind' p' under' beside') g g' h i = (h.0, related-append n beside beside' g g' h.1 i)
