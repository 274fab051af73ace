-- Where no form has an implicit block, nothing is left out.
use Rattle.std.specs.List.{list_any}
use Rattle.std.proofs.Common.{◌≡◌, ℕ, [], ◌++◌, Bool, true, false, true≢false, ◌||◌, refl, ap, sym, ◌∙◌, arith}
use Rattle.std.proofs.lemmas.List.Folds.{list_any-append}
use Rattle.lisp_base.specs.Forest.{NoTrees, Tree}
use Rattle.lisp_program.specs.declared.form.CoreKind.{CoreKind}
use Rattle.lisp_program.specs.declared.form.CoreKind.TheVariants as k
use Rattle.form_shapes.specs.declared.expanded.Expanded.TheVariants.{Form, InBlock, Lambda, Defun, Refused, RefusedFunction}
use Rattle.form_shapes.specs.declared.expanded.ExpandedNode.{ExpandedNode}
use Rattle.lisp_forms.specs.Blocks.{less, lowered, lowered_core}
use Rattle.lisp_forms.specs.Trees.{Expansion}
use Rattle.lisp_forms.specs.inside.Flat.{flat}
use Rattle.lisp_forms.specs.inside.Made.{is_in_block}

-- no number is less where no block is left out
same-number : (x : ℕ) → less [] x ≡ x
same-number x = omega arith

-- nor is a kind of form another one
same-core : (kind : CoreKind) → lowered_core [] kind ≡ kind
same-core (k.Constant v) = refl
same-core k.CurrentThread = refl
same-core (k.Function f) = refl
same-core (k.Local x) = ap k.Local (same-number x)
same-core (k.Special x) = refl
same-core (k.SetLocal x) = ap k.SetLocal (same-number x)
same-core (k.SetSpecial x) = refl
same-core (k.Defvar x) = refl
same-core (k.Defparameter x) = refl
same-core (k.Defun x) = refl
same-core (k.CompareAndSwap x) = refl
same-core k.Progn = refl
same-core k.If = refl
same-core k.While = refl
same-core k.Let = refl
same-core (k.BindLocal x above) = ap (λ y. k.BindLocal y above) (same-number x)
same-core (k.BindSpecial x above) = refl
same-core (k.Call x) = refl
same-core (k.Apply f) = refl
same-core (k.Print printing) = refl
same-core (k.Serve service) = refl
same-core (k.Block x) = ap k.Block (same-number x)
same-core (k.ReturnFrom x) = ap k.ReturnFrom (same-number x)
same-core k.Catch = refl
same-core k.Throw = refl
same-core k.UnwindProtect = refl
same-core (k.WithoutInterrupts x) = ap k.WithoutInterrupts (same-number x)
same-core (k.AllowWithInterrupts x) = ap k.AllowWithInterrupts (same-number x)
same-core k.WithInterrupts = refl
same-core k.HandlerCase = refl
same-core (k.Clause class) = refl
same-core (k.ClauseWith class x) = ap (k.ClauseWith class) (same-number x)
same-core (k.Signal condition) = refl
same-core (k.WithDeadline seconds replaces) = refl
same-core k.AbortThread = refl
same-core k.ReturnFromThread = refl

-- neither of two holds
neither : (a b : Bool) → (a || b) ≡ false → (a ≡ false) × (b ≡ false)
neither true b h = absurd (true≢false h)
neither false b h = (refl, h)

-- a node has an implicit block
abbrev has : ExpandedNode → Bool
has n = is_in_block n.kind

-- the trees under a form and beside it have none
both-none : (under beside : Expansion) → list_any has (flat under ++ flat beside) ≡ false
    → (list_any has (flat under) ≡ false) × (list_any has (flat beside) ≡ false)
both-none under beside h =
    neither (list_any has (flat under)) (list_any has (flat beside)) (sym (list_any-append has (flat under) (flat beside)) ∙ h)

-- what is left is the same
pub lowered-same : (e : Expansion) → list_any has (flat e) ≡ false → lowered [] e ≡ e
lowered-same NoTrees h = refl
lowered-same (Tree (Form kind) p under beside) h =
    let none = both-none under beside h in
    ap (λ c. Tree (Form c) p (lowered [] under) (lowered [] beside)) (same-core kind)
    ∙ ap (λ e. Tree (Form kind) p e (lowered [] beside)) (lowered-same under none.0) ∙ ap (Tree (Form kind) p under) (lowered-same beside none.1)
lowered-same (Tree (InBlock n turning) p under beside) h = absurd (true≢false h)
lowered-same (Tree (Lambda parameters) p under beside) h =
    let none = both-none under beside h in
    ap (λ e. Tree (Lambda parameters) p e (lowered [] beside)) (lowered-same under none.0) ∙ ap (Tree (Lambda parameters) p under) (lowered-same beside none.1)
lowered-same (Tree (Defun f parameters) p under beside) h =
    let none = both-none under beside h in
    ap (λ e. Tree (Defun f parameters) p e (lowered [] beside)) (lowered-same under none.0) ∙ ap (Tree (Defun f parameters) p under) (lowered-same beside none.1)
lowered-same (Tree (Refused refusal) p under beside) h =
    let none = both-none under beside h in
    ap (λ e. Tree (Refused refusal) p e (lowered [] beside)) (lowered-same under none.0) ∙ ap (Tree (Refused refusal) p under) (lowered-same beside none.1)
lowered-same (Tree (RefusedFunction refusal) p under beside) h =
    let none = both-none under beside h in
    ap (λ e. Tree (RefusedFunction refusal) p e (lowered [] beside)) (lowered-same under none.0) ∙ ap (Tree (RefusedFunction refusal) p under) (lowered-same beside none.1)
