-- Related forms are the same without the implicit blocks that are not made.
use Rattle.std.proofs.Common.{◌≡◌, inl, inr, ℕ, suc, ◌-◌, ◌<◌, nat_lt, List, [], ◌∷◌, length, Bool, true, false, true≢false, ◌||◌, ◌==◌, if◌then◌else◌, refl, ap, sym, ◌∙◌, arith}
use Rattle.std.proofs.lemmas.Bool.Decides.{nat_tests}
use Rattle.lisp_base.specs.Forest.{NoTrees, Tree}
use Rattle.lisp_program.specs.declared.form.CoreKind.{CoreKind}
use Rattle.lisp_program.specs.declared.form.CoreKind.TheVariants as k
use Rattle.form_shapes.specs.declared.expanded.Expanded.{Expanded}
use Rattle.form_shapes.specs.declared.expanded.Expanded.TheVariants.{Form, InBlock, Lambda, Defun, Refused, RefusedFunction}
use Rattle.form_shapes.specs.declared.expanded.Turning.{Turning}
use Rattle.lisp_forms.specs.Blocks.{exit_of, is_function, is_return_to, is_that, less, lowered, lowered_core, lowered_kind, not_made_round, not_made_under, returns_to}
use Rattle.lisp_forms.specs.Trees.{Expansion}
use Rattle.form_laws.specs.Unused.{IsAccepted, is_refusal}
use Rattle.form_laws.proofs.Related.{IsDeep, IsFree, Related, Under, shift, shifted_core, shifted_kind}

-- neither of two holds
not-first : (a b : Bool) → (a || b) ≡ false → a ≡ false
not-first true b h = h
not-first false b h = refl

not-second : (a b : Bool) → (a || b) ≡ false → b ≡ false
not-second true b h = absurd (true≢false h)
not-second false b h = h

-- other numbers than that of the block stay different
shift-same : (n m x : ℕ) → n < m → (x == n) ≡ false → (shift n x == shift n m) ≡ (x == m)
shift-same n m x h other = by (nat_lt n m) (nat_lt n x) refl refl
  where
    by : (t u : Bool) → nat_lt n m ≡ t → nat_lt n x ≡ u → ((if u then x - 1 else x) == (if t then m - 1 else m)) ≡ (x == m)
    by true true e f = grind (arith, nat_tests)
    by true false e f = grind (arith, nat_tests)
    by false u e f = absurd (true≢false (sym (grind (arith, nat_tests)) ∙ e))

-- a form returns to a block inside the block as it does without the block
core-returns : (n m : ℕ) (kind : CoreKind) → n < m → is_that n (exit_of kind) ≡ false
    → is_that (shift n m) (exit_of (shifted_core n kind)) ≡ is_that m (exit_of kind)
core-returns n m (k.ReturnFrom x) h other = shift-same n m x h other
core-returns n m kind h other = refl

kind-returns : (n m : ℕ) (kind : Expanded) → n < m → is_return_to n kind ≡ false → is_return_to (shift n m) (shifted_kind n kind) ≡ is_return_to m kind
kind-returns n m (Form kind) h other = core-returns n m kind h other
kind-returns n m (InBlock b turning) h other = refl
kind-returns n m (Lambda parameters) h other = refl
kind-returns n m (Defun f parameters) h other = refl
kind-returns n m (Refused refusal) h other = refl
kind-returns n m (RefusedFunction refusal) h other = refl

-- whether a form is a function does not change
kind-function : (n : ℕ) (kind : Expanded) → is_function (shifted_kind n kind) ≡ is_function kind
kind-function n (Form kind) = refl
kind-function n (InBlock b turning) = refl
kind-function n (Lambda parameters) = refl
kind-function n (Defun f parameters) = refl
kind-function n (Refused refusal) = refl
kind-function n (RefusedFunction refusal) = refl

-- what is not refused and does not return to the block is not free
not-free : {A : Type 0} (n : ℕ) (kind : Expanded) → IsFree n kind → is_refusal kind ≡ false → is_return_to n kind ≡ false → A
not-free n (Form kind) h a r = absurd (true≢false (sym h ∙ r))
not-free n (InBlock b turning) h a r = absurd h
not-free n (Lambda parameters) h a r = absurd h
not-free n (Defun f parameters) h a r = absurd h
not-free n (Refused refusal) h a r = absurd (true≢false a)
not-free n (RefusedFunction refusal) h a r = absurd (true≢false a)

-- what holds under a form that is no function
under-not : (kind : Expanded) (t : Bool) → (if is_function kind then false else t) ≡ false → Under kind (Unit {0}) (t ≡ false)
under-not (Form kind) t h = h
under-not (InBlock b turning) t h = h
under-not (Lambda parameters) t h = tt
under-not (Defun f parameters) t h = tt
under-not (Refused refusal) t h = h
under-not (RefusedFunction refusal) t h = tt

-- what follows from two facts under a form
under-both : (S T : Type 0) {A B C : Type 0} (kind : Expanded) → (A → B → C) → Under kind S A → Under kind T B → Under kind S C
under-both S T (Form kind) f a b = f a b
under-both S T (InBlock m turning) f a b = f a b
under-both S T (Lambda parameters) f a b = a
under-both S T (Defun g parameters) f a b = a
under-both S T (Refused refusal) f a b = f a b
under-both S T (RefusedFunction refusal) f a b = a

-- something under a form returns to a block
under-returns : (S : Type 0) (kind : Expanded) (t u : Bool) → Under kind S (t ≡ u) → (if is_function kind then false else t) ≡ (if is_function kind then false else u)
under-returns S (Form kind) t u h = h
under-returns S (InBlock b turning) t u h = h
under-returns S (Lambda parameters) t u h = refl
under-returns S (Defun f parameters) t u h = refl
under-returns S (Refused refusal) t u h = h
under-returns S (RefusedFunction refusal) t u h = refl

-- a form returns to a block inside the block
node-returns : (n m : ℕ) (kind kind' : Expanded) (t t' u u' : Bool) → n < m → kind' ≡ shifted_kind n kind → is_return_to n kind ≡ false
    → (if is_function kind then false else t') ≡ (if is_function kind then false else t) → u' ≡ u
    → (is_return_to (shift n m) kind' || (if is_function kind' then false else t') || u') ≡ (is_return_to m kind || (if is_function kind then false else t) || u)
node-returns n m kind kind' t t' u u' h is other same beside =
    ap (λ l. is_return_to (shift n m) l || (if is_function l then false else t') || u') is
    ∙ ap (λ b. b || (if is_function (shifted_kind n kind) then false else t') || u') (kind-returns n m kind h other)
    ∙ ap (λ b. is_return_to m kind || (if b then false else t') || u') (kind-function n kind)
    ∙ ap (λ b. is_return_to m kind || b || u') same
    ∙ ap (λ b. is_return_to m kind || (if is_function kind then false else t) || b) beside

-- a form does not return to a block, nor do those under it and beside it, where none of all these does
none-in : (n : ℕ) (kind : Expanded) (under beside : Expansion)
    → (is_return_to n kind || (if is_function kind then false else returns_to n under) || returns_to n beside) ≡ false
    → (is_return_to n kind ≡ false) × Under kind (Unit {0}) (returns_to n under ≡ false) × (returns_to n beside ≡ false)
none-in n kind under beside none =
    let first : (is_return_to n kind || (if is_function kind then false else returns_to n under)) ≡ false = not-first _ (returns_to n beside) none in (
      not-first (is_return_to n kind) (if is_function kind then false else returns_to n under) first,
      under-not kind (returns_to n under) (not-second (is_return_to n kind) _ first),
      not-second (is_return_to n kind || (if is_function kind then false else returns_to n under)) (returns_to n beside) none,
    )

-- related forms return to the same blocks inside the block
pub returns-same : (n : ℕ) (e e' : Expansion) (m : ℕ) → n < m → Related n e e' → IsAccepted e → returns_to n e ≡ false
    → returns_to (shift n m) e' ≡ returns_to m e
returns-same n NoTrees NoTrees m h r a none = refl
returns-same n NoTrees (Tree kind' p' under' beside') m h r a none = absurd r
returns-same n (Tree kind p under beside) NoTrees m h r a none = absurd r
returns-same n (Tree kind p under beside) (Tree kind' p' under' beside') m h r a none =
    let parts = none-in n kind under beside none in
    elim r.0 [
      | inl free ↦ not-free n kind free a.0 parts.0
      | inr alike ↦ node-returns n m kind kind' (returns_to m under) (returns_to (shift n m) under') (returns_to m beside) (returns_to (shift n m) beside') h alike.0 parts.0
          (under-returns (under ≡ under') kind (returns_to (shift n m) under') (returns_to m under)
          (under-both (under ≡ under') (Unit {0}) kind (λ i not. returns-same n under under' m h i a.1 not) alike.3 parts.1))
          (returns-same n beside beside' m h r.1 a.2 parts.2)
    ]

-- Blocks that are not made, and the same without one of them: each number is the same.
pub record IsGone (n : ℕ) (gone gone' : List ℕ) : Type 0 where
  pub many : length gone ≡ suc (length gone')
  pub each : (x : ℕ) → less gone x ≡ less gone' (shift n x)

-- numbers keep their order
shift-order : (n m x : ℕ) → n < m → nat_lt (shift n m) (shift n x) ≡ nat_lt m x
shift-order n m x h = by (nat_lt n m) (nat_lt n x) refl refl
  where
    by : (t u : Bool) → nat_lt n m ≡ t → nat_lt n x ≡ u → nat_lt (if t then m - 1 else m) (if u then x - 1 else x) ≡ nat_lt m x
    by true true e f = grind (arith, nat_tests)
    by true false e f = grind (arith, nat_tests)
    by false u e f = absurd (true≢false (sym (grind (arith, nat_tests)) ∙ e))

-- a number past so many blocks, and past one less
one-less : (n m x many fewer : ℕ) → n < m → nat_lt m x ≡ true → many ≡ suc fewer → x - suc many ≡ shift n x - suc fewer
one-less n m x many fewer h past is = by (nat_lt n x) refl
  where
    by : (t : Bool) → nat_lt n x ≡ t → x - suc many ≡ (if t then x - 1 else x) - suc fewer
    by true e = omega (arith, is)
    by false e = absurd (true≢false (sym (grind (arith, nat_tests)) ∙ e))

-- one more block inside it is not made
gone-inner : (n m : ℕ) (gone gone' : List ℕ) → n < m → IsGone n gone gone' → IsGone n (m ∷ gone) (shift n m ∷ gone')
gone-inner n m gone gone' h g = record { many = ap suc g.many; each = λ x. each x }
  where
    each : (x : ℕ) → less (m ∷ gone) x ≡ less (shift n m ∷ gone') (shift n x)
    each x = by (nat_lt m x) (nat_lt (shift n m) (shift n x)) refl refl (shift-order n m x h)
      where
        by : (t u : Bool) → nat_lt m x ≡ t → nat_lt (shift n m) (shift n x) ≡ u → u ≡ t
            → x - (if t then suc (length gone) else not_made_round gone x)
            ≡ shift n x - (if u then suc (length gone') else not_made_round gone' (shift n x))
        by true true e f i = one-less n m x (length gone) (length gone') h e g.many
        by false false e f i = g.each x
        by true false e f i = absurd (true≢false (sym i))
        by false true e f i = absurd (true≢false i)

-- a kind of form
core-lowered : (n : ℕ) (gone gone' : List ℕ) (kind : CoreKind) → IsGone n gone gone' → lowered_core gone kind ≡ lowered_core gone' (shifted_core n kind)
core-lowered n gone gone' (k.Local x) g = ap k.Local (g.each x)
core-lowered n gone gone' (k.SetLocal x) g = ap k.SetLocal (g.each x)
core-lowered n gone gone' (k.BindLocal x over) g = ap (λ y. k.BindLocal y over) (g.each x)
core-lowered n gone gone' (k.Block x) g = ap k.Block (g.each x)
core-lowered n gone gone' (k.ReturnFrom x) g = ap k.ReturnFrom (g.each x)
core-lowered n gone gone' (k.WithoutInterrupts x) g = ap k.WithoutInterrupts (g.each x)
core-lowered n gone gone' (k.AllowWithInterrupts x) g = ap k.AllowWithInterrupts (g.each x)
core-lowered n gone gone' (k.ClauseWith class x) g = ap (k.ClauseWith class) (g.each x)
core-lowered n gone gone' kind g = refl

-- forms of the same parts
trees : (kind kind' : Expanded) (p : ℕ) (under under' beside beside' : Expansion) → kind ≡ kind' → under ≡ under' → beside ≡ beside'
    → ◌≡◌ {A = Expansion} (Tree kind p under beside) (Tree kind' p under' beside')
trees kind kind' p under under' beside beside' h i j =
    ap (λ l. Tree l p under beside) h ∙ ap (λ f. Tree kind' p f beside) i ∙ ap (λ f. Tree kind' p under' f) j

-- these are the same without the blocks that are not made
abbrev IsLowered : ℕ → Expansion → Expansion → Type 0
IsLowered n e e' = (gone gone' : List ℕ) → IsGone n gone gone' → lowered gone e ≡ lowered gone' e'

-- a form with an implicit block that is made or not
block-lowered : (n m : ℕ) (turning : Turning) (p : ℕ) (under under' beside beside' : Expansion) (made made' : Bool) (gone gone' : List ℕ)
    → n < m → IsGone n gone gone' → made' ≡ made → IsLowered n under under' → lowered gone beside ≡ lowered gone' beside'
    → ◌≡◌ {A = Expansion}
    (Tree (lowered_kind gone (InBlock m turning) made) p (lowered (not_made_under gone (InBlock m turning) made) under) (lowered gone beside))
    (Tree (lowered_kind gone' (InBlock (shift n m) turning) made') p (lowered (not_made_under gone' (InBlock (shift n m) turning) made') under') (lowered gone' beside'))
block-lowered n m turning p under under' beside beside' made made' gone gone' h g same inner later =
    by made
    ∙ ap (λ b. Tree (lowered_kind gone' (InBlock (shift n m) turning) b) p (lowered (not_made_under gone' (InBlock (shift n m) turning) b) under') (lowered gone' beside')) (sym same)
  where
    by : (b : Bool) → ◌≡◌ {A = Expansion}
        (Tree (lowered_kind gone (InBlock m turning) b) p (lowered (not_made_under gone (InBlock m turning) b) under) (lowered gone beside))
        (Tree (lowered_kind gone' (InBlock (shift n m) turning) b) p (lowered (not_made_under gone' (InBlock (shift n m) turning) b) under') (lowered gone' beside'))
    by true = trees _ _ p _ _ _ _ (ap (λ x. InBlock x turning) (g.each m)) (inner gone gone' g) later
    by false = trees _ _ p _ _ _ _ refl (inner (m ∷ gone) (shift n m ∷ gone') (gone-inner n m gone gone' h g)) later

-- a form
node-lowered : (n : ℕ) (kind : Expanded) (p : ℕ) (under under' beside beside' : Expansion) (gone gone' : List ℕ) → IsGone n gone gone'
    → is_refusal kind ≡ false → IsDeep n kind → Under kind (under ≡ under') (IsLowered n under under')
    → Under kind (under ≡ under') ((m : ℕ) → n < m → returns_to (shift n m) under' ≡ returns_to m under)
    → lowered gone beside ≡ lowered gone' beside'
    → lowered gone (Tree kind p under beside) ≡ lowered gone' (Tree (shifted_kind n kind) p under' beside')
node-lowered n (Form kind) p under under' beside beside' gone gone' g a deep inner made later =
    trees _ _ p _ _ _ _ (ap Form (core-lowered n gone gone' kind g)) (inner gone gone' g) later
node-lowered n (InBlock m turning) p under under' beside beside' gone gone' g a deep inner made later =
    block-lowered n m turning p under under' beside beside' (returns_to m under) (returns_to (shift n m) under') gone gone' deep g (made m deep) inner later
node-lowered n (Lambda parameters) p under under' beside beside' gone gone' g a deep inner made later =
    trees _ _ p _ _ _ _ refl (ap (lowered []) inner) later
node-lowered n (Defun f parameters) p under under' beside beside' gone gone' g a deep inner made later =
    trees _ _ p _ _ _ _ refl (ap (lowered []) inner) later
node-lowered n (Refused refusal) p under under' beside beside' gone gone' g a deep inner made later = absurd (true≢false a)
node-lowered n (RefusedFunction refusal) p under under' beside beside' gone gone' g a deep inner made later = absurd (true≢false a)

-- related forms
pub lowered-same : (n : ℕ) (e e' : Expansion) → Related n e e' → IsAccepted e → returns_to n e ≡ false → IsLowered n e e'
lowered-same n NoTrees NoTrees r a none gone gone' g = refl
lowered-same n NoTrees (Tree kind' p' under' beside') r a none gone gone' g = absurd r
lowered-same n (Tree kind p under beside) NoTrees r a none gone gone' g = absurd r
lowered-same n (Tree kind p under beside) (Tree kind' p' under' beside') r a none gone gone' g =
    let parts = none-in n kind under beside none in
    elim r.0 [
      | inl free ↦ not-free n kind free a.0 parts.0
      | inr alike ↦ node-lowered n kind p under under' beside beside' gone gone' g a.0 alike.1
          (under-both (under ≡ under') (Unit {0}) kind (λ i not. lowered-same n under under' i a.1 not) alike.3 parts.1)
          (under-both (under ≡ under') (Unit {0}) kind (λ i not m h. returns-same n under under' m h i a.1 not) alike.3 parts.1)
          (lowered-same n beside beside' r.1 a.2 parts.2 gone gone' g)
          ∙ ap (λ l. lowered gone' (Tree l p under' beside')) (sym alike.0)
          ∙ ap (λ q. lowered gone' (Tree kind' q under' beside')) (sym alike.2)
    ]
