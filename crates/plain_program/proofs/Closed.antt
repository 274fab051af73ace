-- The steps of one form: those of the forms under it, between its own.
use Rattle.std.proofs.Common.{◌≡◌, ℕ, zero, suc, ◌-◌, List, [], ◌∷◌, ◌++◌, false, length, refl, ap, sym, ◌∙◌, set, arith, append_assoc, length-append}
use Rattle.std.proofs.Math.Seq.{set-append_seam}
use Rattle.lisp_base.specs.Value.{nil}
use Rattle.plain_program.specs.declared.act.Question.TheVariants.{Print as AskPrint, Write, Define}
use Rattle.plain_program.specs.declared.act.Act.TheVariants.{Push, Discard, Add}
use Rattle.plain_program.specs.declared.act.Opening.TheVariants.{Bind as OpenBind}
use Rattle.plain_program.specs.declared.form.PlainKind.{PlainKind}
use Rattle.plain_program.specs.declared.form.PlainKind.TheVariants.{Constant, Plus, Print, Progn, Special, Setq, Defvar, Let, Bind}
use Rattle.plain_program.specs.Points.{Points, Done, Do, Ask, joined, all_of, body_of, operands, table}
use Rattle.plain_program.specs.declared.steps.Step.{Step}
use Rattle.plain_program.specs.declared.steps.Step.TheVariants.{Act, Test as TestStep, Enter as EnterStep}
use Rattle.plain_program.specs.inside.Steps.{steps_of}
use Rattle.plain_program.specs.inside.Flatten.{strung, body_steps, operand_steps, under_steps, opening_steps, closing_steps}
use Rattle.plain_program.proofs.Joined.{steps_of-joined}

-- nothing behind a list
pub append-nil : {T : Type 0} (xs : List T) → xs ++ [] ≡ xs
append-nil [] = refl
append-nil (x ∷ xs) = ap (λ ys. x ∷ ys) (append-nil xs)

-- the steps of forms in turn
steps_of-all_of : (fs : List Points) → steps_of (all_of fs) ≡ strung false fs
steps_of-all_of [] = refl
steps_of-all_of (f ∷ fs) = steps_of-joined f (all_of fs) ∙ ap (λ s. steps_of f ++ s) (steps_of-all_of fs)

-- one step is written behind the forms
closed_by : (old s t u : List Step) → u ≡ s ++ t → ((old ++ []) ++ s) ++ t ≡ old ++ (u ++ [])
closed_by old s t u e = rw (e, append-nil old, append-nil (s ++ t), append_assoc) refl

-- nothing is to be written behind the forms
open_by : (old s u : List Step) → u ≡ s → (old ++ []) ++ s ≡ old ++ (u ++ [])
open_by old s u e = rw (e, append-nil old, append-nil s) refl

-- the steps of operands are the same at each place
operands_at : (n p q : ℕ) (fs : List Points) → steps_of (operands n p fs) ≡ steps_of (operands n q fs)
operands_at zero p q fs = refl
operands_at (suc n) p q [] = ap (λ s. Act (Push nil) ∷ s) (operands_at n p q [])
operands_at (suc n) p q (f ∷ fs) =
    steps_of-joined f (operands n p fs) ∙ ap (λ s. steps_of f ++ s) (operands_at n p q fs) ∙ sym (steps_of-joined f (operands n q fs))

-- the steps of operands, and of points behind them
asked_after : (n p : ℕ) (fs : List Points) (last : Points) → steps_of (joined (operands n p fs) last) ≡ operand_steps n fs ++ steps_of last
asked_after n p fs last = steps_of-joined (operands n p fs) last ∙ ap (λ s. s ++ steps_of last) (operands_at n p 0 fs)

-- the steps of a body are the same at each place
body_at : (p q : ℕ) (fs : List Points) → steps_of (body_of p fs) ≡ steps_of (body_of q fs)
body_at p q [] = refl
body_at p q (f ∷ []) = refl
body_at p q (f ∷ (g ∷ fs)) =
    steps_of-joined f (Do Discard p (body_of p (g ∷ fs)))
    ∙ ap (λ s. steps_of f ++ (Act Discard ∷ s)) (body_at p q (g ∷ fs))
    ∙ sym (steps_of-joined f (Do Discard q (body_of q (g ∷ fs))))

-- the test of a `defvar` passes over its value and its end
tested_by : (s : ℕ) (d : Step) (old v u : List Step) → u ≡ v ++ d ∷ []
    → set ((old ++ TestStep s 0 ∷ []) ++ v) (length old) (TestStep s (length ((old ++ TestStep s 0 ∷ []) ++ v) - length old)) ++ d ∷ []
    ≡ old ++ ((TestStep s (length u) ∷ (u ++ [])) ++ [])
tested_by s d old v u e =
    let count : length (old ++ TestStep s 0 ∷ v) - length old ≡ length (v ++ d ∷ []) =
    omega (arith, length-append old (TestStep s 0 ∷ v), length-append v (d ∷ [])) in
    rw (e, append_assoc old (TestStep s 0 ∷ []) v, count, set-append_seam, append-nil (v ++ d ∷ []), append-nil (v ++ d ∷ []))
    (append_assoc old _ (d ∷ []))

-- a body in a frame stands between the opening of the frame and its end
framed_by : (e l : Step) (old v u : List Step) → u ≡ v → ((old ++ e ∷ []) ++ v) ++ l ∷ [] ≡ old ++ ((e ∷ (u ++ l ∷ [])) ++ [])
framed_by e l old v u h = rw (h, append-nil (v ++ l ∷ []), append_assoc (old ++ e ∷ []) v, append_assoc old (e ∷ []) (v ++ l ∷ [])) refl

-- closing a form completes its steps
pub closed_steps : (k : PlainKind) (p : ℕ) (fs : List Points) (old : List Step)
    → closing_steps k (length old) ((old ++ opening_steps k p) ++ under_steps k fs) ≡ old ++ (steps_of (table k p fs) ++ [])
closed_steps (Constant v) p fs old = closed_by old [] _ _ refl
closed_steps Plus p fs old = closed_by old (operand_steps 2 fs) _ _ (asked_after 2 p fs (Do Add p Done))
closed_steps Print p fs old = closed_by old (operand_steps 1 fs) _ _ (asked_after 1 p fs (Ask AskPrint p Done))
closed_steps Progn p fs old = open_by old (body_steps fs) _ (body_at p 0 fs)
closed_steps (Special s) p fs old = closed_by old [] _ _ refl
closed_steps (Setq s) p fs old = closed_by old (operand_steps 1 fs) _ _ (asked_after 1 p fs (Ask (Write s) p Done))
closed_steps (Defvar s) p fs old = tested_by s _ old (operand_steps 1 fs) _ (asked_after 1 p fs (Ask (Define s) p Done))
closed_steps Let p fs old = open_by old (strung false fs) _ (steps_of-all_of fs)
closed_steps (Bind s above) p fs old = framed_by (EnterStep (OpenBind s above) p) _ old (body_steps fs) _ (body_at p 0 fs)
