-- A number gives back what it was made of.
use Rattle.std.proofs.Common.{◌≡◌, ap, ◌∙◌, ℕ, ◌+◌, ◌*◌, ◌^◌, ◌<◌, ◌%◌, Option}
use Rattle.std.proofs.lemmas.Nat.{div-mul-add, mod-mul-add}
use Rattle.lisp_base.specs.declared.condition.Class.{Class}
use Rattle.lisp_base.specs.declared.condition.Condition.{Condition}
use Rattle.lisp_base.specs.inside.Words.{class_at, condition_at, text_at}

-- the condition of a class and a text
abbrev of_both : Class → Option ℕ → Condition
of_both class text = record { class = class; text = text }

-- a class and a text are found in the number of both
pub condition_back : (n t : ℕ) (c : Condition) → t < 2 ^ 32 + 1 → class_at n ≡ c.class → text_at t ≡ c.text → condition_at (n * (2 ^ 32 + 1) + t) ≡ c
condition_back n t c h class text =
    ap (λ k. of_both (class_at k) (text_at ((n * (2 ^ 32 + 1) + t) % (2 ^ 32 + 1)))) (div-mul-add n (2 ^ 32 + 1) t h)
    ∙ ap (λ k. of_both (class_at n) (text_at k)) (mod-mul-add n (2 ^ 32 + 1) t h) ∙ ap (λ k. of_both k (text_at t)) class ∙ ap (λ s. of_both c.class s) text
