-- So many operands more, and so many fewer, as numbers.
use Rattle.std.proofs.Common.{◌≡◌, ℕ, zero, suc, pred, ◌+◌, ◌-◌, ap, sym, ◌∙◌, arith}
use Rattle.lisp_code.specs.Held.{Holding, fewer, one_more, without}
use Rattle.form_compiler.specs.inside.Gives.{with_more}

pred-less : (n : ℕ) → pred n ≡ n - 1
pred-less zero = omega arith
pred-less (suc n) = omega arith

pub fewer-less : (k n : ℕ) → fewer k n ≡ n - k
fewer-less zero n = omega arith
fewer-less (suc k) n =
    let one : pred (fewer k n) ≡ fewer k n - 1 = pred-less (fewer k n) in
    let others : fewer k n ≡ n - k = fewer-less k n in
    omega (arith, one, others)

pub with_more-height : (n : ℕ) (h : Holding) → with_more n h ≡ record { opened = h.opened; height = h.height + n }
with_more-height zero h = let same : h.height ≡ h.height + 0 = omega arith in ap (λ m. record { opened = h.opened; height = m }) same
with_more-height (suc n) h =
    let same : suc h.height + n ≡ h.height + suc n = omega arith in
    with_more-height n (one_more h) ∙ ap (λ m. record { opened = h.opened; height = m }) same

pub without_so_many : (k : ℕ) (h : Holding) (less : ℕ) → less ≡ h.height - k → record { opened = h.opened; height = less } ≡ without k h
without_so_many k h less e = ap (λ m. record { opened = h.opened; height = m }) (e ∙ sym (fewer-less k h.height))

pub with_so_many : (n : ℕ) (h : Holding) (more : ℕ) → more ≡ h.height + n → record { opened = h.opened; height = more } ≡ with_more n h
with_so_many n h more e = ap (λ m. record { opened = h.opened; height = m }) e ∙ sym (with_more-height n h)
