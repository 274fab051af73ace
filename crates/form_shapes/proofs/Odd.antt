-- Keywords and values in turn, by the remainder of their number.
use Rattle.std.proofs.Common.{◌≡◌, ℕ, zero, suc, ◌%◌, nat_eq, refl, ap, ◌∙◌, arith}
use Rattle.form_shapes.specs.Keywords.{pair_role, value_if}

-- a value has an odd number
pub pair_role-odd : (n : ℕ) → pair_role n ≡ value_if (nat_eq (n % 2) 1)
pair_role-odd zero = refl
pair_role-odd (suc zero) = refl
pair_role-odd (suc (suc n)) =
    let same : n % 2 ≡ suc (suc n) % 2 = omega arith in
    pair_role-odd n ∙ ap (λ r. value_if (nat_eq r 1)) same
