-- The parts that arguments have, one by one.
use Rattle.std.proofs.Common.{◌≡◌, ℕ, suc, ◌+◌, ◌-◌, ◌<◌, ◌≤◌, ap, sym, ◌∙◌, add-one, arith}
use Rattle.form_shapes.specs.declared.keywords.Role.{Role}
use Rattle.form_shapes.specs.declared.keywords.Role.TheVariants.{Value, Seat, Skipped}
use Rattle.form_shapes.specs.declared.keywords.Roles.{Roles}
use Rattle.form_shapes.specs.Keywords.{counted, part_count, role_at}

-- an argument has at most one part
pub counted_few : (role : Role) (n : ℕ) → counted role n ≤ n + 1
counted_few Value n = omega arith
counted_few Seat n = omega arith
counted_few Skipped n = omega arith

-- it may be counted with those before or with those behind
counted-sum : (role : Role) (n m : ℕ) → counted role n + m ≡ n + counted role m
counted-sum Value n m = omega arith
counted-sum Seat n m = omega arith
counted-sum Skipped n m = omega arith

-- with one more argument counted
pub counted_next : (roles : Roles) (i count n : ℕ) → i < count
    → counted (role_at roles i) n + part_count roles (i + 1) (count - (i + 1)) ≡ n + part_count roles i (count - i)
counted_next roles i count n h =
    let left : count - i ≡ suc (count - (i + 1)) = omega (arith, h) in
    let one : part_count roles (suc i) (count - (i + 1)) ≡ part_count roles (i + 1) (count - (i + 1)) = ap (λ j. part_count roles j (count - (i + 1))) (sym (add-one i)) in
    let behind : counted (role_at roles i) (part_count roles (i + 1) (count - (i + 1))) ≡ part_count roles i (suc (count - (i + 1))) =
    ap (counted (role_at roles i)) (sym one) in
    counted-sum (role_at roles i) n (part_count roles (i + 1) (count - (i + 1))) ∙ ap (λ m. n + m) (behind ∙ ap (part_count roles i) (sym left))
