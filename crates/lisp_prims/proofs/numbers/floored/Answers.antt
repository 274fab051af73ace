use Rattle.std.proofs.Common.{◌≡◌, pos, ◌-ℤ◌, ap, ◌∙◌, true, false, arith, to_z, of_z, w64, int_rem}
use Rattle.std.proofs.lemmas.Int.{ints, rem_is, to_z-of_z}
use Rattle.form_points.specs.Primitives.{is_above}
use Rattle.lisp_prims.proofs.Floors.{floor_by}
use Rattle.lisp_prims.proofs.numbers.floored.Goals as goal

pub returns-then-is_above : goal.returns-then-is_above
returns-then-is_above c =
    let y : to_z w64 (of_z w64 c.args.y) ≡ c.args.y = to_z-of_z w64 c.args.y c.ranges.y in
    let z : to_z w64 (of_z w64 c.args.z) ≡ c.args.z = to_z-of_z w64 c.args.z c.ranges.z in
    let is : c.is_above.result ≡ is_above (int_rem c.args.y c.args.z) c.args.z =
    c.is_above.ensures ∙ ap (λ r. is_above r (to_z w64 (of_z w64 c.args.z))) (rem_is w64 c.args.y c.args.z c.ranges.y c.ranges.z)
    ∙ ap (λ d. is_above (int_rem c.args.y c.args.z) d) z in
    let quotient = simp (y, z) at c.truncated-quotient.ensures.same in
    let fits : to_z w64 (of_z w64 (to_z w64 (of_z w64 c.truncated-quotient.result) -ℤ pos 1)) ≡ c.truncated-quotient.result -ℤ pos 1 = omega (arith, ints) in
    fits ∙ floor_by c.args.y c.args.z c.truncated-quotient.result c.is_above.result true quotient is c.if-is_above.true

pub returns : goal.returns
returns c =
    let y : to_z w64 (of_z w64 c.args.y) ≡ c.args.y = to_z-of_z w64 c.args.y c.ranges.y in
    let z : to_z w64 (of_z w64 c.args.z) ≡ c.args.z = to_z-of_z w64 c.args.z c.ranges.z in
    let is : c.is_above.result ≡ is_above (int_rem c.args.y c.args.z) c.args.z =
    c.is_above.ensures ∙ ap (λ r. is_above r (to_z w64 (of_z w64 c.args.z))) (rem_is w64 c.args.y c.args.z c.ranges.y c.ranges.z)
    ∙ ap (λ d. is_above (int_rem c.args.y c.args.z) d) z in
    let quotient = simp (y, z) at c.truncated-quotient.ensures.same in
    let fits : to_z w64 (of_z w64 c.truncated-quotient.result) ≡ c.truncated-quotient.result = omega (arith, ints) in
    fits ∙ floor_by c.args.y c.args.z c.truncated-quotient.result c.is_above.result false quotient is c.if-is_above.false
