-- The quotient that is rounded down, by the test of its remainder.
use Rattle.std.proofs.Common.{◌≡◌, ℤ, pos, ◌-ℤ◌, sym, ap, ◌∙◌, Bool, if◌then◌else◌, int_div, int_rem}
use Rattle.form_points.specs.Primitives.{floor_z, is_above}

-- it is one of two
pub floor_by : (y z q : ℤ) (above which : Bool) → q ≡ int_div y z → above ≡ is_above (int_rem y z) z → above ≡ which → (if which then q -ℤ pos 1 else q) ≡ floor_z y z
floor_by y z q above which quotient e is =
    ap (λ n. if which then n -ℤ pos 1 else n) quotient ∙ ap (λ t. if t then int_div y z -ℤ pos 1 else int_div y z) (sym is ∙ e)
