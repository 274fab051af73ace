-- Data are no larger where some of them are left out.
use Rattle.std.proofs.Common.{ℕ, zero, suc, ◌≤◌, List, Bool, true, false, cond, arith}
use Rattle.lisp_data.specs.Data.{Data, NoData, Atom, Listed, behind}
use Rattle.form_shapes.specs.Bindings.{after_declarations, is_declaration}
use Rattle.form_shapes.specs.inside.Sizes.{size_of}

-- what is behind some
pub size_of_behind : (n : ℕ) (d : Data) → size_of (behind n d) ≤ size_of d
size_of_behind zero d = omega arith
size_of_behind (suc n) NoData = omega arith
size_of_behind (suc n) (Atom l p beside) = omega (arith, size_of_behind n beside)
size_of_behind (suc n) (Listed p under beside) = omega (arith, size_of_behind n beside)

-- a body without its declarations
pub size_of_body : (names : List (List ℕ)) (d : Data) → size_of (after_declarations names d) ≤ size_of d
size_of_body names NoData = omega arith
size_of_body names (Atom l p beside) = omega arith
size_of_body names (Listed p under beside) = by (is_declaration names under) (size_of_body names beside)
  where
    by : (t : Bool) → size_of (after_declarations names beside) ≤ size_of beside → size_of (cond t (after_declarations names beside) (Listed p under beside)) ≤ size_of (Listed p under beside)
    by true h = omega (arith, h)
    by false h = omega arith
