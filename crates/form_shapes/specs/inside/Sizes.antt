-- How large data are.
use Rattle.std.specs.Prelude.{ℕ, suc, ◌+◌}
use Rattle.lisp_data.specs.Data.{Data, NoData, Atom, Listed}

-- how many data there are at all depths
abbrev pub size_of : Data → ℕ
size_of NoData = 0
size_of (Atom leaf p beside) = suc (size_of beside)
size_of (Listed p under beside) = suc (size_of under + size_of beside)
