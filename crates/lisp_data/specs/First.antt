-- The first of several data.
use Rattle.lisp_data.specs.declared.items.First.{First}
use Rattle.lisp_data.specs.declared.items.First.TheVariants.{Leaf, List}
use Rattle.lisp_data.specs.Data.{Data, Atom, Listed}

-- a first datum with the data beside it
abbrev pub with_first : First → Data → Data
with_first (Leaf leaf p) beside = Atom leaf p beside
with_first (List p under) beside = Listed p under beside
