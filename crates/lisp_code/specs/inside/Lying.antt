-- Where instructions go on, one after the other.
use Rattle.std.specs.Prelude.{List, [], ◌∷◌}
use Rattle.lisp_code.specs.Parts.{Parts}
use Rattle.lisp_code.specs.Validity.{Going, Lies}

-- each of these positions is inside the code, with as many operands before it
abbrev pub EachLies : Parts → List Going → Type 0
EachLies p [] = Unit {0}
EachLies p (g ∷ gs) = Lies p g × EachLies p gs
