-- Words in which rows of lines are written.
use Rattle.std.specs.Prelude.{ℕ, zero, suc, pos}
use Rattle.lisp_base.specs.Forest.{NoTrees, Tree}
use Rattle.lisp_base.specs.declared.value.Node.TheVariants.{Int}
use Rattle.lisp_program.specs.Forms.{Forms}
use Rattle.lisp_program.specs.declared.form.CoreKind.TheVariants as k
use Rattle.lisp_program.specs.declared.function.Primitive.TheVariants.{Add}
use Rattle.lisp_code.specs.Held.{Holding}
use Rattle.lisp_code.specs.Lines.{Line, Placed}

-- a line of the form at a place, with so many operands before it, by which so many values are held
abbrev pub row : Line → (place height held : ℕ) → Placed
row line place height held = record { line = line; place = place; height = height; held = held }

-- so many things are open, and there are no operands
abbrev pub only_open : ℕ → Holding
only_open n = record { opened = n; height = 0 }

-- `(+ 1 (+ 1 ..))` with so many sums
abbrev pub sums : ℕ → Forms
sums zero = Tree (k.Constant (Int (pos 1))) 0 NoTrees NoTrees
sums (suc n) = Tree (k.Apply Add) 0 (Tree (k.Constant (Int (pos 1))) 0 NoTrees (sums n)) NoTrees
