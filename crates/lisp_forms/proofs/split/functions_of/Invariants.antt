use Rattle.std.proofs.Common.{◌≡◌, ◌++◌, drop}
use Rattle.lisp_forms.proofs.Cores.{functions_in}
use Rattle.lisp_forms.proofs.split.functions_of.Given as goal

-- the functions so far, with those of what is left, are all
abbrev pub invariant-loop-index : goal.invariant-loop-index
invariant-loop-index l = l.functions.items ++ functions_in (drop l.index l.nodes) ≡ functions_in l.nodes
