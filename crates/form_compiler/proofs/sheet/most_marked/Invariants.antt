use Rattle.std.proofs.Common.{◌≡◌, drop}
use Rattle.form_compiler.specs.inside.Sheets.{most_marked}
use Rattle.form_compiler.proofs.sheet.most_marked.Given as goal

-- the most so far is that of the lines that were gone through, from the last one on
abbrev pub invariant-loop-index : goal.invariant-loop-index
invariant-loop-index l = l.most ≡ most_marked (drop l.index l.fn.marks)
