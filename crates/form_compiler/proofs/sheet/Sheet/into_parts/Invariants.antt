use Rattle.std.proofs.Common.{◌≡◌, ◌++◌, drop, map}
use Rattle.form_compiler.specs.declared.mark.Mark.{Mark}
use Rattle.form_compiler.proofs.sheet.Sheet.into_parts.Given as goal

-- the parts so far, with those of the lines that are left, are those of all lines
abbrev pub invariant-loop-mark : goal.invariant-loop-mark
invariant-loop-mark l = record {
  instrs : l.instrs.items ++ map (λ (m : Mark). m.instr) (drop l.mark-index l.mark-items) ≡ map (λ (m : Mark). m.instr) l.mark-items;
  places : l.places.items ++ map (λ (m : Mark). m.place) (drop l.mark-index l.mark-items) ≡ map (λ (m : Mark). m.place) l.mark-items;
  heights : l.heights.items ++ map (λ (m : Mark). m.height) (drop l.mark-index l.mark-items) ≡ map (λ (m : Mark). m.height) l.mark-items;
}
