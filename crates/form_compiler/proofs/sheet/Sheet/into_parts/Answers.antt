use Rattle.std.proofs.Common.{map, ap, sym, subst, ◌∙◌}
use Rattle.lisp_code.specs.Lines.{Placed}
use Rattle.lisp_code.specs.Parts.{line_of, rows_of}
use Rattle.form_compiler.specs.declared.mark.Mark.{Mark}
use Rattle.form_compiler.specs.inside.Sound.{AreRowsThere}
use Rattle.form_compiler.proofs.Lined.{their_heights, their_lines, their_places, their_rows, whole}
use Rattle.form_compiler.proofs.sheet.Sheet.into_parts.Goals as goal

pub returns-clause-lines : goal.returns-clause-lines
returns-clause-lines c =
    ap (map (line_of (rows_of c.self.inside.rows.items))) (whole (λ (m : Mark). m.instr) c.loop-mark.instrs.items c.as_slice-mark-items.result.now c.self.inside.marks.items c.loop-mark.mark-index
    c.loop-mark-test.false c.loop-mark.invariant.instrs c.as_slice-mark-items.ensures.value)
    ∙ their_lines (rows_of c.self.inside.rows.items) c.self.inside.marks.items
    ∙ ap (map (λ (l : Placed). l.line)) c.self.view_is

pub returns-clause-places : goal.returns-clause-places
returns-clause-places c =
    whole (λ (m : Mark). m.place) c.loop-mark.places.items c.as_slice-mark-items.result.now c.self.inside.marks.items c.loop-mark.mark-index
    c.loop-mark-test.false c.loop-mark.invariant.places c.as_slice-mark-items.ensures.value
    ∙ their_places (rows_of c.self.inside.rows.items) c.self.inside.marks.items
    ∙ ap (map (λ (l : Placed). l.place)) c.self.view_is

pub returns-clause-heights : goal.returns-clause-heights
returns-clause-heights c =
    whole (λ (m : Mark). m.height) c.loop-mark.heights.items c.as_slice-mark-items.result.now c.self.inside.marks.items c.loop-mark.mark-index
    c.loop-mark-test.false c.loop-mark.invariant.heights c.as_slice-mark-items.ensures.value
    ∙ their_heights (rows_of c.self.inside.rows.items) c.self.inside.marks.items
    ∙ ap (map (λ (l : Placed). l.height)) c.self.view_is

pub returns-clause-rows : goal.returns-clause-rows
returns-clause-rows c =
    subst (AreRowsThere (rows_of c.self.inside.rows.items))
    (sym (whole (λ (m : Mark). m.instr) c.loop-mark.instrs.items c.as_slice-mark-items.result.now c.self.inside.marks.items c.loop-mark.mark-index
    c.loop-mark-test.false c.loop-mark.invariant.instrs c.as_slice-mark-items.ensures.value))
    (their_rows c.self.inside.rows.items c.self.inside.marks.items c.self.invariant)
