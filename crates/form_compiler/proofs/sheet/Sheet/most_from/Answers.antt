use Rattle.std.proofs.Common.{drop, ap, ◌∙◌}
use Rattle.std.proofs.lemmas.List.{take_rest}
use Rattle.lisp_code.specs.CodeOf.{most_held}
use Rattle.lisp_code.specs.Parts.{rows_of}
use Rattle.form_compiler.specs.inside.Sheets.{most_marked}
use Rattle.form_compiler.proofs.Lined.{most_placed}
use Rattle.form_compiler.proofs.sheet.Sheet.most_from.Goals as goal

pub returns-then-at-marks : goal.returns-then-at-marks
returns-then-at-marks c =
    c.most_marked.ensures
    ∙ ap most_marked (take_rest c.as_slice-marks.result.now c.args.at)
    ∙ ap (λ ms. most_marked (drop c.args.at ms)) c.as_slice-marks.ensures.value
    ∙ most_placed (rows_of c.self.inside.rows.items) c.args.at c.self.inside.marks.items
    ∙ ap (λ ls. most_held (drop c.args.at ls)) c.self.view_is
