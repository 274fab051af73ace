use Rattle.std.proofs.Common.{rules, refl, sym, ◌+◌}
use Rattle.lisp_journal.proofs.Written.{empty, thread_wrote}
use Rattle.lisp_journal.proofs.report.ReportLinesLines.write_next.Goals as goal

pub returns-in-Some-split_first : goal.returns-in-Some-split_first
returns-in-Some-split_first c =
    let i = c.self.inside in
    thread_wrote i.names.symbols.now i.names.texts.now i.is_begun i.is_done i.forms.now c.as_slice-self-inside.result.now i.number (i.number + 1) i.threads.now
    c.in-Some-split_first.rest.now c.in-Some-split_first.line.now i.globals.now i.status _ _ _ c.self.view_is (search rules) (empty _ c.in_default.ensures.cases) (search rules) c.as_slice-self-inside.ensures refl c.push_line.ensures
