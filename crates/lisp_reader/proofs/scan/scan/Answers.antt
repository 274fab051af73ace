use Rattle.std.proofs.Common.{get_or, arith, sym, ◌∙◌}
use Rattle.std.proofs.lemmas.List.{take_rest}
use Rattle.lisp_reader.proofs.Scans.{close_scanned, comment_scanned, letter_test, open_scanned, quote_scanned, separator_scanned, sharp_scanned, token_scanned}
use Rattle.lisp_reader.proofs.scan.scan.Goals as goal

pub returns-then-is_separator : goal.returns-then-is_separator
returns-then-is_separator c = separator_scanned c.args.text.now c.args.at c.requires.inside c.requires.whole (sym c.is_separator.ensures ∙ c.if-is_separator.true)

pub returns-in-59 : goal.returns-in-59
returns-in-59 c =
    comment_scanned c.args.text.now _ c.args.at c.line_len.result c.requires.inside c.requires.whole c.in-59.is c.line_len.ensures.bytes
    (take_rest c.args.text.now c.args.at)

pub returns-in-40 : goal.returns-in-40
returns-in-40 c = open_scanned c.args.text.now c.args.at c.requires.inside c.requires.whole c.in-40.is

pub returns-in-41 : goal.returns-in-41
returns-in-41 c = close_scanned c.args.text.now c.args.at c.requires.inside c.requires.whole c.in-41.is

pub returns-in-39 : goal.returns-in-39
returns-in-39 c = quote_scanned c.args.text.now c.args.at c.requires.inside c.requires.whole c.in-39.is

pub returns-then-is_function_quote : goal.returns-then-is_function_quote
returns-then-is_function_quote c =
    sharp_scanned c.args.text.now _ c.args.at c.requires.inside c.requires.whole (sym c.is_function_quote.ensures ∙ c.if-is_function_quote.true)
    (take_rest c.args.text.now c.args.at)

pub returns-in_default : goal.returns-in_default
returns-in_default c =
    token_scanned c.args.text.now _ c.args.at c.token_len-len.result c.requires.inside c.requires.whole
    (letter_test (get_or c.args.text.now c.args.at 0) (sym c.is_separator.ensures ∙ c.if-is_separator.false) (omega arith) (omega arith) (omega arith) (omega arith) (omega arith))
    (sym c.is_function_quote.ensures ∙ c.if-is_function_quote.false) c.token_len-len.ensures.letters (take_rest c.args.text.now c.args.at)
