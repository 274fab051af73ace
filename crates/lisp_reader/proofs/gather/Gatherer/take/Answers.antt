use Rattle.std.proofs.Common.{ap, sym, ◌∙◌}
use Rattle.lisp_reader.specs.Parts.{Opens, Closes, Quotes, Literal, Token'}
use Rattle.lisp_reader.specs.inside.Scanning.{part_of}
use Rattle.lisp_reader.specs.Tables.{tables_of}
use Rattle.lisp_reader.proofs.Leaves.{refused_as}
use Rattle.lisp_reader.proofs.gather.Gatherer.take.Goals as goal

pub returns-in-Open-clause-refused : goal.returns-in-Open-clause-refused
returns-in-Open-clause-refused c =
    refused_as (Opens c.args.at) (part_of c.args.text.now c.args.at c.args.kind.now) c.args.self.now.opens (tables_of c.args.symbols.now c.args.texts.now)
    (tables_of c.args.symbols.now c.args.texts.now) c.take_open.result (ap (part_of c.args.text.now c.args.at) c.in-Open.is) (c.take_open.ensures.refused (tables_of c.args.symbols.now c.args.texts.now))

pub returns-in-Close-clause-refused : goal.returns-in-Close-clause-refused
returns-in-Close-clause-refused c =
    refused_as (Closes c.args.at) (part_of c.args.text.now c.args.at c.args.kind.now) c.args.self.now.opens (tables_of c.args.symbols.now c.args.texts.now)
    (tables_of c.args.symbols.now c.args.texts.now) c.take_close.result (ap (part_of c.args.text.now c.args.at) c.in-Close.is) (c.take_close.ensures.refused (tables_of c.args.symbols.now c.args.texts.now))

pub returns-in-Quote-clause-refused : goal.returns-in-Quote-clause-refused
returns-in-Quote-clause-refused c =
    refused_as (Quotes c.in-Quote.function c.args.at) (part_of c.args.text.now c.args.at c.args.kind.now) c.args.self.now.opens (tables_of c.args.symbols.now c.args.texts.now)
    (tables_of c.take_quote.new.symbols c.args.texts.now) c.take_quote.result (ap (part_of c.args.text.now c.args.at) c.in-Quote.is) (c.take_quote.ensures.refused (c.args.texts.now))

pub returns-in-Text-clause-refused : goal.returns-in-Text-clause-refused
returns-in-Text-clause-refused c =
    refused_as (Literal c.args.at c.deref.result.now) (part_of c.args.text.now c.args.at c.args.kind.now) c.args.self.now.opens (tables_of c.args.symbols.now c.args.texts.now)
    (tables_of c.args.symbols.now c.take_literal.new.texts) c.take_literal.result (ap (part_of c.args.text.now c.args.at) c.in-Text.is ∙ ap (Literal c.args.at) (sym c.deref.ensures)) (c.take_literal.ensures.refused (c.args.symbols.now))

pub returns-in-Token-clause-refused : goal.returns-in-Token-clause-refused
returns-in-Token-clause-refused c =
    refused_as (Token' c.args.at c.letters_at.result.now) (part_of c.args.text.now c.args.at c.args.kind.now) c.args.self.now.opens (tables_of c.args.symbols.now c.args.texts.now)
    (tables_of c.take_token.new.symbols c.args.texts.now) c.take_token.result (ap (part_of c.args.text.now c.args.at) c.in-Token.is ∙ ap (Token' c.args.at) (sym c.letters_at.ensures)) (c.take_token.ensures.refused (c.args.texts.now))
