use Rattle.std.proofs.Common.{sym}
use Rattle.lisp_reader.proofs.Named.{keyword_small, symbol_small}
use Rattle.lisp_reader.proofs.gather.token_leaf.Goals as goal

pub spelled-requires : goal.spelled-requires
spelled-requires c = rw c.letters_from-letters.ensures (symbol_small c.args.letters.now c.in-Symbol.start (sym c.in-Symbol.ensures))

pub spelled-requires-in-Keyword : goal.spelled-requires-in-Keyword
spelled-requires-in-Keyword c = keyword_small c.args.letters.now (sym c.in-Keyword.ensures)
