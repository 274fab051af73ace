use Rattle.std.proofs.Common.{◌∙◌, inr}
use Rattle.lisp_base.specs.declared.refusal.Rejection.TheVariants.{Memory}
use Rattle.lisp_reader.specs.inside.Marking.{RefusedPart}
use Rattle.lisp_reader.specs.Parts.{Token'}
use Rattle.lisp_reader.specs.Tables.{tables_of}
use Rattle.lisp_reader.proofs.Leaves.{leaf_used, passed_on, token_taken}
use Rattle.lisp_reader.proofs.gather.Gatherer.take_token.Goals as goal

pub returns-in_err-put-clause-refused : goal.returns-in_err-put-clause-refused
returns-in_err-put-clause-refused c literals =
    let used = leaf_used c.args.letters.now c.args.place c.args.self.now.opens c.args.symbols.now c.token_leaf.new.symbols literals c.in_ok-leaf.leaf c.in_ok-leaf.ensures.leaf in
    passed_on c.from_residual-in_err-put.result Memory
    (RefusedPart (Token' c.args.place c.args.letters.now) c.args.self.now.opens (tables_of c.args.symbols.now literals) (tables_of c.token_leaf.new.symbols literals))
    c.from_residual-in_err-put.ensures.1 (inr used)

pub returns-clause-took : goal.returns-clause-took
returns-clause-took c literals =
    token_taken c.args.letters.now c.args.place c.args.self.now.opens _ _ _ literals c.in_ok-leaf.leaf _ _ c.in_ok-leaf.ensures.leaf (c.put.ensures.opens ∙ c.settle.ensures)
    c.in_ok-put.ensures.marks
