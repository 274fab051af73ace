use Rattle.std.proofs.Common.{◌∙◌}
use Rattle.lisp_reader.proofs.Sized.{size_more}
use Rattle.lisp_reader.proofs.meaning.size.Goals as goal

pub loop-digit-preserved : goal.loop-digit-preserved
loop-digit-preserved c =
    c.min-size.ensures
    ∙ size_more
    c.args.digits.now
    c.loop-digit.digit-index
    c.loop-digit.size
    c.saturating_mul.result
    c.saturating_add.result
    c.loop-digit-test.true
    c.requires
    c.loop-digit.invariant
    c.saturating_mul.ensures
    (rw (← c.from.ensures) c.saturating_add.ensures)
