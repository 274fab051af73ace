use Rattle.lisp_code.specs.inside.Fine.{fine_read}
use Rattle.lisp_code.proofs.code.Code.instr.Goals as goal

pub returns-clause-fine : goal.returns-clause-fine
returns-clause-fine c =
    fine_read c.args.self.now c.instrs.result.now c.args.at c.index-instrs-at.result c.instrs.ensures.valid c.instrs.ensures.value c.requires c.index-instrs-at.is
