use Rattle.std.proofs.Common.{arith, rules}
use Rattle.lisp_code.specs.Validity.{IsFunction}
use Rattle.lisp_code.proofs.Each.{one_more, all_so}
use Rattle.lisp_code.proofs.valid.are_functions.Goals as goal

pub loop-function-preserved : goal.loop-function-preserved
loop-function-preserved c =
    one_more (IsFunction c.args.parts.now) c.args.functions.now c.loop-function.function-index c.function-item.result c.is_function.result (omega arith) c.function-item.is
    c.is_function.ensures (search rules) c.loop-function.invariant

pub returns : goal.returns
returns c =
    all_so (IsFunction c.args.parts.now) c.args.functions.now c.loop-function.function-index (omega arith) c.loop-function.invariant
