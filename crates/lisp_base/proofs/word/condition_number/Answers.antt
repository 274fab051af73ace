use Rattle.lisp_base.proofs.Words.{condition_back}
use Rattle.lisp_base.proofs.word.condition_number.Goals as goal

pub returns-clause-back : goal.returns-clause-back
returns-clause-back c =
    condition_back c.class_number.result c.text_number.result c.args.condition c.text_number.ensures.limit c.class_number.ensures.back c.text_number.ensures.back
