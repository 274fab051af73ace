use Rattle.form_evaluator.proofs.Shown.{reply_stands}
use Rattle.form_evaluator.proofs.evaluator.Evaluator.accept.Goals as goal

pub returns : goal.returns
returns c s h = reply_stands s c.args.reply.now c.args.self.now c.take_reply.new.self h c.in_ok-take_reply.ensures
