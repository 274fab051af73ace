use Rattle.lisp_data.proofs.Ends.{ends}
use Rattle.lisp_data.proofs.split.end_of.Goals as goal

pub returns : goal.returns
returns c = rw c.under.ensures (ends _ _ c.index-nodes-at.result c.requires.whole c.requires.inside c.index-nodes-at.is)
