use Rattle.form_laws.proofs.Base.{unused}
use Rattle.form_laws.proofs.unused.unused_block_changes_nothing.Goals as goal

pub returns : goal.returns
returns c = unused
