use Rattle.form_compiler.proofs.Known.{body_known, same_length}
use Rattle.form_compiler.proofs.sizes.body_size.Goals as goal

pub under-forms-requires-clause-whole : goal.under-forms-requires-clause-whole
under-forms-requires-clause-whole c = same_length _ _ c.requires

pub returns : goal.returns
returns c = body_known _ _ _ _ c.under-forms.ensures c.gaps.ensures c.capped.ensures
