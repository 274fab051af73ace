use Rattle.std.proofs.Common.{arith, []}
use Rattle.form_compiler.proofs.Known.{known_from, same_length}
use Rattle.form_compiler.proofs.Steps.{passed_over}
use Rattle.form_compiler.proofs.layout.skip.Goals as goal

pub under-passed-requires-clause-whole : goal.under-passed-requires-clause-whole
under-passed-requires-clause-whole c = same_length _ _ c.requires.known

pub under-passed-requires-clause-known : goal.under-passed-requires-clause-known
under-passed-requires-clause-known c = known_from _ _ _ c.requires.known

pub overflow_add-result : goal.overflow_add-result
overflow_add-result c = omega (arith, (passed_over [] _ _ _ _ c.requires.inside c.under-passed.ensures [] []).within)

pub returns : goal.returns
returns c names = passed_over names _ _ _ _ c.requires.inside c.under-passed.ensures
