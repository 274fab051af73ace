use Rattle.std.proofs.Common.{arith}
use Rattle.lisp_reader.proofs.Characters.{character_plain}
use Rattle.lisp_reader.proofs.print.push_character.Goals as goal

pub returns-in_default : goal.returns-in_default
returns-in_default c = rw (character_plain c.args.character (omega arith) (omega arith)) c.push.ensures
