use Rattle.lisp_reader.specs.Printing.{escaped_byte}
use Rattle.lisp_reader.proofs.Characters.{character_written}
use Rattle.lisp_reader.proofs.print.push_characters.Goals as goal

pub loop-character-preserved : goal.loop-character-preserved
loop-character-preserved c =
    character_written escaped_byte _ _ _ c.loop-character.yielded c.in-Some.character c.loop-character.invariant c.push_character.ensures
