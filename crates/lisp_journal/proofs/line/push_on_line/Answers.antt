use Rattle.lisp_reader.proofs.Characters.{character_written}
use Rattle.lisp_journal.specs.Line.{line_byte}
use Rattle.lisp_journal.proofs.line.push_on_line.Goals as goal

pub loop-character-preserved : goal.loop-character-preserved
loop-character-preserved c =
    character_written line_byte _ _ _ c.loop-character.yielded c.in-Some.character c.loop-character.invariant c.push_character.ensures
