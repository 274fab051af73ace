use Rattle.lisp_reader.proofs.Interned.{interned, no_room, not_interned}
use Rattle.lisp_reader.proofs.gather.text.Goals as goal

pub returns-in-Ok-clause-interned : goal.returns-in-Ok-clause-interned
returns-in-Ok-clause-interned c = interned _ _ _ _ c.in-Ok.ensures.table c.in-Ok.ensures.interned

pub returns-in-Err-TooMany-clause-refused : goal.returns-in-Err-TooMany-clause-refused
returns-in-Err-TooMany-clause-refused c =
    not_interned _ _ _ _ _ c.at.result c.at.ensures (no_room _ _ _ c.in-Err-TooMany.field-0 c.in-Err-TooMany.field-0-is c.in-Err-TooMany.ensures.interned)
