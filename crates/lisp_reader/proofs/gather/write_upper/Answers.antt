use Rattle.lisp_reader.proofs.Named.{ascii_utf8}
use Rattle.lisp_reader.proofs.gather.write_upper.Goals as goal

pub from_utf8_unchecked-requires : goal.from_utf8_unchecked-requires
from_utf8_unchecked-requires c = ascii_utf8 c.args.letters.now c.requires
