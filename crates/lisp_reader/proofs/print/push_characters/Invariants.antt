use Rattle.std.specs.List.{flat_map}
use Rattle.lisp_base.specs.Writing.{Wrote}
use Rattle.std.proofs.Common.{encode_utf8_all}
use Rattle.lisp_reader.specs.Printing.{escaped_byte}
use Rattle.lisp_reader.proofs.print.push_characters.Given as goal

abbrev pub invariant-loop-character : goal.invariant-loop-character
invariant-loop-character l = Wrote l.fn.text l.text (flat_map escaped_byte (encode_utf8_all l.yielded))
