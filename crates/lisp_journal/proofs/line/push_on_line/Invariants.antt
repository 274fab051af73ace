use Rattle.std.proofs.Common.{encode_utf8_all}
use Rattle.std.specs.List.{flat_map}
use Rattle.lisp_base.specs.Writing.{Wrote}
use Rattle.lisp_journal.specs.Line.{line_byte}
use Rattle.lisp_journal.proofs.line.push_on_line.Given as goal

abbrev pub invariant-loop-character : goal.invariant-loop-character
invariant-loop-character l = Wrote l.fn.text l.text (flat_map line_byte (encode_utf8_all l.yielded))
