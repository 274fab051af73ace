use Rattle.std.specs.Str.Parse.{digits_value}
use Rattle.std.proofs.Common.{◌≡◌, min, take}
use Rattle.lisp_reader.specs.declared.meaning.TheConstants.{TOO_LARGE}
use Rattle.lisp_reader.proofs.meaning.size.Given as goal

abbrev pub invariant-loop-digit : goal.invariant-loop-digit
invariant-loop-digit l = l.size ≡ min TOO_LARGE (digits_value 10 (take l.digit-index l.digits))
