-- Values on a line of journal and report.
use Rattle.std.specs.Prelude.{ℕ, List, [], ◌∷◌, ◌==◌, true, if◌then◌else◌, codes}
use Rattle.lisp_base.specs.Bytes.{newline}
use Rattle.std.specs.List.{flat_map}
use Rattle.lisp_base.specs.declared.value.Node.{Node}
use Rattle.lisp_reader.specs.Printing.{printed}

-- a byte on a line: a newline is written as `\n`
abbrev pub line_byte : ℕ → List ℕ
line_byte b = if b == newline then codes "\\n" else b ∷ []

-- characters on one line
abbrev pub on_line : List ℕ → List ℕ
on_line characters = flat_map line_byte characters

-- the escaped text of a value, on one line
abbrev pub value_text : (symbols literals : List (List ℕ)) → Node → List ℕ
value_text symbols literals v = on_line (printed true symbols literals v)
