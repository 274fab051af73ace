-- What the code knows to be defined, as what forms are judged by.
use Rattle.lisp_forms.specs.declared.top.Known.{Known as CodeKnown}
use Rattle.lisp_forms.specs.Program.{Known}

-- what the code knows to be defined
abbrev pub known_as : CodeKnown → Known
known_as k = record { variables = k.variables.items; functions = k.functions.items }
