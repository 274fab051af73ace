-- What a function with a local point gives for words.
use Rattle.std.specs.Prelude.{List, Result, Ok, Err, map}
use Rattle.lisp_base.specs.Value.{nil}
use Rattle.lisp_base.specs.declared.condition.Class.{Class}
use Rattle.lisp_base.specs.declared.value.Node.{Node}
use Rattle.lisp_base.specs.declared.word.Operand.{Operand}
use Rattle.lisp_base.specs.declared.word.Operand.TheVariants.{Value, Function}
use Rattle.lisp_program.specs.declared.function.Primitive.{Primitive}
use Rattle.form_points.specs.Primitives.{value_of}

-- the value that a word counts as: a function counts as NIL
abbrev pub counted : Operand → Node
counted (Value v) = v
counted (Function f) = nil

-- a value, or the class of a condition, where values are words
abbrev pub held : Result Node Class → Result Operand Class
held (Ok v) = Ok (Value v)
held (Err class) = Err class

-- what a function gives for these words
abbrev pub applied : Primitive → List Operand → Result Operand Class
applied f words = held (value_of f (map counted words))
