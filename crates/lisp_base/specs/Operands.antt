-- What a form gives.
use Rattle.std.specs.Prelude.{Option, Some, None}
use Rattle.lisp_base.specs.declared.id.FunctionName.{FunctionName}
use Rattle.lisp_base.specs.declared.value.Node.{Node}
use Rattle.lisp_base.specs.declared.word.Operand.{Operand}
use Rattle.lisp_base.specs.declared.word.Operand.TheVariants.{Value, Function}

-- the value, where it is one
abbrev pub value_in : Operand → Option Node
value_in (Value v) = Some v
value_in (Function f) = None

-- the function, where it is one
abbrev pub function_in : Operand → Option FunctionName
function_in (Value v) = None
function_in (Function f) = Some f
