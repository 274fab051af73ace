-- Operands, variables, and what local points do to them.
use Rattle.std.specs.Prelude.{ℕ, zero, suc, List, [], ◌∷◌, ◌++◌, Bool, true, false, Option, Some, None, ◌==◌, if◌then◌else◌, pos, take, drop, get_or}
use Rattle.lisp_base.specs.Value.{is_condition, is_text, nil}
use Rattle.lisp_base.specs.declared.value.Node.{Node}
use Rattle.lisp_base.specs.declared.value.Node.TheVariants.{Int}
use Rattle.lisp_base.specs.declared.word.Operand.{Operand}
use Rattle.lisp_base.specs.declared.word.Operand.TheVariants.{Value, Function as FunctionOperand}
use Rattle.lisp_base.specs.declared.id.FunctionName.{FunctionName}
use Rattle.lisp_base.specs.declared.id.FunctionName.TheVariants.{AbortThread, Named}
use Rattle.lisp_base.specs.Forest.{NoTrees, Tree}
use Rattle.lisp_program.specs.Program.{Function}
use Rattle.lisp_program.specs.declared.form.CoreKind.TheVariants as k
use Rattle.form_points.specs.Primitives.{is_nil}

-- NIL as an operand
abbrev pub nil_operand : Operand
nil_operand = Value nil

-- the first operand, or NIL where there is none
abbrev pub top : List Operand → Operand
top [] = nil_operand
top (v ∷ vs) = v

-- the value that an operand is; a function counts as NIL
abbrev pub value_of : Operand → Node
value_of (Value v) = v
value_of (FunctionOperand f) = nil

-- an operand is NIL
abbrev pub is_false : Operand → Bool
is_false o = is_nil (value_of o)

-- without the operand that has so many others before it
abbrev pub without : ℕ → List Operand → List Operand
without above vs = take above vs ++ drop (suc above) vs

-- the variable with this number is written; those before it that are not there yet are NIL
abbrev pub put : ℕ → Operand → List Operand → List Operand
put zero v [] = v ∷ []
put zero v (w ∷ ws) = v ∷ ws
put (suc x) v [] = nil_operand ∷ put x v []
put (suc x) v (w ∷ ws) = w ∷ put x v ws

-- the variable with this number; NIL where it was never written
abbrev pub variable : ℕ → List Operand → Operand
variable x vs = get_or vs x nil_operand

-- a function has this symbol as its name
abbrev pub is_named : ℕ → FunctionName → Bool
is_named s (Named t) = s == t
is_named s name = false

-- the first function with this symbol as its name
abbrev pub function_named : ℕ → List Function → Option Function
function_named s [] = None
function_named s (f ∷ fs) = if is_named s f.name then Some f else function_named s fs

-- the function of `terminate-thread`
abbrev pub aborting : Function
aborting = record { name = AbortThread; place = 0; params = 0; body = Tree k.AbortThread 0 NoTrees NoTrees }

-- a value may be the tag of a `catch`: it is no string and no condition
abbrev pub is_tag : Node → Bool
is_tag v = if is_text v then false else (if is_condition v then false else true)

-- the number of a block's entry as an operand, which no program can name
abbrev pub entry_operand : ℕ → Operand
entry_operand n = Value (Int (pos n))
