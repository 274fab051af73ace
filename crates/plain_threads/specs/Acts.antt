-- What local points do to the values at hand.
use Rattle.std.specs.Prelude.{ℤ, ◌+ℤ◌, List, [], ◌∷◌, Option, Some, None, Result, Ok, Err, if◌then◌else◌, drop}
use Rattle.lisp_base.specs.Value.{is_integer, nil}
use Rattle.lisp_base.specs.declared.condition.Class.{Class}
use Rattle.lisp_base.specs.declared.condition.Class.TheVariants.{TypeError, IntegerRange}
use Rattle.lisp_base.specs.declared.value.Node.{Node}
use Rattle.lisp_base.specs.declared.value.Node.TheVariants.{Int}
use Rattle.plain_program.specs.declared.act.Act.{Act}
use Rattle.plain_program.specs.declared.act.Act.TheVariants.{Push, Discard, Add}

-- the first value, or NIL where there is none
abbrev pub top : List Node → Node
top [] = nil
top (v ∷ vs) = v

-- the integer that a value is, where it is one
abbrev pub integer_of : Node → Option ℤ
integer_of (Int z) = Some z
integer_of _ = None

-- an integer in range, else `integer-range` is signalled
abbrev pub within_range : ℤ → Result Node Class
within_range z = if is_integer z then Ok (Int z) else Err IntegerRange

-- the sum of two integers; where one is missing, `type-error` is signalled
abbrev pub sum_of_integers : Option ℤ → Option ℤ → Result Node Class
sum_of_integers None b = Err TypeError
sum_of_integers (Some x) None = Err TypeError
sum_of_integers (Some x) (Some y) = within_range (x +ℤ y)

abbrev pub sum_of : Node → Node → Result Node Class
sum_of a b = sum_of_integers (integer_of a) (integer_of b)

-- a value before the others, where there is one
abbrev pub put_in_front : Result Node Class → List Node → Result (List Node) Class
put_in_front (Ok v) vs = Ok (v ∷ vs)
put_in_front (Err class) vs = Err class

-- the values after an act, or the class that it signals
abbrev pub result_of : Act → List Node → Result (List Node) Class
result_of (Push v) vs = Ok (v ∷ vs)
result_of Discard vs = Ok (drop 1 vs)
result_of Add vs = put_in_front (sum_of (top (drop 1 vs)) (top vs)) (drop 2 vs)
