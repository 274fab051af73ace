-- The value of each function with local points, or the class of the condition that it signals.
use Rattle.std.specs.Prelude.{ℤ, pos, negsuc, ◌+ℤ◌, ◌-ℤ◌, ◌*ℤ◌, nat_abs, List, [], ◌∷◌, Bool, true, false, not, ◌&&◌, ◌==◌, Result, Ok, Err, if◌then◌else◌, int_lt, int_le, int_div, int_rem}
use Rattle.lisp_base.specs.Equality.{same_integer, same_value}
use Rattle.lisp_base.specs.Value.{is_integer, is_untold, nil}
use Rattle.lisp_base.specs.declared.condition.Class.{Class}
use Rattle.lisp_base.specs.declared.condition.Class.TheVariants.{TypeError, DivisionByZero, IntegerRange}
use Rattle.lisp_base.specs.declared.value.Node.{Node}
use Rattle.lisp_base.specs.declared.value.Node.TheVariants.{Int, Symbol, Text, Thread}
use Rattle.lisp_program.specs.declared.function.Primitive.{Primitive}
use Rattle.lisp_program.specs.declared.function.Primitive.TheVariants.{Add, Subtract, Multiply, Max, Min, Increment, Decrement, Abs, Floor, Truncate, Mod, Rem, Equals, Differs, Less, Greater, AtMost, AtLeast, Zerop, Eq, Eql, Equal, Not, Null, Symbolp, Integerp, Stringp, MainThread, ThreadYield}

-- T is the symbol 1, and what is false is NIL
abbrev pub truth : Bool → Node
truth true = Symbol 1
truth false = nil

-- the first of these values, or NIL where there is none
abbrev pub first_value : List Node → Node
first_value [] = nil
first_value (v ∷ vs) = v

-- the second
abbrev pub second_value : List Node → Node
second_value [] = nil
second_value (v ∷ vs) = first_value vs

-- an integer in range, else `integer-range` is signalled
abbrev pub ranged : ℤ → Result Node Class
ranged z = if is_integer z then Ok (Int z) else Err IntegerRange

-- what is made of an integer; where the value is none, `type-error` is signalled
abbrev pub of_integer : (ℤ → Result Node Class) → Node → Result Node Class
of_integer f (Int z) = f z
of_integer f _ = Err TypeError

-- what is made of two integers
abbrev pub of_integers : (ℤ → ℤ → Result Node Class) → Node → Node → Result Node Class
of_integers f a b = of_integer (λ y. of_integer (λ z. f y z) b) a

-- a number that two integers have
abbrev pub number : (ℤ → ℤ → ℤ) → Node → Node → Result Node Class
number f = of_integers (λ y z. ranged (f y z))

-- whether two integers stand so to one another
abbrev pub compared : (ℤ → ℤ → Bool) → Node → Node → Result Node Class
compared f = of_integers (λ y z. Ok (truth (f y z)))

-- a number that two integers have where the second is not 0; where it is, `division-by-zero` is signalled
abbrev pub divided : (ℤ → ℤ → ℤ) → Node → Node → Result Node Class
divided f = of_integers (λ y z. if same_integer z (pos 0) then Err DivisionByZero else ranged (f y z))

-- the greater and the lesser of two integers
abbrev pub greater_z : ℤ → ℤ → ℤ
greater_z y z = if int_lt y z then z else y

abbrev pub lesser_z : ℤ → ℤ → ℤ
lesser_z y z = if int_lt z y then z else y

-- both are below 0, or neither is
abbrev pub same_sign : ℤ → ℤ → Bool
same_sign (pos m) (pos n) = true
same_sign (negsuc m) (negsuc n) = true
same_sign _ _ = false

-- the quotient that is rounded towards 0 is above the exact one: the remainder is not 0 and has not the sign of the divisor
abbrev pub is_above : (remainder divisor : ℤ) → Bool
is_above r z = not (same_integer r (pos 0)) && not (same_sign r z)

-- the quotient that is rounded down
abbrev pub floor_z : ℤ → ℤ → ℤ
floor_z y z = if is_above (int_rem y z) z then int_div y z -ℤ pos 1 else int_div y z

-- what is left of y by it: it has the sign of the divisor, or is 0
abbrev pub mod_z : ℤ → ℤ → ℤ
mod_z y z = if is_above (int_rem y z) z then int_rem y z +ℤ z else int_rem y z

-- whether two values are the same; of two strings and of two conditions `eq` and `eql` do not tell it, and signal `type-error`
abbrev pub told : Node → Node → Result Node Class
told a b = if is_untold a b then Err TypeError else Ok (truth (same_value a b))

-- the kinds of values
abbrev pub is_nil : Node → Bool
is_nil (Symbol s) = s == 0
is_nil _ = false

abbrev pub is_symbol : Node → Bool
is_symbol (Symbol s) = true
is_symbol _ = false

abbrev pub is_number : Node → Bool
is_number (Int z) = true
is_number _ = false

abbrev pub is_string : Node → Bool
is_string (Text s) = true
is_string _ = false

-- The value of a function of these two arguments, a line for each. A function of fewer arguments does not look at the others.
abbrev pub value_of_two : Primitive → Node → Node → Result Node Class
value_of_two Add a b = number (λ y z. y +ℤ z) a b
value_of_two Subtract a b = number (λ y z. y -ℤ z) a b
value_of_two Multiply a b = number (λ y z. y *ℤ z) a b
value_of_two Max a b = number greater_z a b
value_of_two Min a b = number lesser_z a b
value_of_two Increment a b = of_integer (λ z. ranged (z +ℤ pos 1)) a
value_of_two Decrement a b = of_integer (λ z. ranged (z -ℤ pos 1)) a
value_of_two Abs a b = of_integer (λ z. ranged (pos (nat_abs z))) a
value_of_two Floor a b = divided floor_z a b
value_of_two Truncate a b = divided int_div a b
value_of_two Mod a b = divided mod_z a b
value_of_two Rem a b = divided int_rem a b
value_of_two Equals a b = compared same_integer a b
value_of_two Differs a b = compared (λ y z. not (same_integer y z)) a b
value_of_two Less a b = compared int_lt a b
value_of_two Greater a b = compared (λ y z. int_lt z y) a b
value_of_two AtMost a b = compared int_le a b
value_of_two AtLeast a b = compared (λ y z. int_le z y) a b
value_of_two Zerop a b = of_integer (λ z. Ok (truth (same_integer z (pos 0)))) a
value_of_two Eq a b = told a b
value_of_two Eql a b = told a b
value_of_two Equal a b = Ok (truth (same_value a b))
value_of_two Not a b = Ok (truth (is_nil a))
value_of_two Null a b = Ok (truth (is_nil a))
value_of_two Symbolp a b = Ok (truth (is_symbol a))
value_of_two Integerp a b = Ok (truth (is_number a))
value_of_two Stringp a b = Ok (truth (is_string a))
value_of_two MainThread a b = Ok (Thread 0)
value_of_two ThreadYield a b = Ok nil

-- The value of a function of these arguments, in order; a missing argument is NIL, and others are not looked at.
abbrev pub value_of : Primitive → List Node → Result Node Class
value_of f args = value_of_two f (first_value args) (second_value args)
