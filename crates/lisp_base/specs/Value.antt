-- Which values there are, and which of them a program can tell apart.
use Rattle.std.specs.Prelude.{ℕ, ℤ, pos, negsuc, ◌^◌, ◌-◌, ◌+◌, Bool, true, false, ◌&&◌, ◌||◌, int_le, nat_lt}
use Rattle.lisp_base.specs.declared.value.Node.{Node}
use Rattle.lisp_base.specs.declared.value.Node.TheVariants.{Int, Symbol, Text, Time, Cond}

-- NIL is the symbol 0
abbrev pub nil : Node
nil = Symbol 0

-- the integers go from -2^62 to 2^62 - 1
abbrev pub is_integer : ℤ → Bool
is_integer z = int_le (negsuc (2 ^ 62 - 1)) z && int_le z (pos (2 ^ 62 - 1))

-- the times are below 2^62 + 2^52 microseconds
abbrev pub is_time : ℕ → Bool
is_time t = nat_lt t (2 ^ 62 + 2 ^ 52)

-- a node is in range where its integer or its time is
abbrev pub is_in_range : Node → Bool
is_in_range (Int z) = is_integer z
is_in_range (Time t) = is_time t
is_in_range _ = true

abbrev pub is_text : Node → Bool
is_text (Text s) = true
is_text _ = false

abbrev pub is_condition : Node → Bool
is_condition (Cond c) = true
is_condition _ = false

-- no program can tell whether two strings are the same, nor two conditions
abbrev pub is_untold : Node → Node → Bool
is_untold a b = is_text a && is_text b || is_condition a && is_condition b
