-- Clauses of `handler-case` and of `cond`.
use Rattle.std.specs.Prelude.{ℕ, List, Bool, true, false, ◌&&◌, Option, Some, None, nat_lt}
use Rattle.lisp_base.specs.declared.condition.Class.{Class}
use Rattle.lisp_data.specs.Data.{Data, NoData, Atom, Listed, behind, count_of}
use Rattle.form_shapes.specs.Operators.{class_named}
use Rattle.form_shapes.specs.Scopes.{as_variable, first_symbol, name_of}

-- the most clauses of one `handler-case`
abbrev pub most_clauses : ℕ
most_clauses = 16

-- the class that a symbol names
abbrev pub class_of : List (List ℕ) → Option ℕ → Option Class
class_of names None = None
class_of names (Some x) = class_named (name_of names x)

-- there is a class
abbrev pub is_class : Option Class → Bool
is_class None = false
is_class (Some class) = true

-- there is a variable
abbrev pub is_variable : Option ℕ → Bool
is_variable None = false
is_variable (Some x) = true

-- these are no variable, or one
abbrev pub is_variable_list : List (List ℕ) → Data → Bool
is_variable_list names NoData = true
is_variable_list names (Atom leaf p NoData) = is_variable (as_variable names (first_symbol (Atom leaf p NoData)))
is_variable_list names (Atom leaf p (Atom l q beside)) = false
is_variable_list names (Atom leaf p (Listed q under beside)) = false
is_variable_list names (Listed p under beside) = false

-- the first of these is a list of no variable, or of one
abbrev pub begins_with_variable : List (List ℕ) → Data → Bool
begins_with_variable names NoData = false
begins_with_variable names (Atom leaf p beside) = false
begins_with_variable names (Listed p under beside) = is_variable_list names under

-- a list of these is a clause: a class, a list of no variable or of one, and a body
abbrev pub is_clause : List (List ℕ) → Data → Bool
is_clause names under = is_class (class_of names (first_symbol under)) && begins_with_variable names (behind 1 under)

-- all these are clauses of `handler-case`
abbrev pub are_clauses : List (List ℕ) → Data → Bool
are_clauses names NoData = true
are_clauses names (Atom leaf p beside) = false
are_clauses names (Listed p under beside) = is_clause names under && are_clauses names beside

-- all these are clauses of `cond`: a test, and a body
abbrev pub are_tests : Data → Bool
are_tests NoData = true
are_tests (Atom leaf p beside) = false
are_tests (Listed p under beside) = nat_lt 0 (count_of under) && are_tests beside

-- the variable of a clause, where it has one, of the data after its class
abbrev pub clause_variable : Data → Option ℕ
clause_variable NoData = None
clause_variable (Atom leaf p beside) = None
clause_variable (Listed p under beside) = first_symbol under
