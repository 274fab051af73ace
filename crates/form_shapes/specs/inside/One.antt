-- One datum of several, as the code has it.
use Rattle.std.specs.Prelude.{ℕ, List, Bool, true, false, Option, None, nat_lt}
use Rattle.lisp_data.specs.Data.{Data, NoData, Atom, Listed, count_of}
use Rattle.lisp_data.specs.declared.items.First.{First}
use Rattle.lisp_data.specs.declared.items.First.TheVariants.{Leaf as LeafFirst, List as ListFirst}
use Rattle.form_shapes.specs.Bindings.{bound_in_list, is_declaration, or_none, variables_of}
use Rattle.form_shapes.specs.Clauses.{is_clause, is_variable_list}
use Rattle.form_shapes.specs.Scopes.{leaf_symbol}

-- the variable that the first of several bindings binds
abbrev pub bound_by : First → Option ℕ
bound_by (LeafFirst leaf p) = leaf_symbol leaf
bound_by (ListFirst p under) = bound_in_list under

-- the symbol that a datum is
abbrev pub symbol_by : First → Option ℕ
symbol_by (LeafFirst leaf p) = leaf_symbol leaf
symbol_by (ListFirst p under) = None

-- a datum is a `declare` that may begin a body
abbrev pub is_declared : List (List ℕ) → First → Bool
is_declared names (LeafFirst leaf p) = false
is_declared names (ListFirst p under) = is_declaration names under

-- a datum is a list of no variable, or of one
abbrev pub holds_variable : List (List ℕ) → First → Bool
holds_variable names (LeafFirst l p) = false
holds_variable names (ListFirst p under) = is_variable_list names under

-- a datum is a clause of `handler-case`
abbrev pub holds_clause : List (List ℕ) → First → Bool
holds_clause names (LeafFirst l p) = false
holds_clause names (ListFirst p under) = is_clause names under

-- a datum is a clause of `cond`
abbrev pub holds_test : First → Bool
holds_test (LeafFirst l p) = false
holds_test (ListFirst p under) = nat_lt 0 (count_of under)

-- the variables of a `let` with these arguments; what one without its shape has does not matter
abbrev pub let_variables : Data → List ℕ
let_variables args = or_none (variables_of args)

-- the items of the list that is the first of these
abbrev pub items_first : Data → Data
items_first NoData = NoData
items_first (Atom l p beside) = NoData
items_first (Listed p under beside) = under

-- the place of a datum
abbrev pub place_by : First → ℕ
place_by (LeafFirst l p) = p
place_by (ListFirst p under) = p

-- a datum is a list
abbrev pub is_list : First → Bool
is_list (LeafFirst l p) = false
is_list (ListFirst p under) = true
