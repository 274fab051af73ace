-- Lists of variables, and what a body begins with.
use Rattle.std.specs.Prelude.{ℕ, List, [], ◌∷◌, Bool, true, false, ◌&&◌, ◌||◌, not, Option, Some, None, if◌then◌else◌, nat_lt, length, codes, unwrap_or}
use Rattle.std.specs.List.{list_all}
use Rattle.std.specs.Str.{bytes_eq}
use Rattle.lisp_base.specs.declared.refusal.Refusal.{Refusal}
use Rattle.lisp_base.specs.declared.refusal.Refusal.TheVariants.{BadForm, DefinedTwice, TooMany}
use Rattle.lisp_data.specs.Data.{Data, NoData, Atom, Listed, behind, count_of}
use Rattle.lisp_data.specs.declared.datum.Leaf.{Leaf}
use Rattle.lisp_data.specs.declared.datum.Leaf.TheVariants.{Int, Symbol, Text, Time}
use Rattle.form_shapes.specs.declared.levels.Level.TheVariants.{Variable}
use Rattle.form_shapes.specs.Scopes.{Scope, deeper, first_symbol, has, inside, is_variable_name, leaf_symbol, name_of}

-- the most arguments, parameters or variables of one form
abbrev pub most : ℕ
most = 64

-- a leaf is a string
abbrev pub is_text : Leaf → Bool
is_text (Int z) = false
is_text (Symbol x) = false
is_text (Text x) = true
is_text (Time t) = false

-- the first of these is a string
abbrev pub is_text_first : Data → Bool
is_text_first NoData = false
is_text_first (Atom leaf p beside) = is_text leaf
is_text_first (Listed p under beside) = false

-- the variable of a binding `(x)` or `(x value)`
abbrev pub bound_in_list : Data → Option ℕ
bound_in_list under = if nat_lt (count_of under) 3 then first_symbol under else None

-- a variable before others, where there are all of these
abbrev pub and_others : Option ℕ → Option (List ℕ) → Option (List ℕ)
and_others None others = None
and_others (Some x) None = None
and_others (Some x) (Some xs) = Some (x ∷ xs)

-- the variables of these bindings, where all bindings have their shape
abbrev pub bound_in : Data → Option (List ℕ)
bound_in NoData = Some []
bound_in (Atom leaf p beside) = and_others (leaf_symbol leaf) (bound_in beside)
bound_in (Listed p under beside) = and_others (bound_in_list under) (bound_in beside)

-- the variables of a `let` with these arguments, where they begin with a list of bindings
abbrev pub variables_of : Data → Option (List ℕ)
variables_of NoData = None
variables_of (Atom leaf p beside) = None
variables_of (Listed p under beside) = bound_in under

-- the symbols that these data are, where all are symbols
abbrev pub symbols_in : Data → Option (List ℕ)
symbols_in NoData = Some []
symbols_in (Atom leaf p beside) = and_others (leaf_symbol leaf) (symbols_in beside)
symbols_in (Listed p under beside) = None

-- the parameters, where these begin with a list of symbols
abbrev pub parameters_of : Data → Option (List ℕ)
parameters_of NoData = None
parameters_of (Atom leaf p beside) = None
parameters_of (Listed p under beside) = symbols_in under

-- these symbols are all different
abbrev pub are_different : List ℕ → Bool
are_different [] = true
are_different (x ∷ xs) = not (has xs x) && are_different xs

-- the fault that these variables have: a constant among them, too many, or one that is there twice
abbrev pub variables_fault : List (List ℕ) → List ℕ → Option Refusal
variables_fault names xs =
    if not (list_all (is_variable_name names) xs) then Some BadForm
    else if nat_lt most (length xs) then Some TooMany
    else if not (are_different xs) then Some DefinedTwice
    else None

-- the fault of what may be a list of variables
abbrev pub list_fault : List (List ℕ) → Option (List ℕ) → Option Refusal
list_fault names None = Some BadForm
list_fault names (Some xs) = variables_fault names xs

-- the list, or the empty list where there is none
abbrev pub or_none : Option (List ℕ) → List ℕ
or_none xs = unwrap_or xs []

-- the scope after a variable of a `let`: a special one opens nothing that has a number
abbrev pub opened_by : Scope → ℕ → Scope
opened_by s x = if has s.specials x then s else inside s (Variable x)

-- the scope after these variables of a `let`
abbrev pub opened : Scope → List ℕ → Scope
opened s [] = s
opened s (x ∷ xs) = opened (opened_by s x) xs

-- the scope after a parameter: a special one opens a variable that no program can name
abbrev pub received_by : Scope → ℕ → Scope
received_by s x = if has s.specials x then deeper s else inside s (Variable x)

-- the scope after these parameters
abbrev pub received : Scope → List ℕ → Scope
received s [] = s
received s (x ∷ xs) = received (received_by s x) xs

-- this is the symbol with that name
abbrev pub is_named : List (List ℕ) → List ℕ → Option ℕ → Bool
is_named names name None = false
is_named names name (Some x) = bytes_eq (name_of names x) name

-- SPECIAL stands somewhere in these
abbrev pub has_special : List (List ℕ) → Data → Bool
has_special names NoData = false
has_special names (Atom leaf p beside) = is_named names (codes "SPECIAL") (leaf_symbol leaf) || has_special names beside
has_special names (Listed p under beside) = has_special names under || has_special names beside

-- a list of these is a `declare` that may begin a body, where it stands for nothing
abbrev pub is_declaration : List (List ℕ) → Data → Bool
is_declaration names under = is_named names (codes "DECLARE") (first_symbol under) && not (has_special names under)

-- the forms of a body, after its declarations
abbrev pub after_declarations : List (List ℕ) → Data → Data
after_declarations names NoData = NoData
after_declarations names (Atom leaf p beside) = Atom leaf p beside
after_declarations names (Listed p under beside) = if is_declaration names under then after_declarations names beside else Listed p under beside

-- the forms of a function's body: a string that stands first, with something after it, stands for nothing
abbrev pub function_body_of : List (List ℕ) → Data → Data
function_body_of names d = if is_text_first d && nat_lt 1 (count_of d) then after_declarations names (behind 1 d) else after_declarations names d
