-- What forms are read by, and what symbols are there.
use Rattle.std.specs.Prelude.{ℕ, suc, List, [], ◌∷◌, Bool, true, false, ◌||◌, ◌==◌, not, Option, Some, None, if◌then◌else◌, slice_get, unwrap_or}
use Rattle.std.specs.List.{list_any}
use Rattle.lisp_base.specs.Value.{is_in_range}
use Rattle.lisp_base.specs.declared.value.Node.{Node}
use Rattle.lisp_base.specs.declared.value.Node.TheVariants.{Int as AnInt, Symbol as ASymbol, Text as AText, Time as ATime}
use Rattle.lisp_base.specs.declared.refusal.Refusal.TheVariants.{BadForm, UnknownVariable}
use Rattle.lisp_program.specs.declared.form.CoreKind.{CoreKind}
use Rattle.lisp_program.specs.declared.form.CoreKind.TheVariants.{Constant as ConstantForm, CurrentThread, Local as LocalForm, Special as SpecialForm, SetLocal, SetSpecial}
use Rattle.lisp_data.specs.Data.{Data, NoData, Atom, Listed}
use Rattle.lisp_data.specs.declared.datum.Leaf.{Leaf}
use Rattle.lisp_data.specs.declared.datum.Leaf.TheVariants.{Int, Symbol, Text, Time}
use Rattle.form_shapes.specs.declared.operator.Operator.{Operator}
use Rattle.form_shapes.specs.declared.operator.Operator.TheVariants.{Own}
use Rattle.form_shapes.specs.Operators.{is_constant, is_current_thread, operator_named}
use Rattle.form_shapes.specs.declared.expanded.Expanded.{Expanded}
use Rattle.form_shapes.specs.declared.expanded.Expanded.TheVariants.{Form, Refused}
use Rattle.form_shapes.specs.declared.levels.Level.{Level}
use Rattle.form_shapes.specs.declared.levels.Level.TheVariants.{Variable}
use Rattle.form_shapes.specs.declared.levels.Numbered.{Numbered}
use Rattle.form_shapes.specs.Levels.{number_of}
use Rattle.form_shapes.specs.declared.scope.Target.{Target}
use Rattle.form_shapes.specs.declared.scope.Target.TheVariants.{Local, Special}

-- What forms are read by: the names of the symbols and the texts of the string literals, the special variables and the functions
-- of the program, and what is open round the form in its call: what of it can be named, innermost first, and how much there is in
-- all. Lexical variables, blocks, and what regions remember are open; each has as its number how many are open round it.
pub record Scope : Type 0 where
  pub names : List (List ℕ)
  pub texts : List (List ℕ)
  pub specials : List ℕ
  pub functions : List ℕ
  pub levels : List Numbered
  pub depth : ℕ

-- a scope with these open in place of what is open in it
abbrev pub with_open : Scope → List Numbered → ℕ → Scope
with_open s levels depth = record s { levels = levels; depth = depth }

-- a scope with one more open that no program can name
abbrev pub deeper : Scope → Scope
deeper s = with_open s s.levels (suc s.depth)

-- a scope with one more open that can be named
abbrev pub inside : Scope → Level → Scope
inside s level = with_open s ((record { level = level; number = s.depth }) ∷ s.levels) (suc s.depth)

-- these symbols have that one
abbrev pub has : List ℕ → ℕ → Bool
has xs x = list_any (λ y. y == x) xs

-- the name of a symbol
abbrev pub name_of : List (List ℕ) → ℕ → List ℕ
name_of names x = unwrap_or (slice_get names x) []

-- the symbol that a leaf is
abbrev pub leaf_symbol : Leaf → Option ℕ
leaf_symbol (Int z) = None
leaf_symbol (Symbol x) = Some x
leaf_symbol (Text x) = None
leaf_symbol (Time t) = None

-- the symbol that the first of these is
abbrev pub first_symbol : Data → Option ℕ
first_symbol NoData = None
first_symbol (Atom leaf p beside) = leaf_symbol leaf
first_symbol (Listed p under beside) = None

-- A symbol that may be bound, set or defined: neither one that stands for itself nor the present thread.
abbrev pub is_variable_name : List (List ℕ) → ℕ → Bool
is_variable_name names x = not (is_constant (name_of names x) || is_current_thread (name_of names x))

-- the symbol, where there is one that may be bound, set or defined
abbrev pub as_variable : List (List ℕ) → Option ℕ → Option ℕ
as_variable names None = None
as_variable names (Some x) = if is_variable_name names x then Some x else None

-- a lexical variable with this number
abbrev pub as_local : Option ℕ → Option Target
as_local None = None
as_local (Some n) = Some (Local n)

-- the variable that a symbol is: a special one wherever it is special, else the innermost lexical one
abbrev pub target_of : Scope → ℕ → Option Target
target_of s x = if has s.specials x then Some (Special x) else as_local (number_of (Variable x) s.levels)

-- the variable that a symbol is, where there is a symbol
abbrev pub target_in : Scope → Option ℕ → Option Target
target_in s None = None
target_in s (Some x) = target_of s x

-- the kind of form that reads a variable
abbrev pub read_kind : Target → CoreKind
read_kind (Local n) = LocalForm n
read_kind (Special x) = SpecialForm x

-- the kind of form that sets a variable
abbrev pub set_kind : Target → CoreKind
set_kind (Local n) = SetLocal n
set_kind (Special x) = SetSpecial x

-- the node of a leaf that is quoted
abbrev pub node_of : Leaf → Node
node_of (Int z) = AnInt z
node_of (Symbol x) = ASymbol x
node_of (Text x) = AText x
node_of (Time t) = ATime t

-- a constant; it is refused where its number is out of range, which no number of a text is
abbrev pub constant : Node → Expanded
constant v = if is_in_range v then Form (ConstantForm v) else Refused BadForm

-- a variable as a form; where there is none the symbol is refused
abbrev pub variable_form : Option Target → Expanded
variable_form None = Refused UnknownVariable
variable_form (Some target) = Form (read_kind target)

-- a symbol as a form: it stands for itself, or is the present thread, a variable, or unknown
abbrev pub symbol_form : Scope → ℕ → Expanded
symbol_form s x =
    if is_constant (name_of s.names x) then Form (ConstantForm (ASymbol x))
    else if is_current_thread (name_of s.names x) then Form CurrentThread
    else variable_form (target_of s x)

-- a leaf as a form
abbrev pub leaf_form : Scope → Leaf → Expanded
leaf_form s (Int z) = constant (AnInt z)
leaf_form s (Symbol x) = symbol_form s x
leaf_form s (Text x) = constant (AText x)
leaf_form s (Time t) = constant (ATime t)

-- an operator, or else a function of the program
abbrev pub or_own : Option Operator → Bool → ℕ → Option Operator
or_own (Some operator) is_function x = Some operator
or_own None true x = Some (Own x)
or_own None false x = None

-- what a symbol means at the head of a list
abbrev pub operator_in : Scope → ℕ → Option Operator
operator_in s x = or_own (operator_named (name_of s.names x)) (has s.functions x) x

-- what the head of a list means
abbrev pub operator_at : Scope → Option ℕ → Option Operator
operator_at s None = None
operator_at s (Some x) = operator_in s x
