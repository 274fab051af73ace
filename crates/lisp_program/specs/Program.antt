-- Whole programs, and how they are written flat.
use Rattle.std.specs.Prelude.{◌≡◌, ℕ, List, map}
use Rattle.lisp_base.specs.declared.id.FunctionName.{FunctionName}
use Rattle.lisp_program.specs.declared.form.FormNode.{FormNode}
use Rattle.lisp_program.specs.Forms.{Forms, forms_of, preorder}

-- a function: its name, the place of its form, how many parameters it has, and its body
pub record Function : Type 0 where
  pub name : FunctionName
  pub place : ℕ
  pub params : ℕ
  pub body : Forms

-- the top-level forms, the functions, and the special variables in order of definition
pub record Program : Type 0 where
  pub forms : Forms
  pub functions : List Function
  pub specials : List ℕ

-- a function with its body written flat
pub record FlatFunction : Type 0 where
  pub name : FunctionName
  pub place : ℕ
  pub params : ℕ
  pub body : List FormNode

-- a program written flat
pub record FlatProgram : Type 0 where
  pub main : List FormNode
  pub functions : List FlatFunction
  pub specials : List ℕ

-- the function that is written flat so
abbrev pub function_of : FlatFunction → Function
function_of f = record { name = f.name; place = f.place; params = f.params; body = forms_of f.body }

-- the program that is written flat so
abbrev pub program_of : FlatProgram → Program
program_of p = record { forms = forms_of p.main; functions = map function_of p.functions; specials = p.specials }

-- these nodes are the nodes of whole forms
abbrev pub AreWhole : List FormNode → Type 0
AreWhole nodes = preorder (forms_of nodes) ≡ nodes
