-- How the code of a program is made, one function after the other.
use Rattle.std.specs.Prelude.{◌≡◌, ◌≤◌, ℕ, List, [], ◌∷◌, ◌++◌, Option, None, length, map}
use Rattle.lisp_base.specs.declared.id.FunctionName.{FunctionName}
use Rattle.lisp_base.specs.declared.refusal.Refusal.TheVariants.{HeightTooLarge}
use Rattle.lisp_base.specs.declared.refusal.Rejection.{Rejection}
use Rattle.lisp_program.specs.Forms.{Forms, forms_of}
use Rattle.lisp_program.specs.Program.{FlatFunction, Program, function_of}
use Rattle.lisp_program.specs.WellMade.{Each}
use Rattle.form_points.specs.Table.{main_points}
use Rattle.lisp_code.specs.CodeOf.{Stretch, aborting, functions_from, height_of, lines_from, most_held, names_of, program_lines, stretch_lines, stretch_of, stretches_of}
use Rattle.lisp_code.specs.Lines.{Placed, past}
use Rattle.lisp_code.specs.declared.code.FunctionCode.{FunctionCode}
use Rattle.form_compiler.specs.Refusals.{height_refused, most_values, refused_at, too_high}
use Rattle.form_compiler.specs.inside.Gives.{AreGiving}
use Rattle.form_compiler.specs.inside.Steps.{AreReady}

-- each of these forms gives a value, and the forms under it, and under those, give what is wanted of them
pub record AreLayable (forms : Forms) : Type 0 where
  pub giving : AreGiving Each forms
  pub ready : AreReady forms

-- so do those of the bodies of these functions
abbrev pub BodiesAreLayable : List FlatFunction → Type 0
BodiesAreLayable [] = Unit {0}
BodiesAreLayable (f ∷ fs) = AreLayable (forms_of f.body) × BodiesAreLayable fs

-- these functions, and that of `terminate-thread` last
abbrev pub stretches_from : List FlatFunction → List Stretch
stretches_from fs = map stretch_of (map function_of fs) ++ (aborting ∷ [])

-- a function in code, which begins at this position
abbrev pub code_at : List FunctionName → ℕ → Stretch → FunctionCode
code_at names at s = record { name = s.name; place = s.place; entry = at; params = s.params; height = height_of names s }

-- the functions of a program in code
abbrev pub functions_in : Program → List FunctionCode
functions_in p = functions_from (names_of (stretches_of p)) (past 0 (main_points p.forms)) (stretches_of p)

-- the refusal of the first of these functions that holds too many values
abbrev pub functions_refusal : List FunctionName → List Stretch → Option Rejection
functions_refusal names ss = refused_at HeightTooLarge (too_high names ss) None

-- the refusal of a program that holds too many values
abbrev pub height_refusal : Program → Option Rejection
height_refusal p = refused_at HeightTooLarge (height_refused p) None

-- A function was laid out after these lines, and this is what it is in code. It does not hold too many values.
pub record Added (names : List FunctionName) (s : Stretch) (old new : List Placed) (is : FunctionCode) : Type 0 where
  pub lines : new ≡ old ++ stretch_lines names (length old) s []
  pub code : is ≡ code_at names (length old) s
  pub few : height_of names s ≤ most_values

-- What is laid out and what is in code, with these functions, which are left, is all of a program. What is left is refused as all its
-- functions are.
pub record Laying (p : Program) (left : List Stretch) (written : List Placed) (coded : List FunctionCode) : Type 0 where
  pub lines : written ++ lines_from (names_of (stretches_of p)) (length written) left ≡ program_lines p
  pub codes : coded ++ functions_from (names_of (stretches_of p)) (length written) left ≡ functions_in p
  pub refused : too_high (names_of (stretches_of p)) left ≡ too_high (names_of (stretches_of p)) (stretches_of p)
  pub few : most_held written ≤ most_values
