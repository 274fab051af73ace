-- What the code of a program is.
use Rattle.std.specs.Prelude.{◌≡◌, ℕ, suc, List, [], ◌∷◌, ◌++◌, map, max}
use Rattle.lisp_base.specs.declared.id.FunctionName.{FunctionName}
use Rattle.lisp_base.specs.declared.id.FunctionName.TheVariants.{AbortThread}
use Rattle.lisp_program.specs.Program.{Function, Program}
use Rattle.form_points.specs.Points.{Points, Done, Do, body_of}
use Rattle.form_points.specs.Table.{main_points, points_of}
use Rattle.form_points.specs.declared.act.Act.TheVariants.{AbortThread as AbortAct}
use Rattle.lisp_code.specs.Held.{Holding, one_more, total}
use Rattle.lisp_code.specs.Lines.{Leaves, Placed, laid, no_way, past, placed}
use Rattle.lisp_code.specs.Parts.{Parts, line_of}
use Rattle.lisp_code.specs.declared.code.FunctionCode.{FunctionCode}

-- a function as code has it: its name, its place, how many parameters it has, and the points of its body
pub record Stretch : Type 0 where
  pub name : FunctionName
  pub place : ℕ
  pub params : ℕ
  pub points : Points

-- a function of the program
abbrev pub stretch_of : Function → Stretch
stretch_of f = record { name = f.name; place = f.place; params = f.params; points = body_of f.place (points_of f.body) }

-- the function of `terminate-thread`
abbrev pub aborting : Stretch
aborting = record { name = AbortThread; place = 0; params = 0; points = Do AbortAct 0 Done }

-- the functions of a program, and that of `terminate-thread` last
abbrev pub stretches_of : Program → List Stretch
stretches_of p = map stretch_of p.functions ++ (aborting ∷ [])

-- their names
abbrev pub names_of : List Stretch → List FunctionName
names_of ss = map (λ (s : Stretch). s.name) ss

-- what a call holds when it begins: its arguments, as variables
abbrev pub begun : ℕ → Holding
begun params = record { opened = params; height = 0 }

-- the lines of a function from this position on, which end where its frame is left, and then those of `next`
abbrev pub stretch_lines : List FunctionName → (position : ℕ) → Stretch → List Placed → List Placed
stretch_lines names at s next =
    laid names no_way (begun s.params) at s.points (placed Leaves s.place (one_more (begun s.params)) (total (begun s.params)) ∷ next)

-- the lines of functions one after the other
abbrev pub lines_from : List FunctionName → (position : ℕ) → List Stretch → List Placed
lines_from names at [] = []
lines_from names at (s ∷ ss) = stretch_lines names at s (lines_from names (suc (past at s.points)) ss)

-- the lines of main, and then those of `next`
abbrev pub main_lines : List FunctionName → Program → List Placed → List Placed
main_lines names p next = laid names no_way (begun 0) 0 (main_points p.forms) next

-- the lines of a program: those of main, and then those of its functions
abbrev pub program_lines : Program → List Placed
program_lines p =
    let names : List FunctionName = names_of (stretches_of p) in
    main_lines names p (lines_from names (past 0 (main_points p.forms)) (stretches_of p))

-- the most values that one of these lines holds
abbrev pub most_held : List Placed → ℕ
most_held [] = 0
most_held (l ∷ ls) = max l.held (most_held ls)

-- the most values that a call of a function holds at once
abbrev pub height_of : List FunctionName → Stretch → ℕ
height_of names s = most_held (stretch_lines names 0 s [])

-- functions in code, one after the other, from this position on
abbrev pub functions_from : List FunctionName → (position : ℕ) → List Stretch → List FunctionCode
functions_from names at [] = []
functions_from names at (s ∷ ss) =
    record { name = s.name; place = s.place; entry = at; params = s.params; height = height_of names s }
    ∷ functions_from names (suc (past at s.points)) ss

-- These are the parts of the code of a program: its lines are those of the program, its functions begin where their lines do, and its
-- special variables are those of the program.
pub record IsCodeOf (p : Program) (parts : Parts) : Type 0 where
  pub lines : map (line_of parts.handlers) parts.instrs ≡ map (λ (l : Placed). l.line) (program_lines p)
  pub places : parts.places ≡ map (λ (l : Placed). l.place) (program_lines p)
  pub heights : parts.heights ≡ map (λ (l : Placed). l.height) (program_lines p)
  pub functions : parts.functions ≡ functions_from (names_of (stretches_of p)) (past 0 (main_points p.forms)) (stretches_of p)
  pub specials : parts.specials ≡ p.specials
