-- How the tasks are taken up, one after the other.
use Rattle.std.specs.Prelude.{◌≡◌, ◌≤◌, ◌<◌, ◌*◌, ◌^◌, ℕ, ◌+◌, ◌-◌, List, ◌∷◌, ◌++◌, length, drop}
use Rattle.lisp_base.specs.Forest.{NoTrees, Tree}
use Rattle.lisp_base.specs.declared.id.FunctionName.{FunctionName}
use Rattle.lisp_program.specs.Forms.{Forms, forms_of}
use Rattle.lisp_program.specs.WellMade.{role_of}
use Rattle.lisp_program.specs.declared.form.FormNode.{FormNode}
use Rattle.lisp_code.specs.Lines.{Placed}
use Rattle.form_compiler.specs.declared.task.Task.{Task}
use Rattle.form_compiler.specs.inside.Gives.{AreGiving, seat_under}
use Rattle.form_compiler.specs.inside.Tasks.{run, weight}

-- the forms under each of these, and under those, give what is wanted of them
abbrev pub AreReady : Forms → Type 0
AreReady NoTrees = Unit {0}
AreReady (Tree kind p under beside) = AreGiving (seat_under (role_of kind)) under × AreReady under × AreReady beside

-- no code is longer
abbrev pub most_lines : ℕ
most_lines = 65536

-- what a node may add
abbrev pub SHARE : ℕ
SHARE = 2 ^ 80

-- what is written and what the tasks write from here on, of the forms that begin at a node
abbrev pub to_come : List FunctionName → List FormNode → (at : ℕ) → List Task → List Placed → List Placed
to_come names nodes at ts lines = lines ++ run names (length lines) ts (forms_of (drop at nodes))

-- a task was taken up: what is written, with what is still to be written, is the same, and less is left to do
pub record Stepped (names : List FunctionName) (nodes : List FormNode) (task : Task) (ts : List Task) (at : ℕ) (old : List Placed) (ts' : List Task) (new : List Placed) (at' : ℕ) : Type 0 where
  pub within : at' ≤ length nodes
  pub ready : AreReady (forms_of (drop at nodes)) → AreReady (forms_of (drop at' nodes))
  pub same : to_come names nodes at' ts' new ≡ to_come names nodes at (task ∷ ts) old
  pub less_left : SHARE * (length nodes - at') + weight ts' < SHARE * (length nodes - at) + weight (task ∷ ts)

-- what is written, with what is still to be written, is all, which is not too long
pub record Going (names : List FunctionName) (nodes : List FormNode) (at : ℕ) (ts : List Task) (lines every : List Placed) : Type 0 where
  pub inside : at ≤ length nodes
  pub all : to_come names nodes at ts lines ≡ every
  pub few : length every ≤ most_lines
  pub ready : AreReady (forms_of (drop at nodes))
