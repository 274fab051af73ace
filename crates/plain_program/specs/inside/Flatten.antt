-- Forms as steps, one after the other.
use Rattle.std.specs.Prelude.{◌≡◌, ℕ, zero, suc, ◌-◌, ◌≤◌, List, [], ◌∷◌, ◌++◌, Bool, true, false, length, drop, slice_set}
use Rattle.lisp_base.specs.Forest.{front, behind}
use Rattle.plain_program.specs.declared.act.Act.TheVariants.{Push, Discard, Add}
use Rattle.plain_program.specs.declared.act.Opening.TheVariants.{Bind as OpenBind}
use Rattle.plain_program.specs.declared.act.Question.TheVariants.{Print as AskPrint, Read, Write, Define}
use Rattle.plain_program.specs.declared.form.PlainKind.{PlainKind}
use Rattle.plain_program.specs.declared.form.PlainKind.TheVariants.{Constant, Plus, Print, Progn, Special, Setq, Defvar, Let, Bind}
use Rattle.plain_program.specs.declared.form.PlainNode.{PlainNode}
use Rattle.plain_program.specs.Forms.{forms_of}
use Rattle.plain_program.specs.Points.{Points, body_of, operands, points_of}
use Rattle.plain_program.specs.declared.steps.Step.{Step}
use Rattle.plain_program.specs.declared.steps.Step.TheVariants.{Act, Ask, Test, Enter, Leave}
use Rattle.plain_program.specs.inside.Steps.{steps_of}

-- the steps of forms in turn; between two forms of a body the value of the first is discarded
abbrev pub strung : Bool → List Points → List Step
strung body [] = []
strung false (f ∷ fs) = steps_of f ++ strung false fs
strung true (f ∷ []) = steps_of f
strung true (f ∷ (g ∷ fs)) = steps_of f ++ (Act Discard ∷ strung true (g ∷ fs))

-- the steps of forms as a body, which is NIL where there is none
abbrev pub body_steps : List Points → List Step
body_steps fs = steps_of (body_of 0 fs)

-- the steps of the first n forms, with NIL for one that is missing
abbrev pub operand_steps : ℕ → List Points → List Step
operand_steps n fs = steps_of (operands n 0 fs)

-- the steps of the forms under a form of this kind
abbrev pub under_steps : PlainKind → List Points → List Step
under_steps (Constant v) = operand_steps 0
under_steps Plus = operand_steps 2
under_steps Print = operand_steps 1
under_steps Progn = body_steps
under_steps (Special s) = operand_steps 0
under_steps (Setq s) = operand_steps 1
under_steps (Defvar s) = operand_steps 1
under_steps Let = strung false
under_steps (Bind s above) = body_steps

-- the steps of a form of this kind at this place before those of the forms under it; the number of a test is set later
abbrev pub opening_steps : PlainKind → ℕ → List Step
opening_steps (Constant v) p = []
opening_steps Plus p = []
opening_steps Print p = []
opening_steps Progn p = []
opening_steps (Special s) p = []
opening_steps (Setq s) p = []
opening_steps (Defvar s) p = Test s 0 ∷ []
opening_steps Let p = []
opening_steps (Bind s above) p = Enter (OpenBind s above) p ∷ []

-- The steps of a form that begins at `start`, once those of the forms under it are written. A test passes over all steps
-- after it.
abbrev pub closing_steps : PlainKind → ℕ → List Step → List Step
closing_steps (Constant v) start steps = steps ++ Act (Push v) ∷ []
closing_steps Plus start steps = steps ++ Act Add ∷ []
closing_steps Print start steps = steps ++ Ask AskPrint ∷ []
closing_steps Progn start steps = steps
closing_steps (Special s) start steps = steps ++ Ask (Read s) ∷ []
closing_steps (Setq s) start steps = steps ++ Ask (Write s) ∷ []
closing_steps (Defvar s) start steps = slice_set steps start (Test s (length steps - start)) ++ Ask (Define s) ∷ []
closing_steps Let start steps = steps
closing_steps (Bind s above) start steps = steps ++ Leave ∷ []

-- what stands between two forms of a body, where more forms are to come and more nodes are there
abbrev pub between : Bool → ℕ → List PlainNode → List Step
between body zero nodes = []
between body (suc left) [] = []
between false (suc left) (n ∷ nodes) = []
between true (suc left) (n ∷ nodes) = Act Discard ∷ []

-- The steps of the next so many forms from the node at `from` on, put together in this way, were written after the old
-- ones, and the forms after these forms begin at node `next`.
pub record Writes (nodes : List PlainNode) (from count : ℕ) (together : List Points → List Step) (old new : List Step) (next : ℕ) : Type 0 where
  pub after : from ≤ next
  pub within : next ≤ length nodes
  pub steps : new ≡ old ++ together (points_of (front count (forms_of (drop from nodes))))
  pub rest : forms_of (drop next nodes) ≡ behind count (forms_of (drop from nodes))
