-- The points of each form, in order.
use Rattle.std.specs.Prelude.{ℕ, zero, suc, List, [], ◌∷◌}
use Rattle.lisp_base.specs.Forest.{NoTrees, Tree}
use Rattle.lisp_base.specs.Value.{nil}
use Rattle.plain_program.specs.declared.act.Act.{Act}
use Rattle.plain_program.specs.declared.act.Act.TheVariants.{Push, Discard, Add}
use Rattle.plain_program.specs.declared.act.Question.{Question}
use Rattle.plain_program.specs.declared.act.Question.TheVariants.{Print as AskPrint, Read, Write, Define, EndThread}
use Rattle.plain_program.specs.declared.act.Opening.{Opening}
use Rattle.plain_program.specs.declared.act.Opening.TheVariants.{Bind as OpenBind}
use Rattle.plain_program.specs.declared.form.PlainKind.{PlainKind}
use Rattle.plain_program.specs.declared.form.PlainKind.TheVariants.{Constant, Plus, Print, Progn, Special, Setq, Defvar, Let, Bind}
use Rattle.plain_program.specs.Forms.{PlainForms}

-- What a thread has still to do in a stretch: nothing more, or one point and what comes after it. A point has the place
-- of the form that it belongs to. Where a stretch in a frame is done, one more point leaves the frame.
pub data Points : Type 0 where
  Done : Points
  Do : (act : Act) (place : ℕ) (after : Points) → Points
  Ask : (question : Question) (place : ℕ) (after : Points) → Points
  -- asks whether a special variable is bound globally; where it is not, its value comes next
  Test : (symbol place : ℕ) (value after : Points) → Points
  -- opens a frame, in which the body is done
  Enter : (opening : Opening) (place : ℕ) (body after : Points) → Points

-- these points, and then those
abbrev pub joined : Points → Points → Points
joined Done after = after
joined (Do a p rest) after = Do a p (joined rest after)
joined (Ask q p rest) after = Ask q p (joined rest after)
joined (Test s p value rest) after = Test s p value (joined rest after)
joined (Enter o p body rest) after = Enter o p body (joined rest after)

-- the points of each in turn
abbrev pub all_of : List Points → Points
all_of [] = Done
all_of (f ∷ fs) = joined f (all_of fs)

-- A body gives the value of its last form. Between two of its forms one point forgets the value of the
-- first. An empty body is the constant NIL.
abbrev pub body_of : ℕ → List Points → Points
body_of p [] = Do (Push nil) p Done
body_of p (f ∷ []) = f
body_of p (f ∷ (g ∷ fs)) = joined f (Do Discard p (body_of p (g ∷ fs)))

-- the points of the first n forms, with the constant NIL for one that is missing; other forms are passed over
abbrev pub operands : ℕ → ℕ → List Points → Points
operands zero p fs = Done
operands (suc n) p [] = Do (Push nil) p (operands n p [])
operands (suc n) p (f ∷ fs) = joined f (operands n p fs)

-- the points of a form of this kind at this place, from the points of the forms under it
abbrev pub table : PlainKind → ℕ → List Points → Points
-- a constant is 1 point
table (Constant v) p fs = Do (Push v) p Done
-- a sum: its arguments, and 1 point
table Plus p fs = joined (operands 2 p fs) (Do Add p Done)
-- `print`: its argument, and the operation `out`
table Print p fs = joined (operands 1 p fs) (Ask AskPrint p Done)
-- `progn`: its forms as a body
table Progn p fs = body_of p fs
-- a special variable is 1 point
table (Special s) p fs = Ask (Read s) p Done
-- `setq`: its value, and 1 point
table (Setq s) p fs = joined (operands 1 p fs) (Ask (Write s) p Done)
-- `defvar`: the operation `boundp`; where the reply is NIL, its value and the operation `set`
table (Defvar s) p fs = Test s p (joined (operands 1 p fs) (Ask (Define s) p Done)) Done
-- `let`: the values in order; then 1 point for each variable in order, the body, and 1 point for each variable, last first
table Let p fs = all_of fs
table (Bind s above) p fs = Enter (OpenBind s above) p (body_of p fs) Done

-- the points of each form
abbrev pub points_of : PlainForms → List Points
points_of NoTrees = []
points_of (Tree k p under beside) = table k p (points_of under) ∷ points_of beside

-- main evaluates the top-level forms as a body, and ends
abbrev pub main_points : PlainForms → Points
main_points f = joined (body_of 0 (points_of f)) (Ask EndThread 0 Done)
