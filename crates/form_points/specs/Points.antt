-- What a thread has still to do, as points.
use Rattle.std.specs.Prelude.{ℕ, List, [], ◌∷◌, Bool}
use Rattle.lisp_base.specs.Value.{nil}
use Rattle.lisp_base.specs.declared.condition.Class.{Class}
use Rattle.form_points.specs.declared.act.Act.{Act}
use Rattle.form_points.specs.declared.act.Act.TheVariants.{Push, Discard}
use Rattle.form_points.specs.declared.act.Opening.{Opening}
use Rattle.form_points.specs.declared.act.Question.{Question}

-- What a thread has still to do in a stretch: nothing more, or one point and what comes after it. A point has the place
-- of the form that it belongs to. Where a stretch in a frame is done, one more point leaves the frame.
pub data Points : Type 0 where
  Done : Points
  -- a local point
  Do : (act : Act) (place : ℕ) (after : Points) → Points
  -- an operation, or a local point where the thread alone has what is asked for
  Ask : (question : Question) (place : ℕ) (after : Points) → Points
  -- a question; where the reply does not settle the matter, more points come next
  Test : (question : Question) (place : ℕ) (more after : Points) → Points
  -- takes a value; where it is not NIL the first points come next, else the second
  Choose : (place : ℕ) (first second after : Points) → Points
  -- a test, and 1 point that takes its value: where the value is NIL this gives NIL and the loop is done, else the body comes
  -- next, then 1 point that forgets its value, and the test again
  Loop : (place : ℕ) (test body after : Points) → Points
  -- a loop whose test has a value: 1 point takes it. No form begins so; this is what is left of a loop then.
  Turn : (place : ℕ) (test body after : Points) → Points
  -- opens a frame, in which the body is done
  Enter : (opening : Opening) (place : ℕ) (body after : Points) → Points
  -- opens a Protect frame, in which the body is done; 1 point turns the frame into a Cleanup frame, in which the cleanup is done
  Protect : (place : ℕ) (body cleanup after : Points) → Points
  -- opens a Handler frame, in which the body is done; a clause is done outside it
  Handle : (place : ℕ) (body clauses after : Points) → Points
  -- a clause of a Handler frame: what is done for a condition of this class, whether the clause is given the condition, and
  -- the other clauses
  When : (class : Class) (is_given : Bool) (chosen others : Points) → Points

-- these points, and then those
abbrev pub joined : Points → Points → Points
joined Done after = after
joined (Do a p rest) after = Do a p (joined rest after)
joined (Ask q p rest) after = Ask q p (joined rest after)
joined (Test q p more rest) after = Test q p more (joined rest after)
joined (Choose p x y rest) after = Choose p x y (joined rest after)
joined (Loop p test body rest) after = Loop p test body (joined rest after)
joined (Turn p test body rest) after = Turn p test body (joined rest after)
joined (Enter o p body rest) after = Enter o p body (joined rest after)
joined (Protect p body cleanup rest) after = Protect p body cleanup (joined rest after)
joined (Handle p body clauses rest) after = Handle p body clauses (joined rest after)
joined (When class is_given chosen others) after = When class is_given chosen (joined others after)

-- the points of each in turn
abbrev pub all_of : List Points → Points
all_of [] = Done
all_of (f ∷ fs) = joined f (all_of fs)

-- A body gives the value of its last form. Between two of its forms one point forgets the value of the
-- first. An empty body is the constant NIL.
abbrev pub body_of : ℕ → List Points → Points
body_of p [] = Do (Push nil) p Done
body_of p (f ∷ []) = f
body_of p (f ∷ (g ∷ fs)) = joined f (Do Discard p (body_of p (g ∷ fs)))

-- A loop begins with its test, which is no point of the loop: what comes next is the test's first point, or that of a loop with
-- which the test begins, and so on.
abbrev pub settled : Points → Points
settled (Loop p test body after) = joined (settled test) (Turn p test body after)
settled other = other
