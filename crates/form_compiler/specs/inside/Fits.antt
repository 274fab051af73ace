-- Points that find their operands, and of which each part gives what is wanted of it.
use Rattle.std.specs.Prelude.{◌≡◌, ◌≤◌, ℕ, suc, List}
use Rattle.lisp_base.specs.Forest.{NoTrees, Tree}
use Rattle.lisp_program.specs.Forms.{Forms}
use Rattle.lisp_program.specs.WellMade.{IsOneOf, Role, Gives, Binds, Handles, role_of}
use Rattle.form_points.specs.Operands.{act_takes, opening_takes, question_takes}
use Rattle.form_points.specs.Points.{Points, Done, Do, Ask, Test, Choose, Loop, Turn, Enter, Protect, Handle, When}
use Rattle.form_points.specs.Table.{points_of, table}
use Rattle.form_points.specs.declared.act.Opening.{Opening}
use Rattle.form_points.specs.declared.act.Opening.TheVariants.{Bind}
use Rattle.lisp_code.specs.Held.{Holding, after_act, after_question, inside, one_more, outside, rise, without}
use Rattle.lisp_code.specs.Lines.{given}
use Rattle.lisp_code.specs.Validity.{IsKnown}

-- a special variable that is bound by a frame is one of these
abbrev pub IsOpened : List ℕ → Opening → Type 0
IsOpened specials (Bind s above) = IsOneOf s specials
IsOpened specials o = Unit {0}

-- where this is held, these points leave one operand more
abbrev pub Lifts : Holding → Points → Type 0
Lifts h points = (rise h points).height ≡ suc h.height

-- Where this is held and these are the special variables, each of these points finds its operands, and each part gives what is wanted of it:
-- one value, or as many as its frame or its question leaves.
abbrev mutual
  pub Fits : List ℕ → Holding → Points → Type 0
  Fits specials h Done = Unit {0}
  Fits specials h (Do a p after) = (act_takes a ≤ h.height) × Fits specials (after_act a h) after
  Fits specials h (Ask q p after) = (question_takes q ≤ h.height) × (IsKnown specials q × Fits specials (after_question q h) after)
  Fits specials h (Test q p more after) =
      (question_takes q ≤ h.height) × (IsKnown specials q
      × ((Fits specials h more × ((rise h more).height ≡ (after_question q h).height)) × Fits specials (after_question q h) after))
  Fits specials h (Choose p x y after) =
      (1 ≤ h.height) × ((Fits specials (without 1 h) x × Lifts (without 1 h) x)
      × ((Fits specials (without 1 h) y × Lifts (without 1 h) y) × Fits specials (one_more (without 1 h)) after))
  Fits specials h (Loop p test body after) =
      (Fits specials h test × Lifts h test) × ((Fits specials h body × Lifts h body) × Fits specials (one_more h) after)
  Fits specials h (Turn p test body after) = ⊥
  Fits specials h (Enter o p body after) =
      (opening_takes o ≤ h.height) × (IsOpened specials o
      × ((Fits specials (inside o h) body × ((rise (inside o h) body).height ≡ suc (outside o h).height)) × Fits specials (one_more (outside o h)) after))
  Fits specials h (Protect p body cleanup after) =
      (Fits specials h body × Lifts h body) × ((Fits specials h cleanup × Lifts h cleanup) × Fits specials (one_more h) after)
  Fits specials h (Handle p body clauses after) =
      (Fits specials h body × Lifts h body) × (FitClauses specials h clauses × Fits specials (one_more h) after)
  Fits specials h (When class is_given chosen others) = ⊥

  -- these are clauses of a handler, and what each chooses fits and gives one value
  pub FitClauses : List ℕ → Holding → Points → Type 0
  FitClauses specials h Done = Unit {0}
  FitClauses specials h (Do a p after) = ⊥
  FitClauses specials h (Ask q p after) = ⊥
  FitClauses specials h (Test q p more after) = ⊥
  FitClauses specials h (Choose p x y after) = ⊥
  FitClauses specials h (Loop p test body after) = ⊥
  FitClauses specials h (Turn p test body after) = ⊥
  FitClauses specials h (Enter o p body after) = ⊥
  FitClauses specials h (Protect p body cleanup after) = ⊥
  FitClauses specials h (Handle p body clauses after) = ⊥
  FitClauses specials h (When class is_given chosen others) =
      (Fits specials (given is_given h) chosen × ((rise (given is_given h) chosen).height ≡ suc h.height)) × FitClauses specials h others

-- the points of a form with this role fit: those of a binding where its operand is there and those before it
abbrev pub FitsAs : List ℕ → Role → Points → Type 0
FitsAs specials (Gives under) points = (h : Holding) → Fits specials h points
FitsAs specials (Binds above) points = (h : Holding) → suc above ≤ h.height → Fits specials h points
FitsAs specials Handles points = (h : Holding) → FitClauses specials h points

-- so do those of each of these forms
abbrev pub AreFit : List ℕ → Forms → Type 0
AreFit specials NoTrees = Unit {0}
AreFit specials (Tree k p under beside) = FitsAs specials (role_of k) (table k p (points_of under)) × AreFit specials beside

-- the points of each of these forms fit wherever they begin
abbrev pub AllFit : List ℕ → Forms → Type 0
AllFit specials NoTrees = Unit {0}
AllFit specials (Tree k p under beside) = ((h : Holding) → Fits specials h (table k p (points_of under))) × AllFit specials beside
