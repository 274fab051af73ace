-- How many values the points of well-made forms give.
use Rattle.std.specs.Prelude.{◌≡◌, ℕ, zero, suc}
use Rattle.lisp_base.specs.Forest.{NoTrees, Tree}
use Rattle.lisp_program.specs.Forms.{Forms}
use Rattle.lisp_program.specs.WellMade.{Seat, Each, Bound, Role, Gives, Binds, Handles, MayBeEmpty, Stand, role_of, standing}
use Rattle.form_points.specs.Points.{Points, Done, When}
use Rattle.form_points.specs.Table.{points_of, table}
use Rattle.lisp_code.specs.Held.{Holding, one_more, rise, without}
use Rattle.lisp_code.specs.Lines.{given}

-- with so many operands more
abbrev pub with_more : ℕ → Holding → Holding
with_more zero h = h
with_more (suc n) h = with_more n (one_more h)

-- these points give one value
abbrev pub GivesOne : Points → Type 0
GivesOne points = (h : Holding) → rise h points ≡ one_more h

-- these points give one value in place of so many operands
abbrev pub GivesFor : ℕ → Points → Type 0
GivesFor n points = (h : Holding) → rise h points ≡ one_more (without n h)

-- these points are one clause of a handler: what is chosen gives one value, where it is given the condition in place of it
abbrev pub IsClause : Points → Type 0
IsClause (When class is_given chosen Done) = (h : Holding) → rise (given is_given h) chosen ≡ one_more h
IsClause _ = ⊥

-- these points give what is wanted of a form with this role: a binding gives one value in place of its operand and those before it
abbrev pub GivesAs : Role → Points → Type 0
GivesAs (Gives under) points = GivesOne points
GivesAs (Binds above) points = GivesFor (suc above) points
GivesAs Handles points = IsClause points

-- each of these forms, which stand in this seat, gives what is wanted of it
abbrev pub AreGiving : Seat → Forms → Type 0
AreGiving seat NoTrees = MayBeEmpty seat
AreGiving seat (Tree k p under beside) =
    GivesAs (role_of k) (table k p (points_of under)) × Stand (standing seat (role_of k)) (λ s. Unit {0}) (λ s. AreGiving s beside)

-- the seat of the forms under a form with this role
abbrev pub seat_under : Role → Seat
seat_under (Gives under) = under
seat_under (Binds above) = Bound above
seat_under Handles = Each

-- each of these forms gives one value
abbrev pub Ones : Forms → Type 0
Ones NoTrees = Unit {0}
Ones (Tree k p under beside) = GivesOne (table k p (points_of under)) × Ones beside

-- each but the last
abbrev pub AllButOne : Forms → Type 0
AllButOne NoTrees = Unit {0}
AllButOne (Tree k p under NoTrees) = Unit {0}
AllButOne (Tree k p under (Tree k' p' under' beside)) = GivesOne (table k p (points_of under)) × AllButOne (Tree k' p' under' beside)

-- each is a clause of a handler
abbrev pub AreClauses : Forms → Type 0
AreClauses NoTrees = Unit {0}
AreClauses (Tree k p under beside) = IsClause (table k p (points_of under)) × AreClauses beside
