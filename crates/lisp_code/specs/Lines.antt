-- The points of a form laid out as lines, one after the other, with positions.
use Rattle.std.specs.Prelude.{ℕ, zero, suc, ◌+◌, List, [], ◌∷◌, Bool, true, false, ◌==◌, if◌then◌else◌, Option, Some, None}
use Rattle.lisp_base.specs.declared.condition.Class.TheVariants.{UndefinedFunction}
use Rattle.lisp_base.specs.declared.id.FunctionName.{FunctionName}
use Rattle.lisp_base.specs.declared.id.FunctionName.TheVariants.{Named}
use Rattle.form_points.specs.Points.{Points, Done, Do, Ask, Test, Choose, Loop, Turn, Enter, Protect, Handle, When}
use Rattle.form_points.specs.declared.act.Act.{Act}
use Rattle.form_points.specs.declared.act.Act.TheVariants.{Call, Discard, Signal}
use Rattle.form_points.specs.declared.act.Opening.{Opening}
use Rattle.form_points.specs.declared.act.Question.{Question}
use Rattle.lisp_code.specs.Held.{Holding, after_act, after_question, held_at, held_by, held_in, inside, one_more, outside, total, without}
use Rattle.lisp_code.specs.declared.instr.Clause.{Clause}

-- a point, the end of a frame, or a jump, with the positions at which it goes on if not at the next line
pub data Line : Type 0 where
  Does : (act : Act) → Line
  Calls : (function count : ℕ) → Line
  Asks : (question : Question) → Line
  Tests : (question : Question) (to : ℕ) → Line
  Branches : (to : ℕ) → Line
  LoopTests : (to : ℕ) → Line
  JumpsTo : (to : ℕ) → Line
  Enters : (opening : Opening) (back : ℕ) → Line
  EntersProtect : (cleanup : ℕ) → Line
  EntersHandler : (clauses : List Clause) → Line
  Leaves : Line
  LeavesProtect : Line
  LeavesCleanup : Line
  LeavesHandler : (to : ℕ) → Line

-- a line of the form at a place, with so many operands before it, by which so many values are held
pub record Placed : Type 0 where
  pub line : Line
  pub place : ℕ
  pub height : ℕ
  pub held : ℕ

-- a line before which this is held
abbrev pub placed : Line → ℕ → Holding → ℕ → Placed
placed line p h held = record { line = line; place = p; height = h.height; held = held }

-- how many lines these points are
abbrev pub size : Points → ℕ
size Done = 0
size (Do a p after) = suc (size after)
size (Ask q p after) = suc (size after)
size (Test q p more after) = suc (size more + size after)
size (Choose p x y after) = suc (suc (size x + size y + size after))
size (Loop p test body after) = suc (suc (suc (size test + size body + size after)))
size (Turn p test body after) = size after
size (Enter o p body after) = suc (suc (size body + size after))
size (Protect p body cleanup after) = suc (suc (suc (size body + size cleanup + size after)))
size (Handle p body clauses after) = suc (suc (size body + size clauses + size after))
size (When class is_given chosen others) = suc (size chosen + size others)

-- the position after these points, which begin at this one
abbrev pub past : ℕ → Points → ℕ
past at Done = at
past at (Do a p after) = past (suc at) after
past at (Ask q p after) = past (suc at) after
past at (Test q p more after) = past (past (suc at) more) after
past at (Choose p x y after) = past (past (suc (past (suc at) x)) y) after
past at (Loop p test body after) = past (suc (suc (past (suc (past at test)) body))) after
past at (Turn p test body after) = past at after
past at (Enter o p body after) = past (suc (past (suc at) body)) after
past at (Protect p body cleanup after) = past (suc (past (suc (past (suc at) body)) cleanup)) after
past at (Handle p body clauses after) = past (past (suc (past (suc at) body)) clauses) after
past at (When class is_given chosen others) = past (suc (past at chosen)) others

-- a function has this symbol as its name
abbrev pub is_named : ℕ → FunctionName → Bool
is_named s (Named t) = s == t
is_named s _ = false

-- one more, where there is one
abbrev pub one_later : Option ℕ → Option ℕ
one_later None = None
one_later (Some n) = Some (suc n)

-- the number of the first function with this symbol as its name
abbrev pub seat_of : ℕ → List FunctionName → Option ℕ
seat_of s [] = None
seat_of s (name ∷ names) = if is_named s name then Some zero else one_later (seat_of s names)

-- a call of a function that there is, and the signal where there is none
abbrev pub call_line : Option ℕ → ℕ → Line
call_line (Some function) count = Calls function count
call_line None count = Does (Signal (record { class = UndefinedFunction; text = None }))

-- the line of an act, where the functions have these names
abbrev pub act_line : List FunctionName → Act → Line
act_line names (Call f count) = call_line (seat_of f names) count
act_line names a = Does a

-- the clauses that begin at this position, one after the other; after each stands a jump
abbrev pub clauses_at : ℕ → Points → List Clause
clauses_at at (When class is_given chosen others) =
    record { class = class; is_given = is_given; start = at } ∷ clauses_at (suc (past at chosen)) others
clauses_at at _ = []

-- what a clause of a handler begins with: the condition, where it is given it
abbrev pub given : Bool → Holding → Holding
given true h = one_more h
given false h = h

-- where a clause goes on, and the place of its `handler-case`
pub record Way : Type 0 where
  pub to : ℕ
  pub place : ℕ

-- the way where there is no handler
abbrev pub no_way : Way
no_way = record { to = 0; place = 0 }

-- The lines of these points, which begin at this position, where this is held and the functions have these names, and after them those
-- of `next`. A clause goes on along the way.
abbrev pub laid : List FunctionName → Way → Holding → (position : ℕ) → Points → List Placed → List Placed
laid names way h at Done next = next
laid names way h at (Do a p after) next = placed (act_line names a) p h (held_by a h) ∷ laid names way (after_act a h) (suc at) after next
laid names way h at (Ask q p after) next =
    placed (Asks q) p h (held_at q h) ∷ laid names way (after_question q h) (suc at) after next
laid names way h at (Test q p more after) next =
    let end : ℕ = past (suc at) more in
    placed (Tests q end) p h (held_at q h)
    ∷ laid names no_way h (suc at) more (laid names way (after_question q h) end after next)
laid names way h at (Choose p x y after) next =
    let low : Holding = without 1 h in
    let jump : ℕ = past (suc at) x in
    let end : ℕ = past (suc jump) y in
    placed (Branches (suc jump)) p h (total low)
    ∷ laid names no_way low (suc at) x (placed (JumpsTo end) p (one_more low) (total low)
    ∷ laid names no_way low (suc jump) y (laid names way (one_more low) end after next))
laid names way h at (Loop p test body after) next =
    let judge : ℕ = past at test in
    let again : ℕ = suc (past (suc judge) body) in
    laid names no_way h at test (placed (LoopTests (suc again)) p (one_more h) (total (one_more h))
    ∷ laid names no_way h (suc judge) body (placed (Does Discard) p (one_more h) (total h)
    ∷ (placed (JumpsTo at) p h (total h) ∷ laid names way (one_more h) (suc again) after next)))
laid names way h at (Turn p test body after) next = laid names way h at after next
laid names way h at (Enter o p body after) next =
    let leave : ℕ = past (suc at) body in
    placed (Enters o (suc leave)) p h (held_in o h)
    ∷ laid names no_way (inside o h) (suc at) body (placed Leaves p (one_more (outside o h)) (total (outside o h))
    ∷ laid names way (one_more (outside o h)) (suc leave) after next)
laid names way h at (Protect p body cleanup after) next =
    let turn : ℕ = past (suc at) body in
    let leave : ℕ = past (suc turn) cleanup in
    placed (EntersProtect (suc turn)) p h (total h)
    ∷ laid names no_way h (suc at) body (placed LeavesProtect p (one_more h) (total h)
    ∷ laid names no_way h (suc turn) cleanup (placed LeavesCleanup p (one_more h) (total h)
    ∷ laid names way (one_more h) (suc leave) after next))
laid names way h at (Handle p body clauses after) next =
    let leave : ℕ = past (suc at) body in
    let end : ℕ = past (suc leave) clauses in
    placed (EntersHandler (clauses_at (suc leave) clauses)) p h (total h)
    ∷ laid names no_way h (suc at) body (placed (LeavesHandler end) p (one_more h) (total h)
    ∷ laid names (record { to = end; place = p }) h (suc leave) clauses (laid names way (one_more h) end after next))
laid names way h at (When class is_given chosen others) next =
    laid names no_way (given is_given h) at chosen (placed (JumpsTo way.to) way.place (one_more h) (total h)
    ∷ laid names way h (suc (past at chosen)) others next)
