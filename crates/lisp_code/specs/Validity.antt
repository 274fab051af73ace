-- Which code is valid: each of its instructions finds its operands, and goes on inside the code with as many as are expected there.
use Rattle.std.specs.Prelude.{◌≡◌, ◌<◌, ◌≤◌, ℕ, suc, ◌+◌, ◌-◌, List, [], ◌∷◌, Bool, true, false, All, length, map, get_or}
use Rattle.lisp_program.specs.WellMade.{IsOneOf}
use Rattle.form_points.specs.Operands.{act_leaves, act_takes, one_of, opening_leaves, opening_takes, question_leaves, question_takes}
use Rattle.form_points.specs.declared.act.Act.{Act}
use Rattle.form_points.specs.declared.act.Act.TheVariants as act
use Rattle.form_points.specs.declared.act.Opening.{Opening}
use Rattle.form_points.specs.declared.act.Opening.TheVariants as opening
use Rattle.form_points.specs.declared.act.Question.{Question}
use Rattle.form_points.specs.declared.act.Question.TheVariants as question
use Rattle.form_points.specs.declared.act.Step.TheVariants as step
use Rattle.lisp_code.specs.Parts.{Parts, row_of}
use Rattle.lisp_code.specs.declared.code.FunctionCode.{FunctionCode}
use Rattle.lisp_code.specs.declared.instr.Clause.{Clause}
use Rattle.lisp_code.specs.declared.instr.Instr.{Instr}
use Rattle.lisp_code.specs.declared.instr.Instr.TheVariants.{Do, Call, Ask, Test, Branch, LoopTest, Jump, Enter, EnterProtect, EnterHandler, Leave, LeaveProtect, LeaveCleanup, LeaveHandler}

-- no call has more operands, nor more variables
abbrev pub most_operands : ℕ
most_operands = 128

-- so many operands in place of those that are taken
abbrev pub replaced : (takes leaves height : ℕ) → ℕ
replaced takes leaves height = leaves + (height - takes)

-- how many operands an instruction takes
abbrev pub takes_of : Instr → ℕ
takes_of (Do a) = act_takes a
takes_of (Call function count) = count
takes_of (Ask q) = question_takes q
takes_of (Test q to) = question_takes q
takes_of (Enter o back) = opening_takes o
takes_of (Branch to) = 1
takes_of (LoopTest to) = 1
takes_of Leave = 1
takes_of LeaveProtect = 1
takes_of LeaveCleanup = 1
takes_of (LeaveHandler to) = 1
takes_of (Jump to) = 0
takes_of (EnterProtect cleanup) = 0
takes_of (EnterHandler row) = 0

-- an act after which the thread goes on elsewhere
abbrev pub is_exit : Act → Bool
is_exit (act.ReturnFrom b) = true
is_exit act.Throw = true
is_exit (act.Signal condition) = true
is_exit act.AbortThread = true
is_exit act.ReturnFromThread = true
is_exit _ = false

-- where an instruction goes on, and with how many operands
pub record Going : Type 0 where
  pub to : ℕ
  pub height : ℕ

-- at a position, with so many operands
abbrev pub on : (to height : ℕ) → Going
on to height = record { to = to; height = height }

-- a clause goes on with the condition, where it is given it
abbrev pub clause_going : ℕ → Clause → Going
clause_going h c = on c.start (one_of c.is_given + h)

-- An act goes on at the next position, but for an exit.
abbrev pub act_goings : (is_exit : Bool) → Act → (at h : ℕ) → List Going
act_goings true a at h = []
act_goings false a at h = on (suc at) (replaced (act_takes a) (act_leaves a) h) ∷ []

-- a question goes on at the next position, but for the last one of a thread
abbrev pub question_goings : Question → (at h : ℕ) → List Going
question_goings question.EndThread at h = []
question_goings q at h = on (suc at) (replaced (question_takes q) (question_leaves q) h) ∷ []

-- Where an instruction at a position goes on, with so many operands before it. What leaves the frame that an `Enter` or a call has opened
-- goes on where that says, with one value.
abbrev pub goings : List (List Clause) → (at h : ℕ) → Instr → List Going
goings rows at h (Do a) = act_goings (is_exit a) a at h
goings rows at h (Call function count) = on (suc at) (replaced count 1 h) ∷ []
goings rows at h (Ask q) = question_goings q at h
goings rows at h (Test q to) = on (suc at) h ∷ (on to (replaced (question_takes q) (question_leaves q) h) ∷ [])
goings rows at h (Branch to) = on (suc at) (h - 1) ∷ (on to (h - 1) ∷ [])
goings rows at h (LoopTest to) = on (suc at) (h - 1) ∷ (on to h ∷ [])
goings rows at h (Jump to) = on to h ∷ []
goings rows at h (Enter o back) =
    on (suc at) (replaced (opening_takes o) (opening_leaves o) h) ∷ (on back (replaced (opening_takes o) 1 h) ∷ [])
goings rows at h (EnterProtect cleanup) = on (suc at) h ∷ (on cleanup h ∷ [])
goings rows at h (EnterHandler row) = on (suc at) h ∷ map (clause_going h) (row_of rows row)
goings rows at h Leave = []
goings rows at h LeaveProtect = []
goings rows at h LeaveCleanup = on (suc at) h ∷ []
goings rows at h (LeaveHandler to) = on to h ∷ []

-- a position is inside the code, and there are as many operands before it
abbrev pub Lies : Parts → Going → Type 0
Lies p g = (g.to < length p.instrs) × (get_or p.heights g.to 0 ≡ g.height)

-- how many operands there are after an act, but for an exit
abbrev pub left_by_act : (is_exit : Bool) → Act → (height : ℕ) → ℕ
left_by_act true a h = 0
left_by_act false a h = replaced (act_takes a) (act_leaves a) h

-- how many operands there are after a question, which gives a value; the clock's reading and the beginning of a wait give none
abbrev pub left_by_question : Question → (height : ℕ) → ℕ
left_by_question (question.Serve service step.Clock) h = 0
left_by_question (question.Serve service step.Begin) h = 0
left_by_question q h = replaced (question_takes q) 1 h

-- How many operands there are after an instruction that gives a value or opens a frame. Of the others nothing is asked: they give none.
abbrev pub left_by : Instr → (height : ℕ) → ℕ
left_by (Do a) h = left_by_act (is_exit a) a h
left_by (Call function count) h = replaced count 1 h
left_by (Ask q) h = left_by_question q h
left_by (Test q to) h = left_by_question q h
left_by (LoopTest to) h = h
left_by (Enter o back) h = replaced (opening_takes o) (opening_leaves o) h
left_by _ h = 0

-- the variable that an act names is below this number
abbrev pub IsActNumbered : ℕ → Act → Type 0
IsActNumbered most (act.ReadLocal x) = x < most
IsActNumbered most (act.WriteLocal x) = x < most
IsActNumbered most (act.BindLocal x above) = x < most
IsActNumbered most (act.ReturnFrom b) = b < most
IsActNumbered most a = Unit {0}

-- a special variable that a question names is one of these
abbrev pub IsKnown : List ℕ → Question → Type 0
IsKnown specials (question.Read s) = IsOneOf s specials
IsKnown specials (question.Write s) = IsOneOf s specials
IsKnown specials (question.IsBound s) = IsOneOf s specials
IsKnown specials (question.Define s) = IsOneOf s specials
IsKnown specials (question.CompareAndSwap s) = IsOneOf s specials
IsKnown specials q = Unit {0}

-- what a point names that opens a frame is a variable below this number, or one of these special variables
abbrev pub IsOpeningNamed : ℕ → List ℕ → Opening → Type 0
IsOpeningNamed most specials (opening.Bind s above) = IsOneOf s specials
IsOpeningNamed most specials (opening.Block b) = b < most
IsOpeningNamed most specials (opening.WithoutInterrupts r) = r < most
IsOpeningNamed most specials (opening.AllowWithInterrupts r) = r < most
IsOpeningNamed most specials o = Unit {0}

-- what an instruction names is there: a variable, a special variable, a function, a row of clauses
abbrev pub IsInRange : Parts → Instr → Type 0
IsInRange p (Do a) = IsActNumbered most_operands a
IsInRange p (Call function count) = function < length p.functions
IsInRange p (Ask q) = IsKnown p.specials q
IsInRange p (Test q to) = IsKnown p.specials q
IsInRange p (Enter o back) = IsOpeningNamed most_operands p.specials o
IsInRange p (EnterHandler row) = row < length p.handlers
IsInRange p i = Unit {0}

-- an instruction is no jump
abbrev pub IsNoJump : Instr → Type 0
IsNoJump (Jump to) = ⊥
IsNoJump i = Unit {0}

-- A jump that goes back, or to itself, lands on no jump, so that no two jumps go round.
abbrev pub Lands : Parts → (at : ℕ) → Instr → Type 0
Lands p at (Jump to) = to ≤ at → IsNoJump (get_or p.instrs to Leave)
Lands p at i = Unit {0}

-- an instruction at a position, before which there are so many operands, is as it should be
pub record IsFine (p : Parts) (at height : ℕ) (i : Instr) : Type 0 where
  -- it finds what it takes
  pub finds : takes_of i ≤ height
  -- what it leaves is not too much
  pub leaves : left_by i height ≤ most_operands
  -- it goes on inside the code, with as many operands as are expected there
  pub goes_on : All (Lies p) (goings p.handlers at height i)
  pub in_range : IsInRange p i
  pub lands : Lands p at i

-- instructions from a position on are as they should be, with so many operands before each
abbrev pub AreFine : Parts → (at : ℕ) → (heights : List ℕ) → List Instr → Type 0
AreFine p at hs [] = Unit {0}
AreFine p at [] (i ∷ is) = ⊥
AreFine p at (h ∷ hs) (i ∷ is) = IsFine p at h i × AreFine p (suc at) hs is

-- a function begins inside the code without an operand, and holds at least its arguments, and not too much
pub record IsFunction (p : Parts) (f : FunctionCode) : Type 0 where
  pub entry : Lies p (on f.entry 0)
  pub arguments : f.params ≤ f.height
  pub height : f.height ≤ most_operands

-- the parts are those of valid code
pub record IsValid (p : Parts) : Type 0 where
  -- main begins at the first position, without an operand
  pub begins : Lies p (on 0 0)
  -- each instruction has a place, and so many operands before it
  pub places : length p.places ≡ length p.instrs
  pub heights : length p.heights ≡ length p.instrs
  pub instructions : AreFine p 0 p.heights p.instrs
  pub functions : All (IsFunction p) p.functions
