-- Lines that are valid code where they stand.
use Rattle.std.specs.Prelude.{◌≡◌, ◌<◌, ◌≤◌, ℕ, suc, List, [], ◌∷◌, All, Some, length, map, get_or}
use Rattle.lisp_base.specs.declared.id.FunctionName.{FunctionName}
use Rattle.lisp_code.specs.CodeOf.{most_held}
use Rattle.lisp_code.specs.Lines.{Line, Does, Calls, Asks, Tests, Branches, LoopTests, JumpsTo, Enters, EntersProtect, EntersHandler, Leaves, LeavesProtect, LeavesCleanup, LeavesHandler, Placed, seat_of}
use Rattle.lisp_code.specs.Parts.{Parts, line_of}
use Rattle.lisp_code.specs.Validity.{IsFine, Lies, clause_going, most_operands, on}
use Rattle.lisp_code.specs.declared.instr.Clause.{Clause}
use Rattle.lisp_code.specs.declared.instr.Instr.{Instr}
use Rattle.lisp_code.specs.declared.instr.Instr.TheVariants as i
use Rattle.form_compiler.specs.inside.Marks.{HasRow}

-- the row of clauses that each of these instructions names, if it names one, is one of these
abbrev pub AreRowsThere : List (List Clause) → List Instr → Type 0
AreRowsThere rows [] = Unit {0}
AreRowsThere rows (instr ∷ instrs) = HasRow (length rows) instr × AreRowsThere rows instrs

-- the rows of clauses that the instructions name are there
abbrev pub RowsAreThere : Parts → Type 0
RowsAreThere parts = AreRowsThere parts.handlers parts.instrs

-- An instruction that is this line is as it should be at a position, where there are so many operands before it. Of a handler only the
-- positions are asked for at which it goes on.
abbrev pub IsFineLine : Parts → (at height : ℕ) → Line → Type 0
IsFineLine p at h (Does act) = IsFine p at h (i.Do act)
IsFineLine p at h (Calls function count) = IsFine p at h (i.Call function count)
IsFineLine p at h (Asks question) = IsFine p at h (i.Ask question)
IsFineLine p at h (Tests question to) = IsFine p at h (i.Test question to)
IsFineLine p at h (Branches to) = IsFine p at h (i.Branch to)
IsFineLine p at h (LoopTests to) = IsFine p at h (i.LoopTest to)
IsFineLine p at h (JumpsTo to) = IsFine p at h (i.Jump to)
IsFineLine p at h (Enters opening back) = IsFine p at h (i.Enter opening back)
IsFineLine p at h (EntersProtect cleanup) = IsFine p at h (i.EnterProtect cleanup)
IsFineLine p at h (EntersHandler clauses) = All (Lies p) (on (suc at) h ∷ map (clause_going h) clauses)
IsFineLine p at h Leaves = IsFine p at h i.Leave
IsFineLine p at h LeavesProtect = IsFine p at h i.LeaveProtect
IsFineLine p at h LeavesCleanup = IsFine p at h i.LeaveCleanup
IsFineLine p at h (LeavesHandler to) = IsFine p at h (i.LeaveHandler to)

-- so is each of these lines, which stand at this position and those after it
abbrev pub AreSound : Parts → (at : ℕ) → List Placed → Type 0
AreSound p at [] = Unit {0}
AreSound p at (l ∷ ls) = IsFineLine p at l.height l.line × AreSound p (suc at) ls

-- the first of these lines has so many operands before it
abbrev pub Begins : ℕ → List Placed → Type 0
Begins g [] = ⊥
Begins g (l ∷ ls) = g ≡ l.height

-- a line is no jump
abbrev pub IsNoJumpLine : Line → Type 0
IsNoJumpLine (JumpsTo to) = ⊥
IsNoJumpLine line = Unit {0}

-- the first of these lines is no jump
abbrev pub BeginsWithNoJump : List Placed → Type 0
BeginsWithNoJump ls = IsNoJumpLine (get_or (map (λ (l : Placed). l.line) ls) 0 Leaves)

-- These are the lines of these parts of code; none holds too much, and each function with one of these names is there.
pub record IsLaidOut (p : Parts) (names : List FunctionName) (ls : List Placed) : Type 0 where
  pub lines : map (line_of p.handlers) p.instrs ≡ map (λ (l : Placed). l.line) ls
  pub heights : p.heights ≡ map (λ (l : Placed). l.height) ls
  pub held : most_held ls ≤ most_operands
  pub seats : (f n : ℕ) → seat_of f names ≡ Some n → n < length p.functions
