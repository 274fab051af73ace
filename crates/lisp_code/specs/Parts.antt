-- The parts of code as lists, and what an instruction is as a line.
use Rattle.std.specs.Prelude.{ℕ, List, [], get_or, map}
use Rattle.std.specs.Global.{Vec}
use Rattle.lisp_code.specs.declared.code.FunctionCode.{FunctionCode}
use Rattle.lisp_code.specs.declared.instr.Clause.{Clause}
use Rattle.lisp_code.specs.declared.instr.Instr.{Instr}
use Rattle.lisp_code.specs.declared.instr.Instr.TheVariants.{Do, Call, Ask, Test, Branch, LoopTest, Jump, Enter, EnterProtect, EnterHandler, Leave, LeaveProtect, LeaveCleanup, LeaveHandler}
use Rattle.lisp_code.specs.Lines.{Line, Does, Calls, Asks, Tests, Branches, LoopTests, JumpsTo, Enters, EntersProtect, EntersHandler, Leaves, LeavesProtect, LeavesCleanup, LeavesHandler}

-- the parts of code
pub record Parts : Type 0 where
  pub instrs : List Instr
  pub places : List ℕ
  pub heights : List ℕ
  pub functions : List FunctionCode
  pub specials : List ℕ
  pub handlers : List (List Clause)

-- the clauses in each of these vectors
abbrev pub rows_of : List (Vec Clause) → List (List Clause)
rows_of rows = map (λ (row : Vec Clause). row.items) rows

-- the clauses in a row, none where there is no such row
abbrev pub row_of : List (List Clause) → ℕ → List Clause
row_of rows n = get_or rows n []

-- the line that an instruction is, with its clauses out of their row
abbrev pub line_of : List (List Clause) → Instr → Line
line_of rows (Do a) = Does a
line_of rows (Call function count) = Calls function count
line_of rows (Ask q) = Asks q
line_of rows (Test q to) = Tests q to
line_of rows (Branch to) = Branches to
line_of rows (LoopTest to) = LoopTests to
line_of rows (Jump to) = JumpsTo to
line_of rows (Enter o back) = Enters o back
line_of rows (EnterProtect cleanup) = EntersProtect cleanup
line_of rows (EnterHandler row) = EntersHandler (row_of rows row)
line_of rows Leave = Leaves
line_of rows LeaveProtect = LeavesProtect
line_of rows LeaveCleanup = LeavesCleanup
line_of rows (LeaveHandler to) = LeavesHandler to
