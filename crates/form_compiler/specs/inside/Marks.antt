-- Lines as the compiler writes them.
use Rattle.std.specs.Prelude.{◌<◌, ℕ, List, Option, Some, None}
use Rattle.lisp_base.specs.declared.condition.Class.TheVariants.{UndefinedFunction}
use Rattle.lisp_base.specs.declared.id.FunctionName.{FunctionName}
use Rattle.form_points.specs.declared.act.Act.{Act}
use Rattle.form_points.specs.declared.act.Act.TheVariants.{Call as CallAct, Signal}
use Rattle.form_points.specs.declared.act.Question.{Question}
use Rattle.lisp_code.specs.Held.{Holding, held_at, held_by}
use Rattle.lisp_code.specs.Lines.{Placed, seat_of}
use Rattle.lisp_code.specs.Parts.{line_of}
use Rattle.lisp_code.specs.declared.instr.Clause.{Clause}
use Rattle.lisp_code.specs.declared.instr.Instr.{Instr}
use Rattle.lisp_code.specs.declared.instr.Instr.TheVariants.{Do, Call, Ask, Test, EnterHandler}
use Rattle.form_compiler.specs.declared.mark.Mark.{Mark}

-- an instruction of the form at a place, before which this is held, and by which so many values are held
abbrev pub mark : Instr → ℕ → Holding → ℕ → Mark
mark instr p h held = record { instr = instr; place = p; height = h.height; held = held }

-- a call of a function that there is, or the signal where there is none
abbrev pub call_instr : Option ℕ → ℕ → Instr
call_instr (Some function) count = Call function count
call_instr None count = Do (Signal (record { class = UndefinedFunction; text = None }))

-- the instruction of an act
abbrev pub act_instr : List FunctionName → Act → Instr
act_instr names (CallAct f count) = call_instr (seat_of f names) count
act_instr names a = Do a

-- the line of an act
abbrev pub act_mark : List FunctionName → Act → ℕ → Holding → Mark
act_mark names a p h = mark (act_instr names a) p h (held_by a h)

-- the line of a question
abbrev pub ask_mark : Question → ℕ → Holding → Mark
ask_mark q p h = mark (Ask q) p h (held_at q h)

-- the line of a question that goes on at a position where it settles the matter
abbrev pub test_mark : Question → ℕ → ℕ → Holding → Mark
test_mark q to p h = mark (Test q to) p h (held_at q h)

-- the line that it is, with its clauses out of these rows
abbrev pub placed_of : List (List Clause) → Mark → Placed
placed_of rows m = record { line = line_of rows m.instr; place = m.place; height = m.height; held = m.held }

-- an instruction has no clauses
abbrev pub HasNoClauses : Instr → Type 0
HasNoClauses (EnterHandler row) = ⊥
HasNoClauses i = Unit {0}

-- the row of an instruction, if it has one, is one of so many
abbrev pub HasRow : ℕ → Instr → Type 0
HasRow rows (EnterHandler row) = row < rows
HasRow rows i = Unit {0}
