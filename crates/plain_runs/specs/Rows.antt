-- Worked programs with their journals and reports.
use Rattle.std.specs.Prelude.{ℕ, pos, List, [], ◌∷◌, Some, None, false}
use Rattle.lisp_base.specs.Forest.{NoTrees, Tree}
use Rattle.lisp_base.specs.Value.{nil}
use Rattle.lisp_base.specs.declared.condition.Class.TheVariants.{IntegerRange}
use Rattle.lisp_base.specs.declared.id.Actor.TheVariants.{Thread}
use Rattle.lisp_base.specs.declared.value.Node.{Node}
use Rattle.lisp_base.specs.declared.value.Node.TheVariants.{Int}
use Rattle.plain_program.specs.Forms.{PlainForms}
use Rattle.plain_program.specs.Program.{PlainProgram}
use Rattle.plain_program.specs.declared.form.PlainKind.TheVariants.{Constant, Plus, Print, Special, Setq, Defvar, Let, Bind}
use Rattle.world_semantics.specs.declared.entry.Entry.{Entry}
use Rattle.world_semantics.specs.declared.op.Op.{Op}
use Rattle.world_semantics.specs.declared.op.Op.TheVariants.{Get, Set, Boundp, Out, Finish}
use Rattle.world_semantics.specs.declared.op.Printed.TheVariants.{Print as PrintsValue}
use Rattle.world_semantics.specs.declared.op.Reply.{Reply}
use Rattle.world_semantics.specs.declared.op.Reply.TheVariants.{Okay, Value, Truth}
use Rattle.world_semantics.specs.declared.phase.Ending.{Ending}
use Rattle.world_semantics.specs.declared.phase.Ending.TheVariants.{Returned, Aborted}
use Rattle.world_semantics.specs.declared.phase.Phase.TheVariants.{Alive, Ended}
use Rattle.plain_runs.specs.declared.report.FrameWord.TheVariants.{Bind as OpenBind}
use Rattle.plain_runs.specs.declared.report.OpenForm.{OpenForm}
use Rattle.world_semantics.specs.declared.global.Global.{Global}
use Rattle.plain_runs.specs.declared.report.PhaseReport.TheVariants.{Ended as IsEnded, OutOfPoints}
use Rattle.plain_runs.specs.declared.report.Report.{Report}

-- an entry of main
abbrev pub main_does : ℕ → ℕ → Op → Reply → Entry
main_does ticket point op reply = record { ticket = ticket; actor = Thread 0; point = point; op = op; reply = reply }

-- main is the only thread, and ended after so many points
abbrev pub main_ended : ℕ → Ending → List Global → Report
main_ended points ending globals = record {
  threads = (record { name = nil; phase = Ended ending; machine = record { phase = IsEnded; points = points; frames = [] } }) ∷ [];
  globals = globals;
  status = 0;
}

-- main is the only thread, and out of points with these forms open
abbrev pub main_out : ℕ → List OpenForm → List Global → Report
main_out points frames globals = record {
  threads = (record { name = nil; phase = Alive; machine = record { phase = OutOfPoints; points = points; frames = frames } }) ∷ [];
  globals = globals;
  status = 3;
}

-- a special variable with its global value
abbrev pub has_value : ℕ → Node → Global
has_value symbol value = record { symbol = symbol; value = Some value }

abbrev pub number : ℕ → ℕ → PlainForms → PlainForms
number n place beside = Tree (Constant (Int (pos n))) place NoTrees beside

-- `(print (+ 1 2))`
abbrev pub printed_sum : PlainProgram
printed_sum = record { forms = Tree Print 0 (Tree Plus 7 (number 1 10 (number 2 12 NoTrees)) NoTrees) NoTrees; specials = [] }

-- its journal: `out` at point 4, `finish` at point 5
abbrev pub printed_sum_journal : List Entry
printed_sum_journal = main_does 1 4 (Out (PrintsValue (Int (pos 3)))) Okay ∷ main_does 2 5 (Finish (Returned (Int (pos 3)))) Okay ∷ []

-- the program without forms
abbrev pub no_forms : PlainProgram
no_forms = record { forms = NoTrees; specials = [] }

-- it returns NIL: `finish` at point 2
abbrev pub no_forms_journal : List Entry
no_forms_journal = main_does 1 2 (Finish (Returned nil)) Okay ∷ []

-- `(defvar *x* 0) (defvar *y* 0) (let ((*x* 1)) (let ((*y* 2)) (setq *x* 5)) (print *x*)) *x*`, where *X* is symbol 5 and
-- *Y* symbol 6
abbrev pub outer_setq : PlainProgram
outer_setq = record {
  forms =
      Tree (Defvar 5) 0 (number 0 12 NoTrees)
      (Tree (Defvar 6) 15 (number 0 27 NoTrees)
      (Tree Let 30
      (number 1 41
      (Tree (Bind 5 0) 30
      (Tree Let 45
      (number 2 56
      (Tree (Bind 6 0) 45 (Tree (Setq 5) 60 (number 5 70 NoTrees) NoTrees) NoTrees))
      (Tree Print 74 (Tree (Special 5) 81 NoTrees NoTrees) NoTrees))
      NoTrees))
      (Tree (Special 5) 88 NoTrees NoTrees)));
  specials = 5 ∷ 6 ∷ [];
}

-- the assignment inside the inner `let` is seen in the outer one, and not globally
abbrev pub outer_setq_journal : List Entry
outer_setq_journal =
    main_does 1 1 (Boundp 5) (Truth false)
    ∷ main_does 2 3 (Set 5 (Int (pos 0))) Okay
    ∷ main_does 3 5 (Boundp 6) (Truth false)
    ∷ main_does 4 7 (Set 6 (Int (pos 0))) Okay
    ∷ main_does 5 18 (Out (PrintsValue (Int (pos 5)))) Okay
    ∷ main_does 6 21 (Get 5) (Value (Int (pos 0)))
    ∷ main_does 7 22 (Finish (Returned (Int (pos 0)))) Okay
    ∷ []

-- `(defvar *x* 999999999999999999) (let ((*x* (+ *x* *x*))) (+ *x* (+ *x* *x*)))`
abbrev pub sum_past_range : PlainProgram
sum_past_range = record {
  forms =
      Tree (Defvar 5) 0 (number 999999999999999999 12 NoTrees)
      (Tree Let 32
      (Tree Plus 43 (variable 46 (variable 50 NoTrees))
      (Tree (Bind 5 0) 32 (Tree Plus 57 (variable 60 (Tree Plus 64 (variable 67 (variable 71 NoTrees)) NoTrees)) NoTrees) NoTrees))
      NoTrees);
  specials = 5 ∷ [];
}
  where
    variable : ℕ → PlainForms → PlainForms
    variable place beside = Tree (Special 5) place NoTrees beside

-- the sum signals at point 13, the binding is left at point 14, and main is aborted at point 15
abbrev pub sum_past_range_journal : List Entry
sum_past_range_journal =
    main_does 1 1 (Boundp 5) (Truth false)
    ∷ main_does 2 3 (Set 5 (Int (pos 999999999999999999))) Okay
    ∷ main_does 3 5 (Get 5) (Value (Int (pos 999999999999999999)))
    ∷ main_does 4 6 (Get 5) (Value (Int (pos 999999999999999999)))
    ∷ main_does 5 15 (Finish (Aborted (Some (record { class = IntegerRange; text = None })))) Okay
    ∷ []

-- the entries before main is aborted
abbrev pub sum_past_range_start : List Entry
sum_past_range_start =
    main_does 1 1 (Boundp 5) (Truth false)
    ∷ main_does 2 3 (Set 5 (Int (pos 999999999999999999))) Okay
    ∷ main_does 3 5 (Get 5) (Value (Int (pos 999999999999999999)))
    ∷ main_does 4 6 (Get 5) (Value (Int (pos 999999999999999999)))
    ∷ []

-- the open form of that program
abbrev pub open_let : OpenForm
open_let = record { kind = OpenBind; place = 32 }
