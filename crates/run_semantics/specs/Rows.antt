-- Worked programs with their journals and reports. Places are left out, as 0, but for those that a report shows.
use Rattle.std.specs.Prelude.{ℕ, pos, List, [], ◌∷◌, Some, None, false}
use Rattle.lisp_base.specs.Forest.{NoTrees, Tree}
use Rattle.lisp_base.specs.Limits.{Numbers}
use Rattle.lisp_base.specs.Value.{nil}
use Rattle.lisp_base.specs.declared.condition.Class.TheVariants.{IntegerRange}
use Rattle.lisp_base.specs.declared.id.Actor.TheVariants.{Thread}
use Rattle.lisp_base.specs.declared.value.Node.{Node}
use Rattle.lisp_base.specs.declared.value.Node.TheVariants.{Int}
use Rattle.lisp_program.specs.Forms.{Forms}
use Rattle.lisp_program.specs.Program.{Program}
use Rattle.lisp_program.specs.declared.form.CoreKind.TheVariants as k
use Rattle.lisp_program.specs.declared.function.Primitive.TheVariants.{Add}
use Rattle.lisp_program.specs.declared.function.Printing.TheVariants as printing
use Rattle.world_semantics.specs.declared.entry.Entry.{Entry}
use Rattle.world_semantics.specs.declared.global.Global.{Global}
use Rattle.world_semantics.specs.declared.op.Op.{Op}
use Rattle.world_semantics.specs.declared.op.Op.TheVariants.{Boundp, Finish, Get, Out, Set}
use Rattle.world_semantics.specs.declared.op.Printed.TheVariants.{Print}
use Rattle.world_semantics.specs.declared.op.Reply.{Reply}
use Rattle.world_semantics.specs.declared.op.Reply.TheVariants.{Okay, Truth, Value}
use Rattle.world_semantics.specs.declared.phase.Ending.{Ending}
use Rattle.world_semantics.specs.declared.phase.Ending.TheVariants.{Aborted, Returned}
use Rattle.world_semantics.specs.declared.phase.Phase.TheVariants.{Alive, Ended}
use Rattle.run_semantics.specs.declared.report.FrameWord.TheVariants as word
use Rattle.run_semantics.specs.declared.report.OpenForm.{OpenForm}
use Rattle.run_semantics.specs.declared.report.PhaseReport.TheVariants.{Ended as IsEnded, OutOfPoints}
use Rattle.run_semantics.specs.declared.report.Report.{Report}
use Rattle.thread_semantics.specs.Rows.{form, main_of, number}

-- so many points for each thread
abbrev pub points_to : ℕ → Numbers
points_to steps = record { steps = steps; look = 16; workers = 1 }

-- an entry of main
abbrev pub main_does : (ticket point : ℕ) → Op → Reply → Entry
main_does ticket point op reply = record { ticket = ticket; actor = Thread 0; point = point; op = op; reply = reply }

-- main is the only thread, and ended after so many points
abbrev pub main_ended : ℕ → Ending → List Global → Report
main_ended points ending globals = record {
  threads = (record { name = nil; phase = Ended ending; machine = record { phase = IsEnded; points = points; frames = [] } }) ∷ [];
  globals = globals;
  status = 0;
}

-- main is the only thread, and out of points with these forms open
abbrev pub main_out : ℕ → List OpenForm → List Global → Report
main_out points frames globals = record {
  threads = (record { name = nil; phase = Alive; machine = record { phase = OutOfPoints; points = points; frames = frames } }) ∷ [];
  globals = globals;
  status = 3;
}

-- a special variable with its global value
abbrev pub has_value : ℕ → Node → Global
has_value symbol value = record { symbol = symbol; value = Some value }

-- a sum, a print, and the special variable 5, before others
abbrev pub sum : Forms → Forms → Forms
sum args beside = form (k.Apply Add) args beside

abbrev pub printed : Forms → Forms → Forms
printed value beside = form (k.Print printing.Print) value beside

abbrev pub special : Forms → Forms
special beside = form (k.Special 5) NoTrees beside

-- `(print (+ 1 2))`
abbrev pub printed_sum : Program
printed_sum = main_of (printed (sum (number 1 (number 2 NoTrees)) NoTrees) NoTrees)

-- its journal: `out` at point 4, `finish` at point 5
abbrev pub printed_sum_journal : List Entry
printed_sum_journal = main_does 1 4 (Out (Print (Int (pos 3)))) Okay ∷ main_does 2 5 (Finish (Returned (Int (pos 3)))) Okay ∷ []

-- `(defvar *x* 0) (defvar *y* 0) (let ((*x* 1)) (let ((*y* 2)) (setq *x* 5)) (print *x*)) *x*`, where *X* is symbol 5 and *Y* symbol 6
abbrev pub outer_setq : Program
outer_setq = record {
  forms =
      form (k.Defvar 5) (number 0 NoTrees)
      (form (k.Defvar 6) (number 0 NoTrees)
      (form k.Let
      (number 1
      (form (k.BindSpecial 5 0)
      (form k.Let (number 2 (form (k.BindSpecial 6 0) (form (k.SetSpecial 5) (number 5 NoTrees) NoTrees) NoTrees))
      (printed (special NoTrees) NoTrees))
      NoTrees))
      (special NoTrees)));
  functions = [];
  specials = 5 ∷ 6 ∷ [];
}

-- the assignment inside the inner `let` is seen in the outer one, and not globally
abbrev pub outer_setq_journal : List Entry
outer_setq_journal =
    main_does 1 1 (Boundp 5) (Truth false)
    ∷ main_does 2 3 (Set 5 (Int (pos 0))) Okay
    ∷ main_does 3 5 (Boundp 6) (Truth false)
    ∷ main_does 4 7 (Set 6 (Int (pos 0))) Okay
    ∷ main_does 5 18 (Out (Print (Int (pos 5)))) Okay
    ∷ main_does 6 21 (Get 5) (Value (Int (pos 0)))
    ∷ main_does 7 22 (Finish (Returned (Int (pos 0)))) Okay
    ∷ []

-- `(defvar *x* 4611686018427387903) (let ((*x* *x*)) (+ *x* 1))`, with the `let` at place 32
abbrev pub sum_past_range : Program
sum_past_range = record {
  forms =
      form (k.Defvar 5) (number 4611686018427387903 NoTrees)
      (Tree k.Let 32 (special (Tree (k.BindSpecial 5 0) 32 (sum (special (number 1 NoTrees)) NoTrees) NoTrees)) NoTrees);
  functions = [];
  specials = 5 ∷ [];
}

-- the entries before the sum signals
abbrev pub sum_past_range_start : List Entry
sum_past_range_start =
    main_does 1 1 (Boundp 5) (Truth false)
    ∷ main_does 2 3 (Set 5 (Int (pos 4611686018427387903))) Okay
    ∷ main_does 3 5 (Get 5) (Value (Int (pos 4611686018427387903)))
    ∷ []

-- the sum signals at point 9, the binding is left at point 10, and main is aborted at point 11
abbrev pub sum_past_range_journal : List Entry
sum_past_range_journal =
    main_does 1 1 (Boundp 5) (Truth false)
    ∷ main_does 2 3 (Set 5 (Int (pos 4611686018427387903))) Okay
    ∷ main_does 3 5 (Get 5) (Value (Int (pos 4611686018427387903)))
    ∷ main_does 4 11 (Finish (Aborted (Some (record { class = IntegerRange; text = None })))) Okay
    ∷ []

-- the open form of that program
abbrev pub open_let : OpenForm
open_let = record { kind = word.Bind; place = 32 }

-- an open call
abbrev pub open_call : OpenForm
open_call = record { kind = word.Call; place = 0 }
