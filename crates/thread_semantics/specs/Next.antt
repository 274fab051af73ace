-- What a thread does next.
use Rattle.std.specs.Prelude.{ℕ, List, [], ◌∷◌, Bool, true, false, Option, Some, None, nat_lt}
use Rattle.lisp_base.specs.declared.word.Operand.{Operand}
use Rattle.environment_semantics.specs.Environment.{Binding, place_of}
use Rattle.form_points.specs.Points.{Points, Done, Ask, Test}
use Rattle.form_points.specs.declared.act.Question.{Question}
use Rattle.form_points.specs.declared.act.Question.TheVariants.{CompareAndSwap, Define, EndThread, IsBound, Print, Read, Serve, Write}
use Rattle.lisp_program.specs.declared.function.Printing.{Printing}
use Rattle.lisp_program.specs.declared.function.Printing.TheVariants as printing
use Rattle.world_semantics.specs.declared.op.Op.{Op}
use Rattle.world_semantics.specs.declared.op.Op.TheVariants.{Boundp, Finish, Get, Out, Set}
use Rattle.world_semantics.specs.declared.op.Printed.TheVariants as printed
use Rattle.world_semantics.specs.declared.phase.Ending.TheVariants.{Returned}
use Rattle.thread_semantics.specs.Acts.{top, value_of}
use Rattle.thread_semantics.specs.State.{At, Base, Control, Ended, Exit, Frame, Setting, Target, ThreadState, ToFrame}

-- a point that touches this thread alone, an operation, nothing more since the points are used up, or nothing more
pub data Next : Type 0 where
  Local : Next
  Operation : (op : Op) → Next
  OutOfPoints : Next
  Over : Next

-- where the variable is bound in this thread a local point, else an operation
abbrev pub unless_bound : Option ℕ → Op → Next
unless_bound None op = Operation op
unless_bound (Some place) op = Local

-- what comes next at a question; of printing only `print` is an operation yet, and no program that is run has the others
abbrev pub print_next : Printing → List Operand → Next
print_next printing.Print vs = Operation (Out (printed.Print (value_of (top vs))))
print_next other vs = Local

-- No program that is run has a `compare-and-swap` or a service yet.
abbrev pub asked : Question → List Operand → List Binding → Next
asked (Print printing) vs bindings = print_next printing vs
asked (Read symbol) vs bindings = unless_bound (place_of symbol bindings) (Get symbol)
asked (Write symbol) vs bindings = unless_bound (place_of symbol bindings) (Set symbol (value_of (top vs)))
asked (IsBound symbol) vs bindings = Operation (Boundp symbol)
asked (Define symbol) vs bindings = Operation (Set symbol (value_of (top vs)))
asked (CompareAndSwap symbol) vs bindings = Local
asked (Serve service step) vs bindings = Local
asked EndThread vs bindings = Operation (Finish (Returned (value_of (top vs))))

-- where a stretch is done, its frame is left, if it is in one
abbrev pub next_of_end : List Frame → Next
next_of_end [] = Over
next_of_end (f ∷ fs) = Local

abbrev pub next_in : Points → List Operand → List Frame → List Binding → Next
next_in Done vs fs bindings = next_of_end fs
next_in (Ask question place after) vs fs bindings = asked question vs bindings
next_in (Test question place more after) vs fs bindings = asked question vs bindings
next_in other vs fs bindings = Local

-- an exit leaves a frame; where none is left, an exit to the base ends the thread
abbrev pub next_of_exit : Target → List Frame → Next
next_of_exit (Base ending) [] = Operation (Finish ending)
next_of_exit (ToFrame outside value) [] = Over
next_of_exit target (f ∷ fs) = Local

abbrev pub next_by : Control → List Frame → List Binding → Next
next_by (At points vs) fs bindings = next_in points vs fs bindings
next_by (Exit target) fs bindings = next_of_exit target fs
next_by Ended fs bindings = Over

-- a thread that has points left does what comes next
abbrev pub within_limit : Bool → Next → Next
within_limit true next = next
within_limit false Over = Over
within_limit false next = OutOfPoints

-- what comes next for a thread; the limit of points is judged here alone
abbrev pub next_of : Setting → ThreadState → Next
next_of setting s = within_limit (nat_lt s.points setting.limits.steps) (next_by s.control s.frames s.environment.bindings)
