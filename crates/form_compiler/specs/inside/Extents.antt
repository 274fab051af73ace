-- How many lines, nodes and parts each form has.
use Rattle.std.specs.Prelude.{ℕ, zero, suc, ◌+◌, ◌-◌, min, List, [], ◌∷◌, true, false}
use Rattle.lisp_base.specs.Forest.{NoTrees, Tree, count_of, front}
use Rattle.lisp_program.specs.declared.form.CoreKind.{CoreKind}
use Rattle.lisp_program.specs.declared.form.CoreKind.TheVariants.{Constant, CurrentThread, Function, Local, Special, SetLocal, SetSpecial, Defvar, Defparameter, Defun, CompareAndSwap, Progn, If, While, Let, BindLocal, BindSpecial, Call, Apply, Print, Serve, Block, ReturnFrom, Catch, Throw, UnwindProtect, WithoutInterrupts, AllowWithInterrupts, WithInterrupts, HandlerCase, Clause, ClauseWith, Signal, WithDeadline, AbortThread, ReturnFromThread}
use Rattle.lisp_program.specs.declared.form.FormNode.{FormNode}
use Rattle.lisp_program.specs.declared.function.Service.{Service}
use Rattle.lisp_program.specs.declared.function.Service.TheVariants.{MakeThread, JoinThread, InterruptThread, ThreadAlive, MakeMutex, MakeWaitqueue, GrabMutex, ReleaseMutex, MutexOwner, HoldingMutex, ConditionWait, ConditionNotify, ConditionBroadcast, Sleep, MakeTimer, ScheduleTimer, UnscheduleTimer}
use Rattle.lisp_program.specs.Forms.{Forms, forms_of}
use Rattle.form_points.specs.Operands.{operands_of, printed_of, served_of, written}
use Rattle.form_points.specs.Table.{points_of, table}
use Rattle.lisp_code.specs.Lines.{size}
use Rattle.form_compiler.specs.declared.extent.Extent.{Extent}
use Rattle.form_compiler.specs.declared.row.Others.{Others}
use Rattle.form_compiler.specs.declared.row.Others.TheVariants.{PassedOver, Body, InTurn}
use Rattle.form_compiler.specs.declared.row.Row.{Row}

-- numbers of lines are counted so far, and no further
abbrev pub MOST : ℕ
MOST = 65537

-- how many nodes these forms take
abbrev pub nodes_in : Forms → ℕ
nodes_in NoTrees = 0
nodes_in (Tree k p under beside) = suc (nodes_in under + nodes_in beside)

-- the lines of the first n forms
abbrev pub lines_in : ℕ → Forms → ℕ
lines_in zero f = 0
lines_in (suc n) NoTrees = 0
lines_in (suc n) (Tree k p under beside) = size (table k p (points_of under)) + lines_in n beside

-- the first so many forms, and the lines of as many of them as are used
abbrev pub under_of : (used parts : ℕ) → Forms → Extent
under_of used parts f = record { lines = min (lines_in used (front parts f)) MOST; nodes = nodes_in (front parts f); forms = count_of (front parts f) }

-- the extent of a form that begins with this node, before these forms
abbrev pub extent_of : FormNode → Forms → Extent
extent_of n f = record { lines = min (size (table n.kind n.place (points_of (front n.parts f)))) MOST; nodes = suc (nodes_in (front n.parts f)); forms = count_of (front n.parts f) }

-- the extent of the form that begins at each node
abbrev pub extents_of : List FormNode → List Extent
extents_of [] = []
extents_of (n ∷ ns) = extent_of n (forms_of ns) ∷ extents_of ns

-- so many operands, and so many lines
abbrev pub alone : (operands lines : ℕ) → Row
alone operands lines = record { operands = operands; others = PassedOver; lines = lines }

-- so many operands, a body, and so many lines
abbrev pub with_body : (operands lines : ℕ) → Row
with_body operands lines = record { operands = operands; others = Body; lines = lines }

-- so many operands, the others in turn, and so many lines
abbrev pub in_turn : (operands lines : ℕ) → Row
in_turn operands lines = record { operands = operands; others = InTurn; lines = lines }

-- how many lines a service has
abbrev pub service_lines : Service → ℕ
service_lines (JoinThread default true) = 3
service_lines (JoinThread default false) = 1
service_lines (GrabMutex waitp true) = 3
service_lines (GrabMutex true false) = 2
service_lines (GrabMutex false false) = 1
service_lines (ConditionWait true) = 4
service_lines (ConditionWait false) = 3
service_lines Sleep = 2
service_lines (ScheduleTimer repeat catch_up) = 2
service_lines (MakeThread name arguments) = 1
service_lines InterruptThread = 1
service_lines ThreadAlive = 1
service_lines (MakeMutex name) = 1
service_lines (MakeWaitqueue name) = 1
service_lines (ReleaseMutex rule) = 1
service_lines MutexOwner = 1
service_lines HoldingMutex = 1
service_lines (ConditionNotify count) = 1
service_lines ConditionBroadcast = 1
service_lines (MakeTimer name thread) = 1
service_lines UnscheduleTimer = 1

-- how the points of a form of this kind are made of those of the forms under it
abbrev pub row_of : CoreKind → Row
row_of (Constant v) = alone 0 1
row_of CurrentThread = alone 0 1
row_of (Function name) = alone 0 1
row_of (Local x) = alone 0 1
row_of (Special s) = alone 0 1
row_of (SetLocal x) = alone 1 1
row_of (SetSpecial s) = alone 1 1
row_of (Defvar s) = alone 1 2
row_of (Defparameter s) = alone 1 1
row_of (Defun f) = alone 0 1
row_of (CompareAndSwap s) = alone 2 1
row_of Progn = with_body 0 0
row_of If = alone 3 2
row_of While = with_body 1 3
row_of Let = in_turn 0 0
row_of (BindLocal x above) = with_body 0 2
row_of (BindSpecial s above) = with_body 0 2
row_of (Call f) = in_turn 0 1
row_of (Apply f) = alone (operands_of f) 1
row_of (Print printing) = alone (printed_of printing) 1
row_of (Serve service) = alone (served_of service) (service_lines service)
row_of (Block b) = with_body 0 2
row_of (ReturnFrom b) = alone 1 1
row_of Catch = with_body 1 2
row_of Throw = alone 2 1
row_of UnwindProtect = with_body 1 3
row_of (WithoutInterrupts r) = with_body 0 2
row_of (AllowWithInterrupts r) = with_body 0 2
row_of WithInterrupts = with_body 0 2
row_of HandlerCase = in_turn 1 2
row_of (Clause class) = with_body 0 1
row_of (ClauseWith class x) = with_body 0 3
row_of (Signal condition) = alone 0 1
row_of (WithDeadline seconds replaces) = with_body (written seconds replaces) 2
row_of AbortThread = alone 0 1
row_of ReturnFromThread = alone 1 1

-- how many of the forms under it are used, where there are so many
abbrev pub used_of : Others → (operands parts : ℕ) → ℕ
used_of PassedOver operands parts = operands
used_of Body operands parts = parts
used_of InTurn operands parts = parts

-- the same for a row
abbrev pub used : Row → ℕ → ℕ
used row parts = used_of row.others row.operands parts

-- the lines of a body besides those of its forms
abbrev pub gaps : ℕ → ℕ
gaps zero = 1
gaps (suc n) = n

-- the lines of the forms after the operands, besides their own
abbrev pub between : Others → ℕ → ℕ
between PassedOver forms = 0
between Body forms = gaps forms
between InTurn forms = 0

-- the lines of a form with so many forms under it, of which those that are used have so many lines
abbrev pub row_lines : Row → (forms lines : ℕ) → ℕ
row_lines row forms lines = lines + (row.operands - forms) + between row.others (forms - row.operands) + row.lines

-- so many more are used: the lines of one of them
abbrev pub added : ℕ → ℕ → ℕ
added zero lines = 0
added (suc n) lines = lines
