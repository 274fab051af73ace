-- Frames that are opened, left with a value, and left by an exit.
use Rattle.std.specs.Prelude.{ℕ, suc, List, [], ◌∷◌, Bool, true, false, Option, Some, None, ◌==◌, if◌then◌else◌, nat_lt, length}
use Rattle.lisp_base.specs.declared.condition.Class.{Class}
use Rattle.lisp_base.specs.declared.condition.Class.TheVariants.{ControlError}
use Rattle.lisp_base.specs.declared.condition.Condition.{Condition}
use Rattle.lisp_base.specs.declared.value.Node.{Node}
use Rattle.lisp_base.specs.declared.value.Node.TheVariants.{Cond}
use Rattle.lisp_base.specs.declared.word.Operand.{Operand}
use Rattle.lisp_base.specs.declared.word.Operand.TheVariants.{Value}
use Rattle.form_points.specs.Points.{Points, joined}
use Rattle.world_semantics.specs.declared.phase.Ending.TheVariants.{Aborted}
use Rattle.thread_semantics.specs.Acts.{top, value_of}
use Rattle.thread_semantics.specs.Exits.{clause_for, found, is_handler}
use Rattle.thread_semantics.specs.State.{Base, BindFrame, BlockFrame, CallFrame, CatchFrame, Clause, CleanupFrame, Exit, Frame, FrameKind, HandlerFrame, Kept, KeptExit, KeptValue, ProtectFrame, Target, ThreadState, ToFrame, at}

-- the thread goes on with these points and operands
abbrev pub goes_on : Points → List Operand → ThreadState → ThreadState
goes_on after vs s = record s { control = at after vs }

-- the thread leaves to a target
abbrev pub leaves_to : Target → ThreadState → ThreadState
leaves_to target s = record s { control = Exit target }

-- a condition goes to the first handler in force that has a clause for it; where there is none, the thread is aborted with it
abbrev pub signalled : Option ℕ → Condition → ThreadState → ThreadState
signalled None c s = leaves_to (Base (Aborted (Some c))) s
signalled (Some outside) c s = leaves_to (ToFrame outside (Value (Cond c))) s

abbrev pub signal : Condition → ThreadState → ThreadState
signal c s = signalled (found (is_handler c.class) s.frames) c s

-- a condition of this class without a text
abbrev pub signal_class : Class → ThreadState → ThreadState
signal_class class s = signal (record { class = class; text = None }) s

-- an exit to the frame that was found, with a value; where none was found, `control-error` is signalled
abbrev pub exit_to : Option ℕ → Operand → ThreadState → ThreadState
exit_to None v s = signal_class ControlError s
exit_to (Some outside) v s = leaves_to (ToFrame outside v) s

-- there may be 4,096 frames
abbrev pub has_room : ThreadState → Bool
has_room s = nat_lt (length s.frames) 4096

-- a frame is opened, in which these points begin with these operands
abbrev pub within : FrameKind → (place : ℕ) → (after : Points) → (values : List Operand) → (body : Points) → (operands : List Operand) → ThreadState → ThreadState
within kind place after values body operands s =
    record s {
      control = at body operands;
      frames = (record { kind = kind; number = s.pushed; place = place; after = after; values = values }) ∷ s.frames;
      pushed = suc s.pushed;
    }

-- what a frame puts back when it is left: a call the variables of its caller, a binding the map at its entry
abbrev pub put_back : FrameKind → ThreadState → ThreadState
put_back (CallFrame variables) s = record s { variables = variables }
put_back (BindFrame bindings) s = record s { environment = record s.environment { bindings = bindings } }
put_back kind s = s

-- a frame is left with a value, which goes to the points that wait
abbrev pub given : Operand → Frame → List Frame → ThreadState → ThreadState
given v f fs s = put_back f.kind (record s { control = at f.after (v ∷ f.values); frames = fs })

-- a Protect frame turns into a Cleanup frame that keeps this, and the cleanup begins
abbrev pub cleaning : Kept → Points → Frame → List Frame → ThreadState → ThreadState
cleaning kept cleanup f fs s = record s { control = at cleanup []; frames = record f { kind = CleanupFrame kept } ∷ fs }

-- what a cleanup kept goes on when it is done
abbrev pub resumed : Kept → Frame → List Frame → ThreadState → ThreadState
resumed (KeptValue v) f fs s = given v f fs s
resumed (KeptExit target) f fs s = record s { control = Exit target; frames = fs }

-- What leaving a frame with a value does, by its kind. The value of a cleanup is forgotten.
abbrev pub left_by : FrameKind → Operand → Frame → List Frame → ThreadState → ThreadState
left_by (ProtectFrame cleanup) v f fs s = cleaning (KeptValue v) cleanup f fs s
left_by (CleanupFrame kept) v f fs s = resumed kept f fs s
left_by kind v f fs s = given v f fs s

-- the innermost frame is left with the first operand
abbrev pub leave_step : List Frame → List Operand → ThreadState → ThreadState
leave_step [] vs s = s
leave_step (f ∷ fs) vs s = left_by f.kind (top vs) f fs s

-- An exit leaves a frame that is not its target. A Protect frame turns, and keeps the exit. A cleanup is given up, with what it keeps.
abbrev pub passed_by : FrameKind → Target → Frame → List Frame → ThreadState → ThreadState
passed_by (ProtectFrame cleanup) target f fs s = cleaning (KeptExit target) cleanup f fs s
passed_by kind target f fs s = put_back kind (record s { frames = fs })

-- the condition where it is given, before the other operands
abbrev pub with_condition : Bool → Operand → List Operand → List Operand
with_condition true condition vs = condition ∷ vs
with_condition false condition vs = vs

-- a clause is done outside its frame, and then what waited for the frame
abbrev pub caught : Option Clause → Operand → Frame → List Frame → ThreadState → ThreadState
caught None condition f fs s = record s { frames = fs }
caught (Some c) condition f fs s =
    record s { control = at (joined c.chosen f.after) (with_condition c.is_given condition f.values); frames = fs }

-- the clause for the condition that an operand is
abbrev pub clause_of : Node → List Clause → Option Clause
clause_of (Cond c) clauses = clause_for c.class clauses
clause_of v clauses = None

-- An exit reaches its target. No exit has a frame of another kind as its target, and such a frame is passed like any.
abbrev pub reached_by : FrameKind → Operand → Target → Frame → List Frame → ThreadState → ThreadState
reached_by (BlockFrame entry) v target f fs s = given v f fs s
reached_by (CatchFrame tag) v target f fs s = given v f fs s
reached_by (HandlerFrame clauses) v target f fs s = caught (clause_of (value_of v) clauses) v f fs s
reached_by kind v target f fs s = passed_by kind target f fs s

-- an exit at a frame
abbrev pub exit_at : Target → Frame → List Frame → ThreadState → ThreadState
exit_at (Base ending) f fs s = passed_by f.kind (Base ending) f fs s
exit_at (ToFrame outside v) f fs s =
    if length fs == outside then reached_by f.kind v (ToFrame outside v) f fs s else passed_by f.kind (ToFrame outside v) f fs s

-- an exit leaves the innermost frame
abbrev pub exit_step : Target → List Frame → ThreadState → ThreadState
exit_step target [] s = s
exit_step target (f ∷ fs) s = exit_at target f fs s
