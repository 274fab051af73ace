-- The state of one thread.
use Rattle.std.specs.Prelude.{ℕ, List, Bool}
use Rattle.lisp_base.specs.Limits.{Numbers}
use Rattle.lisp_base.specs.declared.condition.Class.{Class}
use Rattle.lisp_base.specs.declared.word.Operand.{Operand}
use Rattle.lisp_program.specs.Program.{Function}
use Rattle.environment_semantics.specs.Environment.{Binding}
use Rattle.form_points.specs.Points.{Points, settled}
use Rattle.world_semantics.specs.declared.phase.Ending.{Ending}

-- Where an exit leads: to the thread's base, where the thread ends in this way, or to the frame that has so many frames outside it,
-- which takes the value.
pub data Target : Type 0 where
  Base : (ending : Ending) → Target
  ToFrame : (outside : ℕ) (value : Operand) → Target

-- what a cleanup keeps until it is done: the value of the form that it protects, or the exit that left this form
pub data Kept : Type 0 where
  KeptValue : (value : Operand) → Kept
  KeptExit : (target : Target) → Kept

-- a clause of a handler: the class that it is for, whether it is given the condition, and what is done
pub record Clause : Type 0 where
  pub class : Class
  pub is_given : Bool
  pub chosen : Points

-- the kinds of frames
pub data FrameKind : Type 0 where
  -- a call, with the variables of its caller
  CallFrame : (variables : List Operand) → FrameKind
  -- a binding of a special variable, with the map at its entry
  BindFrame : (bindings : List Binding) → FrameKind
  -- a block, with the number of its entry
  BlockFrame : (entry : ℕ) → FrameKind
  -- a `catch`, with its tag
  CatchFrame : (tag : Operand) → FrameKind
  -- a form that is protected, with its cleanup
  ProtectFrame : (cleanup : Points) → FrameKind
  -- a cleanup that has begun, with what it keeps
  CleanupFrame : (kept : Kept) → FrameKind
  -- a form with handlers
  HandlerFrame : (clauses : List Clause) → FrameKind

-- An open form: its kind, how many frames the thread had opened before it, its place, the points that go on when it is left with a
-- value, and the operands that wait for these.
pub record Frame : Type 0 where
  pub kind : FrameKind
  pub number : ℕ
  pub place : ℕ
  pub after : Points
  pub values : List Operand

-- What a thread is about to do: to take the first of these points, with the operands that wait for them, the newest first; to leave to
-- a target, one frame at each point; or nothing, since it has ended.
pub data Control : Type 0 where
  At : (points : Points) (values : List Operand) → Control
  Exit : (target : Target) → Control
  Ended : Control

-- a thread is about to take these points; where they begin with a loop, the loop's test comes first
abbrev pub at : Points → List Operand → Control
at points values = At (settled points) values

-- the dynamic environment of a thread: the place that each special variable names which it has bound
pub record Environment : Type 0 where
  pub bindings : List Binding

-- the thread's number, what it does, its open forms, innermost first, the lexical variables by number, its environment, what its places
-- hold, how many frames it opened, and how many points it took
pub record ThreadState : Type 0 where
  pub thread : ℕ
  pub control : Control
  pub frames : List Frame
  pub variables : List Operand
  pub environment : Environment
  pub store : List Operand
  pub pushed : ℕ
  pub points : ℕ

-- what is the same in a whole run: the program's functions, with that of `terminate-thread`, and the numbers that the run is given
pub record Setting : Type 0 where
  pub functions : List Function
  pub limits : Numbers
