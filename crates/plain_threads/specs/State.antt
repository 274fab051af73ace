-- The state of one thread.
use Rattle.std.specs.Prelude.{ℕ, List, []}
use Rattle.lisp_base.specs.declared.value.Node.{Node}
use Rattle.world_semantics.specs.declared.phase.Ending.{Ending}
use Rattle.environment_semantics.specs.Environment.{Binding}
use Rattle.plain_program.specs.Forms.{PlainForms}
use Rattle.plain_program.specs.Points.{Points, main_points}

-- the kinds of frames, which an exit leaves one by one: a binding, with the map at its entry
pub data FrameKind : Type 0 where
  BindFrame : (bindings : List Binding) → FrameKind

-- An open form: its kind and place, the points that go on when it is left with a value, and the values that wait for these.
pub record Frame : Type 0 where
  pub kind : FrameKind
  pub place : ℕ
  pub after : Points
  pub values : List Node

-- where an exit leads: to the thread's base, where the thread ends in this way
pub data Target : Type 0 where
  Base : (ending : Ending) → Target

-- What a thread is about to do: to take the first of these points, with the values that wait for them, the newest
-- first; to leave to a target, one frame at each point; or nothing, since it has ended.
pub data Control : Type 0 where
  At : (points : Points) (values : List Node) → Control
  Exit : (target : Target) → Control
  Ended : Control

-- the dynamic environment of a thread: the place that each special variable names which it has bound
pub record Environment : Type 0 where
  pub bindings : List Binding

-- what the thread does, its open forms, innermost first, its environment, its store, and how many points it took
pub record ThreadState : Type 0 where
  pub control : Control
  pub frames : List Frame
  pub environment : Environment
  pub store : List Node
  pub points : ℕ

-- main before its first point
abbrev pub first_state : PlainForms → ThreadState
first_state f = record { control = At (main_points f) []; frames = []; environment = record { bindings = [] }; store = []; points = 0 }
