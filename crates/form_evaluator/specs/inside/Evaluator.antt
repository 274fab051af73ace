-- How the evaluator shows the state of a thread.
use Rattle.std.specs.Prelude.{◌≡◌, List, [], ◌∷◌, ◌++◌, map}
use Rattle.lisp_base.specs.declared.value.Node.{Node}
use Rattle.environment_semantics.specs.Environment.{Binding}
use Rattle.binding_stack.specs.Stack.{Bound}
use Rattle.plain_program.specs.declared.steps.Step.{Step}
use Rattle.plain_program.specs.declared.steps.Step.TheVariants.{Leave}
use Rattle.plain_program.specs.inside.Steps.{steps_of}
use Rattle.plain_threads.specs.State.{FrameKind, BindFrame, Frame, Base, Control, At, Exit, Ended, ThreadState}
use Rattle.form_evaluator.specs.declared.evaluator.Doing.{Doing}
use Rattle.form_evaluator.specs.declared.evaluator.Doing.TheVariants.{Running, Leaving, Over}
use Rattle.form_evaluator.specs.declared.evaluator.OpenFrame.{OpenFrame}
use Rattle.form_evaluator.specs.declared.evaluator.Evaluator.{Evaluator}

-- the steps that wait with the open frames, innermost first: each frame is left, and goes on
abbrev pub waiting_steps : List Frame → List Step
waiting_steps [] = []
waiting_steps (f ∷ fs) = Leave ∷ (steps_of f.after ++ waiting_steps fs)

-- what is shown of an open frame
abbrev pub shown_frame : Frame → OpenFrame
shown_frame f = record { place = f.place; values = f.values }

-- a binding, whose word is the place that the symbol names
abbrev pub shown_binding : Binding → Bound
shown_binding b = record { symbol = b.symbol; word = b.place }

-- what the thread is about, the steps ahead and the values at hand, by its control
abbrev pub doing_of : Control → Doing
doing_of (At points values) = Running
doing_of (Exit (Base ending)) = Leaving ending
doing_of Ended = Over

abbrev pub ahead_of : Control → List Frame → List Step
ahead_of (At points values) frames = steps_of points ++ waiting_steps frames
ahead_of (Exit target) frames = []
ahead_of Ended frames = []

abbrev pub values_of : Control → List Node
values_of (At points values) = values
values_of (Exit target) = []
values_of Ended = []

-- the evaluator of a state
abbrev pub shown_of : ThreadState → Evaluator
shown_of s =
    record {
      doing = doing_of s.control;
      ahead = ahead_of s.control s.frames;
      values = values_of s.control;
      frames = map shown_frame s.frames;
      bindings = map shown_binding s.environment.bindings;
      store = s.store;
      points = s.points;
    }

-- the map that a frame holds
abbrev pub held_map : FrameKind → List Binding
held_map (BindFrame bindings) = bindings

-- each frame holds the map as it was before its binding
abbrev pub Nested : List Binding → List Frame → Type 0
Nested bindings [] = bindings ≡ []
Nested bindings (f ∷ fs) = (b : Binding) × (bindings ≡ b ∷ held_map f.kind) × Nested (held_map f.kind) fs

-- the evaluator stands for a state whose frames hold the maps that are nested in its own
pub record Stands (s : ThreadState) (e : Evaluator) : Type 0 where
  pub shown : e ≡ shown_of s
  pub nested : Nested s.environment.bindings s.frames
