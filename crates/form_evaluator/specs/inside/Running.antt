-- What a run keeps from turn to turn.
use Rattle.std.specs.Prelude.{◌≡◌, ℕ, suc, ◌≤◌, List, [], ◌∷◌, Bool, true, false, length, is_some}
use Rattle.plain_program.specs.Program.{PlainProgram}
use Rattle.world_semantics.specs.declared.global.Global.{Global}
use Rattle.world_semantics.specs.declared.op.Op.{Op}
use Rattle.world_semantics.specs.declared.op.Op.TheVariants.{Get, Set, Boundp, Out, Finish}
use Rattle.world_semantics.specs.declared.op.Reply.{Reply}
use Rattle.world_semantics.specs.declared.op.Reply.TheVariants.{Okay, Truth}
use Rattle.world_semantics.specs.declared.phase.Phase.{Phase}
use Rattle.world_semantics.specs.declared.phase.Phase.TheVariants.{Alive, Ended}
use Rattle.world_semantics.specs.World.{World, global_of, with_global}
use Rattle.world_semantics.specs.Effect.{value_reply}
use Rattle.plain_threads.specs.State.{ThreadState}
use Rattle.plain_threads.specs.Step.{next_of, closed}
use Rattle.plain_threads.specs.declared.next.Next.TheVariants.{Operation}
use Rattle.plain_runs.specs.declared.report.FrameWord.TheVariants.{Bind}
use Rattle.plain_runs.specs.declared.report.OpenForm.{OpenForm}
use Rattle.plain_runs.specs.Replay.{AreLegal, first_configuration, after_entries}
use Rattle.plain_runs.specs.Over.{can_step}
use Rattle.form_evaluator.specs.declared.run.Run.{Run}
use Rattle.form_evaluator.specs.declared.evaluator.OpenFrame.{OpenFrame}
use Rattle.form_evaluator.specs.declared.evaluator.Evaluator.{Evaluator}
use Rattle.form_evaluator.specs.inside.Evaluator.{Stands}

-- After `taken` points the entries so far are legal and lead to main at `start`; local points alone led from there
-- to `present`, for which the evaluator stands.
pub record Ran (limit : ℕ) (p : PlainProgram) (taken : ℕ) (run : Run) : Type 0 where
  pub start : ThreadState
  pub present : ThreadState
  pub world : World
  pub legal : AreLegal limit 1 (first_configuration p) run.entries
  pub leads : after_entries limit run.entries (first_configuration p) ≡ record { world = world; threads = start ∷ []; runner = 0 }
  pub same : closed limit present ≡ closed limit start
  pub stands : Stands present run.evaluator
  pub points : present.points ≡ taken
  pub globals : world.globals ≡ run.globals
  pub phases : world.phases ≡ run.phase ∷ []
  pub few : length run.entries ≤ taken

-- main cannot go on: it has ended, or no points are left
pub record Stops (limit : ℕ) (p : PlainProgram) (run : Run) : Type 0 where
  pub taken : ℕ
  pub ran : Ran limit p taken run
  pub settled : closed limit ran.present ≡ ran.present
  pub idle : can_step limit ran.world 0 ran.present ≡ false

-- a turn takes a point, or there is nothing to take
abbrev pub Goes : ℕ → PlainProgram → ℕ → Bool → Run → Type 0
Goes limit p taken true run = Ran limit p (suc taken) run
Goes limit p taken false run = Stops limit p run

-- each state for which the evaluator stands comes to this operation next
abbrev pub AsksFor : Op → Evaluator → Type 0
AsksFor op e = (s : ThreadState) → Stands s e → Operation op ≡ next_of s

-- the phase of main after its operation: only a thread that is alive ends
abbrev pub phase_by : Op → Phase → Phase
phase_by (Get symbol) phase = phase
phase_by (Set symbol value) phase = phase
phase_by (Boundp symbol) phase = phase
phase_by (Out printed) phase = phase
phase_by (Finish ending) Alive = Ended ending
phase_by (Finish ending) (Ended before) = Ended before

-- the global values after an operation, and its reply
abbrev pub globals_by : Op → List Global → List Global
globals_by (Get symbol) globals = globals
globals_by (Set symbol value) globals = with_global symbol value globals
globals_by (Boundp symbol) globals = globals
globals_by (Out printed) globals = globals
globals_by (Finish ending) globals = globals

abbrev pub reply_by : Op → List Global → Reply
reply_by (Get symbol) globals = value_reply (global_of symbol globals)
reply_by (Set symbol value) globals = Okay
reply_by (Boundp symbol) globals = Truth (is_some (global_of symbol globals))
reply_by (Out printed) globals = Okay
reply_by (Finish ending) globals = Okay

-- the open forms that are shown, innermost first
abbrev pub shown_forms : List OpenFrame → List OpenForm
shown_forms [] = []
shown_forms (f ∷ fs) = (record { kind = Bind; place = f.place }) ∷ shown_forms fs
