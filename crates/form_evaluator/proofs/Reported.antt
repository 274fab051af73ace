-- What a run that is over leaves is the report of its last configuration.
use Rattle.std.proofs.Common.{◌≡◌, ℕ, List, [], ◌∷◌, map, refl, ap, sym, ◌∙◌}
use Rattle.lisp_base.specs.Value.{nil}
use Rattle.plain_program.specs.Program.{PlainProgram}
use Rattle.plain_threads.specs.State.{FrameKind, BindFrame, Frame, ThreadState}
use Rattle.plain_runs.specs.declared.report.FrameWord.TheVariants.{Bind}
use Rattle.plain_runs.specs.declared.report.OpenForm.{OpenForm}
use Rattle.plain_runs.specs.declared.report.PhaseReport.{PhaseReport}
use Rattle.plain_runs.specs.Replay.{Configuration, all_closed}
use Rattle.plain_runs.specs.Report.{word_for, open_forms, phase_shown, thread_lines, status_of, report_of}
use Rattle.plain_runs.specs.Run.{RunsAs}
use Rattle.form_evaluator.specs.declared.run.Run.{Run}
use Rattle.form_evaluator.specs.inside.Evaluator.{Stands, shown_frame}
use Rattle.form_evaluator.specs.inside.Running.{Stops, shown_forms}
use Rattle.form_evaluator.specs.declared.evaluator.Evaluator.{Evaluator}
use Rattle.form_evaluator.proofs.Turned.{stands-points}

word_bind : (k : FrameKind) → Bind ≡ word_for k
word_bind (BindFrame bindings) = refl

shown_all : (fs : List Frame) → shown_forms (map shown_frame fs) ≡ open_forms fs
shown_all [] = refl
shown_all (f ∷ fs) =
    ap (λ k. (record { kind = k; place = f.place }) ∷ shown_forms (map shown_frame fs)) (word_bind f.kind)
    ∙ ap (λ fs'. (record { kind = word_for f.kind; place = f.place }) ∷ fs') (shown_all fs)

pub run_over : (limit : ℕ) (p : PlainProgram) (run : Run) (status : ℕ) (phase : PhaseReport) (forms : List OpenForm) → Stops limit p run
    → ((s : ThreadState) → Stands s run.evaluator → status ≡ status_of (s ∷ []))
    → ((s : ThreadState) → Stands s run.evaluator → phase ≡ phase_shown s.control limit s.points)
    → forms ≡ shown_forms run.evaluator.frames
    → RunsAs limit p run.entries (record {
      threads = (record { name = nil; phase = run.phase; machine = record { phase = phase; points = run.evaluator.points; frames = forms } }) ∷ [];
      globals = run.globals;
      status = status;
    })
run_over limit p run status phase forms stops by_status by_phase by_forms =
    let r = stops.ran in
    let last : Configuration = record { world = r.world; threads = r.present ∷ []; runner = 0 } in
    let there : report_of limit last ≡ record { threads = thread_lines limit (run.phase ∷ []) (r.present ∷ []); globals = r.world.globals; status = status_of (r.present ∷ []) } =
    ap (λ phases. record { threads = thread_lines limit phases (r.present ∷ []); globals = r.world.globals; status = status_of (r.present ∷ []) }) r.phases in
    let frames : forms ≡ open_forms r.present.frames =
    by_forms ∙ ap (λ (e : Evaluator). shown_forms e.frames) r.stands.shown ∙ shown_all r.present.frames in
    record {
      last = last;
      replays = record {
        legal = r.legal;
        last = ap (λ s. record { world = r.world; threads = s ∷ []; runner = 0 }) (sym stops.settled ∙ r.same) ∙ sym (ap (all_closed limit) r.leads);
      };
      over = (stops.idle, tt);
      reported = rw (by_status r.present r.stands, by_phase r.present r.stands, frames, stands-points r.present run.evaluator r.stands, ← r.globals) refl ∙ sym there;
    }
