-- What is answered to words and bytes, from what was read and run.
use Rattle.std.proofs.Common.{◌≡◌, ℕ, suc, ◌==◌, length, Result, Ok, Err, IfOk, inl, inr, List, [], ◌∷◌, ◌++◌, Bool, true, false, cond, refl, ap, sym, subst, ◌∙◌, arith}
use Rattle.std.proofs.Math.Dec.{eqb-suc-zero}
use Rattle.lisp_base.specs.declared.memory.Memory.{Memory}
use Rattle.plain_program.specs.Program.{PlainProgram}
use Rattle.plain_threads.specs.State.{ThreadState}
use Rattle.plain_runs.specs.declared.report.Report.{Report}
use Rattle.plain_runs.specs.Run.{RunsAs}
use Rattle.plain_runs.specs.Report.{status_of, has_ended}
use Rattle.lisp_reader.specs.Tables.{Tables, tables_of}
use Rattle.lisp_session.specs.Programs.{IsRefused, NeverBoth, OneRefusal, Reads}
use Rattle.lisp_journal.specs.Journal.{journal_text}
use Rattle.lisp_journal.specs.Report.{report_text}
use Rattle.lisp_session.specs.Headline.{are_accepted, steps, IsRunText, IsRunStatus}
use Rattle.lisp_session.specs.Answers.{Answers, LeftBy, Says, answer_status, answer_text}
use Rattle.lisp_session.specs.declared.answer.Answer.{Answer}
use Rattle.lisp_session.specs.declared.answer.Answer.TheVariants.{Ran, Refused, RefusedWords}
use Rattle.lisp_session.specs.declared.answer.RunLeft.{RunLeft}

-- there are two statuses of a run
run_status : (threads : List ThreadState) → IsRunStatus (status_of threads)
run_status [] = inl refl
run_status (s ∷ ss) = by_end (has_ended s.control) (status_of ss) (run_status ss)
  where
    by_end : (b : Bool) (n : ℕ) → IsRunStatus n → IsRunStatus (cond b n 3)
    by_end true n h = h
    by_end false n h = inr refl

-- the status that a run reports is that of its last state
which_of : (bytes : List ℕ) (run : RunLeft) (h : LeftBy bytes run) → run.report.status ≡ status_of h.runs.last.threads
which_of bytes run h = ap (λ (x : Report). x.status) h.runs.reported

-- it is a status of a run
pub ran_status : (bytes : List ℕ) (run : RunLeft) → LeftBy bytes run → IsRunStatus run.report.status
ran_status bytes run h = subst (λ n. IsRunStatus n) (sym (which_of bytes run h)) (run_status h.runs.last.threads)

-- journal and report of a run are its text
pub run_text : (bytes : List ℕ) (run : RunLeft) → LeftBy bytes run → IsRunText bytes (answer_text (Ran run)) run.report.status
run_text bytes run h = record {
  program = h.program;
  tables = tables_of run.symbols run.texts;
  reads = h.reads;
  journal = run.entries;
  last = h.runs.last;
  replays = h.runs.replays;
  over = h.runs.over;
  written = ap (λ (x : Report). journal_text run.symbols run.texts run.entries ++ report_text run.symbols run.texts x) h.runs.reported;
  which = which_of bytes run h;
}

-- no refusal has the status of a run
pub no_run : (n : ℕ) → IsRunStatus n → n ≡ 4 → ⊥
no_run n (inl z) f = absurd (omega arith)
no_run n (inr t) f = absurd (omega arith)

pub no_run_of_words : (n : ℕ) → IsRunStatus n → n ≡ 2 → ⊥
no_run_of_words n (inl z) f = absurd (omega arith)
no_run_of_words n (inr t) f = absurd (omega arith)

pub both : (b : Bool) → b ≡ true → b ≡ false → ⊥
both b t f = cc

-- what is answered is so, and with the laws that is all that is promised
pub answered : NeverBoth → OneRefusal → (accepted : Bool) (bytes : List ℕ) (answer : Answer) → Says accepted bytes answer → Answers accepted bytes answer
answered never once accepted bytes (Ran run) h = record {
  says = h;
  headline = λ _. (h.0, run_text bytes run h.1);
  complete = λ tables program a reads. ran_status bytes run h.1;
  refuses = λ refusal place a refused. absurd (never bytes (tables_of run.symbols run.texts) h.1.program refusal place h.1.reads refused);
  refuses_words = λ a. absurd (both accepted h.0 a);
}
answered never once accepted bytes (Refused refusal place) h = record {
  says = h;
  headline = λ s. absurd (no_run 4 s refl);
  complete = λ tables program a reads. absurd (never bytes tables program refusal place reads h.1);
  refuses = λ n p a refused. let same = once bytes refusal n place p h.1 refused in ap (λ x. Refused x place) same.0 ∙ ap (λ x. Refused n x) same.1;
  refuses_words = λ a. absurd (both accepted h.0 a);
}
answered never once accepted bytes RefusedWords h = record {
  says = h;
  headline = λ s. absurd (no_run_of_words 2 s refl);
  complete = λ tables program a reads. absurd (both accepted a h);
  refuses = λ n p a refused. absurd (both accepted a h);
  refuses_words = λ a. refl;
}

no_length : (n : ℕ) → (suc n == 0) ≡ true → ⊥
no_length n e = let h : false ≡ true = sym (eqb-suc-zero n) ∙ e in cc

-- words that are none are accepted
pub no_words : {W : Type 0} (words : List W) → (length words == 0) ≡ true → are_accepted words ≡ true
no_words [] e = refl
no_words (word ∷ words) e = absurd (no_length (length words) e)

-- other words are not
pub some_words : {W : Type 0} (words : List W) → (length words == 0) ≡ false → are_accepted words ≡ false
some_words [] e = cc
some_words (word ∷ words) e = refl

-- the same of what is answered where memory did not run out
pub answered_ok : (result : Result Answer Memory) (accepted : Bool) (bytes : List ℕ) → NeverBoth → OneRefusal → accepted ≡ true
    → IfOk result (Says true bytes) → IfOk result (Answers accepted bytes)
answered_ok (Ok answer) accepted bytes never once a h =
    answered never once accepted bytes answer (subst (λ (b : Bool). Says b bytes answer) (sym a) h)
answered_ok (Err e) accepted bytes never once a h = tt
