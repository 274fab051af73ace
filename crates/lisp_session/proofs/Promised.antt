-- What a top call promises, from how it ends.
use Rattle.std.proofs.Common.{◌≡◌, ℕ, ◌<◌, ◌≤◌, inl, inr, ◌⊎◌, List, [], ◌∷◌, ◌++◌, Bool, true, false, Option, Some, None, length, length-append, append-nil, refl, ap, sym, subst, ◌∙◌, suc, arith}
use Rattle.std.specs.Io.KnownBytes.{Appends, Consumes, Keeps}
use Rattle.lisp_base.specs.declared.refusal.Refusal.{Refusal}
use Rattle.lisp_edge.specs.Faults.{Rose}
use Rattle.plain_program.specs.Program.{PlainProgram}
use Rattle.lisp_reader.specs.Reading.{too_long, not_utf8, in_reading, longest}
use Rattle.lisp_reader.specs.Tables.{Tables, tables_of}
use Rattle.lisp_session.specs.Programs.{NeverBoth, Reads, IsRefused, as_text, as_data, as_unbuilt}
use Rattle.lisp_journal.specs.Refusal.{refusal_line, words_line}
use Rattle.lisp_session.specs.Headline.{Headline, IsAnswer, IsEmptied, IsRefusedText, IsRunStatus, IsRunText, IsStatus, IsWhole, Promise, RefusedProgram, RefusesText, TookAll, TookSome, WereRead, WereTaken, WroteFront, of_a_refusal, of_a_run, of_words}
use Rattle.lisp_session.specs.Answers.{LeftBy, Says, answer_status, answer_text}
use Rattle.lisp_session.specs.inside.Ends.{AnswersAs, EndsAs, ReadsFor, StopsReading, WritesAs, has_answer, has_none, is_read, is_stopped, number_of, outcome_of}
use Rattle.lisp_session.specs.Texts.{StopsWriting, WroteWhole}
use Rattle.lisp_session.specs.declared.answer.Answer.{Answer}
use Rattle.lisp_session.specs.declared.answer.Answer.TheVariants.{Ran, Refused, RefusedWords}
use Rattle.lisp_session.specs.declared.answer.RunLeft.{RunLeft}
use Rattle.lisp_session.specs.declared.input.ReadFailure.{ReadFailure}
use Rattle.lisp_session.specs.declared.input.ReadFailure.TheVariants as read
use Rattle.lisp_session.specs.declared.output.WriteFailure.{WriteFailure}
use Rattle.lisp_session.specs.declared.output.WriteFailure.TheVariants as write
use Rattle.lisp_session.specs.declared.top.Outcome.{Outcome}
use Rattle.lisp_session.specs.declared.top.Outcome.TheVariants.{Wrote, ReadFault, WriteFault, Memory}
use Rattle.lisp_session.proofs.Answered.{both, no_run, no_run_of_words, ran_status, run_text}

-- bytes that are read as a program are all that was left
is_whole : (left left' : Option (List ℕ)) (bytes : List ℕ) → WereRead left left' bytes → length bytes ≤ longest → IsWhole left left' bytes
is_whole None left' bytes r short = tt
is_whole (Some all) None bytes r short = absurd r.taken.taken
is_whole (Some all) (Some rest) bytes r short = by rest r.taken.taken (r.ended short)
  where
    by : (rest : List ℕ) → all ≡ bytes ++ rest → Some rest ≡ Some [] → (bytes ≡ all) × (rest ≡ [])
    by rest e none = let nothing : rest ≡ [] = cc in (sym (e ∙ ap (λ t. bytes ++ t) nothing ∙ append-nil bytes), nothing)

-- a text that begins as one that is too long is too long
longer : (bytes rest all : List ℕ) → all ≡ bytes ++ rest → longest < length bytes → longest < length all
longer bytes rest all e h = omega (arith, length-append bytes rest, ap length e)

-- bytes after which nothing is left are all
whole_refused : (all rest bytes : List ℕ) (refusal : Refusal) (place : ℕ) → all ≡ bytes ++ rest → Some rest ≡ Some [] → IsRefused bytes refusal place
    → IsRefused all refusal place
whole_refused all rest bytes refusal place e none refused =
    let nothing : rest ≡ [] = cc in
    subst (λ t. IsRefused t refusal place) (sym (e ∙ ap (λ t. bytes ++ t) nothing ∙ append-nil bytes)) refused

-- why the bytes are refused is why all that was left is
is_refused : (left left' : Option (List ℕ)) (bytes : List ℕ) (refusal : Refusal) (place : ℕ) → WereRead left left' bytes
    → IsRefused bytes refusal place → IsRefusedText left refusal place
is_refused None left' bytes refusal place r refused = tt
is_refused (Some all) None bytes refusal place r refused = absurd r.taken.taken
is_refused (Some all) (Some rest) bytes refusal place r (as_text tables (too_long long n p same)) =
    as_text tables (too_long (longer bytes rest all r.taken.taken long) n p same)
is_refused (Some all) (Some rest) bytes refusal place r (as_text tables (not_utf8 short broken n p same)) =
    whole_refused all rest bytes refusal place r.taken.taken (r.ended short) (as_text tables (not_utf8 short broken n p same))
is_refused (Some all) (Some rest) bytes refusal place r (as_text tables (in_reading text found)) =
    whole_refused all rest bytes refusal place r.taken.taken (r.ended text.short) (as_text tables (in_reading text found))
is_refused (Some all) (Some rest) bytes refusal place r (as_data tables read reads found) =
    whole_refused all rest bytes refusal place r.taken.taken (r.ended reads.text.short) (as_data tables read reads found)
is_refused (Some all) (Some rest) bytes refusal place r (as_unbuilt tables read whole reads x found e) =
    whole_refused all rest bytes refusal place r.taken.taken (r.ended reads.text.short) (as_unbuilt tables read whole reads x found e)

refuses_text : (left left' : Option (List ℕ)) (bytes : List ℕ) (refusal : Refusal) (place : ℕ) → WereRead left left' bytes → IsRefused bytes refusal place
    → RefusesText left left' bytes refusal place
refuses_text left left' bytes refusal place r refused = record { read = r; refused = refused; source = is_refused left left' bytes refusal place r refused }

-- what was read, where the words are accepted
were_read : (accepted : Bool) (left left' : Option (List ℕ)) (bytes : List ℕ) → ReadsFor accepted left left' bytes → accepted ≡ true
    → WereRead left left' bytes
were_read true left left' bytes r a = r
were_read false left left' bytes r a = absurd (both false a refl)

-- the text of an answer is one that is promised
is_answer : (accepted : Bool) (left left' : Option (List ℕ)) (bytes : List ℕ) (answer : Answer) → ReadsFor accepted left left' bytes
    → Says accepted bytes answer → IsAnswer accepted left left' (answer_text answer)
is_answer accepted left left' bytes (Ran run) r h =
    of_a_run bytes run.report.status h.0 (is_whole left left' bytes (were_read accepted left left' bytes r h.0) h.1.reads.reads.text.short) (run_text bytes run h.1)
is_answer accepted left left' bytes (Refused refusal place) r h =
    of_a_refusal bytes refusal place h.0 (refuses_text left left' bytes refusal place (were_read accepted left left' bytes r h.0) h.1)
is_answer accepted left left' bytes RefusedWords r h = of_words h

-- a front of the text of an answer
wrote_front : (accepted : Bool) (left left' held held' : Option (List ℕ)) (writes writes' : ℕ) (bytes : List ℕ) (answer : Answer) (failure : WriteFailure)
    → ReadsFor accepted left left' bytes → Says accepted bytes answer → StopsWriting held held' writes writes' (answer_text answer) failure
    → WroteFront accepted left left' held held'
wrote_front accepted left left' held held' writes writes' bytes answer failure r h s =
    record { text = answer_text answer; answer = is_answer accepted left left' bytes answer r h; count = s.count; shorter = s.shorter; sink = s.sink }

-- what was taken, where the words are accepted
took_some : (accepted : Bool) (left left' : Option (List ℕ)) (bytes : List ℕ) → ReadsFor accepted left left' bytes → accepted ≡ true → TookSome left left'
took_some accepted left left' bytes r a = record { bytes = bytes; were = (were_read accepted left left' bytes r a).taken }

-- and that it is all where it is no longer than a program may be
took_all : (left left' : Option (List ℕ)) (bytes : List ℕ) → WereRead left left' bytes → TookAll left left'
took_all None left' bytes r = tt
took_all (Some all) None bytes r = absurd r.taken.taken
took_all (Some all) (Some rest) bytes r = λ short. r.ended (omega (arith, length-append bytes rest, ap length r.taken.taken))

-- a run has none of the other statuses
not_run : (n : ℕ) → IsRunStatus n → ¬ (n ≡ 2) × ¬ (n ≡ 4) × ¬ (n ≡ 5) × ¬ (n ≡ 6) × ¬ (n ≡ 7)
not_run n (inl z) = ((λ e. absurd (omega arith)), (λ e. absurd (omega arith)), (λ e. absurd (omega arith)), (λ e. absurd (omega arith)), (λ e. absurd (omega arith)))
not_run n (inr t) = ((λ e. absurd (omega arith)), (λ e. absurd (omega arith)), (λ e. absurd (omega arith)), (λ e. absurd (omega arith)), (λ e. absurd (omega arith)))

run_is_status : (n : ℕ) → IsRunStatus n → IsStatus n
run_is_status n (inl z) = inl z
run_is_status n (inr t) = inr (inl t)

-- what the source told is what was read
told_whole : (all bytes : List ℕ) (left' : Option (List ℕ)) → IsWhole (Some all) left' bytes → bytes ≡ all
told_whole all bytes None h = absurd h
told_whole all bytes (Some rest) h = h.0

-- a program that the source tells is the one that was read
told_reads : (left left' : Option (List ℕ)) (bytes all : List ℕ) (tables : Tables) (program : PlainProgram) → IsWhole left left' bytes → left ≡ Some all
    → Reads bytes tables program → Reads all tables program
told_reads left left' bytes all tables program w e h =
    let whole : IsWhole (Some all) left' bytes = subst (λ (x : Option (List ℕ)). IsWhole x left' bytes) e w in
    subst (λ t. Reads t tables program) (told_whole all bytes left' whole) h

-- what the source tells is refused
told_refused : (left : Option (List ℕ)) (all : List ℕ) (refusal : Refusal) (place : ℕ) → IsRefusedText left refusal place → left ≡ Some all → IsRefused all refusal place
told_refused left all refusal place h e = subst (λ (x : Option (List ℕ)). IsRefusedText x refusal place) e h

-- the text of a run was written
promised_run : NeverBoth → (accepted : Bool) (left left' : Option (List ℕ)) (reads reads' : ℕ) (held held' : Option (List ℕ)) (writes writes' : ℕ) (bytes : List ℕ)
    (run : RunLeft) (status : ℕ) → reads' ≡ reads → WereRead left left' bytes → accepted ≡ true → LeftBy bytes run
    → WroteWhole held held' writes writes' (answer_text (Ran run)) → status ≡ run.report.status
    → Promise accepted left left' reads reads' held held' writes writes' status
promised_run never accepted left left' reads reads' held held' writes writes' bytes run status kept r a h w is =
    let s : IsRunStatus status = subst (λ n. IsRunStatus n) (sym is) (ran_status bytes run h) in
    let whole : IsWhole left left' bytes = is_whole left left' bytes r h.reads.reads.text.short in
    let no = not_run status s in
    record {
      headline = λ _. (a, record { bytes = bytes; source = whole; text = answer_text (Ran run); run = subst (λ n. IsRunText bytes (answer_text (Ran run)) n) (sym is) (run_text bytes run h); sink = w.sink });
      refused_words = λ e. absurd (no.0 e);
      refused_program = λ e. absurd (no.1 e);
      read_fault = λ e. absurd (no.2 e);
      write_fault = λ e. absurd (no.3 e);
      memory = λ e. absurd (no.4 e);
      others = run_is_status status s;
      complete = λ all tables program b e read no_read no_write. inl s;
      refuses = λ all refusal place b e refused no_read no_write.
          absurd (never all (tables_of run.symbols run.texts) h.program refusal place (told_reads left left' bytes all _ h.program whole e h.reads) refused);
      refuses_words = λ b no_write. absurd (both accepted a b);
      no_read_fault = λ _. kept;
      no_write_fault = λ _. w.kept;
      took = λ b. record { bytes = bytes; were = r.taken };
      took_all = λ b n m. took_all left left' bytes r;
    }

-- the line of a refusal was written
promised_refusal : NeverBoth → (accepted : Bool) (left left' : Option (List ℕ)) (reads reads' : ℕ) (held held' : Option (List ℕ)) (writes writes' : ℕ) (bytes : List ℕ)
    (refusal : Refusal) (place status : ℕ) → reads' ≡ reads → WereRead left left' bytes → accepted ≡ true → IsRefused bytes refusal place
    → WroteWhole held held' writes writes' (refusal_line refusal place) → status ≡ 4
    → Promise accepted left left' reads reads' held held' writes writes' status
promised_refusal never accepted left left' reads reads' held held' writes writes' bytes refusal place status kept r a h w is =
    record {
      headline = λ s. absurd ((not_run status s).1 is);
      refused_words = λ e. absurd (omega arith);
      refused_program = λ _. (a, record { bytes = bytes; refusal = refusal; place = place; refuses = refuses_text left left' bytes refusal place r h; sink = w.sink });
      read_fault = λ e. absurd (omega arith);
      write_fault = λ e. absurd (omega arith);
      memory = λ e. absurd (omega arith);
      others = inr (inr (inr (inl is)));
      complete = λ all tables program b e read no_read no_write.
          absurd (never all tables program refusal place read (told_refused left all refusal place (is_refused left left' bytes refusal place r h) e));
      refuses = λ all n p b e refused no_read no_write. inl is;
      refuses_words = λ b no_write. absurd (both accepted a b);
      no_read_fault = λ _. kept;
      no_write_fault = λ _. w.kept;
      took = λ b. record { bytes = bytes; were = r.taken };
      took_all = λ b n m. took_all left left' bytes r;
    }

-- the line for words that are not accepted was written
promised_words : (accepted : Bool) (left left' : Option (List ℕ)) (reads reads' : ℕ) (held held' : Option (List ℕ)) (writes writes' : ℕ)
    (status : ℕ) → reads' ≡ reads → accepted ≡ false → WroteWhole held held' writes writes' words_line → status ≡ 2
    → Promise accepted left left' reads reads' held held' writes writes' status
promised_words accepted left left' reads reads' held held' writes writes' status kept a w is =
    record {
      headline = λ s. absurd ((not_run status s).0 is);
      refused_words = λ _. (a, w.sink);
      refused_program = λ e. absurd (omega arith);
      read_fault = λ e. absurd (omega arith);
      write_fault = λ e. absurd (omega arith);
      memory = λ e. absurd (omega arith);
      others = inr (inr (inl is));
      complete = λ all tables program b e read no_read no_write. absurd (both accepted b a);
      refuses = λ all n p b e refused no_read no_write. absurd (both accepted b a);
      refuses_words = λ b no_write. inl is;
      no_read_fault = λ _. kept;
      no_write_fault = λ _. w.kept;
      took = λ b. absurd (both accepted b a);
      took_all = λ b n m. absurd (both accepted b a);
    }

-- an answer was written
promised_answer : NeverBoth → (accepted : Bool) (left left' : Option (List ℕ)) (reads reads' : ℕ) (held held' : Option (List ℕ)) (writes writes' : ℕ) (bytes : List ℕ)
    (answer : Answer) (status : ℕ) → reads' ≡ reads → ReadsFor accepted left left' bytes → Says accepted bytes answer
    → WroteWhole held held' writes writes' (answer_text answer) → status ≡ answer_status answer
    → Promise accepted left left' reads reads' held held' writes writes' status
promised_answer never accepted left left' reads reads' held held' writes writes' bytes (Ran run) status kept r h w is =
    promised_run never accepted left left' reads reads' held held' writes writes' bytes run status kept (were_read accepted left left' bytes r h.0) h.0 h.1 w is
promised_answer never accepted left left' reads reads' held held' writes writes' bytes (Refused refusal place) status kept r h w is =
    promised_refusal never accepted left left' reads reads' held held' writes writes' bytes refusal place status kept (were_read accepted left left' bytes r h.0) h.0 h.1 w is
promised_answer never accepted left left' reads reads' held held' writes writes' bytes RefusedWords status kept r h w is =
    promised_words accepted left left' reads reads' held held' writes writes' status kept h w is

-- the sink failed
promised_fault : (accepted : Bool) (left left' : Option (List ℕ)) (reads reads' : ℕ) (held held' : Option (List ℕ)) (writes writes' : ℕ) (bytes : List ℕ)
    → reads' ≡ reads → ReadsFor accepted left left' bytes → Rose writes writes' → WroteFront accepted left left' held held'
    → Promise accepted left left' reads reads' held held' writes writes' 6
promised_fault accepted left left' reads reads' held held' writes writes' bytes kept r rose front =
    record {
      headline = λ s. absurd ((not_run 6 s).3 refl);
      refused_words = λ e. absurd (omega arith);
      refused_program = λ e. absurd (omega arith);
      read_fault = λ e. absurd (omega arith);
      write_fault = λ _. (rose, front);
      memory = λ e. absurd (omega arith);
      others = inr (inr (inr (inr (inr (inl refl)))));
      complete = λ all tables program b e read no_read no_write. absurd (no_write rose);
      refuses = λ all n p b e refused no_read no_write. absurd (no_write rose);
      refuses_words = λ b no_write. absurd (no_write rose);
      no_read_fault = λ _. kept;
      no_write_fault = λ no. absurd (no refl);
      took = took_some accepted left left' bytes r;
      took_all = λ b n m. took_all left left' bytes (were_read accepted left left' bytes r b);
    }

-- memory ran out
promised_memory : (accepted : Bool) (left left' : Option (List ℕ)) (reads reads' : ℕ) (held held' : Option (List ℕ)) (writes writes' : ℕ)
    → reads' ≡ reads → writes' ≡ writes → (accepted ≡ true → TookSome left left') → Keeps held held' ⊎ WroteFront accepted left left' held held'
    → Promise accepted left left' reads reads' held held' writes writes' 7
promised_memory accepted left left' reads reads' held held' writes writes' kept same took wrote =
    record {
      headline = λ s. absurd ((not_run 7 s).4 refl);
      refused_words = λ e. absurd (omega arith);
      refused_program = λ e. absurd (omega arith);
      read_fault = λ e. absurd (omega arith);
      write_fault = λ e. absurd (omega arith);
      memory = λ _. wrote;
      others = inr (inr (inr (inr (inr (inr refl)))));
      complete = λ all tables program b e read no_read no_write. inr refl;
      refuses = λ all n p b e refused no_read no_write. inr refl;
      refuses_words = λ b no_write. inr refl;
      no_read_fault = λ _. kept;
      no_write_fault = λ _. same;
      took = took;
      took_all = λ b n m. absurd (m refl);
    }

-- the source failed
promised_stop : (accepted : Bool) (left left' : Option (List ℕ)) (reads reads' : ℕ) (held held' : Option (List ℕ)) (writes writes' : ℕ)
    → accepted ≡ true → Rose reads reads' → Keeps held held' → writes' ≡ writes → TookSome left left'
    → Promise accepted left left' reads reads' held held' writes writes' 5
promised_stop accepted left left' reads reads' held held' writes writes' a rose keeps same took =
    record {
      headline = λ s. absurd ((not_run 5 s).2 refl);
      refused_words = λ e. absurd (omega arith);
      refused_program = λ e. absurd (omega arith);
      read_fault = λ _. (a, rose, keeps);
      write_fault = λ e. absurd (omega arith);
      memory = λ e. absurd (omega arith);
      others = inr (inr (inr (inr (inl refl))));
      complete = λ all tables program b e read no_read no_write. absurd (no_read rose);
      refuses = λ all n p b e refused no_read no_write. absurd (no_read rose);
      refuses_words = λ b no_write. absurd (both accepted a b);
      no_read_fault = λ no. absurd (no refl);
      no_write_fault = λ _. same;
      took = λ _. took;
      took_all = λ b n m. absurd (n refl);
    }

-- the bytes that were read were answered
promised_answers : NeverBoth → (accepted : Bool) (left left' : Option (List ℕ)) (reads reads' : ℕ) (held held' : Option (List ℕ)) (writes writes' : ℕ) (bytes : List ℕ)
    (outcome : Outcome) → reads' ≡ reads → ReadsFor accepted left left' bytes → AnswersAs accepted bytes held held' writes writes' outcome
    → Promise accepted left left' reads reads' held held' writes writes' (number_of outcome)
promised_answers never accepted left left' reads reads' held held' writes writes' bytes outcome kept r (has_none e keeps same) =
    subst (λ (o : Outcome). Promise accepted left left' reads reads' held held' writes writes' (number_of o)) (sym e)
    (promised_memory accepted left left' reads reads' held held' writes writes' kept same (took_some accepted left left' bytes r) (inl keeps))
promised_answers never accepted left left' reads reads' held held' writes writes' bytes (Wrote status) kept r (has_answer answer h w) =
    promised_answer never accepted left left' reads reads' held held' writes writes' bytes answer status kept r h w.0 w.1
promised_answers never accepted left left' reads reads' held held' writes writes' bytes ReadFault kept r (has_answer answer h w) = absurd w
promised_answers never accepted left left' reads reads' held held' writes writes' bytes WriteFault kept r (has_answer answer h w) =
    promised_fault accepted left left' reads reads' held held' writes writes' bytes kept r w.why
    (wrote_front accepted left left' held held' writes writes' bytes answer write.Fault r h w)
promised_answers never accepted left left' reads reads' held held' writes writes' bytes Memory kept r (has_answer answer h w) =
    promised_memory accepted left left' reads reads' held held' writes writes' kept w.why (took_some accepted left left' bytes r)
    (inr (wrote_front accepted left left' held held' writes writes' bytes answer write.Memory r h w))

-- the read stopped
promised_stops : (accepted : Bool) (left left' : Option (List ℕ)) (reads reads' : ℕ) (held held' : Option (List ℕ)) (writes writes' : ℕ)
    (failure : ReadFailure) → accepted ≡ true → StopsReading left left' reads reads' failure → Keeps held held' → writes' ≡ writes
    → Promise accepted left left' reads reads' held held' writes writes' (number_of (outcome_of failure))
promised_stops accepted left left' reads reads' held held' writes writes' read.Fault a s keeps same =
    promised_stop accepted left left' reads reads' held held' writes writes' a s.why keeps same (record { bytes = s.bytes; were = s.were })
promised_stops accepted left left' reads reads' held held' writes writes' read.Memory a s keeps same =
    promised_memory accepted left left' reads reads' held held' writes writes' s.why same (λ _. record { bytes = s.bytes; were = s.were }) (inl keeps)

-- what a top call promises
pub promised : NeverBoth → (accepted : Bool) (left left' : Option (List ℕ)) (reads reads' : ℕ) (held held' : Option (List ℕ)) (writes writes' : ℕ) (outcome : Outcome)
    → EndsAs accepted left left' reads reads' held held' writes writes' outcome
    → Promise accepted left left' reads reads' held held' writes writes' (number_of outcome)
promised never accepted left left' reads reads' held held' writes writes' outcome (is_read bytes r kept h) =
    promised_answers never accepted left left' reads reads' held held' writes writes' bytes outcome kept r h
promised never accepted left left' reads reads' held held' writes writes' outcome (is_stopped failure a s keeps same e) =
    subst (λ (o : Outcome). Promise accepted left left' reads reads' held held' writes writes' (number_of o)) (sym e)
    (promised_stops accepted left left' reads reads' held held' writes writes' failure a s keeps same)

-- a call whose words are not accepted reads nothing
pub unread_ends : (accepted : Bool) (left : Option (List ℕ)) (reads : ℕ) (held held' : Option (List ℕ)) (writes writes' : ℕ) (bytes : List ℕ) (outcome : Outcome)
    → accepted ≡ false → AnswersAs accepted bytes held held' writes writes' outcome → EndsAs accepted left left reads reads held held' writes writes' outcome
unread_ends true left reads held held' writes writes' bytes outcome a h = absurd (both true refl a)
unread_ends false left reads held held' writes writes' bytes outcome a h = is_read bytes refl refl h

-- a call whose words are accepted answers what it read
pub read_ends : (accepted : Bool) (left left' : Option (List ℕ)) (reads reads' : ℕ) (held held' : Option (List ℕ)) (writes writes' : ℕ) (bytes : List ℕ) (outcome : Outcome)
    → accepted ≡ true → WereRead left left' bytes → reads' ≡ reads → AnswersAs accepted bytes held held' writes writes' outcome
    → EndsAs accepted left left' reads reads' held held' writes writes' outcome
read_ends true left left' reads reads' held held' writes writes' bytes outcome a r kept h = is_read bytes r kept h
read_ends false left left' reads reads' held held' writes writes' bytes outcome a r kept h = absurd (both false a refl)

-- a sink that is not touched keeps what it holds
pub keeps_all : (held : Option (List ℕ)) → Keeps held held
keeps_all None = tt
keeps_all (Some xs) = refl
