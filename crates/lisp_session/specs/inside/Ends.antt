-- How the inner steps of a top call end.
use Rattle.std.specs.Prelude.{◌≡◌, ℕ, List, [], ◌++◌, Bool, true, false, Option, Some, None}
use Rattle.std.specs.Io.KnownBytes.{Keeps}
use Rattle.lisp_edge.specs.Faults.{Rose}
use Rattle.lisp_session.specs.Headline.{WereRead, WereTaken}
use Rattle.lisp_session.specs.Answers.{Says, answer_status, answer_text}
use Rattle.lisp_session.specs.Texts.{StopsWriting, WroteWhole}
use Rattle.lisp_session.specs.declared.answer.Answer.{Answer}
use Rattle.lisp_session.specs.declared.input.ReadFailure.{ReadFailure}
use Rattle.lisp_session.specs.declared.input.ReadFailure.TheVariants as read
use Rattle.lisp_session.specs.declared.output.WriteFailure.{WriteFailure}
use Rattle.lisp_session.specs.declared.output.WriteFailure.TheVariants as write
use Rattle.lisp_session.specs.declared.top.Outcome.{Outcome}
use Rattle.lisp_session.specs.declared.top.Outcome.TheVariants.{Wrote, ReadFault, WriteFault, Memory}

-- why a read stopped: the source failed, or memory ran out and no fault was counted
abbrev pub StopsRead : ℕ → ℕ → ReadFailure → Type 0
StopsRead faults faults' read.Fault = Rose faults faults'
StopsRead faults faults' read.Memory = faults' ≡ faults

-- a read stopped after some bytes
pub record StopsReading (left left' : Option (List ℕ)) (faults faults' : ℕ) (failure : ReadFailure) : Type 0 where
  pub why : StopsRead faults faults' failure
  pub bytes : List ℕ
  pub were : WereTaken left left' bytes

-- a page was written as a whole, and is empty now
pub record TurnedPage (held held' : Option (List ℕ)) (faults faults' : ℕ) (page page' : Option (List ℕ)) : Type 0 where
  pub text : List ℕ
  pub was : page ≡ Some text
  pub is : page' ≡ Some []
  pub wrote : WroteWhole held held' faults faults' text

-- a page was not written as a whole, or memory had run out in it
abbrev pub StopsPage : (held held' : Option (List ℕ)) (faults faults' : ℕ) (page : Option (List ℕ)) → WriteFailure → Type 0
StopsPage held held' faults faults' None failure = (failure ≡ write.Memory) × Keeps held held' × (faults' ≡ faults)
StopsPage held held' faults faults' (Some text) failure = StopsWriting held held' faults faults' text failure

-- what was written, what is on the page and what is left to write are the whole text
abbrev pub IsSpread : (whole written : List ℕ) (page : Option (List ℕ)) (left : List ℕ) → Type 0
IsSpread whole written None left = ⊥
IsSpread whole written (Some text) left = whole ≡ written ++ (text ++ left)

-- a text is being written, page by page
pub record IsSending (held held' : Option (List ℕ)) (faults faults' : ℕ) (whole : List ℕ) (page : Option (List ℕ)) (left : List ℕ) : Type 0 where
  pub written : List ℕ
  pub spread : IsSpread whole written page left
  pub wrote : WroteWhole held held' faults faults' written

-- how writing an answer ends
abbrev pub WritesAs : (held held' : Option (List ℕ)) (writes writes' : ℕ) → Answer → Outcome → Type 0
WritesAs held held' writes writes' answer (Wrote status) = WroteWhole held held' writes writes' (answer_text answer) × (status ≡ answer_status answer)
WritesAs held held' writes writes' answer ReadFault = ⊥
WritesAs held held' writes writes' answer WriteFault = StopsWriting held held' writes writes' (answer_text answer) write.Fault
WritesAs held held' writes writes' answer Memory = StopsWriting held held' writes writes' (answer_text answer) write.Memory

-- How answering these bytes ends: with an answer that is written as a whole or in part, or memory runs out before there is
-- one.
pub data AnswersAs (accepted : Bool) (bytes : List ℕ) (held held' : Option (List ℕ)) (writes writes' : ℕ) (outcome : Outcome) : Type 0 where
  has_answer : (answer : Answer) → Says accepted bytes answer → WritesAs held held' writes writes' answer outcome
      → AnswersAs accepted bytes held held' writes writes' outcome
  has_none : outcome ≡ Memory → Keeps held held' → writes' ≡ writes → AnswersAs accepted bytes held held' writes writes' outcome

-- the bytes that are answered: those that were read where the words are accepted; else none are read
abbrev pub ReadsFor : (accepted : Bool) (left left' : Option (List ℕ)) (bytes : List ℕ) → Type 0
ReadsFor true left left' bytes = WereRead left left' bytes
ReadsFor false left left' bytes = left' ≡ left

-- the outcome where a read stopped
abbrev pub outcome_of : ReadFailure → Outcome
outcome_of read.Fault = ReadFault
outcome_of read.Memory = Memory

-- How a top call ends: with bytes that were read and answered, or the read stopped and nothing was written.
pub data EndsAs (accepted : Bool) (left left' : Option (List ℕ)) (reads reads' : ℕ) (held held' : Option (List ℕ)) (writes writes' : ℕ) (outcome : Outcome) : Type 0 where
  is_read : (bytes : List ℕ) → ReadsFor accepted left left' bytes → reads' ≡ reads → AnswersAs accepted bytes held held' writes writes' outcome
      → EndsAs accepted left left' reads reads' held held' writes writes' outcome
  is_stopped : (failure : ReadFailure) → accepted ≡ true → StopsReading left left' reads reads' failure → Keeps held held' → writes' ≡ writes
      → outcome ≡ outcome_of failure → EndsAs accepted left left' reads reads' held held' writes writes' outcome

-- the number of an outcome
abbrev pub number_of : Outcome → ℕ
number_of (Wrote status) = status
number_of ReadFault = 5
number_of WriteFault = 6
number_of Memory = 7
