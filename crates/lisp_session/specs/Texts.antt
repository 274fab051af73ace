-- What becomes of a text that is written to a sink.
use Rattle.std.specs.Prelude.{◌≡◌, ℕ, ◌<◌, List, Option, length, take}
use Rattle.std.specs.Io.KnownBytes.{Appends}
use Rattle.lisp_edge.specs.Faults.{Rose}
use Rattle.lisp_session.specs.declared.output.WriteFailure.{WriteFailure}
use Rattle.lisp_session.specs.declared.output.WriteFailure.TheVariants as write

-- why a write stopped: the sink failed, or memory ran out and no fault was counted
abbrev pub StopsWrite : ℕ → ℕ → WriteFailure → Type 0
StopsWrite faults faults' write.Fault = Rose faults faults'
StopsWrite faults faults' write.Memory = faults' ≡ faults

-- a write stopped after a front of a text, shorter than the text
pub record StopsWriting (held held' : Option (List ℕ)) (faults faults' : ℕ) (text : List ℕ) (failure : WriteFailure) : Type 0 where
  pub why : StopsWrite faults faults' failure
  pub count : ℕ
  pub shorter : count < length text
  pub sink : Appends held held' (take count text)

-- a whole text was written, and no fault was counted
pub record WroteWhole (held held' : Option (List ℕ)) (faults faults' : ℕ) (text : List ℕ) : Type 0 where
  pub sink : Appends held held' text
  pub kept : faults' ≡ faults
