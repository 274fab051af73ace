-- Sources and sinks in memory: how many bytes their calls take, and which of the calls fail.
use Rattle.std.specs.Prelude.{◌≡◌, ℕ, ◌==◌, Bool, true, false, min, List, [], ◌∷◌, ◌++◌, length, take, drop}
use Rattle.std.specs.List.{list_any}
use Rattle.lisp_edge.specs.declared.answers.ReadAnswer.{ReadAnswer}
use Rattle.lisp_edge.specs.declared.answers.ReadAnswer.TheVariants as read
use Rattle.lisp_edge.specs.declared.answers.WriteAnswer.{WriteAnswer}
use Rattle.lisp_edge.specs.declared.answers.WriteAnswer.TheVariants as write
use Rattle.lisp_edge.specs.Faults.{next_count}

-- a source in memory: the bytes left, the most that one call takes, the numbers of the calls that fail, and how many calls and faults there were
pub record Reading : Type 0 where
  pub left : List ℕ
  pub piece : ℕ
  pub failing : List ℕ
  pub calls : ℕ
  pub faults : ℕ

-- a sink in memory: the bytes held, the most that one call takes, the numbers of the calls that fail, and how many calls and faults there were
pub record Holding : Type 0 where
  pub held : List ℕ
  pub piece : ℕ
  pub failing : List ℕ
  pub calls : ℕ
  pub faults : ℕ

-- the call with this number is among those that fail
abbrev pub is_failing : List ℕ → ℕ → Bool
is_failing failing call = list_any (λ n. n == call) failing

-- the answer where these bytes are left, and there is room for so many
abbrev pub answer_with : List ℕ → ℕ → ReadAnswer
answer_with [] room = read.End
answer_with (x ∷ xs) room = read.Took (min room (length (x ∷ xs)))

-- the answer of a call that fails, or not
abbrev pub read_unless : Bool → List ℕ → ℕ → ReadAnswer
read_unless true left room = read.Failed
read_unless false left room = answer_with left room

-- the answer of the next read, of at most a piece, into a buffer of this length
abbrev pub read_answer : Reading → ℕ → ReadAnswer
read_answer source room = read_unless (is_failing source.failing source.calls) source.left (min source.piece room)

-- the source after a read with this answer
abbrev pub after_read : Reading → ReadAnswer → Reading
after_read source (read.Took n) = record source { left = drop n source.left; calls = next_count source.calls }
after_read source read.End = record source { calls = next_count source.calls }
after_read source read.Failed = record source { calls = next_count source.calls; faults = next_count source.faults }

-- the sink after a write of these bytes with this answer
abbrev pub after_write : Holding → List ℕ → WriteAnswer → Holding
after_write sink bytes (write.Took n) = record sink { held = sink.held ++ take n bytes; calls = next_count sink.calls }
after_write sink bytes write.Failed = record sink { calls = next_count sink.calls; faults = next_count sink.faults }

-- a write takes a whole piece of the bytes, or fails
abbrev pub TakesPiece : ℕ → List ℕ → WriteAnswer → Type 0
TakesPiece piece bytes (write.Took n) = n ≡ min piece (length bytes)
TakesPiece piece bytes write.Failed = Unit {0}
