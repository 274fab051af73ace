-- What an answer of a source or a sink says of the bytes and the faults.
use Rattle.std.specs.Prelude.{◌≡◌, ℕ, ◌<◌, ◌≤◌, List, Option, length, take}
use Rattle.std.specs.Io.KnownBytes.{Consumes, Appends, Keeps, IsAtEnd}
use Rattle.lisp_edge.specs.declared.answers.ReadAnswer.{ReadAnswer}
use Rattle.lisp_edge.specs.declared.answers.ReadAnswer.TheVariants as read
use Rattle.lisp_edge.specs.declared.answers.WriteAnswer.{WriteAnswer}
use Rattle.lisp_edge.specs.declared.answers.WriteAnswer.TheVariants as write
use Rattle.lisp_edge.specs.Faults.{Rose}

-- a read moves bytes from what is left into the buffer, or finds the end, or fails; it counts a fault only where it fails
abbrev pub Reads : Option (List ℕ) → Option (List ℕ) → ℕ → ℕ → List ℕ → ReadAnswer → Type 0
Reads left left' faults faults' buf (read.Took n) = (0 < n) × (n ≤ length buf) × Consumes left left' (take n buf) × (faults' ≡ faults)
Reads left left' faults faults' buf read.End = Keeps left left' × IsAtEnd left × (faults' ≡ faults)
Reads left left' faults faults' buf read.Failed = Keeps left left' × Rose faults faults'

-- a write adds bytes to what is held, or fails; it counts a fault only where it fails
abbrev pub Writes : Option (List ℕ) → Option (List ℕ) → ℕ → ℕ → List ℕ → WriteAnswer → Type 0
Writes held held' faults faults' bytes (write.Took n) = (0 < n) × (n ≤ length bytes) × Appends held held' (take n bytes) × (faults' ≡ faults)
Writes held held' faults faults' bytes write.Failed = Keeps held held' × Rose faults faults'
