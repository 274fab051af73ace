-- The abstract machine: the code that it runs, and what it has between two lines.
use Rattle.std.specs.Prelude.{◌≡◌, ℕ, List, map, slice_get, Some}
use Rattle.lisp_base.specs.Limits.{Numbers}
use Rattle.lisp_base.specs.declared.id.FunctionName.{FunctionName}
use Rattle.lisp_base.specs.declared.word.Operand.{Operand}
use Rattle.environment_semantics.specs.Environment.{Binding}
use Rattle.lisp_code.specs.Lines.{Line}
use Rattle.lisp_code.specs.Parts.{Parts, line_of}
use Rattle.lisp_code.specs.declared.code.FunctionCode.{FunctionCode}
use Rattle.lisp_code.specs.declared.instr.Clause.{Clause as Start}
use Rattle.thread_semantics.specs.State.{Kept, Target}

-- code as the machine runs it: its lines, the place of each, and its functions
pub record Code : Type 0 where
  pub lines : List Line
  pub places : List ℕ
  pub functions : List FunctionCode

-- the code that has these parts
abbrev pub code_of : Parts → Code
code_of parts = record { lines = map (line_of parts.handlers) parts.instrs; places = parts.places; functions = parts.functions }

-- the names of its functions
abbrev pub names_in : Code → List FunctionName
names_in code = map (λ (f : FunctionCode). f.name) code.functions

-- this line stands at a position, with this place
pub record HasLine (code : Code) (position : ℕ) (line : Line) (place : ℕ) : Type 0 where
  pub line_there : slice_get code.lines position ≡ Some line
  pub place_there : slice_get code.places position ≡ Some place

-- what the machine is about to do: to run the line at a position, to leave to a target, one frame at each point, or nothing, since its
-- thread has ended
pub data Doing : Type 0 where
  Running : (position : ℕ) → Doing
  Leaving : (target : Target) → Doing
  Over : Doing

-- what the machine keeps of a frame, by its kind
pub data LinkKind : Type 0 where
  -- a call: where the caller goes on, and where its variables begin
  CallLink : (back base : ℕ) → LinkKind
  -- a binding of a special variable: how many bindings there were at its entry
  BindLink : (height : ℕ) → LinkKind
  -- a block: the number of its entry, and where an exit goes on
  BlockLink : (entry back : ℕ) → LinkKind
  -- a `catch`: its tag, and where an exit goes on
  CatchLink : (tag : Operand) (back : ℕ) → LinkKind
  -- a form that is protected: where its cleanup begins
  ProtectLink : (cleanup : ℕ) → LinkKind
  -- a cleanup that has begun, with what it keeps
  CleanupLink : (kept : Kept) → LinkKind
  -- a form with handlers: its clauses
  HandlerLink : (starts : List Start) → LinkKind

-- a frame of the machine: its kind, its place, and how many operands lie below those of its body
pub record Link : Type 0 where
  pub kind : LinkKind
  pub place : ℕ
  pub height : ℕ

-- The thread's number, what the machine does, all operands, the newest first, all variables, the oldest first, where those of the
-- present call begin, the frames, innermost first, the bindings and what their places hold, how many frames it opened, how many points
-- it took, and the numbers that the run is given.
pub record Machine : Type 0 where
  pub thread : ℕ
  pub doing : Doing
  pub operands : List Operand
  pub variables : List Operand
  pub base : ℕ
  pub chain : List Link
  pub bindings : List Binding
  pub store : List Operand
  pub pushed : ℕ
  pub points : ℕ
  pub limits : Numbers
