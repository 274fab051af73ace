-- Which frames an exit can reach.
use Rattle.std.specs.Prelude.{ℕ, zero, suc, List, [], ◌∷◌, Bool, true, false, Option, Some, None, ◌==◌, ◌||◌, if◌then◌else◌, length}
use Rattle.lisp_base.specs.Classes.{above, depth}
use Rattle.lisp_base.specs.Equality.{class_number, same_value}
use Rattle.lisp_base.specs.declared.condition.Class.{Class}
use Rattle.lisp_base.specs.declared.word.Operand.{Operand}
use Rattle.thread_semantics.specs.Acts.{entry_operand, value_of}
use Rattle.thread_semantics.specs.State.{Base, BindFrame, BlockFrame, CallFrame, CatchFrame, Clause, CleanupFrame, Frame, FrameKind, HandlerFrame, Kept, KeptExit, KeptValue, ProtectFrame, Target, ToFrame}

-- a class is reached from another, where there is one, by at most so many steps upwards
abbrev pub is_reached : Class → ℕ → Option Class → Bool
is_reached class steps None = false
is_reached class zero (Some other) = class_number class == class_number other
is_reached class (suc steps) (Some other) = (class_number class == class_number other) || is_reached class steps (above other)

-- a class covers itself and the classes below it
abbrev pub covers : Class → Class → Bool
covers class other = is_reached class depth (Some other)

-- the first clause whose class covers this one
abbrev pub clause_for : Class → List Clause → Option Clause
clause_for class [] = None
clause_for class (c ∷ cs) = if covers c.class class then Some c else clause_for class cs

-- what a search for a target sees of a frame: what it may be looking for, an exit that the frame keeps, or nothing
pub data Seen : Type 0 where
  SeenBlock : (entry : ℕ) → Seen
  SeenCatch : (tag : Operand) → Seen
  SeenHandler : (clauses : List Clause) → Seen
  SeenExit : (target : Target) → Seen
  SeenOther : Seen

-- what it sees of a cleanup
abbrev pub seen_kept : Kept → Seen
seen_kept (KeptValue v) = SeenOther
seen_kept (KeptExit target) = SeenExit target

-- what it sees of each kind of frame
abbrev pub seen_of : FrameKind → Seen
seen_of (CallFrame variables) = SeenOther
seen_of (BindFrame bindings) = SeenOther
seen_of (BlockFrame entry) = SeenBlock entry
seen_of (CatchFrame tag) = SeenCatch tag
seen_of (ProtectFrame cleanup) = SeenOther
seen_of (CleanupFrame kept) = seen_kept kept
seen_of (HandlerFrame clauses) = SeenHandler clauses

-- what it sees of all frames, innermost first
abbrev pub sight : List Frame → List Seen
sight [] = []
sight (f ∷ fs) = seen_of f.kind ∷ sight fs

-- a frame is that of the block whose entry a variable holds
abbrev pub is_block : Operand → Seen → Bool
is_block held (SeenBlock entry) = same_value (value_of held) (value_of (entry_operand entry))
is_block held other = false

-- a frame is a `catch` with this tag
abbrev pub is_catch : Operand → Seen → Bool
is_catch tag (SeenCatch own) = same_value (value_of tag) (value_of own)
is_catch tag other = false

-- a clause is there
abbrev pub is_there : Option Clause → Bool
is_there None = false
is_there (Some c) = true

-- a frame has a clause for this class
abbrev pub is_handler : Class → Seen → Bool
is_handler class (SeenHandler clauses) = is_there (clause_for class clauses)
is_handler class other = false

-- Where the search goes on after a frame that is not looked for: at the next frame, or, where the frame keeps an exit, at the target
-- of that exit. Where that is the base, it ends.
abbrev pub goes_on_at : Seen → (Option ℕ → Option ℕ) → Option ℕ
goes_on_at (SeenBlock entry) go = go None
goes_on_at (SeenCatch tag) go = go None
goes_on_at (SeenHandler clauses) go = go None
goes_on_at (SeenExit (Base ending)) go = None
goes_on_at (SeenExit (ToFrame outside value)) go = go (Some outside)
goes_on_at SeenOther go = go None

-- The first frame in force that is looked for: how many frames are outside it. Where a number is given, the frames before the one with
-- so many outside it are passed over.
abbrev pub in_force : (Seen → Bool) → Option ℕ → List Seen → Option ℕ
in_force fits skip [] = None
in_force fits None (s ∷ ss) = if fits s then Some (length ss) else goes_on_at s (λ next. in_force fits next ss)
in_force fits (Some n) (s ∷ ss) =
    if length ss == n then (if fits s then Some (length ss) else goes_on_at s (λ next. in_force fits next ss)) else in_force fits (Some n) ss

-- the first frame in force that is looked for, among these, innermost first
abbrev pub found : (Seen → Bool) → List Frame → Option ℕ
found fits frames = in_force fits None (sight frames)
