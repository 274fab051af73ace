-- Frames of the machine: opened, left with a value, and left by an exit.
use Rattle.std.specs.Prelude.{ℕ, zero, suc, ◌+◌, ◌-◌, List, [], ◌∷◌, Bool, Option, Some, None, ◌==◌, if◌then◌else◌, nat_lt, length, take, drop, get_or, set}
use Rattle.lisp_base.specs.declared.condition.Class.{Class}
use Rattle.lisp_base.specs.declared.condition.Class.TheVariants.{ControlError}
use Rattle.lisp_base.specs.declared.condition.Condition.{Condition}
use Rattle.lisp_base.specs.declared.value.Node.{Node}
use Rattle.lisp_base.specs.declared.value.Node.TheVariants.{Cond}
use Rattle.lisp_base.specs.declared.word.Operand.{Operand}
use Rattle.lisp_base.specs.declared.word.Operand.TheVariants.{Value}
use Rattle.environment_semantics.specs.Environment.{outer}
use Rattle.form_points.specs.Points.{Done}
use Rattle.lisp_code.specs.declared.instr.Clause.{Clause as Start}
use Rattle.world_semantics.specs.declared.phase.Ending.TheVariants.{Aborted}
use Rattle.thread_semantics.specs.Acts.{nil_operand, top, value_of}
use Rattle.thread_semantics.specs.Exits.{Seen, SeenBlock, SeenCatch, SeenHandler, SeenOther, covers, in_force, is_handler, seen_kept}
use Rattle.thread_semantics.specs.Frames.{with_condition}
use Rattle.thread_semantics.specs.State.{Base, Clause, Kept, KeptExit, KeptValue, Target, ToFrame}
use Rattle.machine_semantics.specs.Machine.{BindLink, BlockLink, CallLink, CatchLink, CleanupLink, HandlerLink, Leaving, Link, LinkKind, Machine, ProtectLink, Running}

-- the oldest of these operands, so many of them
abbrev pub lowered : ℕ → List Operand → List Operand
lowered height operands = drop (length operands - height) operands

-- room for so many variables, which holds these, and then NIL
abbrev pub padded : ℕ → List Operand → List Operand
padded zero vs = []
padded (suc n) [] = nil_operand ∷ padded n []
padded (suc n) (v ∷ vs) = v ∷ padded n vs

-- the machine goes on at a position with these operands
abbrev pub runs_at : ℕ → List Operand → Machine → Machine
runs_at position operands m = record m { doing = Running position; operands = operands }

-- the variable of the present call with this number, and the machine after it is written
abbrev pub read_at : ℕ → Machine → Operand
read_at x m = get_or m.variables (m.base + x) nil_operand

abbrev pub written_at : ℕ → Operand → Machine → Machine
written_at x v m = record m { variables = set m.variables (m.base + x) v }

-- the machine leaves to a target
abbrev pub sets_out : Target → Machine → Machine
sets_out target m = record m { doing = Leaving target }

-- a clause as a search sees it: what it does makes no difference
abbrev pub shown : Start → Clause
shown c = record { class = c.class; is_given = c.is_given; chosen = Done }

abbrev pub all_shown : List Start → List Clause
all_shown [] = []
all_shown (c ∷ cs) = shown c ∷ all_shown cs

-- what a search for a target sees of each kind of frame
abbrev pub seen_link : LinkKind → Seen
seen_link (CallLink back base) = SeenOther
seen_link (BindLink height) = SeenOther
seen_link (BlockLink entry back) = SeenBlock entry
seen_link (CatchLink tag back) = SeenCatch tag
seen_link (ProtectLink cleanup) = SeenOther
seen_link (CleanupLink kept) = seen_kept kept
seen_link (HandlerLink starts) = SeenHandler (all_shown starts)

-- what it sees of all frames, innermost first
abbrev pub view : List Link → List Seen
view [] = []
view (l ∷ ls) = seen_link l.kind ∷ view ls

-- the first frame in force that is looked for: how many frames are outside it
abbrev pub sought : (Seen → Bool) → List Link → Option ℕ
sought fits chain = in_force fits None (view chain)

-- a condition goes to the first handler in force that has a clause for it, else to the base
abbrev pub raised : Option ℕ → Condition → Machine → Machine
raised None c m = sets_out (Base (Aborted (Some c))) m
raised (Some outside) c m = sets_out (ToFrame outside (Value (Cond c))) m

abbrev pub raises : Condition → Machine → Machine
raises c m = raised (sought (is_handler c.class) m.chain) c m

-- a condition of this class without a text
abbrev pub raises_class : Class → Machine → Machine
raises_class class m = raises (record { class = class; text = None }) m

-- an exit to the frame that was found, with a value
abbrev pub heads_to : Option ℕ → Operand → Machine → Machine
heads_to None v m = raises_class ControlError m
heads_to (Some outside) v m = sets_out (ToFrame outside v) m

-- there may be 4,096 frames
abbrev pub has_space : Machine → Bool
has_space m = nat_lt (length m.chain) 4096

-- a frame is opened, in which the line at a position is next, with these operands, of which so many belong to its body
abbrev pub opens : LinkKind → (place position : ℕ) → (operands : List Operand) → (carried : ℕ) → Machine → Machine
opens kind place position operands carried m =
    record m {
      doing = Running position;
      operands = operands;
      chain = (record { kind = kind; place = place; height = length operands - carried }) ∷ m.chain;
      pushed = suc m.pushed;
    }

-- what a frame puts back when it is left: a call the variables of its caller, a binding the bindings at its entry
abbrev pub restored : LinkKind → Machine → Machine
restored (CallLink back base) m = record m { variables = take m.base m.variables; base = base }
restored (BindLink height) m = record m { bindings = outer height m.bindings }
restored kind m = m

-- a frame is left, and the line at a position is next with a value before the operands below the frame
abbrev pub handed : (back : ℕ) → Operand → Link → List Link → Machine → Machine
handed back v l ls m =
    restored l.kind (record m { doing = Running back; operands = v ∷ lowered l.height m.operands; chain = ls })

-- a Protect frame turns into a Cleanup frame that keeps this, and the cleanup begins
abbrev pub turned : Kept → (cleanup : ℕ) → Link → List Link → Machine → Machine
turned kept cleanup l ls m =
    record m { doing = Running cleanup; operands = lowered l.height m.operands; chain = record l { kind = CleanupLink kept } ∷ ls }

-- what a cleanup kept goes on when it is done
abbrev pub taken_up : Kept → (next : ℕ) → Link → List Link → Machine → Machine
taken_up (KeptValue v) next l ls m = handed next v l ls m
taken_up (KeptExit target) next l ls m = record m { doing = Leaving target; operands = lowered l.height m.operands; chain = ls }

-- What leaving a frame with a value does, by its kind, at a line after which this position comes next. A call goes on where its caller
-- does. The value of a cleanup is forgotten.
abbrev pub closed_by : LinkKind → (next : ℕ) → Operand → Link → List Link → Machine → Machine
closed_by (CallLink back base) next v l ls m = handed back v l ls m
closed_by (ProtectLink cleanup) next v l ls m = turned (KeptValue v) cleanup l ls m
closed_by (CleanupLink kept) next v l ls m = taken_up kept next l ls m
closed_by kind next v l ls m = handed next v l ls m

-- the innermost frame is left with the first operand
abbrev pub closes : (next : ℕ) → List Link → Machine → Machine
closes next [] m = m
closes next (l ∷ ls) m = closed_by l.kind next (top m.operands) l ls m

-- An exit leaves a frame that is not its target. A Protect frame turns, and keeps the exit. A cleanup is given up, with what it keeps.
abbrev pub dropped_by : LinkKind → Target → Link → List Link → Machine → Machine
dropped_by (ProtectLink cleanup) target l ls m = turned (KeptExit target) cleanup l ls m
dropped_by kind target l ls m = restored kind (record m { operands = lowered l.height m.operands; chain = ls })

-- the first clause whose class covers this one
abbrev pub start_for : Class → List Start → Option Start
start_for class [] = None
start_for class (c ∷ cs) = if covers c.class class then Some c else start_for class cs

-- the clause for the condition that a value is
abbrev pub start_of : Node → List Start → Option Start
start_of (Cond c) starts = start_for c.class starts
start_of v starts = None

-- a clause is done outside its frame
abbrev pub taken_by : Option Start → Operand → Link → List Link → Machine → Machine
taken_by None condition l ls m = record m { operands = lowered l.height m.operands; chain = ls }
taken_by (Some c) condition l ls m =
    record m { doing = Running c.start; operands = with_condition c.is_given condition (lowered l.height m.operands); chain = ls }

-- an exit reaches its target; a frame of another kind is passed like any
abbrev pub arrives_by : LinkKind → Operand → Target → Link → List Link → Machine → Machine
arrives_by (BlockLink entry back) v target l ls m = handed back v l ls m
arrives_by (CatchLink tag back) v target l ls m = handed back v l ls m
arrives_by (HandlerLink starts) v target l ls m = taken_by (start_of (value_of v) starts) v l ls m
arrives_by kind v target l ls m = dropped_by kind target l ls m

-- an exit at a frame
abbrev pub exits_at : Target → Link → List Link → Machine → Machine
exits_at (Base ending) l ls m = dropped_by l.kind (Base ending) l ls m
exits_at (ToFrame outside v) l ls m =
    if length ls == outside then arrives_by l.kind v (ToFrame outside v) l ls m else dropped_by l.kind (ToFrame outside v) l ls m

-- one point of an exit, which leaves the innermost frame
abbrev pub exited : Target → List Link → Machine → Machine
exited target [] m = m
exited target (l ∷ ls) m = exits_at target l ls m
