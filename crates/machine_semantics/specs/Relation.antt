-- When the machine stands for the state of a thread.
use Rattle.std.specs.Prelude.{◌≡◌, ℕ, suc, ◌-◌, ◌<◌, ◌≤◌, Bool, true, false, List, [], ◌∷◌, ◌++◌, Option, Some, None, length, slice_get}
use Rattle.lisp_base.specs.declared.condition.Class.{Class}
use Rattle.lisp_base.specs.declared.word.Operand.{Operand}
use Rattle.lisp_program.specs.Program.{Function}
use Rattle.environment_semantics.specs.Environment.{Binding}
use Rattle.form_points.specs.Operands.{act_leaves, act_takes, opening_leaves, opening_takes, question_leaves, question_takes}
use Rattle.form_points.specs.Points.{Points, Done, Do, Ask, Test, Choose, Loop, Turn, Enter, Protect, Handle, body_of}
use Rattle.form_points.specs.Table.{points_of}
use Rattle.form_points.specs.declared.act.Act.{Act}
use Rattle.form_points.specs.declared.act.Act.TheVariants.{BindLocal, Discard, ReadLocal, ReturnFrom, WriteLocal}
use Rattle.form_points.specs.declared.act.Opening.{Opening}
use Rattle.form_points.specs.declared.act.Opening.TheVariants.{Block}
use Rattle.form_points.specs.declared.act.Question.{Question}
use Rattle.lisp_code.specs.Lines.{Line, Does, Asks, Tests, Branches, LoopTests, JumpsTo, Enters, EntersProtect, EntersHandler, Leaves, LeavesProtect, LeavesCleanup, LeavesHandler, act_line, seat_of}
use Rattle.lisp_code.specs.Validity.{replaced}
use Rattle.lisp_code.specs.declared.code.FunctionCode.{FunctionCode}
use Rattle.lisp_code.specs.declared.instr.Clause.{Clause as Start}
use Rattle.thread_semantics.specs.Acts.{function_named}
use Rattle.thread_semantics.specs.State.{At, BindFrame, BlockFrame, CallFrame, CatchFrame, Clause, CleanupFrame, Control, Ended, Exit, Frame, FrameKind, HandlerFrame, Kept, ProtectFrame, Setting, Target, ThreadState}
use Rattle.thread_semantics.specs.Step.{clauses_of}
use Rattle.machine_semantics.specs.Links.{exited, padded}
use Rattle.machine_semantics.specs.Machine.{BindLink, BlockLink, CallLink, CatchLink, CleanupLink, Code, Doing, HandlerLink, HasLine, Leaving, Link, LinkKind, Machine, Over, ProtectLink, Running, names_in}
use Rattle.machine_semantics.specs.Ran.{ran}

-- jumps alone lead from one position to another
pub data Jumped (code : Code) : ℕ → ℕ → Type 0 where
  here : {p : ℕ} → Jumped code p p
  jump : {p to q : ℕ} (place : ℕ) → HasLine code p (JumpsTo to) place → Jumped code to q → Jumped code p q

-- the variable that an act names has a number below this one
abbrev pub IsActIn : ℕ → Act → Type 0
IsActIn room (ReadLocal x) = x < room
IsActIn room (WriteLocal x) = x < room
IsActIn room (BindLocal x above) = x < room
IsActIn room (ReturnFrom b) = b < room
IsActIn room act = Unit {0}

-- the variable that an opening names has a number below this one
abbrev pub IsOpeningIn : ℕ → Opening → Type 0
IsOpeningIn room (Block x) = x < room
IsOpeningIn room opening = Unit {0}

-- one value more where the condition is given
abbrev pub with_one : Bool → ℕ → ℕ
with_one false n = n
with_one true n = suc n

-- Where so many variables have room in a call and so many values lie in the innermost frame, these points lie in the code from this
-- position on. At their end so many values lie there, and the position is this one. Jumps may stand before each line.
mutual
  pub data Lies (code : Code) (room : ℕ) : (values from : ℕ) → Points → (left to : ℕ) → Type 0 where
    -- nothing more
    done : {n p q : ℕ} → Jumped code p q → Lies code room n p Done n q
    -- the line of an act, which finds its operands
    does : {n p q n' e place : ℕ} {act : Act} {after : Points} → Jumped code p q → HasLine code q (act_line (names_in code) act) place
        → act_takes act ≤ n → IsActIn room act
        → Lies code room (replaced (act_takes act) (act_leaves act) n) (suc q) after n' e → Lies code room n p (Do act place after) n' e
    -- the line of a question
    asks : {n p q n' e place : ℕ} {question : Question} {after : Points} → Jumped code p q → HasLine code q (Asks question) place
        → question_takes question ≤ n
        → Lies code room (replaced (question_takes question) (question_leaves question) n) (suc q) after n' e
        → Lies code room n p (Ask question place after) n' e
    -- the line of a question, and what comes where the reply does not settle the matter
    tests : {n p q mid n' e place to : ℕ} {question : Question} {more after : Points} → Jumped code p q → HasLine code q (Tests question to) place
        → question_takes question ≤ n → mid ≡ replaced (question_takes question) (question_leaves question) n
        → Lies code room n (suc q) more mid to → Lies code room mid to after n' e → Lies code room n p (Test question place more after) n' e
    -- a branch, and both ways to where they meet
    chooses : {n base p q to mid n' e place : ℕ} {first second after : Points} → Jumped code p q → HasLine code q (Branches to) place → n ≡ suc base
        → Lies code room base (suc q) first n mid → Lies code room base to second n mid → Lies code room n mid after n' e
        → Lies code room n p (Choose place first second after) n' e
    -- a loop's test, and then its turn
    loops : {n m p mid n' e place : ℕ} {test body after : Points} → m ≡ suc n → Lies code room n p test m mid
        → Lies code room m mid (Turn place test body after) n' e → Lies code room n p (Loop place test body after) n' e
    -- the line that takes the value of the test; after the body its value is forgotten, and the test comes again
    turns : {n base p q to start r z n' e place : ℕ} {test body after : Points} → Jumped code p q → HasLine code q (LoopTests to) place → n ≡ suc base
        → Lies code room base start test n q → Lies code room base (suc q) body n r → Jumped code r z → HasLine code z (Does Discard) place
        → Jumped code (suc z) start → Lies code room n to after n' e → Lies code room n p (Turn place test body after) n' e
    -- the line that opens a frame, the body, and the line that leaves it, after which an exit goes on
    enters : {n p q r z n' e place : ℕ} {opening : Opening} {body after : Points} → Jumped code p q → HasLine code q (Enters opening (suc z)) place
        → opening_takes opening ≤ n → IsOpeningIn room opening
        → Lies code room (opening_leaves opening) (suc q) body 1 r → Jumped code r z → HasLine code z Leaves place
        → Lies code room (suc (n - opening_takes opening)) (suc z) after n' e → Lies code room n p (Enter opening place body after) n' e
    -- the form that is protected, and its cleanup
    protects : {n p q r z c r' z' n' e place : ℕ} {body cleanup after : Points} → Jumped code p q → HasLine code q (EntersProtect c) place
        → Lies code room 0 (suc q) body 1 r → Jumped code r z → HasLine code z LeavesProtect place
        → Lies code room 0 c cleanup 1 r' → Jumped code r' z' → HasLine code z' LeavesCleanup place
        → Lies code room (suc n) (suc z') after n' e → Lies code room n p (Protect place body cleanup after) n' e
    -- the form with handlers, and the clauses, each of which comes to where the form goes on
    handles : {n p q r z to n' e place : ℕ} {starts : List Start} {body clauses after : Points} → Jumped code p q → HasLine code q (EntersHandler starts) place
        → Lies code room 0 (suc q) body 1 r → Jumped code r z → HasLine code z (LeavesHandler to) place
        → ClausesLie code room n to starts (clauses_of clauses)
        → Lies code room (suc n) to after n' e → Lies code room n p (Handle place body clauses after) n' e

  -- each clause lies where it begins, with the values below the frame, and one more where it is given the condition
  pub data ClausesLie (code : Code) (room : ℕ) : (values to : ℕ) → List Start → List Clause → Type 0 where
    no_clause : {n to : ℕ} → ClausesLie code room n to [] []
    clause : {n to p r : ℕ} {class : Class} {is_given : Bool} {chosen : Points} {starts : List Start} {clauses : List Clause}
        → Lies code room (with_one is_given n) p chosen (suc n) r → Jumped code r to → ClausesLie code room n to starts clauses
        → ClausesLie code room n to ((record { class = class; is_given = is_given; start = p }) ∷ starts)
        ((record { class = class; is_given = is_given; chosen = chosen }) ∷ clauses)

-- a stretch from this position on, which gives one value and comes to where it is left
pub record Runs (code : Code) (room values from : ℕ) (points : Points) (end : ℕ) : Type 0 where
  pub to : ℕ
  pub lies : Lies code room values from points 1 to
  pub ends : Jumped code to end

-- all operands that wait in these frames
abbrev pub beneath : List Frame → List Operand
beneath [] = []
beneath (f ∷ fs) = f.values ++ beneath fs

-- no loop comes next: a loop begins with its test
abbrev pub IsBegun : Points → Type 0
IsBegun (Loop place test body after) = ⊥
IsBegun points = Unit {0}

-- The thread and the machine do the same, and the operands of the machine are those of the thread, with these below them. A stretch comes
-- to its end at this position. In an exit operands that belong to no one may lie above those below.
pub data Controls (code : Code) (room : ℕ) (below : List Operand) : (end : ℕ) → Control → Doing → List Operand → Type 0 where
  running : {end p : ℕ} {points : Points} {values operands : List Operand} → IsBegun points → Runs code room (length values) p points end
      → operands ≡ values ++ below → Controls code room below end (At points values) (Running p) operands
  leaving : {end : ℕ} {target : Target} {operands : List Operand} (above : List Operand) → operands ≡ above ++ below
      → Controls code room below end (Exit target) (Leaving target) operands
  over : {end : ℕ} {operands : List Operand} → Controls code room below end Ended Over operands

-- A frame of the thread, in which so many values wait, and one of the machine: how many variables have room in it and outside it, where
-- the stretch in it comes to its end, where its rest goes on, and the variables below and the bindings, in it and outside it.
pub data Kinds (code : Code) (values : ℕ)
    : FrameKind → LinkKind → (room room' end back : ℕ) (low low' : List Operand) (bindings bindings' : List Binding) → Type 0 where
  call : {room room' end back place : ℕ} {low variables : List Operand} {bs : List Binding} → HasLine code end Leaves place
      → Kinds code values (CallFrame variables) (CallLink back (length low)) room room' end back (low ++ padded room' variables) low bs bs
  bind : {room end place : ℕ} {low : List Operand} {b : Binding} {bs : List Binding} → HasLine code end Leaves place
      → Kinds code values (BindFrame bs) (BindLink (length bs)) room room end (suc end) low low (b ∷ bs) bs
  block : {room end place entry : ℕ} {low : List Operand} {bs : List Binding} → HasLine code end Leaves place
      → Kinds code values (BlockFrame entry) (BlockLink entry (suc end)) room room end (suc end) low low bs bs
  catch : {room end place : ℕ} {tag : Operand} {low : List Operand} {bs : List Binding} → HasLine code end Leaves place
      → Kinds code values (CatchFrame tag) (CatchLink tag (suc end)) room room end (suc end) low low bs bs
  protect : {room end place place' from last : ℕ} {cleanup : Points} {low : List Operand} {bs : List Binding} → HasLine code end LeavesProtect place
      → Runs code room 0 from cleanup last → HasLine code last LeavesCleanup place'
      → Kinds code values (ProtectFrame cleanup) (ProtectLink from) room room end (suc last) low low bs bs
  cleanup : {room end place : ℕ} {kept : Kept} {low : List Operand} {bs : List Binding} → HasLine code end LeavesCleanup place
      → Kinds code values (CleanupFrame kept) (CleanupLink kept) room room end (suc end) low low bs bs
  handler : {room end place to : ℕ} {clauses : List Clause} {starts : List Start} {low : List Operand} {bs : List Binding}
      → HasLine code end (LeavesHandler to) place → ClausesLie code room values to starts clauses
      → Kinds code values (HandlerFrame clauses) (HandlerLink starts) room room end to low low bs bs

-- All frames of the thread and of the machine. What waits in a frame goes on where its kind says, with one value more.
pub data Chained (code : Code) : (room end : ℕ) (low : List Operand) (bindings : List Binding) → List Frame → List Link → Type 0 where
  no_frame : {room end : ℕ} → Chained code room end [] [] [] []
  frame : {room room' end back end' : ℕ} {low low' : List Operand} {bs bs' : List Binding} {f : Frame} {l : Link} {fs : List Frame} {ls : List Link}
      → Kinds code (length f.values) f.kind l.kind room room' end back low low' bs bs'
      → Runs code room' (suc (length f.values)) back f.after end'
      → l.place ≡ f.place → l.height ≡ length (f.values ++ beneath fs)
      → Chained code room' end' low' bs' fs ls → Chained code room end low bs (f ∷ fs) (l ∷ ls)

-- what no frame changes: the thread, what places hold, how many frames were opened, and the numbers that the run is given
abbrev pub IsAlike : Setting → ThreadState → Machine → Type 0
IsAlike setting s m =
    (m.thread ≡ s.thread) × ((m.store ≡ s.store) × ((m.pushed ≡ s.pushed) × (m.limits ≡ setting.limits)))

-- all but what the thread is about to do
pub record Rest (setting : Setting) (code : Code) (room end : ℕ) (s : ThreadState) (m : Machine) : Type 0 where
  -- the variables of the callers lie below those of the present call
  pub low : List Operand
  pub chain : Chained code room end low s.environment.bindings s.frames m.chain
  pub variables : m.variables ≡ low ++ padded room s.variables
  pub base : m.base ≡ length low
  pub bindings : m.bindings ≡ s.environment.bindings
  pub points : m.points ≡ s.points
  pub alike : IsAlike setting s m

-- the machine stands for the state
pub record Stands (setting : Setting) (code : Code) (s : ThreadState) (m : Machine) : Type 0 where
  pub room : ℕ
  pub end : ℕ
  pub control : Controls code room (beneath s.frames) end s.control m.doing m.operands
  pub rest : Rest setting code room end s m

-- one point: a line, after jumps, or the point of an exit
pub data Steps (code : Code) (m : Machine) : Machine → Type 0 where
  runs : {p q place : ℕ} {line : Line} → m.doing ≡ Running p → Jumped code p q → HasLine code q line place
      → Steps code m (record (ran code line place q m) { points = suc m.points })
  exits : {target : Target} → m.doing ≡ Leaving target → Steps code m (record (exited target m.chain m) { points = suc m.points })

-- one point of the machine leads to one that stands for the state
pub record Lands (setting : Setting) (code : Code) (m : Machine) (s : ThreadState) : Type 0 where
  pub next : Machine
  pub steps : Steps code m next
  pub stands : Stands setting code s next

-- the function with this number in the code is this one: it lies where it begins, and is left where it ends
pub record IsFunctionAt (code : Code) (f : Function) (number : ℕ) : Type 0 where
  pub entry : FunctionCode
  pub there : slice_get code.functions number ≡ Some entry
  pub params : entry.params ≡ f.params
  pub end : ℕ
  pub place : ℕ
  pub body : Runs code entry.height 0 entry.entry (body_of f.place (points_of f.body)) end
  pub leaves : HasLine code end Leaves place

-- a function of the program is in the code, and no other is
abbrev pub IsFunctionIn : Code → Option Function → Option ℕ → Type 0
IsFunctionIn code None None = Unit {0}
IsFunctionIn code None (Some number) = ⊥
IsFunctionIn code (Some f) None = ⊥
IsFunctionIn code (Some f) (Some number) = IsFunctionAt code f number

-- the code has each function of the program under its name
abbrev pub HasFunctions : Setting → Code → Type 0
HasFunctions setting code = (symbol : ℕ) → IsFunctionIn code (function_named symbol setting.functions) (seat_of symbol (names_in code))
