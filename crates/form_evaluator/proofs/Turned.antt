-- A turn keeps what a run keeps.
use Rattle.std.proofs.Common.{◌≡◌, ℕ, zero, suc, ◌+◌, ◌-◌, ◌<◌, ◌≤◌, List, [], ◌∷◌, ◌++◌, Bool, true, false, ◌&&◌, nat_lt, Some, Result, Ok, Err, length, length-append, append-nil, refl, ap, sym, subst, ◌∙◌, arith}
use Rattle.std.proofs.lemmas.Bool.Decides.{nat_tests}
use Rattle.lisp_base.specs.declared.condition.Class.{Class}
use Rattle.lisp_base.specs.declared.value.Node.{Node}
use Rattle.lisp_base.specs.declared.id.Actor.TheVariants.{Thread}
use Rattle.plain_program.specs.Program.{PlainProgram}
use Rattle.plain_program.specs.Points.{Points, Done, Do, Ask, Test, Enter, main_points}
use Rattle.plain_program.specs.declared.act.Opening.{Opening}
use Rattle.plain_program.specs.declared.act.Opening.TheVariants.{Bind}
use Rattle.plain_program.specs.declared.act.Question.{Question}
use Rattle.plain_program.specs.declared.act.Question.TheVariants.{Print, Read, Write, Define, EndThread}
use Rattle.world_semantics.specs.declared.entry.Entry.{Entry}
use Rattle.world_semantics.specs.declared.op.Op.{Op}
use Rattle.world_semantics.specs.declared.op.Op.TheVariants.{Get, Set, Boundp, Out, Finish}
use Rattle.world_semantics.specs.declared.op.Reply.{Reply}
use Rattle.world_semantics.specs.declared.op.Reply.TheVariants.{Okay, Value, Unbound, Truth}
use Rattle.world_semantics.specs.declared.phase.Phase.{Phase}
use Rattle.world_semantics.specs.declared.phase.Phase.TheVariants.{Alive, Ended as HasEnded}
use Rattle.world_semantics.specs.World.{World, first_world}
use Rattle.world_semantics.specs.declared.phase.Ending.{Ending}
use Rattle.world_semantics.specs.Effect.{phases_after, effect_of, reply_of, world_after}
use Rattle.plain_threads.specs.Acts.{top, result_of}
use Rattle.plain_threads.specs.State.{Control, At, Exit, Ended, FrameKind, BindFrame, Frame, ThreadState, first_state}
use Rattle.plain_threads.specs.Step.{acted, ask_step, enter_step, leave_step, pop_step, put_back, has_room, step_by, read_reply, question_reply, test_reply, reply_by as reply_step, local_step_of, next_of, after_reply, going_on, advanced, closed}
use Rattle.plain_threads.specs.declared.next.Next.TheVariants.{Local, Operation, Nothing}
use Rattle.plain_runs.specs.Replay.{Configuration, IsLegalBy, AreLegal, MayDo, first_configuration, after_entry, after_entries}
use Rattle.form_evaluator.specs.declared.evaluator.Evaluator.{Evaluator}
use Rattle.form_evaluator.specs.declared.run.Run.{Run}
use Rattle.plain_runs.specs.Over.{goes_on}
use Rattle.plain_program.specs.inside.Steps.{steps_of}
use Rattle.world_semantics.specs.declared.global.Global.{Global}
use Rattle.world_semantics.specs.World.{unbound_all}
use Rattle.form_evaluator.specs.inside.Evaluator.{Stands}
use Rattle.form_evaluator.specs.declared.evaluator.Doing.TheVariants.{Running}
use Rattle.form_evaluator.specs.inside.Running.{Ran, Stops, AsksFor, phase_by, globals_by, reply_by}

-- a local point is one point
acted-points : (r : Result (List Node) Class) (after : Points) (s : ThreadState) → (acted r after s).points ≡ s.points
acted-points (Ok vs) after s = refl
acted-points (Err class) after s = refl

ask_step-points : (q : Question) (after : Points) (vs : List Node) (s : ThreadState) → (ask_step q after vs s).points ≡ s.points
ask_step-points Print after vs s = refl
ask_step-points (Read symbol) after vs s = refl
ask_step-points (Write symbol) after vs s = refl
ask_step-points (Define symbol) after vs s = refl
ask_step-points EndThread after vs s = refl

enter_step-points : (room : Bool) (o : Opening) (p : ℕ) (body after : Points) (vs : List Node) (s : ThreadState) → (enter_step room o p body after vs s).points ≡ s.points
enter_step-points true (Bind symbol above) p body after vs s = refl
enter_step-points false o p body after vs s = refl

put_back-points : (k : FrameKind) (s : ThreadState) → (put_back k s).points ≡ s.points
put_back-points (BindFrame bindings) s = refl

leave_step-points : (fs : List Frame) (vs : List Node) (s : ThreadState) → (leave_step fs vs s).points ≡ s.points
leave_step-points [] vs s = refl
leave_step-points (f ∷ fs) vs s = put_back-points f.kind (record s { control = At f.after (top vs ∷ f.values); frames = fs })

pop_step-points : (fs : List Frame) (s : ThreadState) → (pop_step fs s).points ≡ s.points
pop_step-points [] s = refl
pop_step-points (f ∷ fs) s = put_back-points f.kind (record s { frames = fs })

step_by-points : (c : Control) (s : ThreadState) → (step_by c s).points ≡ s.points
step_by-points (At Done vs) s = leave_step-points s.frames vs s
step_by-points (At (Do act p after) vs) s = acted-points (result_of act vs) after s
step_by-points (At (Ask q p after) vs) s = ask_step-points q after vs s
step_by-points (At (Test symbol p value after) vs) s = refl
step_by-points (At (Enter o p body after) vs) s = enter_step-points (has_room s) o p body after vs s
step_by-points (Exit target) s = pop_step-points s.frames s
step_by-points Ended s = refl

local_step-points : (s : ThreadState) → (local_step_of s).points ≡ suc s.points
local_step-points s = step_by-points s.control (record s { points = suc s.points })

reply-points : (reply : Reply) (s : ThreadState) → (after_reply reply s).points ≡ suc s.points
reply-points reply s = by_control s.control (record s { points = suc s.points })
  where
    by_read : (reply : Reply) (after : Points) (vs : List Node) (t : ThreadState) → (read_reply reply after vs t).points ≡ t.points
    by_read Okay after vs t = refl
    by_read (Value v) after vs t = refl
    by_read Unbound after vs t = refl
    by_read (Truth b) after vs t = refl

    by_question : (q : Question) (after : Points) (vs : List Node) (t : ThreadState) → (question_reply q reply after vs t).points ≡ t.points
    by_question Print after vs t = refl
    by_question (Read symbol) after vs t = by_read reply after vs t
    by_question (Write symbol) after vs t = refl
    by_question (Define symbol) after vs t = refl
    by_question EndThread after vs t = refl

    by_test : (reply : Reply) (symbol : ℕ) (value after : Points) (vs : List Node) (t : ThreadState) → (test_reply reply symbol value after vs t).points ≡ t.points
    by_test (Truth true) symbol value after vs t = refl
    by_test (Truth false) symbol value after vs t = refl
    by_test Okay symbol value after vs t = refl
    by_test (Value v) symbol value after vs t = refl
    by_test Unbound symbol value after vs t = refl

    by_control : (c : Control) (t : ThreadState) → (reply_step c reply t).points ≡ t.points
    by_control (At Done vs) t = refl
    by_control (At (Do act p after) vs) t = refl
    by_control (At (Ask q p after) vs) t = by_question q after vs t
    by_control (At (Test symbol p value after) vs) t = by_test reply symbol value after vs t
    by_control (At (Enter o p body after) vs) t = refl
    by_control (Exit target) t = refl
    by_control Ended t = refl

-- a local point leads to where the thread would come anyway
closed-local : (limit : ℕ) (s : ThreadState) → next_of s ≡ Local → s.points < limit → closed limit (local_step_of s) ≡ closed limit s
closed-local limit s n h =
    let left : limit - s.points ≡ suc (limit - suc s.points) = omega arith in
    let after : closed limit (local_step_of s) ≡ advanced (limit - suc s.points) (local_step_of s) =
    ap (λ p. advanced (limit - p) (local_step_of s)) (local_step-points s) in
    let step : going_on (next_of s) s (λ t. advanced (limit - suc s.points) t) ≡ advanced (limit - suc s.points) (local_step_of s) =
    ap (λ x. going_on x s (λ t. advanced (limit - suc s.points) t)) n in
    let before : closed limit s ≡ advanced (suc (limit - suc s.points)) s = ap (λ m. advanced m s) left in
    after ∙ sym step ∙ sym before

-- at an operation, at the end and without points a thread stays
advanced-operation : (n : ℕ) (s : ThreadState) (op : Op) → next_of s ≡ Operation op → advanced n s ≡ s
advanced-operation zero s op e = refl
advanced-operation (suc n) s op e = ap (λ x. going_on x s (λ t. advanced n t)) e

advanced-nothing : (n : ℕ) (s : ThreadState) → next_of s ≡ Nothing → advanced n s ≡ s
advanced-nothing zero s e = refl
advanced-nothing (suc n) s e = ap (λ x. going_on x s (λ t. advanced n t)) e

closed-out : (limit : ℕ) (s : ThreadState) → limit ≤ s.points → closed limit s ≡ s
closed-out limit s h = let none : limit - s.points ≡ 0 = omega arith in ap (λ m. advanced m s) none

-- a local point of the evaluator is one of the run
pub local_ran : (limit taken : ℕ) (f : PlainProgram) (run : Run) (e : Evaluator) → Ran limit f taken run → taken < limit
    → ((s : ThreadState) → Stands s run.evaluator → Local ≡ next_of s)
    → ((s : ThreadState) → Stands s run.evaluator → next_of s ≡ Local → Stands (local_step_of s) e)
    → Ran limit f (suc taken) (record run { evaluator = e })
local_ran limit taken f run e r h next step =
    let local : next_of r.present ≡ Local = sym (next r.present r.stands) in
    let room : r.present.points < limit = omega (arith, r.points) in
    record {
      start = r.start;
      present = local_step_of r.present;
      world = r.world;
      legal = r.legal;
      leads = r.leads;
      same = closed-local limit r.present local room ∙ r.same;
      stands = step r.present r.stands local;
      points = local_step-points r.present ∙ ap (λ n. suc n) r.points;
      globals = r.globals;
      phases = r.phases;
      few = omega (arith, r.few);
    }

and-false : (b : Bool) → b && false ≡ false
and-false true = refl
and-false false = refl

-- nothing comes next
pub nothing_left : (limit taken : ℕ) (f : PlainProgram) (run : Run) → Ran limit f taken run
    → ((s : ThreadState) → Stands s run.evaluator → Nothing ≡ next_of s) → Stops limit f run
nothing_left limit taken f run r next =
    let none : next_of r.present ≡ Nothing = sym (next r.present r.stands) in
    record {
      taken = taken;
      ran = r;
      settled = advanced-nothing (limit - r.present.points) r.present none;
      idle = ap (λ x. nat_lt r.present.points limit && goes_on x 0 r.world) none ∙ and-false _;
    }

-- no points are left
pub out_of_points : (limit taken : ℕ) (f : PlainProgram) (run : Run) → Ran limit f taken run → limit ≤ taken → Stops limit f run
out_of_points limit taken f run r h =
    let none : nat_lt r.present.points limit ≡ false = not_below r.present.points limit (omega (arith, r.points)) in
    record {
      taken = taken;
      ran = r;
      settled = closed-out limit r.present (omega (arith, r.points));
      idle = ap (λ b. b && goes_on (next_of r.present) 0 r.world) none;
    }
  where
    not_below : (m n : ℕ) → n ≤ m → nat_lt m n ≡ false
    not_below m n e = grind (arith, nat_tests)

-- one more legal entry
legal_more : (limit n : ℕ) (es : List Entry) (e : Entry) (c : Configuration) → AreLegal limit n c es → e.ticket ≡ n + length es
    → IsLegalBy e.actor limit (after_entries limit es c) e → AreLegal limit n c (es ++ e ∷ [])
legal_more limit n [] e c h t l = ((omega arith), l, tt)
legal_more limit n (x ∷ xs) e c h t l = (h.0, h.1, legal_more limit (suc n) xs e (after_entry limit x c) h.2 (omega arith) l)

leads_more : (limit : ℕ) (es : List Entry) (e : Entry) (c : Configuration)
    → after_entries limit (es ++ e ∷ []) c ≡ after_entry limit e (after_entries limit es c)
leads_more limit [] e c = refl
leads_more limit (x ∷ xs) e c = leads_more limit xs e (after_entry limit x c)

answered : (op : Op) (w : World) → reply_of (effect_of op (Thread 0) w) ≡ Some (reply_by op w.globals)
answered (Get symbol) w = refl
answered (Set symbol v) w = refl
answered (Boundp symbol) w = refl
answered (Out printed) w = refl
answered (Finish ending) w = refl

ended_alone : (ending : Ending) (phase : Phase) → phases_after (Thread 0) ending (phase ∷ []) ≡ phase_by (Finish ending) phase ∷ []
ended_alone ending Alive = refl
ended_alone ending (HasEnded before) = refl

phases_by : (op : Op) (w : World) (phase : Phase) → w.phases ≡ phase ∷ [] → (world_after (effect_of op (Thread 0) w) w).phases ≡ phase_by op phase ∷ []
phases_by (Get symbol) w phase h = h
phases_by (Set symbol v) w phase h = h
phases_by (Boundp symbol) w phase h = h
phases_by (Out printed) w phase h = h
phases_by (Finish ending) w phase h = ap (λ ps. phases_after (Thread 0) ending ps) h ∙ ended_alone ending phase

globals_after : (op : Op) (w : World) → (world_after (effect_of op (Thread 0) w) w).globals ≡ globals_by op w.globals
globals_after (Get symbol) w = refl
globals_after (Set symbol v) w = refl
globals_after (Boundp symbol) w = refl
globals_after (Out printed) w = refl
globals_after (Finish ending) w = refl

pub stands-points : (s : ThreadState) (e : Evaluator) → Stands s e → e.points ≡ s.points
stands-points s e h = ap (λ (d : Evaluator). d.points) h.shown

-- an operation of the evaluator is an entry of the run
pub operation_ran : (limit taken : ℕ) (f : PlainProgram) (run : Run) (op : Op) (reply : Reply) (e : Evaluator) (globals : List Global) (phase : Phase) (entries : List Entry) → Ran limit f taken run → taken < limit
    → AsksFor op run.evaluator
    → entries ≡ run.entries ++ (record { ticket = length run.entries + 1; actor = Thread 0; point = run.evaluator.points + 1; op = op; reply = reply }) ∷ []
    → reply ≡ reply_by op run.globals → ((s : ThreadState) → Stands s run.evaluator → Stands (after_reply reply s) e)
    → globals ≡ globals_by op run.globals → phase ≡ phase_by op run.phase
    → Ran limit f (suc taken) (record { evaluator = e; globals = globals; phase = phase; entries = entries })
operation_ran limit taken f run op reply e globals phase entries r h asks more replied accept g p =
    let entry : Entry = record { ticket = length run.entries + 1; actor = Thread 0; point = run.evaluator.points + 1; op = op; reply = reply } in
    let next : next_of r.present ≡ Operation op = sym (asks r.present r.stands) in
    let here : closed limit r.start ≡ r.present = sym r.same ∙ advanced-operation (limit - r.present.points) r.present op next in
    let shown : run.evaluator.points ≡ r.present.points = stands-points r.present run.evaluator r.stands in
    let may : MayDo limit r.present r.world entry =
    record { operation = next; left = omega (arith, r.points); point = omega arith; answer = answered op r.world ∙ ap (λ gs. Some (reply_by op gs)) r.globals ∙ ap (λ x. Some x) (sym replied) } in
    let legal_there : MayDo limit (closed limit r.start) r.world entry =
    subst (λ (s : ThreadState). MayDo limit s r.world entry) (sym here) may in
    let legal' : IsLegalBy (Thread 0) limit (after_entries limit run.entries (first_configuration f)) entry =
    subst (λ (c : Configuration). IsLegalBy (Thread 0) limit c entry) (sym r.leads) legal_there in
    record {
      start = after_reply reply (closed limit r.start);
      present = after_reply reply r.present;
      world = world_after (effect_of op (Thread 0) r.world) r.world;
      legal = rw more (legal_more limit 1 run.entries entry (first_configuration f) r.legal (omega arith) legal');
      leads = rw more (leads_more limit run.entries entry (first_configuration f) ∙ ap (λ c. after_entry limit entry c) r.leads);
      same = ap (λ s. closed limit (after_reply reply s)) (sym here);
      stands = accept r.present r.stands;
      points = reply-points reply r.present ∙ ap (λ n. suc n) r.points;
      globals = globals_after op r.world ∙ ap (globals_by op) r.globals ∙ sym g;
      phases = rw p (phases_by op r.world run.phase r.phases);
      few = rw (more, length-append) (omega (arith, r.few));
    }

-- a run before its first point
pub begun : (limit : ℕ) (f : PlainProgram) (run : Run)
    → run.evaluator ≡ record { doing = Running; ahead = steps_of (main_points f.forms); values = []; frames = []; bindings = []; store = []; points = 0 }
    → run.globals ≡ unbound_all f.specials → run.phase ≡ Alive → run.entries ≡ [] → Ran limit f 0 run
begun limit f run e g p n =
    record {
      start = first_state f.forms;
      present = first_state f.forms;
      world = first_world f.specials;
      legal = rw n tt;
      leads = rw n refl;
      same = refl;
      stands = record { shown = e ∙ ap (λ a. record { doing = Running; ahead = a; values = []; frames = []; bindings = []; store = []; points = 0 }) (sym (append-nil (steps_of (main_points f.forms)))); nested = refl };
      points = refl;
      globals = sym g;
      phases = rw p refl;
      few = rw n (omega arith);
    }

-- the evaluator counts the points of the run
pub counted : (limit taken : ℕ) (f : PlainProgram) (run : Run) → Ran limit f taken run → run.evaluator.points ≡ taken
counted limit taken f run r = stands-points r.present run.evaluator r.stands ∙ r.points
