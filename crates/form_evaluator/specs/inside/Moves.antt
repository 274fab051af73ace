-- What the steps of the evaluator do to it.
use Rattle.std.specs.Prelude.{ℕ, suc, ◌+◌, List, [], ◌∷◌, ◌++◌, Bool, true, false, ◌&&◌, nat_lt, Option, Some, None, Result, Ok, Err, unwrap_or, slice_get, length, take, drop}
use Rattle.lisp_base.specs.Value.{nil}
use Rattle.lisp_base.specs.declared.condition.Class.{Class}
use Rattle.lisp_base.specs.declared.condition.Class.TheVariants.{UnboundVariable, StorageCondition}
use Rattle.lisp_base.specs.declared.value.Node.{Node}
use Rattle.lisp_base.specs.declared.value.Node.TheVariants.{Symbol}
use Rattle.environment_semantics.specs.Environment.{held_at, stored}
use Rattle.binding_stack.specs.Stack.{word_of, with_binding, kept}
use Rattle.plain_program.specs.declared.act.Opening.{Opening}
use Rattle.plain_program.specs.declared.act.Opening.TheVariants.{Bind}
use Rattle.plain_program.specs.declared.act.Question.{Question}
use Rattle.plain_program.specs.declared.act.Question.TheVariants.{Print, Read, Write, Define, EndThread}
use Rattle.world_semantics.specs.declared.op.Op.TheVariants.{Get, Set, Boundp, Out, Finish}
use Rattle.world_semantics.specs.declared.op.Printed.TheVariants.{Print as Printing}
use Rattle.world_semantics.specs.declared.op.Reply.{Reply}
use Rattle.world_semantics.specs.declared.op.Reply.TheVariants.{Okay, Value, Unbound, Truth}
use Rattle.world_semantics.specs.declared.phase.Ending.{Ending}
use Rattle.world_semantics.specs.declared.phase.Ending.TheVariants.{Returned, Aborted}
use Rattle.plain_program.specs.declared.steps.Step.{Step}
use Rattle.plain_program.specs.declared.steps.Step.TheVariants.{Act, Ask, Test, Enter, Leave}
use Rattle.plain_threads.specs.declared.next.Next.{Next}
use Rattle.plain_threads.specs.declared.next.Next.TheVariants.{Local, Operation, Nothing}
use Rattle.plain_threads.specs.Acts.{top, result_of}
use Rattle.plain_threads.specs.Step.{unless_bound}
use Rattle.form_evaluator.specs.declared.evaluator.Doing.{Doing}
use Rattle.form_evaluator.specs.declared.evaluator.Doing.TheVariants.{Running, Leaving, Over}
use Rattle.form_evaluator.specs.declared.evaluator.OpenFrame.{OpenFrame}
use Rattle.form_evaluator.specs.declared.evaluator.Evaluator.{Evaluator}
use Rattle.form_evaluator.specs.inside.Lists.{front_of}

-- it leaves to the base, to end so
abbrev pub left_to : Ending → Evaluator → Evaluator
left_to ending e = record e { doing = Leaving ending; ahead = []; values = [] }

-- a class is signalled
abbrev pub signalled : Class → Evaluator → Evaluator
signalled class e = left_to (Aborted (Some (record { class = class; text = None }))) e

-- it has ended
abbrev pub ended_now : Evaluator → Evaluator
ended_now e = record e { doing = Over; ahead = []; values = [] }

-- the next step is taken, and leaves these values
abbrev pub gone_on : List Node → Evaluator → Evaluator
gone_on values e = record e { ahead = drop 1 e.ahead; values = values }

-- an act gave these values, or signalled this class
abbrev pub shown_after : Result (List Node) Class → Evaluator → Evaluator
shown_after (Ok values) e = gone_on values e
shown_after (Err class) e = signalled class e

-- a variable that names this place is read
abbrev pub read_at : Option ℕ → Evaluator → Evaluator
read_at place e = gone_on (unwrap_or (held_at place e.store) nil ∷ e.values) e

-- a variable that names this place is written
abbrev pub written_at : Option ℕ → Evaluator → Evaluator
written_at place e = record (gone_on e.values e) { store = stored place (top e.values) e.store }

-- a question that is a local point
abbrev pub asked_after : Question → Evaluator → Evaluator
asked_after Print e = e
asked_after (Read symbol) e = read_at (word_of symbol e.bindings) e
asked_after (Write symbol) e = written_at (word_of symbol e.bindings) e
asked_after (Define symbol) e = e
asked_after EndThread e = e

-- a variable is bound
abbrev pub bound_at : ℕ → ℕ → ℕ → Evaluator → Evaluator
bound_at symbol above place e =
    record (gone_on (take above e.values) e) {
      frames = (record { place = place; values = drop (above + 1) e.values }) ∷ e.frames;
      bindings = with_binding symbol (length e.store) e.bindings;
      store = e.store ++ unwrap_or (slice_get e.values above) nil ∷ [];
    }

-- a form is opened where there is room
abbrev pub opened_in : Bool → Opening → ℕ → Evaluator → Evaluator
opened_in true (Bind symbol above) place e = bound_at symbol above place e
opened_in false opening place e = signalled StorageCondition e

-- the bindings down to so many
abbrev pub unbound_to : ℕ → Evaluator → Evaluator
unbound_to height e = record e { bindings = kept height e.bindings }

-- the innermost form is left with the front value
abbrev pub left_frame : List OpenFrame → Evaluator → Evaluator
left_frame [] e = e
left_frame (f ∷ fs) e = unbound_to (length fs) (record (gone_on (top e.values ∷ f.values) e) { frames = fs })

-- an exit pops the innermost form
abbrev pub popped_frame : List OpenFrame → Evaluator → Evaluator
popped_frame [] e = e
popped_frame (f ∷ fs) e = unbound_to (length fs) (record e { frames = fs })

-- there is room for a frame and a binding
abbrev pub room_in : Evaluator → Bool
room_in e = nat_lt (length e.frames) 4096 && nat_lt (length e.bindings) 4096

-- a local point, by the first step ahead
abbrev pub step_after : Option Step → Evaluator → Evaluator
step_after None e = e
step_after (Some (Act act)) e = shown_after (result_of act e.values) e
step_after (Some (Ask question)) e = asked_after question e
step_after (Some (Test symbol skipped)) e = e
step_after (Some (Enter opening place)) e = opened_in (room_in e) opening place e
step_after (Some Leave) e = left_frame e.frames e

abbrev pub doing_after : Doing → Evaluator → Evaluator
doing_after Running e = step_after (front_of e.ahead) e
doing_after (Leaving ending) e = popped_frame e.frames e
doing_after Over e = e

-- one point more was taken
abbrev pub counted : Evaluator → Evaluator
counted e = record e { points = suc e.points }

-- a local point
abbrev pub local_after : Evaluator → Evaluator
local_after e = doing_after e.doing (counted e)

-- what a question is here
abbrev pub asked_of : Question → Evaluator → Next
asked_of Print e = Operation (Out (Printing (top e.values)))
asked_of (Read symbol) e = unless_bound (word_of symbol e.bindings) (Get symbol)
asked_of (Write symbol) e = unless_bound (word_of symbol e.bindings) (Set symbol (top e.values))
asked_of (Define symbol) e = Operation (Set symbol (top e.values))
asked_of EndThread e = Operation (Finish (Returned (top e.values)))

-- what comes next, by the first step ahead
abbrev pub step_next : Option Step → Evaluator → Next
step_next None e = Nothing
step_next (Some (Act act)) e = Local
step_next (Some (Ask question)) e = asked_of question e
step_next (Some (Test symbol skipped)) e = Operation (Boundp symbol)
step_next (Some (Enter opening place)) e = Local
step_next (Some Leave) e = Local

abbrev pub leaving_next : Ending → List OpenFrame → Next
leaving_next ending [] = Operation (Finish ending)
leaving_next ending (f ∷ fs) = Local

abbrev pub doing_next : Doing → Evaluator → Next
doing_next Running e = step_next (front_of e.ahead) e
doing_next (Leaving ending) e = leaving_next ending e.frames
doing_next Over e = Nothing

-- what comes next
abbrev pub next_shown : Evaluator → Next
next_shown e = doing_next e.doing e

-- a global value was asked for
abbrev pub read_reply_after : Reply → Evaluator → Evaluator
read_reply_after (Value v) e = gone_on (v ∷ e.values) e
read_reply_after Unbound e = signalled UnboundVariable e
read_reply_after Okay e = e
read_reply_after (Truth b) e = e

abbrev pub question_reply_after : Question → Reply → Evaluator → Evaluator
question_reply_after Print reply e = gone_on e.values e
question_reply_after (Read symbol) reply e = read_reply_after reply e
question_reply_after (Write symbol) reply e = gone_on e.values e
question_reply_after (Define symbol) reply e = gone_on (Symbol symbol ∷ drop 1 e.values) e
question_reply_after EndThread reply e = ended_now e

-- a variable that has a global value is not defined: so many steps are passed over
abbrev pub test_reply_after : Reply → ℕ → ℕ → Evaluator → Evaluator
test_reply_after (Truth true) symbol skipped e = record e { ahead = drop skipped (drop 1 e.ahead); values = Symbol symbol ∷ e.values }
test_reply_after (Truth false) symbol skipped e = gone_on e.values e
test_reply_after Okay symbol skipped e = e
test_reply_after (Value v) symbol skipped e = e
test_reply_after Unbound symbol skipped e = e

-- a reply, by the first step ahead
abbrev pub step_reply : Option Step → Reply → Evaluator → Evaluator
step_reply None reply e = e
step_reply (Some (Act act)) reply e = e
step_reply (Some (Ask question)) reply e = question_reply_after question reply e
step_reply (Some (Test symbol skipped)) reply e = test_reply_after reply symbol skipped e
step_reply (Some (Enter opening place)) reply e = e
step_reply (Some Leave) reply e = e

abbrev pub doing_reply : Doing → Reply → Evaluator → Evaluator
doing_reply Running reply e = step_reply (front_of e.ahead) reply e
doing_reply (Leaving ending) reply e = ended_now e
doing_reply Over reply e = e

-- a reply to the operation that came next
abbrev pub reply_after : Reply → Evaluator → Evaluator
reply_after reply e = doing_reply e.doing reply (counted e)
