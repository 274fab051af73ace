-- The moves of the evaluator are those of the state that it shows.
use Rattle.std.proofs.Common.{◌≡◌, ℕ, suc, List, [], ◌∷◌, ◌++◌, ◌&&◌, Bool, true, false, nat_lt, cond, Some, Result, Ok, Err, length, map, drop, refl, ap, sym, ◌∙◌, append_assoc, ◌==◌, arith}
use Rattle.std.proofs.lemmas.List.{length-map}
use Rattle.std.proofs.lemmas.Bool.Decides.{nat_tests}
use Rattle.lisp_base.specs.declared.condition.Class.{Class}
use Rattle.lisp_base.specs.declared.value.Node.{Node}
use Rattle.environment_semantics.specs.Environment.{Binding, place_of}
use Rattle.binding_stack.specs.Stack.{word_of, kept}
use Rattle.plain_program.specs.declared.act.Act.{Act}
use Rattle.plain_program.specs.declared.act.Opening.{Opening}
use Rattle.plain_program.specs.declared.act.Opening.TheVariants.{Bind}
use Rattle.plain_program.specs.declared.act.Question.{Question}
use Rattle.plain_program.specs.declared.act.Question.TheVariants.{Print, Read, Write, Define, EndThread}
use Rattle.plain_program.specs.Points.{Points, Done, Do, Ask, Test, Enter}
use Rattle.world_semantics.specs.declared.phase.Ending.{Ending}
use Rattle.world_semantics.specs.declared.op.Op.TheVariants.{Get, Set}
use Rattle.world_semantics.specs.declared.op.Reply.{Reply}
use Rattle.world_semantics.specs.declared.op.Reply.TheVariants.{Okay, Value, Unbound, Truth}
use Rattle.plain_program.specs.declared.steps.Step.TheVariants.{Leave as LeaveStep}
use Rattle.plain_program.specs.inside.Steps.{steps_of}
use Rattle.plain_program.proofs.Joined.{steps_of-joined}
use Rattle.plain_threads.specs.Acts.{top, result_of}
use Rattle.plain_threads.specs.State.{FrameKind, BindFrame, Frame, Base, Control, At, Exit, Ended, ThreadState}
use Rattle.plain_threads.specs.Step.{next_of, local_step_of, after_reply, acted, ask_step, enter_step, leave_step, pop_step, put_back, has_room, unless_bound, asked, question_reply, read_reply, test_reply}
use Rattle.form_evaluator.specs.declared.evaluator.Evaluator.{Evaluator}
use Rattle.form_evaluator.specs.inside.Evaluator.{shown_of, shown_frame, shown_binding, waiting_steps, held_map, Nested, Stands}
use Rattle.form_evaluator.specs.inside.Moves.{next_shown, asked_of, local_after, reply_after, shown_after, asked_after, read_at, written_at, opened_in, room_in, question_reply_after, read_reply_after, test_reply_after}
use Rattle.form_evaluator.proofs.Bound.{kept_all}

-- a symbol has the place that it names as its word
word_shown : (symbol : ℕ) (bs : List Binding) → word_of symbol (map shown_binding bs) ≡ place_of symbol bs
word_shown symbol [] = refl
word_shown symbol (b ∷ bs) = ap (λ rest. cond (b.symbol == symbol) (Some b.place) rest) (word_shown symbol bs)

not_below : (m n : ℕ) → m ≡ n → nat_lt m n ≡ false
not_below m n e = grind (arith, nat_tests)

-- there are as many bindings as frames
length-nested : (bs : List Binding) (fs : List Frame) → Nested bs fs → length bs ≡ length fs
length-nested bs [] n = ap length n
length-nested bs (f ∷ fs) n = ap length n.1 ∙ ap suc (length-nested (held_map f.kind) fs n.2)

-- the bindings of the frames that are left are those of the map that the innermost held
kept_shown : (bs : List Binding) (f : Frame) (fs : List Frame) → Nested bs (f ∷ fs)
    → kept (length (map shown_frame fs)) (map shown_binding bs) ≡ map shown_binding (held_map f.kind)
kept_shown bs f fs n =
    let same : length (held_map f.kind) ≡ length fs = length-nested (held_map f.kind) fs n.2 in
    let count : length (map shown_binding (held_map f.kind)) ≡ length (map shown_frame fs) =
    length-map (held_map f.kind) shown_binding ∙ same ∙ sym (length-map fs shown_frame) in
    ap (λ m. kept (length (map shown_frame fs)) (map shown_binding m)) n.1
    ∙ ap (λ t. cond t (shown_binding n.0 ∷ map shown_binding (held_map f.kind)) (kept (length (map shown_frame fs)) (map shown_binding (held_map f.kind))))
    (not_below (length (map shown_binding (held_map f.kind))) (length (map shown_frame fs)) count)
    ∙ kept_all (length (map shown_frame fs)) (map shown_binding (held_map f.kind)) (omega (arith, count))

-- a frame puts back the map that it holds
put_back_held : (k : FrameKind) (s : ThreadState) → put_back k s ≡ record s { environment = record s.environment { bindings = held_map k } }
put_back_held (BindFrame bindings) s = refl

-- What comes next.
module _ (s : ThreadState) where
  next_at_end : (fs : List Frame) (vs : List Node) → next_shown (shown_of (record s { control = At Done vs; frames = fs })) ≡ next_of (record s { control = At Done vs; frames = fs })
  next_at_end [] vs = refl
  next_at_end (f ∷ fs) vs = refl

  next_asked : (q : Question) (p : ℕ) (after : Points) (vs : List Node) → asked_of q (shown_of (record s { control = At (Ask q p after) vs })) ≡ asked q vs s.environment.bindings
  next_asked Print p after vs = refl
  next_asked (Read symbol) p after vs = ap (λ w. unless_bound w (Get symbol)) (word_shown symbol s.environment.bindings)
  next_asked (Write symbol) p after vs = ap (λ w. unless_bound w (Set symbol (top vs))) (word_shown symbol s.environment.bindings)
  next_asked (Define symbol) p after vs = refl
  next_asked EndThread p after vs = refl

  next_leaving : (ending : Ending) (fs : List Frame) → next_shown (shown_of (record s { control = Exit (Base ending); frames = fs })) ≡ next_of (record s { control = Exit (Base ending); frames = fs })
  next_leaving ending [] = refl
  next_leaving ending (f ∷ fs) = refl

  next_by_control : (c : Control) → next_shown (shown_of (record s { control = c })) ≡ next_of (record s { control = c })
  next_by_control (At Done vs) = next_at_end s.frames vs
  next_by_control (At (Do act p after) vs) = refl
  next_by_control (At (Ask q p after) vs) = next_asked q p after vs
  next_by_control (At (Test symbol p value after) vs) = refl
  next_by_control (At (Enter opening p body after) vs) = refl
  next_by_control (Exit (Base ending)) = next_leaving ending s.frames
  next_by_control Ended = refl

-- what comes next for the evaluator is what comes next for the state
pub next_is_shown : (s : ThreadState) (e : Evaluator) → Stands s e → next_shown e ≡ next_of s
next_is_shown s e h = ap next_shown h.shown ∙ next_by_control s s.control

-- A local point.
module _ (s : ThreadState) where
  left_at_end : (fs : List Frame) (vs : List Node) → Nested s.environment.bindings fs
      → local_after (shown_of (record s { control = At Done vs; frames = fs })) ≡ shown_of (local_step_of (record s { control = At Done vs; frames = fs }))
  left_at_end [] vs n = refl
  left_at_end (f ∷ fs) vs n =
      let base : ThreadState = record s { control = At f.after (top vs ∷ f.values); frames = fs; points = suc s.points } in
      ap (λ bs. record (shown_of base) { bindings = bs }) (kept_shown s.environment.bindings f fs n)
      ∙ ap shown_of (sym (put_back_held f.kind base))

  popped_in_exit : (ending : Ending) (fs : List Frame) → Nested s.environment.bindings fs
      → local_after (shown_of (record s { control = Exit (Base ending); frames = fs })) ≡ shown_of (local_step_of (record s { control = Exit (Base ending); frames = fs }))
  popped_in_exit ending [] n = refl
  popped_in_exit ending (f ∷ fs) n =
      let base : ThreadState = record s { control = Exit (Base ending); frames = fs; points = suc s.points } in
      ap (λ bs. record (shown_of base) { bindings = bs }) (kept_shown s.environment.bindings f fs n)
      ∙ ap shown_of (sym (put_back_held f.kind base))

  acted_shown : (act : Act) (p : ℕ) (after : Points) (vs : List Node) (r : Result (List Node) Class)
      → shown_after r (shown_of (record s { control = At (Do act p after) vs })) ≡ shown_of (acted r after (record s { control = At (Do act p after) vs }))
  acted_shown act p after vs (Ok new) = refl
  acted_shown act p after vs (Err class) = refl

  asked_shown : (q : Question) (p : ℕ) (after : Points) (vs : List Node)
      → asked_after q (shown_of (record s { control = At (Ask q p after) vs })) ≡ shown_of (ask_step q after vs (record s { control = At (Ask q p after) vs }))
  asked_shown Print p after vs = refl
  asked_shown (Read symbol) p after vs = ap (λ w. read_at w (shown_of (record s { control = At (Ask (Read symbol) p after) vs }))) (word_shown symbol s.environment.bindings)
  asked_shown (Write symbol) p after vs = ap (λ w. written_at w (shown_of (record s { control = At (Ask (Write symbol) p after) vs }))) (word_shown symbol s.environment.bindings)
  asked_shown (Define symbol) p after vs = refl
  asked_shown EndThread p after vs = refl

  room_shown : room_in (shown_of s) ≡ has_room s
  room_shown =
      ap (λ n. nat_lt n 4096 && nat_lt (length (map shown_binding s.environment.bindings)) 4096) (length-map s.frames shown_frame)
      ∙ ap (λ n. nat_lt (length s.frames) 4096 && nat_lt n 4096) (length-map s.environment.bindings shown_binding)

  entered_shown : (room : Bool) (o : Opening) (p : ℕ) (body after : Points) (vs : List Node)
      → opened_in room o p (shown_of (record s { control = At (Enter o p body after) vs }))
      ≡ shown_of (enter_step room o p body after vs (record s { control = At (Enter o p body after) vs }))
  entered_shown true (Bind symbol above) p body after vs =
      ap (λ a. record (shown_of (enter_step true (Bind symbol above) p body after vs (record s { control = At (Enter (Bind symbol above) p body after) vs }))) { ahead = a })
      (append_assoc (steps_of body) (LeaveStep ∷ steps_of after) (waiting_steps s.frames))
  entered_shown false o p body after vs = refl

module _ (s : ThreadState) where
  local_by_control : (c : Control) → Nested s.environment.bindings s.frames
      → local_after (shown_of (record s { control = c })) ≡ shown_of (local_step_of (record s { control = c }))
  local_by_control (At Done vs) n = left_at_end s s.frames vs n
  local_by_control (At (Do act p after) vs) n = acted_shown (record s { points = suc s.points }) act p after vs (result_of act vs)
  local_by_control (At (Ask q p after) vs) n = asked_shown (record s { points = suc s.points }) q p after vs
  local_by_control (At (Test symbol p value after) vs) n = refl
  local_by_control (At (Enter opening p body after) vs) n =
      let t : ThreadState = record s { points = suc s.points } in
      ap (λ room. opened_in room opening p (shown_of (record t { control = At (Enter opening p body after) vs }))) (room_shown t)
      ∙ entered_shown t (has_room t) opening p body after vs
  local_by_control (Exit (Base ending)) n = popped_in_exit s ending s.frames n
  local_by_control Ended n = refl

-- A local point leaves the maps of the frames nested.
module _ (s : ThreadState) where
  nested_put_back : (f : Frame) (fs : List Frame) (c : Control) → Nested s.environment.bindings (f ∷ fs)
      → let t = put_back f.kind (record s { control = c; frames = fs }) in Nested t.environment.bindings t.frames
  nested_put_back f fs c n = rw (put_back_held f.kind (record s { control = c; frames = fs })) n.2

  nested_left : (fs : List Frame) (vs : List Node) → Nested s.environment.bindings fs
      → let t = leave_step fs vs (record s { control = At Done vs; frames = fs }) in Nested t.environment.bindings t.frames
  nested_left [] vs n = n
  nested_left (f ∷ fs) vs n = nested_put_back f fs (At f.after (top vs ∷ f.values)) n

  nested_popped : (c : Control) (fs : List Frame) → Nested s.environment.bindings fs
      → let t = pop_step fs (record s { control = c; frames = fs }) in Nested t.environment.bindings t.frames
  nested_popped c [] n = n
  nested_popped c (f ∷ fs) n = nested_put_back f fs c n

  nested_acted : (r : Result (List Node) Class) (after : Points) → Nested s.environment.bindings s.frames
      → let t = acted r after s in Nested t.environment.bindings t.frames
  nested_acted (Ok vs) after n = n
  nested_acted (Err class) after n = n

  nested_asked : (q : Question) (after : Points) (vs : List Node) → Nested s.environment.bindings s.frames
      → let t = ask_step q after vs s in Nested t.environment.bindings t.frames
  nested_asked Print after vs n = n
  nested_asked (Read symbol) after vs n = n
  nested_asked (Write symbol) after vs n = n
  nested_asked (Define symbol) after vs n = n
  nested_asked EndThread after vs n = n

  nested_entered : (room : Bool) (o : Opening) (p : ℕ) (body after : Points) (vs : List Node) → Nested s.environment.bindings s.frames
      → let t = enter_step room o p body after vs s in Nested t.environment.bindings t.frames
  nested_entered true (Bind symbol above) p body after vs n = (record { symbol = symbol; place = length s.store }, refl, n)
  nested_entered false o p body after vs n = n

module _ (s : ThreadState) where
  nested_by_control : (c : Control) → Nested s.environment.bindings s.frames
      → let t = local_step_of (record s { control = c }) in Nested t.environment.bindings t.frames
  nested_by_control (At Done vs) n = nested_left (record s { points = suc s.points }) s.frames vs n
  nested_by_control (At (Do act p after) vs) n = nested_acted (record s { control = At (Do act p after) vs; points = suc s.points }) (result_of act vs) after n
  nested_by_control (At (Ask q p after) vs) n = nested_asked (record s { control = At (Ask q p after) vs; points = suc s.points }) q after vs n
  nested_by_control (At (Test symbol p value after) vs) n = n
  nested_by_control (At (Enter o p body after) vs) n =
      let t : ThreadState = record s { control = At (Enter o p body after) vs; points = suc s.points } in nested_entered t (has_room t) o p body after vs n
  nested_by_control (Exit (Base ending)) n = nested_popped (record s { points = suc s.points }) (Exit (Base ending)) s.frames n
  nested_by_control Ended n = n

-- after a local point the evaluator stands for the state after it
pub local_stands : (s : ThreadState) (old new : Evaluator) → Stands s old → new ≡ local_after old → Stands (local_step_of s) new
local_stands s old new h e =
    record { shown = e ∙ ap local_after h.shown ∙ local_by_control s s.control h.nested; nested = nested_by_control s s.control h.nested }

-- so many items in front of others, left out
drop-of_front : {T : Type 0} (xs ys : List T) → drop (length xs) (xs ++ ys) ≡ ys
drop-of_front [] ys = refl
drop-of_front (x ∷ xs) ys = drop-of_front xs ys

-- A reply.
module _ (s : ThreadState) where
  read_reply_shown : (reply : Reply) (symbol p : ℕ) (after : Points) (vs : List Node)
      → read_reply_after reply (shown_of (record s { control = At (Ask (Read symbol) p after) vs })) ≡ shown_of (read_reply reply after vs (record s { control = At (Ask (Read symbol) p after) vs }))
  read_reply_shown Okay symbol p after vs = refl
  read_reply_shown (Value v) symbol p after vs = refl
  read_reply_shown Unbound symbol p after vs = refl
  read_reply_shown (Truth b) symbol p after vs = refl

  question_reply_shown : (q : Question) (reply : Reply) (p : ℕ) (after : Points) (vs : List Node)
      → question_reply_after q reply (shown_of (record s { control = At (Ask q p after) vs })) ≡ shown_of (question_reply q reply after vs (record s { control = At (Ask q p after) vs }))
  question_reply_shown Print reply p after vs = refl
  question_reply_shown (Read symbol) reply p after vs = read_reply_shown reply symbol p after vs
  question_reply_shown (Write symbol) reply p after vs = refl
  question_reply_shown (Define symbol) reply p after vs = refl
  question_reply_shown EndThread reply p after vs = refl

  test_reply_shown : (reply : Reply) (symbol p : ℕ) (value after : Points) (vs : List Node)
      → test_reply_after reply symbol (length (steps_of value)) (shown_of (record s { control = At (Test symbol p value after) vs }))
      ≡ shown_of (test_reply reply symbol value after vs (record s { control = At (Test symbol p value after) vs }))
  test_reply_shown (Truth true) symbol p value after vs =
      ap (λ a. record (shown_of (test_reply (Truth true) symbol value after vs (record s { control = At (Test symbol p value after) vs }))) { ahead = a })
      (ap (drop (length (steps_of value))) (append_assoc (steps_of value) (steps_of after) (waiting_steps s.frames))
      ∙ drop-of_front (steps_of value) (steps_of after ++ waiting_steps s.frames))
  test_reply_shown (Truth false) symbol p value after vs =
      ap (λ a. record (shown_of (test_reply (Truth false) symbol value after vs (record s { control = At (Test symbol p value after) vs }))) { ahead = a ++ waiting_steps s.frames })
      (sym (steps_of-joined value after))
  test_reply_shown Okay symbol p value after vs = refl
  test_reply_shown (Value v) symbol p value after vs = refl
  test_reply_shown Unbound symbol p value after vs = refl

  reply_at_end : (fs : List Frame) (reply : Reply) (vs : List Node)
      → reply_after reply (shown_of (record s { control = At Done vs; frames = fs })) ≡ shown_of (after_reply reply (record s { control = At Done vs; frames = fs }))
  reply_at_end [] reply vs = refl
  reply_at_end (f ∷ fs) reply vs = refl

  nested_read : (reply : Reply) (after : Points) (vs : List Node) → Nested s.environment.bindings s.frames
      → let t = read_reply reply after vs s in Nested t.environment.bindings t.frames
  nested_read Okay after vs n = n
  nested_read (Value v) after vs n = n
  nested_read Unbound after vs n = n
  nested_read (Truth b) after vs n = n

  nested_question : (q : Question) (reply : Reply) (after : Points) (vs : List Node) → Nested s.environment.bindings s.frames
      → let t = question_reply q reply after vs s in Nested t.environment.bindings t.frames
  nested_question Print reply after vs n = n
  nested_question (Read symbol) reply after vs n = nested_read reply after vs n
  nested_question (Write symbol) reply after vs n = n
  nested_question (Define symbol) reply after vs n = n
  nested_question EndThread reply after vs n = n

  nested_test : (reply : Reply) (symbol : ℕ) (value after : Points) (vs : List Node) → Nested s.environment.bindings s.frames
      → let t = test_reply reply symbol value after vs s in Nested t.environment.bindings t.frames
  nested_test (Truth true) symbol value after vs n = n
  nested_test (Truth false) symbol value after vs n = n
  nested_test Okay symbol value after vs n = n
  nested_test (Value v) symbol value after vs n = n
  nested_test Unbound symbol value after vs n = n

module _ (s : ThreadState) (reply : Reply) where
  reply_by_control : (c : Control) → reply_after reply (shown_of (record s { control = c })) ≡ shown_of (after_reply reply (record s { control = c }))
  reply_by_control (At Done vs) = reply_at_end s s.frames reply vs
  reply_by_control (At (Do act p after) vs) = refl
  reply_by_control (At (Ask q p after) vs) = question_reply_shown (record s { points = suc s.points }) q reply p after vs
  reply_by_control (At (Test symbol p value after) vs) = test_reply_shown (record s { points = suc s.points }) reply symbol p value after vs
  reply_by_control (At (Enter opening p body after) vs) = refl
  reply_by_control (Exit (Base ending)) = refl
  reply_by_control Ended = refl

  nested_by_reply : (c : Control) → Nested s.environment.bindings s.frames
      → let t = after_reply reply (record s { control = c }) in Nested t.environment.bindings t.frames
  nested_by_reply (At Done vs) n = n
  nested_by_reply (At (Do act p after) vs) n = n
  nested_by_reply (At (Ask q p after) vs) n = nested_question (record s { control = At (Ask q p after) vs; points = suc s.points }) q reply after vs n
  nested_by_reply (At (Test symbol p value after) vs) n = nested_test (record s { control = At (Test symbol p value after) vs; points = suc s.points }) reply symbol value after vs n
  nested_by_reply (At (Enter o p body after) vs) n = n
  nested_by_reply (Exit (Base ending)) n = n
  nested_by_reply Ended n = n

-- after a reply the evaluator stands for the state after it
pub reply_stands : (s : ThreadState) (reply : Reply) (old new : Evaluator) → Stands s old → new ≡ reply_after reply old → Stands (after_reply reply s) new
reply_stands s reply old new h e =
    record { shown = e ∙ ap (reply_after reply) h.shown ∙ reply_by_control s reply s.control; nested = nested_by_reply s reply s.control h.nested }
