-- Locks, timeouts and functions, written in several steps.
use Rattle.std.proofs.Common.{◌≡◌, ℕ, suc, ◌+◌, List, [], ◌∷◌, ◌++◌, Bool, false, refl, ap, subst, sym, ◌∙◌, append_assoc, append-nil, add-one}
use Rattle.lisp_base.specs.Forest.{NoTrees, count_of}
use Rattle.lisp_program.specs.declared.form.CoreKind.TheVariants as k
use Rattle.lisp_program.specs.declared.function.Service.TheVariants as service
use Rattle.lisp_data.specs.Data.{Data, behind, count_of as data_in}
use Rattle.form_shapes.specs.declared.expanded.Expanded.TheVariants.{Form}
use Rattle.form_shapes.specs.declared.expanded.ExpandedNode.{ExpandedNode}
use Rattle.form_shapes.specs.declared.keywords.Roles.{Roles}
use Rattle.form_shapes.specs.declared.keywords.Roles.TheVariants.{From, Values}
use Rattle.form_shapes.specs.declared.levels.Numbered.{Numbered}
use Rattle.form_shapes.specs.declared.scope.Base.{Base}
use Rattle.form_shapes.specs.Bindings.{after_declarations}
use Rattle.form_shapes.specs.inside.Contexts.{scope_at}
use Rattle.form_shapes.specs.Keywords.{part_count}
use Rattle.form_shapes.specs.inside.One.{items_first}
use Rattle.form_shapes.specs.Scopes.{Scope, deeper}
use Rattle.lisp_forms.specs.declared.locks.Lock.{Lock}
use Rattle.lisp_forms.specs.Expansion.{body_in, by_roles, forms_in, within_first}
use Rattle.lisp_forms.specs.inside.Flat.{flat, flat_one, node}
use Rattle.lisp_forms.specs.Rows.{either, grabbing, held_form, if_form, local, local_form, locked, release_form, timeout_of, timer_form, in_lock}
use Rattle.lisp_forms.specs.Trees.{Expansion, Single, both, first, form, in_front, nil_form, only, others, progn_form}
use Rattle.lisp_forms.specs.inside.Written.{either_nodes, grab_nodes, lock_of, locked_nodes, region_nodes}
use Rattle.lisp_forms.proofs.Bodied.{body-is, one-of, three-of, three_steps, two-of}
use Rattle.lisp_forms.proofs.Parts.{count-forms, count-roles, last_step, others-forms, roles-from_0, two_steps, within-items}

-- the body of a lock, and its cleanup
pub locked_body : (l : Lock) (s : Scope) (p count : ℕ) (body : Data) (old a b d e f new : List ExpandedNode)
    → count ≡ data_in body → a ≡ old ++ node (Form k.Progn) p 1 ∷ [] → b ≡ a ++ node (Form (k.AllowWithInterrupts l.region)) p 1 ∷ []
    → d ≡ b ++ node (Form k.WithInterrupts) p count ∷ [] → e ≡ d ++ flat (forms_in s body) → f ≡ e ++ flat_one (nil_form p)
    → new ≡ f ++ flat_one (release_form l.mutex l.grabbed p) → new ≡ old ++ locked_nodes l p (forms_in s body)
locked_body l s p count body old a b d e f new many first second third fourth fifth h =
    let fs : Expansion = forms_in s body in
    let release : List ExpandedNode = flat_one (release_form l.mutex l.grabbed p) in
    let head : ℕ → List ExpandedNode = λ m. node (Form k.Progn) p 1 ∷ (node (Form (k.AllowWithInterrupts l.region)) p 1 ∷ (node (Form k.WithInterrupts) p m ∷ [])) in
    let behind : List ExpandedNode = flat fs ++ flat_one (nil_form p) in
    let all : (head count ++ behind) ++ release ≡ locked_nodes l p fs =
    ap (λ m. (head m ++ behind) ++ release) (many ∙ sym (count-forms s body)) ∙ ap (λ ns. head (count_of fs) ++ ns) (append_assoc (flat fs) (flat_one (nil_form p)) release) in
    last_step old f new (head count ++ behind) release _
    (two_steps old d f (head count) behind
    (three_steps old a b d (node (Form k.Progn) p 1 ∷ []) (node (Form (k.AllowWithInterrupts l.region)) p 1 ∷ []) (node (Form k.WithInterrupts) p count ∷ []) first second third)
    (two_steps d e f (flat fs) (flat_one (nil_form p)) fourth fifth)) all h

-- what is written of a lock in front of its test
abbrev lock_front : (g p : ℕ) (mutex : Single) → List ExpandedNode
lock_front g p mutex = node (Form k.Let) p 3 ∷ (flat_one mutex ++ region_nodes (lock_of g) p)

-- a lock is written in three parts
flat-locked : (g p : ℕ) (mutex test : Single) (body : Expansion)
    → (lock_front g p mutex ++ flat_one test) ++ locked_nodes (lock_of g) p body ≡ flat_one (locked g (suc g) (suc (suc g)) p mutex test body)
flat-locked g p mutex test body =
    let h : ℕ = suc g in
    let r : ℕ = suc (suc g) in
    let lasts : List ExpandedNode = locked_nodes (lock_of g) p body in
    let release : Single = release_form g h p in
    let allowed : Single = local_form r p body in
    let done : Single = progn_form p (only allowed) in
    let protected : Single = if_form p test done (nil_form p) in
    let cleaned : Single = form k.UnwindProtect p (both protected release) in
    let region : Single = form (k.WithoutInterrupts r) p (only cleaned) in
    let inner : Single = form (k.BindLocal h 0) p (only region) in
    let outer : Single = form (k.BindLocal g 1) p (only inner) in
    let nodes : List ExpandedNode = node (Form k.Progn) p 1 ∷ (node (Form (k.AllowWithInterrupts r)) p 1 ∷ (node (Form k.WithInterrupts) p (count_of body) ∷ flat body)) in
    let is_done : flat_one done ≡ nodes = one-of k.Progn p allowed _ (one-of (k.AllowWithInterrupts r) p (form k.WithInterrupts p body) (flat_one (form k.WithInterrupts p body)) refl) in
    let is_protected : flat_one protected ≡ node (Form k.If) p 3 ∷ (flat_one test ++ (nodes ++ flat_one (nil_form p))) =
    three-of k.If p test done (nil_form p) (flat_one test) nodes (flat_one (nil_form p)) refl is_done refl in
    let is_cleaned : flat_one cleaned ≡ node (Form k.UnwindProtect) p 2 ∷ (node (Form k.If) p 3 ∷ (flat_one test ++ lasts)) =
    two-of k.UnwindProtect p protected release _ (flat_one release) is_protected refl
    ∙ ap (λ ns. node (Form k.UnwindProtect) p 2 ∷ (node (Form k.If) p 3 ∷ ns))
    (append_assoc (flat_one test) (nodes ++ flat_one (nil_form p)) (flat_one release) ∙ ap (λ ns. flat_one test ++ ns) (append_assoc nodes (flat_one (nil_form p)) (flat_one release))) in
    append_assoc (lock_front g p mutex) (flat_one test) lasts
    ∙ ap (λ ns. node (Form k.Let) p 3 ∷ ns) (append_assoc (flat_one mutex) (region_nodes (lock_of g) p) (flat_one test ++ lasts))
    ∙ sym (three-of k.Let p mutex (nil_form p) outer (flat_one mutex) (flat_one (nil_form p)) _ refl refl
    (one-of (k.BindLocal g 1) p inner _ (one-of (k.BindLocal h 0) p region _ (one-of (k.WithoutInterrupts r) p cleaned _ is_cleaned))))

-- what grabs the mutex is written in two parts
flat-grabbing : (g p n : ℕ) (waitp timeout : Bool) (operands : Expansion) → n ≡ suc (count_of operands)
    → grab_nodes (lock_of g) waitp timeout n p ++ flat operands ≡ flat_one (grabbing g (suc g) (suc (suc g)) p waitp timeout operands)
flat-grabbing g p n waitp timeout operands many =
    let grab : Single = form (k.Serve (service.GrabMutex waitp timeout)) p (in_front (local g p) operands) in
    let allowed : Single = form (k.AllowWithInterrupts (suc (suc g))) p (only grab) in
    ap (λ m. grab_nodes (lock_of g) waitp timeout m p ++ flat operands) many
    ∙ sym (one-of (k.SetLocal (suc g)) p allowed _ (one-of (k.AllowWithInterrupts (suc (suc g))) p grab (flat_one grab) refl))

-- a value that is tested, and what is done else
flat-either : (x p : ℕ) (a rest : Single) → either_nodes x p a ++ flat_one rest ≡ flat_one (either x p a rest)
flat-either x p a rest =
    let test : Single = if_form p (local x p) (local x p) rest in
    let behind : List ExpandedNode =
    node (Form (k.BindLocal x 0)) p 1 ∷ (node (Form k.If) p 3 ∷ (node (Form (k.Local x)) p 0 ∷ (node (Form (k.Local x)) p 0 ∷ []))) in
    ap (λ ns. node (Form k.Let) p 2 ∷ ns) (append_assoc (flat_one a) behind (flat_one rest))
    ∙ sym (two-of k.Let p a (form (k.BindLocal x 0) p (only test)) (flat_one a) _ refl
    (one-of (k.BindLocal x 0) p test _ (three-of k.If p (local x p) (local x p) rest (flat_one (local x p)) (flat_one (local x p)) (flat_one rest) refl refl refl)))

-- what stands in the list that is the first, as forms and by what it is for
first-forms : (s : Scope) (args items : Data) → items ≡ items_first args → forms_in s items ≡ within_first s (From 0) args
first-forms s args items is = ap (forms_in s) is ∙ sym (roles-from_0 s (items_first args)) ∙ sym (within-items s (From 0) args)

first-roles : (s : Scope) (roles : Roles) (args items : Data) → items ≡ items_first args → by_roles s roles 0 items ≡ within_first s roles args
first-roles s roles args items is = ap (by_roles s roles 0) is ∙ sym (within-items s roles args)

-- what stands for a `with-mutex`, by the number of its first hidden variable
abbrev mutex_tree : (g p : ℕ) (waitp timeout : Bool) (mutex : Single) (operands body : Expansion) → Single
mutex_tree g p waitp timeout mutex operands body =
    locked g (suc g) (suc (suc g)) p mutex (grabbing g (suc g) (suc (suc g)) p waitp timeout operands) body

-- and for a `with-recursive-lock`
abbrev lock_tree : (g p : ℕ) (mutex : Single) (body : Expansion) → Single
lock_tree g p mutex body =
    locked g (suc g) (suc (suc g)) p mutex
    (either (suc (suc (suc g))) p (held_form g p) (grabbing g (suc g) (suc (suc g)) p false false NoTrees)) body

-- a mutex, of its forms
mutex_parts : (g p n : ℕ) (waitp timeout : Bool) (mutex : Single) (operands body : Expansion) (old a b d e f new : List ExpandedNode)
    → n ≡ suc (count_of operands) → a ≡ old ++ node (Form k.Let) p 3 ∷ [] → b ≡ a ++ flat_one mutex → d ≡ b ++ region_nodes (lock_of g) p
    → e ≡ d ++ grab_nodes (lock_of g) waitp timeout n p → f ≡ e ++ flat operands → new ≡ f ++ locked_nodes (lock_of g) p body
    → new ≡ old ++ flat_one (mutex_tree g p waitp timeout mutex operands body)
mutex_parts g p n waitp timeout mutex operands body old a b d e f new many first second third fourth fifth h =
    let front : List ExpandedNode = lock_front g p mutex in
    let grab : List ExpandedNode = grab_nodes (lock_of g) waitp timeout n p in
    let last : List ExpandedNode = locked_nodes (lock_of g) p body in
    let all : (front ++ (grab ++ flat operands)) ++ last ≡ flat_one (mutex_tree g p waitp timeout mutex operands body) =
    ap (λ ns. (front ++ ns) ++ last) (flat-grabbing g p n waitp timeout operands many) ∙ flat-locked g p mutex (grabbing g (suc g) (suc (suc g)) p waitp timeout operands) body in
    last_step old f new (front ++ (grab ++ flat operands)) last _
    (two_steps old d f front (grab ++ flat operands)
    (three_steps old a b d (node (Form k.Let) p 3 ∷ []) (flat_one mutex) (region_nodes (lock_of g) p) first second third) (two_steps d e f grab (flat operands) fourth fifth)) all h

-- a mutex
pub mutex_steps : (base : Base) (levels : List Numbered) (g p count : ℕ) (waitp timeout : Bool) (l : Lock) (args items operands left body : Data)
    (old a b d e f new : List ExpandedNode)
    → l ≡ lock_of g → items ≡ items_first args → operands ≡ items_first args → count ≡ part_count (Values 1) 0 (data_in operands)
    → left ≡ behind 1 args → body ≡ after_declarations base.symbols.now left → a ≡ old ++ node (Form k.Let) p 3 ∷ []
    → b ≡ a ++ flat_one (first p (forms_in (scope_at base levels g) items)) → d ≡ b ++ region_nodes l p → e ≡ d ++ grab_nodes l waitp timeout (count + 1) p
    → f ≡ e ++ flat (by_roles (scope_at base levels l.inside) (Values 1) 0 operands)
    → new ≡ f ++ locked_nodes l p (forms_in (scope_at base levels l.inside) body)
    → new ≡ old ++ flat_one (mutex_tree g p waitp timeout (first p (within_first (scope_at base levels g) (From 0) args))
    (within_first (in_lock (scope_at base levels g)) (Values 1) args) (body_in (in_lock (scope_at base levels g)) 1 args))
mutex_steps base levels g p count waitp timeout l args items operands left body old a b d e f new is here there many from inside first' second third fourth fifth h =
    let s : Scope = scope_at base levels g in
    let u : Scope = in_lock s in
    let parts : count + 1 ≡ suc (count_of (within_first u (Values 1) args)) =
    add-one count ∙ ap suc (many ∙ sym (count-roles u (Values 1) 0 operands)) ∙ ap (λ fs. suc (count_of fs)) (first-roles u (Values 1) args operands there) in
    let last : new ≡ f ++ locked_nodes (lock_of g) p (forms_in u body) =
    subst (λ (m : Lock). new ≡ f ++ locked_nodes m p (forms_in (scope_at base levels m.inside) body)) is h in
    mutex_parts g p (count + 1) waitp timeout (first p (within_first s (From 0) args)) (within_first u (Values 1) args) (body_in u 1 args) old a b d e f new parts first'
    (second ∙ ap (λ fs. a ++ flat_one (first p fs)) (first-forms s args items here))
    (third ∙ ap (λ m. b ++ region_nodes m p) is) (fourth ∙ ap (λ m. d ++ grab_nodes m waitp timeout (count + 1) p) is)
    (fifth ∙ ap (λ (m : Lock). e ++ flat (by_roles (scope_at base levels m.inside) (Values 1) 0 operands)) is ∙ ap (λ fs. e ++ flat fs) (first-roles u (Values 1) args operands there))
    (subst (λ fs. new ≡ f ++ locked_nodes (lock_of g) p fs) (body-is u 1 args left body from inside) last)

-- a recursive lock, of its forms
lock_parts : (g p : ℕ) (mutex : Single) (body : Expansion) (old a b d e f new : List ExpandedNode)
    → a ≡ old ++ node (Form k.Let) p 3 ∷ [] → b ≡ a ++ flat_one mutex → d ≡ b ++ region_nodes (lock_of g) p
    → e ≡ d ++ either_nodes (lock_of g).inside p (held_form g p) → f ≡ e ++ grab_nodes (lock_of g) false false 1 p
    → new ≡ f ++ locked_nodes (lock_of g) p body → new ≡ old ++ flat_one (lock_tree g p mutex body)
lock_parts g p mutex body old a b d e f new first second third fourth fifth h =
    let front : List ExpandedNode = lock_front g p mutex in
    let x : ℕ = suc (suc (suc g)) in
    let held : List ExpandedNode = either_nodes x p (held_form g p) in
    let grab : Single = grabbing g (suc g) (suc (suc g)) p false false NoTrees in
    let grabbed : List ExpandedNode = grab_nodes (lock_of g) false false 1 p in
    let last : List ExpandedNode = locked_nodes (lock_of g) p body in
    let same : grabbed ≡ flat_one grab = sym (append-nil grabbed) ∙ flat-grabbing g p 1 false false NoTrees refl in
    let all : (front ++ (held ++ grabbed)) ++ last ≡ flat_one (lock_tree g p mutex body) =
    ap (λ ns. (front ++ (held ++ ns)) ++ last) same ∙ ap (λ ns. (front ++ ns) ++ last) (flat-either x p (held_form g p) grab)
    ∙ flat-locked g p mutex (either x p (held_form g p) grab) body in
    last_step old f new (front ++ (held ++ grabbed)) last _
    (two_steps old d f front (held ++ grabbed)
    (three_steps old a b d (node (Form k.Let) p 3 ∷ []) (flat_one mutex) (region_nodes (lock_of g) p) first second third) (two_steps d e f held grabbed fourth fifth)) all h

-- a recursive lock
pub lock_steps : (base : Base) (levels : List Numbered) (g p : ℕ) (l : Lock) (args items left body : Data) (old a b d e f new : List ExpandedNode)
    → l ≡ lock_of g → items ≡ items_first args → left ≡ behind 1 args → body ≡ after_declarations base.symbols.now left → a ≡ old ++ node (Form k.Let) p 3 ∷ []
    → b ≡ a ++ flat_one (first p (forms_in (scope_at base levels g) items)) → d ≡ b ++ region_nodes l p → e ≡ d ++ either_nodes l.inside p (held_form l.mutex p)
    → f ≡ e ++ grab_nodes l false false 1 p → new ≡ f ++ locked_nodes l p (forms_in (scope_at base levels l.inside) body)
    → new ≡ old ++ flat_one (lock_tree g p (first p (within_first (scope_at base levels g) (From 0) args)) (body_in (in_lock (scope_at base levels g)) 1 args))
lock_steps base levels g p l args items left body old a b d e f new is here from inside first' second third fourth fifth h =
    let s : Scope = scope_at base levels g in
    let u : Scope = in_lock s in
    let last : new ≡ f ++ locked_nodes (lock_of g) p (forms_in u body) =
    subst (λ (m : Lock). new ≡ f ++ locked_nodes m p (forms_in (scope_at base levels m.inside) body)) is h in
    lock_parts g p (first p (within_first s (From 0) args)) (body_in u 1 args) old a b d e f new first'
    (second ∙ ap (λ fs. a ++ flat_one (first p fs)) (first-forms s args items here))
    (third ∙ ap (λ m. b ++ region_nodes m p) is) (fourth ∙ ap (λ (m : Lock). d ++ either_nodes m.inside p (held_form m.mutex p)) is)
    (fifth ∙ ap (λ m. e ++ grab_nodes m false false 1 p) is)
    (subst (λ fs. new ≡ f ++ locked_nodes (lock_of g) p fs) (body-is u 1 args left body from inside) last)

-- a timeout is written in four parts
flat-timeout : (g p : ℕ) (seconds : Single) (body : Expansion)
    → (((node (Form k.Let) p 2 ∷ []) ++ (flat_one (timer_form p) ++ (node (Form (k.BindLocal g 0)) p 2 ∷ [])))
    ++ (((node (Form (k.Serve (service.ScheduleTimer false false))) p 2 ∷ []) ++ (flat_one (local g p) ++ flat_one seconds))
    ++ ((node (Form k.UnwindProtect) p 2 ∷ []) ++ (flat_one (progn_form p body) ++ (node (Form (k.Serve service.UnscheduleTimer)) p 1 ∷ [])))))
    ++ flat_one (local g p)
    ≡ flat_one (timeout_of g p seconds body)
flat-timeout g p seconds body =
    let here : List ExpandedNode = flat_one (local g p) in
    let stop : List ExpandedNode = node (Form (k.Serve service.UnscheduleTimer)) p 1 ∷ [] in
    let end : List ExpandedNode = node (Form k.UnwindProtect) p 2 ∷ (flat_one (progn_form p body) ++ stop) in
    let schedule : Single = form (k.Serve (service.ScheduleTimer false false)) p (both (local g p) seconds) in
    let unschedule : Single = form (k.Serve service.UnscheduleTimer) p (only (local g p)) in
    let protected : Single = form k.UnwindProtect p (both (progn_form p body) unschedule) in
    let begin : List ExpandedNode =
    node (Form k.Let) p 2 ∷ (flat_one (timer_form p) ++ (node (Form (k.BindLocal g 0)) p 2 ∷ (node (Form (k.Serve (service.ScheduleTimer false false))) p 2 ∷ here))) in
    ap (λ ns. begin ++ ns) (append_assoc (flat_one seconds) end here ∙ ap (λ ns. flat_one seconds ++ (node (Form k.UnwindProtect) p 2 ∷ ns)) (append_assoc (flat_one (progn_form p body)) stop here))
    ∙ sym (two-of k.Let p (timer_form p) (form (k.BindLocal g 0) p (both schedule protected)) (flat_one (timer_form p)) _ refl
    (two-of (k.BindLocal g 0) p schedule protected _ _ (two-of (k.Serve (service.ScheduleTimer false false)) p (local g p) seconds here (flat_one seconds) refl refl)
    (two-of k.UnwindProtect p (progn_form p body) unschedule (flat_one (progn_form p body)) _ refl (one-of (k.Serve service.UnscheduleTimer) p (local g p) here refl))))

-- a timeout, of its forms
timeout_parts : (g p : ℕ) (seconds : Single) (body : Expansion) (old a b d e f i j m n new : List ExpandedNode)
    → a ≡ old ++ node (Form k.Let) p 2 ∷ [] → b ≡ a ++ flat_one (timer_form p) → d ≡ b ++ node (Form (k.BindLocal g 0)) p 2 ∷ []
    → e ≡ d ++ node (Form (k.Serve (service.ScheduleTimer false false))) p 2 ∷ [] → f ≡ e ++ flat_one (local g p) → i ≡ f ++ flat_one seconds
    → j ≡ i ++ node (Form k.UnwindProtect) p 2 ∷ [] → m ≡ j ++ flat_one (progn_form p body) → n ≡ m ++ node (Form (k.Serve service.UnscheduleTimer)) p 1 ∷ []
    → new ≡ n ++ flat_one (local g p) → new ≡ old ++ flat_one (timeout_of g p seconds body)
timeout_parts g p seconds body old a b d e f i j m n new s1 s2 s3 s4 s5 s6 s7 s8 s9 h =
    let here : List ExpandedNode = flat_one (local g p) in
    let bind : List ExpandedNode = node (Form (k.BindLocal g 0)) p 2 ∷ [] in
    let plan : List ExpandedNode = node (Form (k.Serve (service.ScheduleTimer false false))) p 2 ∷ [] in
    let protect : List ExpandedNode = node (Form k.UnwindProtect) p 2 ∷ [] in
    let stop : List ExpandedNode = node (Form (k.Serve service.UnscheduleTimer)) p 1 ∷ [] in
    let begin : List ExpandedNode = (node (Form k.Let) p 2 ∷ []) ++ (flat_one (timer_form p) ++ bind) in
    let middle : List ExpandedNode = plan ++ (here ++ flat_one seconds) in
    let end : List ExpandedNode = protect ++ (flat_one (progn_form p body) ++ stop) in
    last_step old n new (begin ++ (middle ++ end)) here (flat_one (timeout_of g p seconds body))
    (three_steps old d i n begin middle end (three_steps old a b d (node (Form k.Let) p 2 ∷ []) (flat_one (timer_form p)) bind s1 s2 s3)
    (three_steps d e f i plan here (flat_one seconds) s4 s5 s6) (three_steps i j m n protect (flat_one (progn_form p body)) stop s7 s8 s9))
    (flat-timeout g p seconds body) h

-- a timeout
pub timeout_steps : (base : Base) (levels : List Numbered) (g inner p : ℕ) (args left : Data) (old a b d e f i j m n new : List ExpandedNode)
    → inner ≡ g + 1 → left ≡ behind 1 args
    → a ≡ old ++ node (Form k.Let) p 2 ∷ [] → b ≡ a ++ flat_one (timer_form p) → d ≡ b ++ node (Form (k.BindLocal g 0)) p 2 ∷ []
    → e ≡ d ++ node (Form (k.Serve (service.ScheduleTimer false false))) p 2 ∷ [] → f ≡ e ++ flat_one (local g p)
    → i ≡ f ++ flat_one (first p (forms_in (scope_at base levels inner) args))
    → j ≡ i ++ node (Form k.UnwindProtect) p 2 ∷ [] → m ≡ j ++ flat_one (progn_form p (forms_in (scope_at base levels inner) left))
    → n ≡ m ++ node (Form (k.Serve service.UnscheduleTimer)) p 1 ∷ [] → new ≡ n ++ flat_one (local g p)
    → new ≡ old ++ flat_one (timeout_of g p (first p (forms_in (deeper (scope_at base levels g)) args)) (others (forms_in (deeper (scope_at base levels g)) args)))
timeout_steps base levels g inner p args left old a b d e f i j m n new next from s1 s2 s3 s4 s5 s6 s7 s8 s9 h =
    let u : Scope = deeper (scope_at base levels g) in
    let one : inner ≡ suc g = next ∙ add-one g in
    let body : forms_in (scope_at base levels inner) left ≡ others (forms_in u args) =
    ap (λ x. forms_in (scope_at base levels x) left) one ∙ ap (forms_in u) from ∙ sym (others-forms u args) in
    timeout_parts g p (first p (forms_in u args)) (others (forms_in u args)) old a b d e f i j m n new s1 s2 s3 s4 s5
    (s6 ∙ ap (λ x. f ++ flat_one (first p (forms_in (scope_at base levels x) args))) one) s7 (s8 ∙ ap (λ fs. j ++ flat_one (progn_form p fs)) body) s9 h
