-- What a list is without a block round it.
use Rattle.std.proofs.Common.{◌≡◌, ◌⊎◌, inl, inr, ℕ, pos, nat_lt, List, Bool, true, false, ◌==◌, ◌&&◌, ◌||◌, not, codes, Option, Some, None, if◌then◌else◌, refl, ap, sym, subst, arith}
use Rattle.std.proofs.lemmas.Bool.Decides.{nat_tests}
use Rattle.lisp_base.specs.declared.refusal.Refusal.{Refusal}
use Rattle.lisp_base.specs.declared.refusal.Refusal.TheVariants.{BadForm, NoSuchBlock, RegionOutside, UnknownVariable}
use Rattle.lisp_base.specs.declared.value.Node.{Node}
use Rattle.lisp_base.specs.declared.value.Node.TheVariants.{Int as AnInt}
use Rattle.lisp_base.specs.Value.{is_in_range}
use Rattle.lisp_base.specs.Refusals.{are_same}
use Rattle.lisp_program.specs.declared.form.CoreKind.{CoreKind}
use Rattle.lisp_program.specs.declared.form.CoreKind.TheVariants as k
use Rattle.lisp_program.specs.declared.function.Primitive.{Primitive}
use Rattle.lisp_program.specs.declared.function.Primitive.TheVariants as f
use Rattle.lisp_program.specs.declared.function.Service.{Service}
use Rattle.lisp_program.specs.declared.function.Service.TheVariants as service
use Rattle.lisp_data.specs.Data.{Data, NoData, Atom, Listed, behind, count_of}
use Rattle.lisp_data.specs.declared.datum.Leaf.TheVariants.{Symbol, Text}
use Rattle.form_shapes.specs.declared.operator.Operator.{Operator}
use Rattle.form_shapes.specs.declared.operator.Operator.TheVariants as op
use Rattle.form_shapes.specs.declared.expanded.Expanded.{Expanded}
use Rattle.form_shapes.specs.declared.expanded.Expanded.TheVariants.{Form, Refused}
use Rattle.form_shapes.specs.declared.keywords.Roles.TheVariants.{From}
use Rattle.form_shapes.specs.declared.levels.Level.TheVariants.{Block as ABlock, Region}
use Rattle.form_shapes.specs.declared.scope.Target.{Target}
use Rattle.form_shapes.specs.declared.shape.Shape.{Shape}
use Rattle.form_shapes.specs.declared.shape.Shape.TheVariants as shape
use Rattle.form_shapes.specs.Clauses.{are_clauses, are_tests, most_clauses}
use Rattle.form_shapes.specs.Controls.{has_tilde, taken_by, text_of}
use Rattle.form_shapes.specs.Bindings.{is_named, list_fault, most, parameters_of, variables_of}
use Rattle.form_shapes.specs.Keywords.{keys_in, first_key, second_key, positional}
use Rattle.form_shapes.specs.Levels.{number_of}
use Rattle.form_shapes.specs.Scopes.{Scope, as_variable, constant, first_symbol, has, is_variable_name, node_of, operator_at, target_of}
use Rattle.form_shapes.specs.Shapes
use Rattle.form_shapes.specs.Shapes.{bad, change_shape, exit_shape, fixed, fold_of_none, fold_of_one, fold_shape, format_given, function_outside, in_region, lambda_outside, misplaced, notify_shape, operator_led, quoted, return_from_shape, return_shape, serve_shape, shape_led, shape_of, where_holds, with_some}
use Rattle.lisp_forms.specs.Blocks.{exit_of, is_that}
use Rattle.form_laws.proofs.Related.{IsDeep, shift, shifted_core, shifted_kind, shifted_number}
use Rattle.form_laws.proofs.Without.{Without, bare, outer, shifted_target, shifted_targets, target-shifted}

-- what a list is, without the block
abbrev pub shifted_shape : ℕ → Shape → Shape
shifted_shape n (shape.Leaf kind) = shape.Leaf (shifted_kind n kind)
shifted_shape n (shape.Over kind roles) = shape.Over (shifted_core n kind) roles
shifted_shape n (shape.OverNil kind roles) = shape.OverNil (shifted_core n kind) roles
shifted_shape n (shape.Change target g) = shape.Change (shifted_target n target) g
shifted_shape n (shape.Body kind) = shape.Body (shifted_core n kind)
shifted_shape n (shape.LocalInterrupts m) = shape.LocalInterrupts (shift n m)
shifted_shape n other = other

-- a list that returns to the block
abbrev pub IsFreeShape : ℕ → Shape → Type 0
IsFreeShape n (shape.Over kind roles) = is_that n (exit_of kind) ≡ true
IsFreeShape n (shape.OverNil kind roles) = is_that n (exit_of kind) ≡ true
IsFreeShape n other = ⊥

-- what a list is alone has an implicit block only inside the block
abbrev pub IsDeepShape : ℕ → Shape → Type 0
IsDeepShape n (shape.Leaf kind) = IsDeep n kind
IsDeepShape n other = Unit {0}

-- what a list is, and what the same list is without the block
abbrev pub AreSame : ℕ → Shape → Shape → Type 0
AreSame n a b = (b ≡ shifted_shape n a) × IsDeepShape n a

abbrev pub AreShapes : ℕ → Shape → Shape → Type 0
AreShapes n a b = IsFreeShape n a ⊎ AreSame n a b

-- what a list is without a number
abbrev Plain : ℕ → Shape → Type 0
Plain n a = AreSame n a a

abbrev PlainKind : ℕ → Expanded → Type 0
PlainKind n kind = (kind ≡ shifted_kind n kind) × IsDeep n kind

plain-if : (n : ℕ) (t : Bool) (a b : Shape) → Plain n a → Plain n b → Plain n (if t then a else b)
plain-if n true a b h i = h
plain-if n false a b h i = i

plain-where : (n p : ℕ) (t : Bool) (a : Shape) → Plain n a → Plain n (where_holds p t a)
plain-where n p true a h = h
plain-where n p false a h = (refl, tt)

plain-some : {A : Type 0} (n : ℕ) (o : Option A) (a : Shape) (with_it : A → Shape) → Plain n a → ((x : A) → Plain n (with_it x)) → Plain n (with_some o a with_it)
plain-some n None a with_it h i = h
plain-some n (Some x) a with_it h i = i x

plain-leaf : (n : ℕ) (kind : Expanded) → PlainKind n kind → Plain n (shape.Leaf kind)
plain-leaf n kind h = (ap shape.Leaf h.0, h.1)

plain-constant : (n : ℕ) (v : Node) → PlainKind n (constant v)
plain-constant n v = by (is_in_range v)
  where
    by : (t : Bool) → PlainKind n (if t then Form (k.Constant v) else Refused BadForm)
    by true = (refl, tt)
    by false = (refl, tt)

-- what is quoted
plain-quoted : (n : ℕ) (args : Data) → PlainKind n (quoted args)
plain-quoted n (Atom leaf p NoData) = plain-constant n (node_of leaf)
plain-quoted n (Listed p NoData NoData) = (refl, tt)
plain-quoted n _ = (refl, tt)

plain-fixed : (n p : ℕ) (kind : CoreKind) (m : ℕ) (args : Data) → shifted_core n kind ≡ kind → Plain n (fixed p kind m args)
plain-fixed n p kind m args h = plain-where n p (count_of args == m) (shape.Over kind (From 0)) (ap (λ l. shape.Over l (From 0)) (sym h), tt)

plain-misplaced : (n p : ℕ) (fault : Option Refusal) → Plain n (misplaced p fault)
plain-misplaced n p None = (refl, tt)
plain-misplaced n p (Some refusal) = plain-if n (are_same refusal BadForm) (bad p) _ (refl, tt) (refl, tt)

plain-function : (n : ℕ) (s : Scope) (p : ℕ) (args : Data) → Plain n (function_outside s p args)
plain-function n s p (Atom (Symbol x) q NoData) = plain-if n (has s.functions x) _ _ (refl, tt) (refl, tt)
plain-function n s p (Listed q under NoData) =
    plain-where n p (is_named s.names (codes "LAMBDA") (first_symbol under)) _ (plain-misplaced n q (list_fault s.names (parameters_of (behind 1 under))))
plain-function n s p _ = (refl, tt)

plain-fold_of_none : (n p : ℕ) (g : Primitive) → Plain n (fold_of_none p g)
plain-fold_of_none n p f.Add = plain-leaf n _ (plain-constant n (AnInt (pos 0)))
plain-fold_of_none n p f.Multiply = plain-leaf n _ (plain-constant n (AnInt (pos 1)))
plain-fold_of_none n p _ = (refl, tt)

plain-fold_of_one : (n : ℕ) (g : Primitive) → Plain n (fold_of_one g)
plain-fold_of_one n f.Max = (refl, tt)
plain-fold_of_one n f.Min = (refl, tt)
plain-fold_of_one n _ = (refl, tt)

plain-fold : (n p : ℕ) (g : Primitive) (args : Data) → Plain n (fold_shape p g args)
plain-fold n p g args =
    plain-if n (count_of args == 0) (fold_of_none p g) _ (plain-fold_of_none n p g)
    (plain-if n (nat_lt most (count_of args)) _ _ (refl, tt)
    (plain-if n (count_of args == 1) (fold_of_one g) _ (plain-fold_of_one n g) (refl, tt)))

plain-keyed : (n : ℕ) (names : List (List ℕ)) (p : ℕ) (serve : Service) (args : Data) → Plain n (Shapes.keyed_shape names p serve args)
plain-keyed n names p serve args =
    plain-where n p (not (nat_lt (count_of args) (positional serve))) _
    (plain-some n (keys_in names (first_key serve) (second_key serve) (behind (positional serve) args)) (bad p) _ (refl, tt) (λ keys. (refl, tt)))

plain-serve : (n : ℕ) (names : List (List ℕ)) (p : ℕ) (serve : Service) (args : Data) → Plain n (serve_shape names p serve args)
plain-serve n names p (service.ConditionNotify count) args =
    plain-if n (count_of args == 2) _ (fixed p (k.Serve (service.ConditionNotify false)) 1 args) (refl, tt) (plain-fixed n p _ 1 args refl)
plain-serve n names p (service.MakeThread name arguments) args = plain-keyed n names p (service.MakeThread name arguments) args
plain-serve n names p (service.JoinThread default timeout) args = plain-keyed n names p (service.JoinThread default timeout) args
plain-serve n names p service.InterruptThread args = plain-keyed n names p service.InterruptThread args
plain-serve n names p service.ThreadAlive args = plain-keyed n names p service.ThreadAlive args
plain-serve n names p (service.MakeMutex name) args = plain-keyed n names p (service.MakeMutex name) args
plain-serve n names p (service.MakeWaitqueue name) args = plain-keyed n names p (service.MakeWaitqueue name) args
plain-serve n names p (service.GrabMutex waitp timeout) args = plain-keyed n names p (service.GrabMutex waitp timeout) args
plain-serve n names p (service.ReleaseMutex rule) args = plain-keyed n names p (service.ReleaseMutex rule) args
plain-serve n names p service.MutexOwner args = plain-keyed n names p service.MutexOwner args
plain-serve n names p service.HoldingMutex args = plain-keyed n names p service.HoldingMutex args
plain-serve n names p (service.ConditionWait timeout) args = plain-keyed n names p (service.ConditionWait timeout) args
plain-serve n names p service.ConditionBroadcast args = plain-keyed n names p service.ConditionBroadcast args
plain-serve n names p service.Sleep args = plain-keyed n names p service.Sleep args
plain-serve n names p (service.MakeTimer name thread) args = plain-keyed n names p (service.MakeTimer name thread) args
plain-serve n names p (service.ScheduleTimer repeat catch_up) args = plain-keyed n names p (service.ScheduleTimer repeat catch_up) args
plain-serve n names p service.UnscheduleTimer args = plain-keyed n names p service.UnscheduleTimer args

plain-error : (n : ℕ) (s : Scope) (p : ℕ) (args : Data) → Plain n (Shapes.error_shape s p args)
plain-error n s p (Atom (Text x) q NoData) = plain-where n p (not (has_tilde (text_of s.texts x))) _ (refl, tt)
plain-error n s p _ = (refl, tt)

plain-given : (n p x taken given : ℕ) → Plain n (format_given p x taken given)
plain-given n p x taken given = plain-if n (nat_lt given taken) (bad p) _ (refl, tt) (plain-if n (nat_lt most given) _ _ (refl, tt) (refl, tt))

plain-format : (n : ℕ) (s : Scope) (p : ℕ) (args : Data) → Plain n (Shapes.format_shape s p args)
plain-format n s p (Atom (Symbol t) q (Atom (Text x) r beside)) =
    plain-where n p (is_named s.names (codes "T") (Some t)) _
    (plain-some n (taken_by false (text_of s.texts x)) (bad p) _ (refl, tt) (λ taken. plain-given n p x taken (count_of beside)))
plain-format n s p _ = (refl, tt)

plain-swap : (n : ℕ) (s : Scope) (p : ℕ) (args : Data) → Plain n (Shapes.swap_shape s p args)
plain-swap n s p (Listed q under beside) =
    plain-where n p (count_of beside == 2) _
    (plain-some n (Shapes.valued_symbol s.names under) (bad p) _ (refl, tt) (λ v. plain-if n (has s.specials v.0) _ _ (refl, tt) (refl, tt)))
plain-swap n s p _ = (refl, tt)

plain-block : (n p : ℕ) (args : Data) → Plain n (Shapes.block_shape p args)
plain-block n p (Atom (Symbol b) q beside) = (refl, tt)
plain-block n p _ = (refl, tt)

plain-handler : (n : ℕ) (names : List (List ℕ)) (p : ℕ) (args : Data) → Plain n (Shapes.handler_shape names p args)
plain-handler n names p args =
    plain-where n p (nat_lt 0 (count_of args) && are_clauses names (behind 1 args)) _
    (plain-if n (nat_lt most_clauses (count_of (behind 1 args))) _ _ (refl, tt) (refl, tt))

plain-deadline : (n : ℕ) (names : List (List ℕ)) (p : ℕ) (args : Data) → Plain n (Shapes.deadline_shape names p args)
plain-deadline n names p (Listed q items beside) =
    plain-some n (keys_in names (codes ":SECONDS") (codes ":OVERRIDE") items) (bad p) _ (refl, tt) (λ keys. (refl, tt))
plain-deadline n names p _ = (refl, tt)

plain-mutex : (n : ℕ) (names : List (List ℕ)) (p : ℕ) (args : Data) → Plain n (Shapes.mutex_shape names p args)
plain-mutex n names p (Listed q items beside) =
    plain-where n p (nat_lt 0 (count_of items)) _
    (plain-some n (keys_in names (codes ":WAIT-P") (codes ":TIMEOUT") (behind 1 items)) (bad p) _ (refl, tt) (λ keys. (refl, tt)))
plain-mutex n names p _ = (refl, tt)

plain-lock : (n p : ℕ) (args : Data) → Plain n (Shapes.lock_shape p args)
plain-lock n p (Listed q items beside) = plain-where n p (count_of items == 1) _ (refl, tt)
plain-lock n p _ = (refl, tt)

plain-dotimes : (n : ℕ) (names : List (List ℕ)) (p : ℕ) (args : Data) → Plain n (Shapes.dotimes_shape names p args)
plain-dotimes n names p (Listed q items beside) =
    plain-where n p ((count_of items == 2) || (count_of items == 3)) _
    (plain-some n (as_variable names (first_symbol items)) (bad p) _ (refl, tt) (λ x. (refl, tt)))
plain-dotimes n names p _ = (refl, tt)

plain-let : (n p : ℕ) (fault : Option Refusal) (a : Shape) → Plain n a → Plain n (Shapes.faultless p fault a)
plain-let n p None a h = h
plain-let n p (Some refusal) a h = (refl, tt)

-- `incf` and `decf`
change-shifted : (n p q : ℕ) (g : Primitive) (t : Bool) (o : Option Target)
    → AreSame n (where_holds p t (with_some o (shape.Wrong UnknownVariable q) (λ target. shape.Change target g)))
    (where_holds p t (with_some (shifted_targets n o) (shape.Wrong UnknownVariable q) (λ target. shape.Change target g)))
change-shifted n p q g true None = (refl, tt)
change-shifted n p q g true (Some target) = (refl, tt)
change-shifted n p q g false o = (refl, tt)

shapes-change : (n : ℕ) (s : Scope) (w : Without n) (p : ℕ) (g : Primitive) (args : Data) → AreSame n (change_shape (outer n s w) p g args) (change_shape (bare n s w) p g args)
shapes-change n s w p g (Atom (Symbol x) q beside) =
    let t : Bool = nat_lt (count_of beside) 2 && is_variable_name s.names x in
    subst (λ o. AreSame n (change_shape (outer n s w) p g (Atom (Symbol x) q beside)) (where_holds p t (with_some o (shape.Wrong UnknownVariable q) (λ target. shape.Change target g))))
    (sym (target-shifted n s w x)) (change-shifted n p q g t (target_of (outer n s w) x))
shapes-change n s w p g _ = (refl, tt)

-- exits
abbrev exit_by : ℕ → Bool → ℕ → Bool → Option ℕ → Shape
exit_by p has_value i t o =
    where_holds p t (with_some o (shape.Wrong NoSuchBlock p) (λ b. if has_value then shape.Over (k.ReturnFrom b) (From i) else shape.OverNil (k.ReturnFrom b) (From i)))

itself : (n : ℕ) → (n == n) ≡ true
itself n = grind (arith, nat_tests)

exit-shifted : (n p : ℕ) (has_value : Bool) (i : ℕ) (t : Bool) (o : Option ℕ) → AreSame n (exit_by p has_value i t o) (exit_by p has_value i t (shifted_number n o))
exit-shifted n p has_value i false o = (refl, tt)
exit-shifted n p has_value i true None = (refl, tt)
exit-shifted n p true i true (Some b) = (refl, tt)
exit-shifted n p false i true (Some b) = (refl, tt)

exit-free : (n p : ℕ) (has_value : Bool) (i : ℕ) (t : Bool) (o' : Option ℕ) → AreShapes n (exit_by p has_value i t (Some n)) (exit_by p has_value i t o')
exit-free n p has_value i false o' = inr (refl, tt)
exit-free n p true i true o' = inl (itself n)
exit-free n p false i true o' = inl (itself n)

shapes-exit : (n p : ℕ) (has_value : Bool) (i : ℕ) (t : Bool) (o o' : Option ℕ) → (o ≡ Some n) ⊎ (o' ≡ shifted_number n o)
    → AreShapes n (exit_by p has_value i t o) (exit_by p has_value i t o')
shapes-exit n p has_value i t o o' (inl h) = subst (λ a. AreShapes n (exit_by p has_value i t a) (exit_by p has_value i t o')) (sym h) (exit-free n p has_value i t o')
shapes-exit n p has_value i t o o' (inr h) =
    inr (subst (λ a. AreSame n (exit_by p has_value i t o) (exit_by p has_value i t a)) (sym h) (exit-shifted n p has_value i t o))

shapes-return_from : (n : ℕ) (s : Scope) (w : Without n) (p : ℕ) (args : Data) → AreShapes n (return_from_shape (outer n s w) p args) (return_from_shape (bare n s w) p args)
shapes-return_from n s w p (Atom (Symbol b) q beside) =
    shapes-exit n p (count_of beside == 1) 1 (nat_lt (count_of beside) 2) (number_of (ABlock b) w.levels) (number_of (ABlock b) w.others) (w.blocks b)
shapes-return_from n s w p _ = inr (refl, tt)

-- forms inside a region
body-shifted : (n p : ℕ) (o : Option ℕ) → AreSame n (with_some o (shape.Wrong RegionOutside p) (λ m. shape.Body (k.AllowWithInterrupts m))) (with_some (shifted_number n o) (shape.Wrong RegionOutside p) (λ m. shape.Body (k.AllowWithInterrupts m)))
body-shifted n p None = (refl, tt)
body-shifted n p (Some m) = (refl, tt)

region-shifted : (n p : ℕ) (o : Option ℕ) → AreSame n (with_some o (shape.Wrong RegionOutside p) (λ m. shape.LocalInterrupts m)) (with_some (shifted_number n o) (shape.Wrong RegionOutside p) (λ m. shape.LocalInterrupts m))
region-shifted n p None = (refl, tt)
region-shifted n p (Some m) = (refl, tt)

-- a list with this operator
shapes-led : (n : ℕ) (s : Scope) (w : Without n) (p : ℕ) (operator : Operator) (args : Data)
    → AreShapes n (operator_led (outer n s w) p operator args) (operator_led (bare n s w) p operator args)
shapes-led n s w p op.Quote args = inr (plain-leaf n (quoted args) (plain-quoted n args))
shapes-led n s w p op.Function args = inr (plain-function n s p args)
shapes-led n s w p op.Lambda args = inr (plain-misplaced n p (list_fault s.names (parameters_of args)))
shapes-led n s w p op.Progn args = inr (refl, tt)
shapes-led n s w p op.If args = inr (plain-if n (count_of args == 2) _ (fixed p k.If 3 args) (refl, tt) (plain-fixed n p k.If 3 args refl))
shapes-led n s w p op.Let args = inr (plain-let n p (list_fault s.names (variables_of args)) shape.Let (refl, tt))
shapes-led n s w p op.LetStar args = inr (plain-let n p (list_fault s.names (variables_of args)) shape.LetStar (refl, tt))
shapes-led n s w p op.Setq args = inr (plain-where n p (nat_lt 0 (count_of args) && Shapes.are_pairs s.names args) shape.Setq (refl, tt))
shapes-led n s w p op.CompareAndSwap args = inr (plain-swap n s p args)
shapes-led n s w p op.When args = inr (plain-where n p (not (nat_lt (count_of args) 1)) shape.When (refl, tt))
shapes-led n s w p op.Unless args = inr (plain-where n p (not (nat_lt (count_of args) 1)) shape.Unless (refl, tt))
shapes-led n s w p op.Cond args = inr (plain-where n p (are_tests args) shape.Cond (refl, tt))
shapes-led n s w p op.And args = inr (refl, tt)
shapes-led n s w p op.Or args = inr (refl, tt)
shapes-led n s w p op.Prog1 args = inr (plain-where n p (not (nat_lt (count_of args) 1)) shape.Prog1 (refl, tt))
shapes-led n s w p op.Incf args = inr (shapes-change n s w p f.Add args)
shapes-led n s w p op.Decf args = inr (shapes-change n s w p f.Subtract args)
shapes-led n s w p op.Loop args = inr (refl, tt)
shapes-led n s w p op.Dotimes args = inr (plain-dotimes n s.names p args)
shapes-led n s w p op.Block args = inr (plain-block n p args)
shapes-led n s w p op.ReturnFrom args = shapes-return_from n s w p args
shapes-led n s w p op.Return args =
    shapes-exit n p (count_of args == 1) 0 (nat_lt (count_of args) 2) (number_of (ABlock 0) w.levels) (number_of (ABlock 0) w.others) (w.blocks 0)
shapes-led n s w p op.Catch args = inr (plain-where n p (not (nat_lt (count_of args) 1)) shape.Catch (refl, tt))
shapes-led n s w p op.Throw args = inr (plain-fixed n p k.Throw 2 args refl)
shapes-led n s w p op.UnwindProtect args = inr (plain-where n p (not (nat_lt (count_of args) 1)) (shape.Over k.UnwindProtect (From 0)) (refl, tt))
shapes-led n s w p op.HandlerCase args = inr (plain-handler n s.names p args)
shapes-led n s w p op.IgnoreErrors args = inr (refl, tt)
shapes-led n s w p op.Error args = inr (plain-error n s p args)
shapes-led n s w p op.WithoutInterrupts args = inr (refl, tt)
shapes-led n s w p op.AllowWithInterrupts args =
    inr (subst (λ o. AreSame n (with_some (number_of Region w.levels) (shape.Wrong RegionOutside p) (λ m. shape.Body (k.AllowWithInterrupts m))) (with_some o (shape.Wrong RegionOutside p) (λ m. shape.Body (k.AllowWithInterrupts m)))) (sym w.regions)
    (body-shifted n p (number_of Region w.levels)))
shapes-led n s w p op.WithInterrupts args = inr (refl, tt)
shapes-led n s w p op.WithLocalInterrupts args =
    inr (subst (λ o. AreSame n (with_some (number_of Region w.levels) (shape.Wrong RegionOutside p) (λ m. shape.LocalInterrupts m)) (with_some o (shape.Wrong RegionOutside p) (λ m. shape.LocalInterrupts m))) (sym w.regions)
    (region-shifted n p (number_of Region w.levels)))
shapes-led n s w p op.WithDeadline args = inr (plain-deadline n s.names p args)
shapes-led n s w p op.WithTimeout args = inr (plain-where n p (not (nat_lt (count_of args) 1)) shape.Timeout (refl, tt))
shapes-led n s w p op.WithMutex args = inr (plain-mutex n s.names p args)
shapes-led n s w p op.WithRecursiveLock args = inr (plain-lock n p args)
shapes-led n s w p op.AbortThread args = inr (plain-where n p (count_of args == 0) (shape.Leaf (Form k.AbortThread)) (refl, tt))
shapes-led n s w p op.ReturnFromThread args = inr (plain-fixed n p k.ReturnFromThread 1 args refl)
shapes-led n s w p op.TerminateThread args = inr (plain-where n p (count_of args == 1) shape.Terminate (refl, tt))
shapes-led n s w p (op.Fold g) args = inr (plain-fold n p g args)
shapes-led n s w p (op.Apply g m) args = inr (plain-fixed n p (k.Apply g) m args refl)
shapes-led n s w p (op.Print printing m) args = inr (plain-fixed n p (k.Print printing) m args refl)
shapes-led n s w p op.Format args = inr (plain-format n s p args)
shapes-led n s w p (op.Serve serve) args = inr (plain-serve n s.names p serve args)
shapes-led n s w p (op.Own x) args = inr (plain-if n (nat_lt most (count_of args)) _ _ (refl, tt) (refl, tt))
shapes-led n s w p op.Defvar args = inr (refl, tt)
shapes-led n s w p op.Defparameter args = inr (refl, tt)
shapes-led n s w p op.Defun args = inr (refl, tt)
shapes-led n s w p op.Ignored args = inr (refl, tt)
shapes-led n s w p op.Declare args = inr (refl, tt)

-- a list with this operator or none
shapes-head : (n : ℕ) (s : Scope) (w : Without n) (p : ℕ) (operator : Option Operator) (args : Data)
    → AreShapes n (shape_led (outer n s w) p operator args) (shape_led (bare n s w) p operator args)
shapes-head n s w p None args = inr (refl, tt)
shapes-head n s w p (Some operator) args = shapes-led n s w p operator args

-- what a list is where the block is, and without it
pub shapes-without : (n : ℕ) (s : Scope) (w : Without n) (p : ℕ) (under : Data) → AreShapes n (shape_of (outer n s w) p under) (shape_of (bare n s w) p under)
shapes-without n s w p under = shapes-head n s w p (operator_at s (first_symbol under)) (behind 1 under)
