-- Rows of loops, frames, locks, timers and functions: what stands for a form names what is open round it, where its parts do.
use Rattle.std.proofs.Common.{◌≡◌, inl, inr, ℕ, zero, suc, pos, ◌+◌, ◌<◌, List, [], ◌∷◌, Bool, true, false, Option, Some, None, if◌then◌else◌, nat_lt, length, replicate, refl, ap, sym, ◌∙◌, arith}
use Rattle.std.proofs.lemmas.Bool.Decides.{nat_tests}
use Rattle.lisp_base.specs.Forest.{NoTrees, Tree, append}
use Rattle.lisp_base.specs.declared.condition.Class.{Class}
use Rattle.lisp_base.specs.declared.value.Node.TheVariants as node
use Rattle.lisp_program.specs.declared.form.CoreKind.{CoreKind}
use Rattle.lisp_program.specs.declared.form.CoreKind.TheVariants as k
use Rattle.form_shapes.specs.declared.keywords.Roles.TheVariants.{From, Values}
use Rattle.form_shapes.specs.declared.levels.Level.TheVariants.{Block, Region}
use Rattle.form_shapes.specs.declared.shape.Shape.{Shape}
use Rattle.form_shapes.specs.declared.shape.Shape.TheVariants as shape
use Rattle.form_shapes.specs.Scopes.{Scope, deeper, has, inside}
use Rattle.lisp_forms.specs.Blocks.{blocked, lowered, returns_to}
use Rattle.lisp_forms.specs.Parts.{Parts}
use Rattle.lisp_forms.specs.Rows
use Rattle.lisp_forms.specs.Trees.{Expansion, Single, only, both, form, nil_form, progn_form, first, second, others}
use Rattle.form_laws.specs.Scoping.{Opening, Variable, Entry, Flag, Naming, NamesNone, Uses, Opens, IsNamedIn, IsOpen, naming_of, opened_by}
use Rattle.form_laws.specs.inside.Openings.{Fits, IsRound, IsRoundOne}
use Rattle.form_laws.specs.inside.Parts.{ArePartsRound, AreRead, with_clause, with_variable}
use Rattle.form_laws.proofs.Fitting.{fits-deeper, fits-inside, fits-variable}
use Rattle.form_laws.proofs.Lowered.{unblocked-round}
use Rattle.form_laws.proofs.Rows.{and-round, append-round, as_one-round, both-round, bind-round, change_form-round, either-round, first-round, fold_form-round, front-round, let-round, let_star-round, only-round, others-round, prog1-round, twice-round, unless-round, when-round}
use Rattle.form_laws.proofs.Shaped.{IsShapeRound, IsUsed, constant-round}

-- a form of a kind that opens nothing
used-named : (os : List Opening) (naming : Naming) → IsUsed os naming → IsNamedIn os naming
used-named os NamesNone u = tt
used-named os (Uses o n) u = u
used-named os (Opens o n) u = absurd u

used-under : (os : List Opening) (naming : Naming) (fs : Expansion) → IsUsed os naming → IsRound os fs → IsRound (opened_by os naming) fs
used-under os NamesNone fs u h = h
used-under os (Uses o n) fs u h = h
used-under os (Opens o n) fs u h = absurd u

used-round : (os : List Opening) (kind : CoreKind) (p : ℕ) (fs : Expansion) → IsUsed os (naming_of kind) → IsRound os fs → IsRoundOne os (form kind p fs)
used-round os kind p fs u h = (used-named os (naming_of kind) u, used-under os (naming_of kind) fs u h)

-- loops
loop-round : (os : List Opening) (s : Scope) (p : ℕ) (parts : Parts) → Fits os s → AreRead (λ inner. parts.body inner 0) → IsRoundOne os (Rows.loop_form s p parts)
loop-round os s p parts f h = (f.0, (tt, tt, h (Entry ∷ os) (inside s (Block 0)) (fits-inside os s (Block 0) f)))

-- a form, where there is one
abbrev IsRoundIn : List Opening → Option Single → Type 0
IsRoundIn os None = Unit {0}
IsRoundIn os (Some a) = IsRoundOne os a

result_of-round : (os : List Opening) (fs : Expansion) → IsRound os fs → IsRoundIn os (Rows.result_of fs)
result_of-round os NoTrees h = tt
result_of-round os (Tree kind p under NoTrees) h = tt
result_of-round os (Tree kind p under (Tree kind' p' under' NoTrees)) h = tt
result_of-round os (Tree kind p under (Tree kind' p' under' (Tree kind'' p'' under'' beside))) h = ((h.2).2.0, (h.2).2.1)

turn-round : (os : List Opening) (s : Scope) (p done depth x : ℕ) (body : Expansion) → IsOpen Variable os done → depth ≡ length os
    → IsRound (with_variable os s x) body → IsRoundOne os (Rows.turn_form p done (Rows.bind_kind s depth x 0) body)
turn-round os s p done depth x body d e h =
    (tt, both-round os (Rows.local done p) (Rows.bind_form s p depth x 0 body) (d, tt) (bind-round os s p depth x 0 body e h))

result-round : (os : List Opening) (s : Scope) (p done depth x : ℕ) (result : Option Single) → IsOpen Variable os done → depth ≡ length os
    → IsRoundIn (with_variable os s x) result → IsRoundOne os (Rows.result_form p done (Rows.bind_kind s depth x 0) result)
result-round os s p done depth x None d e h = (tt, tt)
result-round os s p done depth x (Some a) d e h = turn-round os s p done depth x (only a) d e (only-round (with_variable os s x) a h)

step-round : (os : List Opening) (p done : ℕ) → IsOpen Variable os done → IsRoundOne os (Rows.step_form p done)
step-round os p done d = (d, (tt, (d, tt, (constant-round os (node.Int (pos 1)), tt, tt)), tt))

turns-round : (os : List Opening) (s : Scope) (p x : ℕ) (body : Expansion) (result : Option Single) → Fits os s
    → IsRound (with_variable (Variable ∷ Variable ∷ Entry ∷ os) s x) body → IsRoundIn (with_variable (Variable ∷ Variable ∷ Entry ∷ os) s x) result
    → IsRoundOne (Entry ∷ os) (Rows.turns_form s p x body result)
turns-round os s p x body result f h l =
    let blocked : Scope = inside s (Block 0) in
    let qs : List Opening = Variable ∷ Variable ∷ Entry ∷ os in
    let fits : Fits (Entry ∷ os) blocked = fits-inside os s (Block 0) f in
    let more_in : Fits (Variable ∷ Entry ∷ os) (deeper blocked) = fits-deeper Variable (Entry ∷ os) blocked fits in
    let all : Fits qs (Rows.in_dotimes s) = fits-deeper Variable (Variable ∷ Entry ∷ os) (deeper blocked) more_in in
    let done : ℕ = (deeper blocked).depth in
    let depth : ℕ = (Rows.in_dotimes s).depth in
    let kind : CoreKind = Rows.bind_kind s depth x 0 in
    let more : IsRoundOne qs (Rows.more_form p blocked.depth done) = (tt, (inl (refl, more_in.0), tt, (inr (inl (refl, fits.0)), tt, tt))) in
    let turn : IsRoundOne qs (Rows.turn_form p done kind body) = turn-round qs s p done depth x body (inl (refl, more_in.0)) all.0 h in
    let step : IsRoundOne qs (Rows.step_form p done) = step-round qs p done (inl (refl, more_in.0)) in
    let end : IsRoundOne qs (Rows.result_form p done kind result) = result-round qs s p done depth x result (inl (refl, more_in.0)) all.0 l in
    (fits.0, (more_in.0, (tt, (more.0, more.1, (turn.0, turn.1, (step.0, step.1, tt))), (end.0, end.1, tt)), tt))

dotimes-round : (os : List Opening) (s : Scope) (p x : ℕ) (xs : List ℕ) (parts : Parts) → Fits os s → ArePartsRound os s xs parts
    → IsRoundOne os (Rows.dotimes_form s p x parts)
dotimes-round os s p x xs parts f h =
    let blocked : Scope = inside s (Block 0) in
    let qs : List Opening = Variable ∷ Variable ∷ Entry ∷ os in
    let fits : Fits (Entry ∷ os) blocked = fits-inside os s (Block 0) f in
    let all : Fits qs (Rows.in_dotimes s) = fits-deeper Variable (Variable ∷ Entry ∷ os) (deeper blocked) (fits-deeper Variable (Entry ∷ os) blocked fits) in
    let turn : Fits (with_variable qs s x) (Rows.in_turn s x) = fits-variable qs (Rows.in_dotimes s) x all in
    let items : Expansion = parts.within blocked (From 0) in
    let results : Expansion = parts.within (Rows.in_turn s x) (From 0) in
    let body : Expansion = parts.body (Rows.in_turn s x) 1 in
    let count : IsRoundOne (Entry ∷ os) (second p items) =
    first-round (Entry ∷ os) p (others items) (others-round (Entry ∷ os) items (h.within (From 0) (Entry ∷ os) blocked fits)) in
    let last : IsRoundOne (Entry ∷ os) (Rows.turns_form s p x body (Rows.result_of results)) =
    turns-round os s p x body (Rows.result_of results) f (h.body 1 (with_variable qs s x) (Rows.in_turn s x) turn)
    (result_of-round (with_variable qs s x) results (h.within (From 0) (with_variable qs s x) (Rows.in_turn s x) turn)) in
    (f.0, (count.0, count.1, (constant-round (Entry ∷ os) (node.Int (pos 0)), tt, (last.0, last.1, tt))))

-- frames
without-round : (os : List Opening) (s : Scope) (p : ℕ) (parts : Parts) → Fits os s → AreRead (λ inner. parts.body inner 0) → IsRoundOne os (Rows.without_form s p parts)
without-round os s p parts f h = (f.0, h (Flag ∷ os) (inside s Region) (fits-inside os s Region f))

block-round : (os : List Opening) (s : Scope) (p b : ℕ) (parts : Parts) → Fits os s → AreRead (λ inner. parts.body inner 1) → IsRoundOne os (Rows.block_form s p b parts)
block-round os s p b parts f h = (f.0, h (Entry ∷ os) (inside s (Block b)) (fits-inside os s (Block b) f))

pub clause_form-round : (os : List Opening) (s : Scope) (g p : ℕ) (class : Class) (x : Option ℕ) (body : Expansion) → g ≡ length os
    → IsRound (with_clause os x) body → IsRoundOne os (Rows.clause_form s g p class x body)
clause_form-round os s g p class None body e h = (tt, h)
clause_form-round os s g p class (Some x) body e h = (e, by (has s.specials x))
  where
    by : (t : Bool) → IsRound (Variable ∷ os) (if t then only (form k.Let p (both (Rows.local g p) (form (k.BindSpecial x 0) p body))) else body)
    by true = (tt, (inl (refl, e), tt, (tt, h, tt)), tt)
    by false = h

-- locks
release-round : (os : List Opening) (g h p : ℕ) → IsOpen Variable os g → IsOpen Variable os h → IsRoundOne os (Rows.release_form g h p)
release-round os g h p a b = (tt, (b, tt, (tt, (tt, (a, tt, (tt, tt, tt)), tt), (tt, tt, tt))))

locked-round : (os : List Opening) (g h region p : ℕ) (mutex test : Single) (body : Expansion) → g ≡ length os → h ≡ length (Variable ∷ os)
    → region ≡ length (Variable ∷ Variable ∷ os) → IsRoundOne os mutex → IsRoundOne (Flag ∷ Variable ∷ Variable ∷ os) test
    → IsRound (Flag ∷ Variable ∷ Variable ∷ os) body → IsRoundOne os (Rows.locked g h region p mutex test body)
locked-round os g h region p mutex test body a b c m t inner =
    let qs : List Opening = Flag ∷ Variable ∷ Variable ∷ os in
    let locals : IsRoundOne qs (Rows.local_form region p body) = (inl (refl, c), (tt, inner, tt)) in
    let protected : IsRoundOne qs (Rows.if_form p test (progn_form p (only (Rows.local_form region p body))) (nil_form p)) =
    (tt, (t.0, t.1, (tt, (locals.0, locals.1, tt), (tt, tt, tt)))) in
    let release : IsRoundOne qs (Rows.release_form g h p) = release-round qs g h p (inr (inr (inl (refl, a)))) (inr (inl (refl, b))) in
    (tt, (m.0, m.1, (tt, tt, (a, (b, (c, (tt, (protected.0, protected.1, (release.0, release.1, tt)), tt), tt), tt), tt))))

grabbing-round : (os : List Opening) (g h region p : ℕ) (waitp timeout : Bool) (operands : Expansion) → IsOpen Variable os g → IsOpen Variable os h
    → IsOpen Flag os region → IsRound os operands → IsRoundOne os (Rows.grabbing g h region p waitp timeout operands)
grabbing-round os g h region p waitp timeout operands a b c o = (b, (c, (tt, (a, tt, o), tt), tt))

mutex-round : (os : List Opening) (s : Scope) (p : ℕ) (waitp timeout : Bool) (xs : List ℕ) (parts : Parts) → Fits os s → ArePartsRound os s xs parts
    → IsRoundOne os (Rows.mutex_form s p waitp timeout parts)
mutex-round os s p waitp timeout xs parts f h =
    let qs : List Opening = Flag ∷ Variable ∷ Variable ∷ os in
    let one : Fits (Variable ∷ os) (deeper s) = fits-deeper Variable os s f in
    let two : Fits (Variable ∷ Variable ∷ os) (deeper (deeper s)) = fits-deeper Variable (Variable ∷ os) (deeper s) one in
    let all : Fits qs (Rows.in_lock s) = fits-deeper Flag (Variable ∷ Variable ∷ os) (deeper (deeper s)) two in
    let operands : Expansion = parts.within (Rows.in_lock s) (Values 1) in
    let mutex : Expansion = parts.within s (From 0) in
    locked-round os s.depth (deeper s).depth (deeper (deeper s)).depth p (first p mutex)
    (Rows.grabbing s.depth (deeper s).depth (deeper (deeper s)).depth p waitp timeout operands) (parts.body (Rows.in_lock s) 1) f.0 one.0 two.0
    (first-round os p mutex (h.within (From 0) os s f))
    (grabbing-round qs s.depth (deeper s).depth (deeper (deeper s)).depth p waitp timeout operands (inr (inr (inl (refl, f.0)))) (inr (inl (refl, one.0))) (inl (refl, two.0))
    (h.within (Values 1) qs (Rows.in_lock s) all))
    (h.body 1 qs (Rows.in_lock s) all)

lock-round : (os : List Opening) (s : Scope) (p : ℕ) (xs : List ℕ) (parts : Parts) → Fits os s → ArePartsRound os s xs parts → IsRoundOne os (Rows.lock_form s p parts)
lock-round os s p xs parts f h =
    let qs : List Opening = Flag ∷ Variable ∷ Variable ∷ os in
    let one : Fits (Variable ∷ os) (deeper s) = fits-deeper Variable os s f in
    let two : Fits (Variable ∷ Variable ∷ os) (deeper (deeper s)) = fits-deeper Variable (Variable ∷ os) (deeper s) one in
    let all : Fits qs (Rows.in_lock s) = fits-deeper Flag (Variable ∷ Variable ∷ os) (deeper (deeper s)) two in
    let mutex : Expansion = parts.within s (From 0) in
    let held : Single = Rows.held_form s.depth p in
    let grab : Single = Rows.grabbing s.depth (deeper s).depth (deeper (deeper s)).depth p false false NoTrees in
    locked-round os s.depth (deeper s).depth (deeper (deeper s)).depth p (first p mutex) (Rows.either (Rows.in_lock s).depth p held grab)
    (parts.body (Rows.in_lock s) 1) f.0 one.0 two.0
    (first-round os p mutex (h.within (From 0) os s f))
    (either-round qs (Rows.in_lock s).depth p held grab all.0 (tt, (inr (inr (inl (refl, f.0))), tt, tt))
    (grabbing-round (Variable ∷ qs) s.depth (deeper s).depth (deeper (deeper s)).depth p false false NoTrees
    (inr (inr (inr (inl (refl, f.0))))) (inr (inr (inl (refl, one.0)))) (inr (inl (refl, two.0))) tt))
    (h.body 1 qs (Rows.in_lock s) all)

-- timers
timeout-round : (os : List Opening) (s : Scope) (p : ℕ) (parts : Parts) → Fits os s → AreRead parts.forms → IsRoundOne os (Rows.timeout_form s p parts)
timeout-round os s p parts f h =
    let fs : Expansion = parts.forms (deeper s) in
    let forms : IsRound (Variable ∷ os) fs = h (Variable ∷ os) (deeper s) (fits-deeper Variable os s f) in
    let seconds : IsRoundOne (Variable ∷ os) (first p fs) = first-round (Variable ∷ os) p fs forms in
    let body : IsRound (Variable ∷ os) (others fs) = others-round (Variable ∷ os) fs forms in
    let timer : IsRoundOne os (Rows.timer_form p) = (tt, (tt, (tt, tt, tt), tt)) in
    (tt, (timer.0, timer.1, (f.0, (tt, (inl (refl, f.0), tt, (seconds.0, seconds.1, tt)), (tt, (tt, body, (tt, (inl (refl, f.0), tt, tt), tt)), tt)), tt)))

-- functions
length-parameters : (n : ℕ) → length (replicate n Variable) ≡ n
length-parameters zero = refl
length-parameters (suc n) = ap suc (length-parameters n)

parameter-open : (n i : ℕ) → i < n → IsOpen Variable (replicate n Variable) i
parameter-open zero i h = absurd (omega (arith, h))
parameter-open (suc n) i h = by (nat_lt i n) refl (parameter-open n i)
  where
    by : (t : Bool) → nat_lt i n ≡ t → (i < n → IsOpen Variable (replicate n Variable) i) → IsOpen Variable (Variable ∷ replicate n Variable) i
    by true e rest =
        let less : i < n = grind (arith, nat_tests, e) in
        inr (rest less)
    by false e rest =
        let same : i ≡ n = grind (arith, nat_tests, e, h) in
        inl (refl, same ∙ sym (length-parameters n))

specials-round : (os : List Opening) (s : Scope) (p i : ℕ) (xs : List ℕ) (body : Expansion) → ((j : ℕ) → j < i + length xs → IsOpen Variable os j)
    → IsRound os body → IsRound os (Rows.specials_bound s p i xs body)
specials-round os s p i [] body o h = h
specials-round os s p i (x ∷ xs) body o h =
    by (has s.specials x) (o i (omega arith)) (specials-round os s p (suc i) xs body (λ j less. o j (omega (arith, less))) h)
  where
    by : (t : Bool) → IsOpen Variable os i → IsRound os (Rows.specials_bound s p (suc i) xs body)
        → IsRound os (if t then only (form k.Let p (both (Rows.local i p) (form (k.BindSpecial x 0) p (Rows.specials_bound s p (suc i) xs body))))
        else Rows.specials_bound s p (suc i) xs body)
    by true here rest = (tt, (here, tt, (tt, rest, tt)), tt)
    by false here rest = rest

parameters-round : (s : Scope) (p : ℕ) (xs : List ℕ) (body : Expansion) → IsRound (replicate (length xs) Variable) body
    → IsRound (replicate (length xs) Variable) (Rows.specials_bound s p 0 xs body)
parameters-round s p xs body h =
    specials-round (replicate (length xs) Variable) s p 0 xs body (λ j less. parameter-open (length xs) j (omega (arith, less))) h

pub lambda-round : (os : List Opening) (s : Scope) (p : ℕ) (xs : List ℕ) (body : Expansion) → IsRound (replicate (length xs) Variable) body
    → IsRoundOne os (Rows.lambda_form s p xs body)
lambda-round os s p xs body h = (tt, parameters-round s p xs body h)

blocked-round : (os : List Opening) (n p : ℕ) (body : Expansion) → n ≡ length os → IsRound (Entry ∷ os) body → IsRound os (blocked n p body)
blocked-round os n p body e h = by (returns_to n body) refl
  where
    by : (t : Bool) → returns_to n body ≡ t → IsRound os (if t then only (form (k.Block n) p body) else lowered (n ∷ []) body)
    by true is = (e, h, tt)
    by false is = unblocked-round os n body e is h

pub defun-round : (os : List Opening) (s : Scope) (p f : ℕ) (xs : List ℕ) (body : Expansion) → IsRound (Entry ∷ replicate (length xs) Variable) body
    → IsRoundOne os (Rows.defun_form s p f xs body)
defun-round os s p f xs body h = (
  tt,
  parameters-round s p xs (blocked (length xs) p body)
      (blocked-round (replicate (length xs) Variable) (length xs) p body (sym (length-parameters (length xs))) h),
)

-- a list of this shape
pub list_form-round : (os : List Opening) (s : Scope) (p : ℕ) (a : Shape) (xs : List ℕ) (parts : Parts) → Fits os s → IsShapeRound os a → ArePartsRound os s xs parts
    → IsRoundOne os (Rows.list_form s p a xs parts)
list_form-round os s p (shape.Wrong refusal q) xs parts f u h = (tt, tt)
list_form-round os s p (shape.Leaf kind) xs parts f u h = (u, tt)
list_form-round os s p (shape.Over kind roles) xs parts f u h = used-round os kind p (parts.arguments roles) u (h.arguments roles)
list_form-round os s p (shape.OverNil kind roles) xs parts f u h =
    used-round os kind p (append (parts.arguments roles) (only (nil_form p))) u
    (append-round os (parts.arguments roles) (only (nil_form p)) (h.arguments roles) (tt, tt, tt))
list_form-round os s p shape.When xs parts f u h = when-round os s p parts (h.forms os s f)
list_form-round os s p shape.Unless xs parts f u h = unless-round os s p parts (h.forms os s f)
list_form-round os s p shape.Cond xs parts f u h = h.conds
list_form-round os s p shape.And xs parts f u h = and-round os p (parts.forms s) (h.forms os s f)
list_form-round os s p shape.Or xs parts f u h = h.ors
list_form-round os s p shape.Prog1 xs parts f u h = prog1-round os s p parts f (h.forms os s f) (h.body 1)
list_form-round os s p shape.Setq xs parts f u h = as_one-round os p parts.pairs h.pairs
list_form-round os s p (shape.Change target g) xs parts f u h = change_form-round os s p target g parts u (h.forms os s f)
list_form-round os s p (shape.Fold g) xs parts f u h = fold_form-round os p g (parts.forms s) (h.forms os s f)
list_form-round os s p (shape.Twice g) xs parts f u h = twice-round os s p g parts f (h.forms os s f)
list_form-round os s p shape.Let xs parts f u h = let-round os s p xs parts f h
list_form-round os s p shape.LetStar xs parts f u h = let_star-round os s p xs parts f h
list_form-round os s p (shape.Body kind) xs parts f u h = used-round os kind p (parts.body s 0) u (h.body 0 os s f)
list_form-round os s p (shape.LocalInterrupts n) xs parts f u h = (u, (tt, h.body 0 os s f, tt))
list_form-round os s p shape.Without xs parts f u h = without-round os s p parts f (h.body 0)
list_form-round os s p (shape.Block b) xs parts f u h = block-round os s p b parts f (h.body 1)
list_form-round os s p shape.Catch xs parts f u h =
    (tt, front-round os (first p (parts.forms s)) (parts.body s 1) (first-round os p (parts.forms s) (h.forms os s f)) (h.body 1 os s f))
list_form-round os s p shape.Loop xs parts f u h = loop-round os s p parts f (h.body 0)
list_form-round os s p (shape.Dotimes x) xs parts f u h = dotimes-round os s p x xs parts f h
list_form-round os s p shape.IgnoreErrors xs parts f u h = (tt, (tt, h.forms os s f, (tt, (tt, tt, tt), tt)))
list_form-round os s p shape.Handler xs parts f u h =
    (tt, front-round os (first p (parts.forms s)) parts.clauses (first-round os p (parts.forms s) (h.forms os s f)) h.clauses)
list_form-round os s p (shape.Deadline seconds replaces) xs parts f u h =
    (tt, append-round os (parts.within s (Values 0)) (parts.body s 1) (h.within (Values 0) os s f) (h.body 1 os s f))
list_form-round os s p (shape.Mutex waitp timeout) xs parts f u h = mutex-round os s p waitp timeout xs parts f h
list_form-round os s p shape.RecursiveLock xs parts f u h = lock-round os s p xs parts f h
list_form-round os s p shape.Timeout xs parts f u h = timeout-round os s p parts f h.forms
list_form-round os s p shape.Terminate xs parts f u h =
    let one : IsRoundOne os (first p (parts.forms s)) = first-round os p (parts.forms s) (h.forms os s f) in
    (tt, (one.0, one.1, (tt, tt, tt)))
list_form-round os s p (shape.Defun g) xs parts f u h = (tt, tt)
