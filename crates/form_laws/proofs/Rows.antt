-- Rows of the table of forms: what stands for a form names what is open round it, where its parts do.
use Rattle.std.proofs.Common.{◌≡◌, inl, ℕ, List, [], ◌∷◌, Bool, true, false, Option, Some, None, if◌then◌else◌, length, refl}
use Rattle.lisp_base.specs.Forest.{NoTrees, Tree, append}
use Rattle.lisp_base.specs.declared.value.Node.TheVariants as node
use Rattle.lisp_program.specs.declared.form.CoreKind.TheVariants as k
use Rattle.lisp_program.specs.declared.function.Primitive.{Primitive}
use Rattle.form_shapes.specs.declared.scope.Target.{Target}
use Rattle.form_shapes.specs.declared.scope.Target.TheVariants.{Local, Special}
use Rattle.form_shapes.specs.Bindings.{opened, opened_by as opened_with}
use Rattle.form_shapes.specs.Scopes.{Scope, deeper, has}
use Rattle.lisp_forms.specs.Parts.{Parts}
use Rattle.lisp_forms.specs.Rows
use Rattle.lisp_forms.specs.Trees.{Expansion, Single, in_front, only, both, form, nil_form, progn_form, first, others}
use Rattle.form_laws.specs.Scoping.{Opening, Variable}
use Rattle.form_laws.specs.inside.Openings.{Fits, IsRound, IsRoundOne, IsTarget, IsTargetIn}
use Rattle.form_laws.specs.inside.Parts.{ArePartsRound, AreRead, AreTurnsRound, IsRead, with_variable, with_variables}
use Rattle.form_laws.proofs.Fitting.{fits-deeper, fits-variable, fits-variables}
use Rattle.form_laws.proofs.Shaped.{constant-round}

-- the first of these
pub first-round : (os : List Opening) (p : ℕ) (fs : Expansion) → IsRound os fs → IsRoundOne os (first p fs)
first-round os p NoTrees h = (tt, tt)
first-round os p (Tree kind q under beside) h = (h.0, h.1)

-- the others
pub others-round : (os : List Opening) (fs : Expansion) → IsRound os fs → IsRound os (others fs)
others-round os NoTrees h = tt
others-round os (Tree kind q under beside) h = h.2

-- forms before others
pub append-round : (os : List Opening) (fs gs : Expansion) → IsRound os fs → IsRound os gs → IsRound os (append fs gs)
append-round os NoTrees gs h k = k
append-round os (Tree kind q under beside) gs h k = (h.0, h.1, append-round os beside gs h.2 k)

-- one before others
pub front-round : (os : List Opening) (a : Single) (fs : Expansion) → IsRoundOne os a → IsRound os fs → IsRound os (in_front a fs)
front-round os a fs h k = (h.0, h.1, k)

pub only-round : (os : List Opening) (a : Single) → IsRoundOne os a → IsRound os (only a)
only-round os a h = (h.0, h.1, tt)

pub both-round : (os : List Opening) (a b : Single) → IsRoundOne os a → IsRoundOne os b → IsRound os (both a b)
both-round os a b h k = (h.0, h.1, (k.0, k.1, tt))

pub if_form-round : (os : List Opening) (p : ℕ) (test chosen other : Single) → IsRoundOne os test → IsRoundOne os chosen → IsRoundOne os other
    → IsRoundOne os (Rows.if_form p test chosen other)
if_form-round os p test chosen other h k l = (tt, (h.0, h.1, (k.0, k.1, (l.0, l.1, tt))))

-- a hidden variable
pub hidden-round : (os : List Opening) (g p : ℕ) (value : Single) (body : Expansion) → g ≡ length os → IsRoundOne os value → IsRound (Variable ∷ os) body
    → IsRoundOne os (Rows.hidden_let g p value body)
hidden-round os g p value body e h k = (tt, (h.0, h.1, (e, k, tt)))

-- a binding of a variable
pub bind-round : (os : List Opening) (s : Scope) (p depth x above : ℕ) (body : Expansion) → depth ≡ length os → IsRound (with_variable os s x) body
    → IsRoundOne os (Rows.bind_form s p depth x above body)
bind-round os s p depth x above body e h = by (has s.specials x) h
  where
    by : (t : Bool) → IsRound (if t then os else Variable ∷ os) body
        → IsRoundOne os (form (if t then k.BindSpecial x above else k.BindLocal depth above) p body)
    by true h = (tt, h)
    by false h = (e, h)

-- `let` and `let*`
binds-round : (os : List Opening) (s : Scope) (p : ℕ) (xs : List ℕ) (body : Expansion) → Fits os s → IsRound (with_variables os s xs) body
    → IsRound os (Rows.binds s p xs body)
binds-round os s p [] body f h = h
binds-round os s p (x ∷ xs) body f h =
    let inner : Expansion = Rows.binds (opened_with s x) p xs body in
    only-round os (Rows.bind_form s p s.depth x (length xs) inner)
    (bind-round os s p s.depth x (length xs) inner f.0 (binds-round (with_variable os s x) (opened_with s x) p xs body (fits-variable os s x f) h))

let_of-round : (os : List Opening) (s : Scope) (p : ℕ) (xs : List ℕ) (values body : Expansion) → Fits os s → IsRound os values
    → IsRound (with_variables os s xs) body → IsRoundOne os (Rows.let_of s p xs values body)
let_of-round os s p [] values body f h k = (tt, k)
let_of-round os s p (x ∷ xs) values body f h k =
    (tt, append-round os values (Rows.binds s p (x ∷ xs) body) h (binds-round os s p (x ∷ xs) body f k))

pub let-round : (os : List Opening) (s : Scope) (p : ℕ) (xs : List ℕ) (parts : Parts) → Fits os s → ArePartsRound os s xs parts
    → IsRoundOne os (Rows.let_form s p xs parts)
let-round os s p xs parts f h =
    let_of-round os s p xs parts.values (parts.body (opened s xs) 1) f h.values
    (h.body 1 (with_variables os s xs) (opened s xs) (fits-variables os s xs f))

nested-round : (os : List Opening) (s : Scope) (p : ℕ) (xs : List ℕ) (values body : Expansion) → Fits os s → AreTurnsRound os s xs values
    → IsRound (with_variables os s xs) body → IsRound os (Rows.nested s p xs values body)
nested-round os s p [] values body f h k = k
nested-round os s p (x ∷ xs) values body f h l =
    let inner : Expansion = Rows.nested (opened_with s x) p xs (others values) body in
    let deep : IsRound (with_variable os s x) inner =
    nested-round (with_variable os s x) (opened_with s x) p xs (others values) body (fits-variable os s x f) h.1 l in
    let bound : IsRoundOne os (Rows.bind_form s p s.depth x 0 inner) = bind-round os s p s.depth x 0 inner f.0 deep in
    (tt, both-round os (first p values) (Rows.bind_form s p s.depth x 0 inner) (h.0 p) bound, tt)

let_star_of-round : (os : List Opening) (s : Scope) (p : ℕ) (xs : List ℕ) (values body : Expansion) → Fits os s → AreTurnsRound os s xs values
    → IsRound (with_variables os s xs) body → IsRoundOne os (Rows.let_star_of s p xs values body)
let_star_of-round os s p [] values body f h k = (tt, k)
let_star_of-round os s p (x ∷ xs) values body f h k =
    first-round os p (Rows.nested s p (x ∷ xs) values body) (nested-round os s p (x ∷ xs) values body f h k)

pub let_star-round : (os : List Opening) (s : Scope) (p : ℕ) (xs : List ℕ) (parts : Parts) → Fits os s → ArePartsRound os s xs parts
    → IsRoundOne os (Rows.let_star_form s p xs parts)
let_star-round os s p xs parts f h =
    let_star_of-round os s p xs parts.values_in_turn (parts.body (opened s xs) 1) f h.turns
    (h.body 1 (with_variables os s xs) (opened s xs) (fits-variables os s xs f))

-- conditions
pub when-round : (os : List Opening) (s : Scope) (p : ℕ) (parts : Parts) → IsRound os (parts.forms s) → IsRoundOne os (Rows.when_form s p parts)
when-round os s p parts h =
    if_form-round os p (first p (parts.forms s)) (progn_form p (others (parts.forms s))) (nil_form p)
    (first-round os p (parts.forms s) h) (tt, others-round os (parts.forms s) h) (tt, tt)

pub unless-round : (os : List Opening) (s : Scope) (p : ℕ) (parts : Parts) → IsRound os (parts.forms s) → IsRoundOne os (Rows.unless_form s p parts)
unless-round os s p parts h =
    if_form-round os p (first p (parts.forms s)) (nil_form p) (progn_form p (others (parts.forms s)))
    (first-round os p (parts.forms s) h) (tt, tt) (tt, others-round os (parts.forms s) h)

pub either-round : (os : List Opening) (g p : ℕ) (a rest : Single) → g ≡ length os → IsRoundOne os a → IsRoundOne (Variable ∷ os) rest
    → IsRoundOne os (Rows.either g p a rest)
either-round os g p a rest e h l =
    let test : Single = Rows.if_form p (Rows.local g p) (Rows.local g p) rest in
    hidden-round os g p a (only test) e h
    (only-round (Variable ∷ os) test
    (if_form-round (Variable ∷ os) p (Rows.local g p) (Rows.local g p) rest (inl (refl, e), tt) (inl (refl, e), tt) l))

pub or-round : (os : List Opening) (s : Scope) (p : ℕ) (is_last : Bool) (a : Single) (rest : Scope → Single) → Fits os s → IsRoundOne os a → IsRead rest
    → IsRoundOne os (Rows.or_form s p is_last a rest)
or-round os s p true a rest f h l = h
or-round os s p false a rest f h l =
    either-round os s.depth p a (rest (deeper s)) f.0 h (l (Variable ∷ os) (deeper s) (fits-deeper Variable os s f))

pub and-round : (os : List Opening) (p : ℕ) (fs : Expansion) → IsRound os fs → IsRoundOne os (Rows.and_of p fs)
and-round os p NoTrees h = (tt, tt)
and-round os p (Tree kind q under NoTrees) h = (h.0, h.1)
and-round os p (Tree kind q under (Tree kind' q' under' beside)) h =
    if_form-round os p (record { kind = kind; place = q; under = under }) (Rows.and_of p (Tree kind' q' under' beside)) (nil_form p)
    (h.0, h.1) (and-round os p (Tree kind' q' under' beside) h.2) (tt, tt)

pub cond-round : (os : List Opening) (s : Scope) (p : ℕ) (clause : Expansion) (rest : Scope → Single) → Fits os s → IsRound os clause → IsRead rest
    → IsRoundOne os (Rows.clause_of_cond s p clause rest)
cond-round os s p NoTrees rest f h l = l os s f
cond-round os s p (Tree kind q under NoTrees) rest f h l =
    either-round os s.depth p (record { kind = kind; place = q; under = under }) (rest (deeper s)) f.0 (h.0, h.1)
    (l (Variable ∷ os) (deeper s) (fits-deeper Variable os s f))
cond-round os s p (Tree kind q under (Tree kind' q' under' beside)) rest f h l =
    if_form-round os p (record { kind = kind; place = q; under = under }) (progn_form p (Tree kind' q' under' beside)) (rest s)
    (h.0, h.1) (tt, h.2) (l os s f)

pub prog1-round : (os : List Opening) (s : Scope) (p : ℕ) (parts : Parts) → Fits os s → IsRound os (parts.forms s) → AreRead (λ inner. parts.body inner 1)
    → IsRoundOne os (Rows.prog1_form s p parts)
prog1-round os s p parts f h l =
    hidden-round os s.depth p (first p (parts.forms s)) (append (parts.body (deeper s) 1) (only (Rows.local s.depth p))) f.0
    (first-round os p (parts.forms s) h)
    (append-round (Variable ∷ os) (parts.body (deeper s) 1) (only (Rows.local s.depth p)) (l (Variable ∷ os) (deeper s) (fits-deeper Variable os s f))
    (inl (refl, f.0), tt, tt))

-- variables and functions
pub set-round : (os : List Opening) (p : ℕ) (target : Option Target) (q : ℕ) (value : Single) → IsTargetIn os target → IsRoundOne os value
    → IsRoundOne os (Rows.set_form p target q value)
set-round os p None q value h l = (tt, tt)
set-round os p (Some (Local n)) q value h l = (h, (l.0, l.1, tt))
set-round os p (Some (Special x)) q value h l = (tt, (l.0, l.1, tt))

pub as_one-round : (os : List Opening) (p : ℕ) (fs : Expansion) → IsRound os fs → IsRoundOne os (Rows.as_one p fs)
as_one-round os p NoTrees h = (tt, tt)
as_one-round os p (Tree kind q under NoTrees) h = (h.0, h.1)
as_one-round os p (Tree kind q under (Tree kind' q' under' beside)) h = (tt, h)

amount-round : (os : List Opening) (p : ℕ) (fs : Expansion) → IsRound os fs → IsRoundOne os (Rows.amount p fs)
amount-round os p NoTrees h = (tt, tt)
amount-round os p (Tree kind q under beside) h = (h.0, h.1)

pub change_form-round : (os : List Opening) (s : Scope) (p : ℕ) (target : Target) (g : Primitive) (parts : Parts) → IsTarget os target → IsRound os (parts.forms s)
    → IsRoundOne os (Rows.change_form s p target g parts)
change_form-round os s p (Local n) g parts t h = (
  t,
  (
    tt,
    both-round os (first p (parts.forms s)) (Rows.amount p (others (parts.forms s))) (first-round os p (parts.forms s) h)
        (amount-round os p (others (parts.forms s)) (others-round os (parts.forms s) h)),
    tt,
  ),
)
change_form-round os s p (Special x) g parts t h = (
  tt,
  (
    tt,
    both-round os (first p (parts.forms s)) (Rows.amount p (others (parts.forms s))) (first-round os p (parts.forms s) h)
        (amount-round os p (others (parts.forms s)) (others-round os (parts.forms s) h)),
    tt,
  ),
)

folded-round : (os : List Opening) (p : ℕ) (g : Primitive) (sum : Single) (fs : Expansion) → IsRoundOne os sum → IsRound os fs
    → IsRoundOne os (Rows.folded p g sum fs)
folded-round os p g sum NoTrees h l = h
folded-round os p g sum (Tree kind q under beside) h l =
    folded-round os p g (form (k.Apply g) p (both sum (record { kind = kind; place = q; under = under }))) beside
    (tt, (h.0, h.1, (l.0, l.1, tt))) l.2

pub fold_form-round : (os : List Opening) (p : ℕ) (g : Primitive) (fs : Expansion) → IsRound os fs → IsRoundOne os (Rows.fold_of p g fs)
fold_form-round os p g NoTrees h = (tt, tt)
fold_form-round os p g (Tree kind q under NoTrees) h =
    (tt, both-round os (Rows.number_form (Rows.unit_of g) p) (record { kind = kind; place = q; under = under }) (constant-round os (node.Int (Rows.unit_of g)), tt) (h.0, h.1))
fold_form-round os p g (Tree kind q under (Tree kind' q' under' beside)) h =
    folded-round os p g (record { kind = kind; place = q; under = under }) (Tree kind' q' under' beside) (h.0, h.1) h.2

pub twice-round : (os : List Opening) (s : Scope) (p : ℕ) (function : Primitive) (parts : Parts) → Fits os s → IsRound os (parts.forms s)
    → IsRoundOne os (Rows.twice_form s p function parts)
twice-round os s p function parts f h =
    hidden-round os s.depth p (first p (parts.forms s)) (only (form (k.Apply function) p (both (Rows.local s.depth p) (Rows.local s.depth p)))) f.0
    (first-round os p (parts.forms s) h)
    (tt, (inl (refl, f.0), tt, (inl (refl, f.0), tt, tt)), tt)
