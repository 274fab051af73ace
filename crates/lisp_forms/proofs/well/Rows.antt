-- Rows of the table of forms: what stands for a form stands as it should, where its parts do.
use Rattle.std.proofs.Common.{◌≡◌, ℕ, pos, suc, List, [], ◌∷◌, Bool, true, false, Option, Some, None, if◌then◌else◌, length, refl, arith}
use Rattle.lisp_base.specs.Forest.{NoTrees, Tree, append}
use Rattle.lisp_base.specs.Value.{is_in_range}
use Rattle.lisp_base.specs.declared.refusal.Refusal.TheVariants.{BadForm}
use Rattle.lisp_base.specs.declared.value.Node.{Node}
use Rattle.lisp_base.specs.declared.value.Node.TheVariants as node
use Rattle.lisp_program.specs.Program.{Program}
use Rattle.lisp_program.specs.WellMade.{Bound, Each, IsOneOf, Values}
use Rattle.lisp_program.specs.declared.form.CoreKind.TheVariants as k
use Rattle.lisp_program.specs.declared.function.Primitive.{Primitive}
use Rattle.form_shapes.specs.declared.expanded.Expanded.TheVariants.{Form, Refused}
use Rattle.form_shapes.specs.declared.scope.Target.{Target}
use Rattle.form_shapes.specs.declared.scope.Target.TheVariants.{Local, Special}
use Rattle.form_shapes.specs.Bindings.{opened, opened_by}
use Rattle.form_shapes.specs.Scopes.{Scope, constant, deeper, has}
use Rattle.lisp_forms.specs.Parts.{Parts}
use Rattle.lisp_forms.specs.Rows
use Rattle.lisp_forms.specs.Trees.{Expansion, Single, only, both, leaf, form, nil_form, progn_form, first, others}
use Rattle.lisp_forms.specs.inside.Standing.{ArePartsStanding, AreRead, AreStanding, AreValuesOf, IsRead, IsStanding, IsTarget, IsTargetIn, Suits}
use Rattle.lisp_forms.proofs.well.Standing.{append-standing, beside-standing, body-standing, both-standing, first-standing, front-standing, one-standing, only-standing, others-standing, stand-here, suits-opened, suits-opened_by, value-standing, values-standing}

-- a constant
pub constant-standing : (w : Program) (v : Node) (p : ℕ) → IsStanding w (leaf (constant v) p)
constant-standing w v p = by (is_in_range v)
  where
    by : (t : Bool) → IsStanding w (leaf (if t then Form (k.Constant v) else Refused BadForm) p)
    by true = (tt, tt)
    by false = (tt, tt)

pub if_form-standing : (w : Program) (p : ℕ) (test chosen other : Single) → IsStanding w test → IsStanding w chosen → IsStanding w other
    → IsStanding w (Rows.if_form p test chosen other)
if_form-standing w p test chosen other h l m = (tt, front-standing w test (both chosen other) h (both-standing w chosen other l m))

-- a hidden variable
pub hidden-standing : (w : Program) (x p : ℕ) (value : Single) (body : Expansion) → IsStanding w value → AreStanding w Each body
    → IsStanding w (Rows.hidden_let x p value body)
hidden-standing w x p value body h l =
    (tt, value-standing w 0 value (only (form (k.BindLocal x 0) p body)) h (tt, (body-standing w body l, tt)))

-- what binds a variable to the value before it
pub bind-values : (w : Program) (s : Scope) (p depth x above : ℕ) (body : Expansion) → Suits w s → AreStanding w (Bound above) body
    → AreStanding w (Values (suc above)) (only (Rows.bind_form s p depth x above body))
bind-values w s p depth x above body f h = by (has s.specials x) (f.0 x)
  where
    by : (t : Bool) → (t ≡ true → IsOneOf x w.specials) → AreStanding w (Values (suc above)) (only (form (if t then k.BindSpecial x above else k.BindLocal depth above) p body))
    by true named = (named refl, stand-here (suc above) (suc above) above (λ s. AreStanding w s body) (λ s. AreStanding w s NoTrees) refl h tt)
    by false named = (tt, stand-here (suc above) (suc above) above (λ s. AreStanding w s body) (λ s. AreStanding w s NoTrees) refl h tt)

-- and to one of those before it, in another binding
bind-bound : (w : Program) (s : Scope) (p depth x above : ℕ) (body : Expansion) → Suits w s → AreStanding w (Bound above) body
    → AreStanding w (Bound (suc above)) (only (Rows.bind_form s p depth x above body))
bind-bound w s p depth x above body f h = by (has s.specials x) (f.0 x)
  where
    by : (t : Bool) → (t ≡ true → IsOneOf x w.specials) → AreStanding w (Bound (suc above)) (only (form (if t then k.BindSpecial x above else k.BindLocal depth above) p body))
    by true named = (named refl, stand-here above above above (λ s. AreStanding w s body) (λ s. AreStanding w s NoTrees) refl h tt)
    by false named = (tt, stand-here above above above (λ s. AreStanding w s body) (λ s. AreStanding w s NoTrees) refl h tt)

-- `let` and `let*`
binds-standing : (w : Program) (s : Scope) (p : ℕ) (xs : List ℕ) (body : Expansion) → Suits w s → AreStanding w Each body
    → AreStanding w (Bound (length xs)) (Rows.binds s p xs body)
binds-standing w s p [] body f h = body-standing w body h
binds-standing w s p (x ∷ xs) body f h =
    bind-bound w s p s.depth x (length xs) (Rows.binds (opened_by s x) p xs body) f
    (binds-standing w (opened_by s x) p xs body (suits-opened_by w s x f) h)

let_of-standing : (w : Program) (s : Scope) (p : ℕ) (xs : List ℕ) (values body : Expansion) → Suits w s → AreStanding w Each values → AreValuesOf xs values
    → AreStanding w Each body → IsStanding w (Rows.let_of s p xs values body)
let_of-standing w s p [] values body f h many l = (tt, l)
let_of-standing w s p (x ∷ xs) values body f h many l =
    let inner : Expansion = Rows.binds (opened_by s x) p xs body in (
      tt,
      values-standing w 0 (suc (length xs)) values (only (Rows.bind_form s p s.depth x (length xs) inner)) (omega (arith, many)) h
          (bind-values w s p s.depth x (length xs) inner f (binds-standing w (opened_by s x) p xs body (suits-opened_by w s x f) l)),
    )

pub let-standing : (w : Program) (s : Scope) (p : ℕ) (xs : List ℕ) (t : Bool) (parts : Parts) → Suits w s → ArePartsStanding w xs t parts
    → IsStanding w (Rows.let_form s p xs parts)
let-standing w s p xs t parts f h =
    let_of-standing w s p xs parts.values (parts.body (opened s xs) 1) f h.values h.many (h.body 1 (opened s xs) (suits-opened w s xs f))

nested-standing : (w : Program) (s : Scope) (p : ℕ) (xs : List ℕ) (values body : Expansion) → Suits w s → AreStanding w Each values → AreStanding w Each body
    → AreStanding w Each (Rows.nested s p xs values body)
nested-standing w s p [] values body f h l = l
nested-standing w s p (x ∷ xs) values body f h l =
    let inner : Expansion = Rows.nested (opened_by s x) p xs (others values) body in
    let deep : AreStanding w Each inner = nested-standing w (opened_by s x) p xs (others values) body (suits-opened_by w s x f) (others-standing w values h) l in (
      tt,
      (
        value-standing w 0 (first p values) (only (Rows.bind_form s p s.depth x 0 inner)) (first-standing w p values h)
            (bind-values w s p s.depth x 0 inner f (body-standing w inner deep)),
        tt,
      ),
    )

let_star_of-standing : (w : Program) (s : Scope) (p : ℕ) (xs : List ℕ) (values body : Expansion) → Suits w s → AreStanding w Each values → AreStanding w Each body
    → IsStanding w (Rows.let_star_of s p xs values body)
let_star_of-standing w s p [] values body f h l = (tt, l)
let_star_of-standing w s p (x ∷ xs) values body f h l =
    first-standing w p (Rows.nested s p (x ∷ xs) values body) (nested-standing w s p (x ∷ xs) values body f h l)

pub let_star-standing : (w : Program) (s : Scope) (p : ℕ) (xs : List ℕ) (t : Bool) (parts : Parts) → Suits w s → ArePartsStanding w xs t parts
    → IsStanding w (Rows.let_star_form s p xs parts)
let_star-standing w s p xs t parts f h =
    let_star_of-standing w s p xs parts.values_in_turn (parts.body (opened s xs) 1) f h.turns (h.body 1 (opened s xs) (suits-opened w s xs f))

-- conditions
pub when-standing : (w : Program) (s : Scope) (p : ℕ) (parts : Parts) → AreStanding w Each (parts.forms s) → IsStanding w (Rows.when_form s p parts)
when-standing w s p parts h =
    if_form-standing w p (first p (parts.forms s)) (progn_form p (others (parts.forms s))) (nil_form p)
    (first-standing w p (parts.forms s) h) (tt, others-standing w (parts.forms s) h) (tt, tt)

pub unless-standing : (w : Program) (s : Scope) (p : ℕ) (parts : Parts) → AreStanding w Each (parts.forms s) → IsStanding w (Rows.unless_form s p parts)
unless-standing w s p parts h =
    if_form-standing w p (first p (parts.forms s)) (nil_form p) (progn_form p (others (parts.forms s)))
    (first-standing w p (parts.forms s) h) (tt, tt) (tt, others-standing w (parts.forms s) h)

pub either-standing : (w : Program) (x p : ℕ) (a rest : Single) → IsStanding w a → IsStanding w rest → IsStanding w (Rows.either x p a rest)
either-standing w x p a rest h l =
    let test : Single = Rows.if_form p (Rows.local x p) (Rows.local x p) rest in
    hidden-standing w x p a (only test) h
    (only-standing w test (if_form-standing w p (Rows.local x p) (Rows.local x p) rest (tt, tt) (tt, tt) l))

pub or-standing : (w : Program) (s : Scope) (p : ℕ) (is_last : Bool) (a : Single) (rest : Scope → Single) → Suits w s → IsStanding w a → IsRead w rest
    → IsStanding w (Rows.or_form s p is_last a rest)
or-standing w s p true a rest f h l = h
or-standing w s p false a rest f h l = either-standing w s.depth p a (rest (deeper s)) h (l (deeper s) f)

pub and-standing : (w : Program) (p : ℕ) (fs : Expansion) → AreStanding w Each fs → IsStanding w (Rows.and_of p fs)
and-standing w p NoTrees h = (tt, tt)
and-standing w p (Tree kind q under NoTrees) h = one-standing w kind q under NoTrees h
and-standing w p (Tree kind q under (Tree kind' q' under' beside)) h =
    let rest : Expansion = Tree kind' q' under' beside in
    if_form-standing w p (record { kind = kind; place = q; under = under }) (Rows.and_of p rest) (nil_form p)
    (one-standing w kind q under rest h) (and-standing w p (Tree kind' q' under' beside) (beside-standing w kind q under rest h)) (tt, tt)

pub cond-standing : (w : Program) (s : Scope) (p : ℕ) (clause : Expansion) (rest : Scope → Single) → Suits w s → AreStanding w Each clause → IsRead w rest
    → IsStanding w (Rows.clause_of_cond s p clause rest)
cond-standing w s p NoTrees rest f h l = l s f
cond-standing w s p (Tree kind q under NoTrees) rest f h l =
    either-standing w s.depth p (record { kind = kind; place = q; under = under }) (rest (deeper s)) (one-standing w kind q under NoTrees h) (l (deeper s) f)
cond-standing w s p (Tree kind q under (Tree kind' q' under' beside)) rest f h l =
    let body : Expansion = Tree kind' q' under' beside in
    if_form-standing w p (record { kind = kind; place = q; under = under }) (progn_form p body) (rest s)
    (one-standing w kind q under body h) (tt, beside-standing w kind q under body h) (l s f)

pub prog1-standing : (w : Program) (s : Scope) (p : ℕ) (parts : Parts) → Suits w s → AreStanding w Each (parts.forms s) → AreRead w (λ inner. parts.body inner 1)
    → IsStanding w (Rows.prog1_form s p parts)
prog1-standing w s p parts f h l =
    hidden-standing w s.depth p (first p (parts.forms s)) (append (parts.body (deeper s) 1) (only (Rows.local s.depth p)))
    (first-standing w p (parts.forms s) h)
    (append-standing w (parts.body (deeper s) 1) (only (Rows.local s.depth p)) (l (deeper s) f) (tt, (tt, tt)))

-- variables and functions
pub set-standing : (w : Program) (p : ℕ) (target : Option Target) (q : ℕ) (value : Single) → IsTargetIn w target → IsStanding w value
    → IsStanding w (Rows.set_form p target q value)
set-standing w p None q value h l = (tt, tt)
set-standing w p (Some (Local n)) q value h l = (tt, only-standing w value l)
set-standing w p (Some (Special x)) q value h l = (h, only-standing w value l)

pub as_one-standing : (w : Program) (p : ℕ) (fs : Expansion) → AreStanding w Each fs → IsStanding w (Rows.as_one p fs)
as_one-standing w p NoTrees h = (tt, tt)
as_one-standing w p (Tree kind q under NoTrees) h = one-standing w kind q under NoTrees h
as_one-standing w p (Tree kind q under (Tree kind' q' under' beside)) h = (tt, h)

amount-standing : (w : Program) (p : ℕ) (fs : Expansion) → AreStanding w Each fs → IsStanding w (Rows.amount p fs)
amount-standing w p NoTrees h = constant-standing w (node.Int (pos 1)) p
amount-standing w p (Tree kind q under beside) h = one-standing w kind q under beside h

pub change_form-standing : (w : Program) (s : Scope) (p : ℕ) (target : Target) (g : Primitive) (parts : Parts) → IsTarget w target → AreStanding w Each (parts.forms s)
    → IsStanding w (Rows.change_form s p target g parts)
change_form-standing w s p target g parts t h =
    set-standing w p (Some target) p (form (k.Apply g) p (both (first p (parts.forms s)) (Rows.amount p (others (parts.forms s))))) t (
      tt,
      both-standing w (first p (parts.forms s)) (Rows.amount p (others (parts.forms s))) (first-standing w p (parts.forms s) h)
          (amount-standing w p (others (parts.forms s)) (others-standing w (parts.forms s) h)),
    )

folded-standing : (w : Program) (p : ℕ) (g : Primitive) (sum : Single) (fs : Expansion) → IsStanding w sum → AreStanding w Each fs
    → IsStanding w (Rows.folded p g sum fs)
folded-standing w p g sum NoTrees h l = h
folded-standing w p g sum (Tree kind q under beside) h l =
    let one : Single = record { kind = kind; place = q; under = under } in
    folded-standing w p g (form (k.Apply g) p (both sum one)) beside (tt, both-standing w sum one h (one-standing w kind q under beside l))
    (beside-standing w kind q under beside l)

pub fold_form-standing : (w : Program) (p : ℕ) (g : Primitive) (fs : Expansion) → AreStanding w Each fs → IsStanding w (Rows.fold_of p g fs)
fold_form-standing w p g NoTrees h = (tt, tt)
fold_form-standing w p g (Tree kind q under NoTrees) h = (
  tt,
  both-standing w (Rows.number_form (Rows.unit_of g) p) (record { kind = kind; place = q; under = under })
      (constant-standing w (node.Int (Rows.unit_of g)) p) (one-standing w kind q under NoTrees h),
)
fold_form-standing w p g (Tree kind q under (Tree kind' q' under' beside)) h =
    let rest : Expansion = Tree kind' q' under' beside in
    folded-standing w p g (record { kind = kind; place = q; under = under }) rest (one-standing w kind q under rest h) (beside-standing w kind q under rest h)

pub twice-standing : (w : Program) (s : Scope) (p : ℕ) (function : Primitive) (parts : Parts) → AreStanding w Each (parts.forms s)
    → IsStanding w (Rows.twice_form s p function parts)
twice-standing w s p function parts h =
    hidden-standing w s.depth p (first p (parts.forms s)) (only (form (k.Apply function) p (both (Rows.local s.depth p) (Rows.local s.depth p))))
    (first-standing w p (parts.forms s) h) (tt, ((tt, (tt, (tt, (tt, tt)))), tt))
