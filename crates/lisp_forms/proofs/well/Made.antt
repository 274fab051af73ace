-- The core forms and the functions of what stands as it should are well made.
use Rattle.std.proofs.Common.{inl, inr, ℕ, zero, suc, List, [], ◌∷◌, ◌++◌, refl}
use Rattle.lisp_base.specs.Forest.{NoTrees, Tree}
use Rattle.lisp_base.specs.declared.id.FunctionName.{FunctionName}
use Rattle.lisp_base.specs.declared.id.FunctionName.TheVariants.{At}
use Rattle.lisp_program.specs.Forms.{Forms}
use Rattle.lisp_program.specs.Program.{Function, Program}
use Rattle.lisp_program.specs.WellMade.{AreMade, BodiesAreMade, Bound, Clauses, Each, Empty, Gives, Guarded, IsNameOf, Misplaced, Seat, Stand, Standing, Stands, Values, role_of, standing}
use Rattle.lisp_program.specs.declared.form.CoreKind.TheVariants as k
use Rattle.form_shapes.specs.declared.expanded.Expanded.{Expanded}
use Rattle.form_shapes.specs.declared.expanded.Expanded.TheVariants.{Form, InBlock, Lambda, Defun, Refused, RefusedFunction}
use Rattle.form_shapes.specs.declared.expanded.Turning.{Turning}
use Rattle.form_shapes.specs.declared.expanded.Turning.TheVariants.{While, Let}
use Rattle.lisp_forms.specs.Blocks.{turning_kind}
use Rattle.lisp_forms.specs.Program.{core_forms, functions_of, with_function}
use Rattle.lisp_forms.specs.Trees.{Expansion}
use Rattle.lisp_forms.specs.inside.Standing.{AreStanding, IsNamedIn, role_in}
use Rattle.lisp_forms.proofs.well.Lowered.{stand-other}

-- these functions are the program's
abbrev pub AreIn : Program → List Function → Type 0
AreIn w fs = (name : FunctionName) → IsNameOf name fs → IsNameOf name w.functions

-- a name among the first, or among the others
name-left : (name : FunctionName) (fs gs : List Function) → IsNameOf name fs → IsNameOf name (fs ++ gs)
name-left name [] gs h = absurd h
name-left name (f ∷ fs) gs (inl is) = inl is
name-left name (f ∷ fs) gs (inr h) = inr (name-left name fs gs h)

pub name-right : (name : FunctionName) (fs gs : List Function) → IsNameOf name gs → IsNameOf name (fs ++ gs)
name-right name [] gs h = h
name-right name (f ∷ fs) gs h = inr (name-right name fs gs h)

-- behind the function that a form is
pub name-behind : (name : FunctionName) (kind : Expanded) (p : ℕ) (body : Forms) (fs : List Function) → IsNameOf name fs → IsNameOf name (with_function kind p body fs)
name-behind name (Form kind) p body fs h = h
name-behind name (InBlock n turning) p body fs h = h
name-behind name (Lambda parameters) p body fs h = inr h
name-behind name (Defun f parameters) p body fs h = inr h
name-behind name (Refused refusal) p body fs h = h
name-behind name (RefusedFunction refusal) p body fs h = h

-- the functions under a form, and those beside it
in-under : (w : Program) (kind : Expanded) (p : ℕ) (under beside : Expansion) → AreIn w (functions_of (Tree kind p under beside)) → AreIn w (functions_of under)
in-under w kind p under beside all name h =
    all name (name-behind name kind p (core_forms under) (functions_of under ++ functions_of beside) (name-left name (functions_of under) (functions_of beside) h))

in-beside : (w : Program) (kind : Expanded) (p : ℕ) (under beside : Expansion) → AreIn w (functions_of (Tree kind p under beside)) → AreIn w (functions_of beside)
in-beside w kind p under beside all name h =
    all name (name-behind name kind p (core_forms under) (functions_of under ++ functions_of beside) (name-right name (functions_of under) (functions_of beside) h))

-- what gives a value stands where another does that has its own forms under it
gives-other : (seat u : Seat) (under beside under' beside' : Seat → Type 0) → (under u → under' Each) → ((s : Seat) → beside s → beside' s)
    → Stand (standing seat (Gives u)) under beside → Stand (standing seat (Gives Each)) under' beside'
gives-other Each u under beside under' beside' f g h = (f h.0, g Each h.1)
gives-other (Values n) u under beside under' beside' f g h = (f h.0, g (Values (suc n)) h.1)
gives-other (Bound zero) u under beside under' beside' f g h = (f h.0, g Each h.1)
gives-other (Bound (suc n)) u under beside under' beside' f g h = absurd h
gives-other Guarded u under beside under' beside' f g h = (f h.0, g Clauses h.1)
gives-other Clauses u under beside under' beside' f g h = absurd h
gives-other Empty u under beside under' beside' f g h = absurd h

-- a `while` or a `let` in its block
in-block : (w : Program) (seat : Seat) (turning : Turning) (p : ℕ) (under beside : Seat → Type 0) (core others : Forms) → ((s : Seat) → under s → AreMade w s core)
    → ((s : Seat) → beside s → AreMade w s others) → Stand (standing seat (role_of (turning_kind turning))) under beside
    → Stand (standing seat (Gives Each)) (λ s. AreMade w s (Tree (turning_kind turning) p core NoTrees)) (λ s. AreMade w s others)
in-block w seat While p under beside core others f g h =
    gives-other seat Each under beside (λ s. AreMade w s (Tree k.While p core NoTrees)) (λ s. AreMade w s others) (λ l. (tt, (f Each l, tt))) g h
in-block w seat Let p under beside core others f g h =
    gives-other seat (Values 0) under beside (λ s. AreMade w s (Tree k.Let p core NoTrees)) (λ s. AreMade w s others) (λ l. (tt, (f (Values 0) l, tt))) g h

-- a form with its forms under it, before others
made-one : (w : Program) (seat : Seat) (kind : Expanded) (p : ℕ) (under beside : Expansion) → AreIn w (functions_of (Tree kind p under beside)) → IsNamedIn w kind
    → Stand (standing seat (role_in kind)) (λ s. AreStanding w s under) (λ s. AreStanding w s beside)
    → ((s : Seat) → AreStanding w s under → AreMade w s (core_forms under)) → ((s : Seat) → AreStanding w s beside → AreMade w s (core_forms beside))
    → AreMade w seat (core_forms (Tree kind p under beside))
made-one w seat (Form kind) p under beside all named h f g = (
  named,
  stand-other (standing seat (role_of kind)) (λ s. AreStanding w s under) (λ s. AreStanding w s beside)
      (λ s. AreMade w s (core_forms under)) (λ s. AreMade w s (core_forms beside)) f g h,
)
made-one w seat (InBlock n turning) p under beside all named h f g =
    (tt, in-block w seat turning p (λ s. AreStanding w s under) (λ s. AreStanding w s beside) (core_forms under) (core_forms beside) f g h)
made-one w seat (Lambda parameters) p under beside all named h f g = (
  all (At p) (inl refl),
  gives-other seat Each (λ s. AreStanding w s under) (λ s. AreStanding w s beside)
      (λ s. AreMade w s NoTrees) (λ s. AreMade w s (core_forms beside)) (λ l. tt) g h,
)
made-one w seat (Defun x parameters) p under beside all named h f g = (
  tt,
  gives-other seat Each (λ s. AreStanding w s under) (λ s. AreStanding w s beside)
      (λ s. AreMade w s NoTrees) (λ s. AreMade w s (core_forms beside)) (λ l. tt) g h,
)
made-one w seat (Refused refusal) p under beside all named h f g = (
  tt,
  gives-other seat Each (λ s. AreStanding w s under) (λ s. AreStanding w s beside)
      (λ s. AreMade w s (core_forms under)) (λ s. AreMade w s (core_forms beside)) (λ l. f Each l) g h,
)
made-one w seat (RefusedFunction refusal) p under beside all named h f g = (
  tt,
  gives-other seat Each (λ s. AreStanding w s under) (λ s. AreStanding w s beside)
      (λ s. AreMade w s NoTrees) (λ s. AreMade w s (core_forms beside)) (λ l. tt) g h,
)

-- the forms
pub core-made : (w : Program) (seat : Seat) (e : Expansion) → AreIn w (functions_of e) → AreStanding w seat e → AreMade w seat (core_forms e)
core-made w seat NoTrees all h = h
core-made w seat (Tree kind p under beside) all h =
    made-one w seat kind p under beside all h.0 h.1
    (λ s l. core-made w s under (in-under w kind p under beside all) l) (λ s l. core-made w s beside (in-beside w kind p under beside all) l)

-- the functions of both
both-made : (w : Program) (fs gs : List Function) → BodiesAreMade w fs → BodiesAreMade w gs → BodiesAreMade w (fs ++ gs)
both-made w [] gs h l = l
both-made w (f ∷ fs) gs h l = (h.0, both-made w fs gs h.1 l)

-- what follows wherever forms stand
stand-out : (seats : Standing) (under beside : Seat → Type 0) (A B : Type 0) → ((s : Seat) → under s → A) → ((s : Seat) → beside s → B) → Stand seats under beside → A × B
stand-out Misplaced under beside A B f g h = absurd h
stand-out (Stands u b) under beside A B f g h = (f u h.0, g b h.1)

-- what is under a function is a body
under-each : (seat : Seat) (under beside : Seat → Type 0) → Stand (standing seat (Gives Each)) under beside → under Each
under-each Each under beside h = h.0
under-each (Values n) under beside h = h.0
under-each (Bound zero) under beside h = h.0
under-each (Bound (suc n)) under beside h = absurd h
under-each Guarded under beside h = h.0
under-each Clauses under beside h = absurd h
under-each Empty under beside h = absurd h

-- a function before others
function-made : (w : Program) (seat : Seat) (kind : Expanded) (p : ℕ) (under beside : Expansion) (fs : List Function) → AreIn w (functions_of under)
    → Stand (standing seat (role_in kind)) (λ s. AreStanding w s under) (λ s. AreStanding w s beside) → BodiesAreMade w fs
    → BodiesAreMade w (with_function kind p (core_forms under) fs)
function-made w seat (Form kind) p under beside fs all h l = l
function-made w seat (InBlock n turning) p under beside fs all h l = l
function-made w seat (Lambda parameters) p under beside fs all h l =
    (core-made w Each under all (under-each seat (λ s. AreStanding w s under) (λ s. AreStanding w s beside) h), l)
function-made w seat (Defun f parameters) p under beside fs all h l =
    (core-made w Each under all (under-each seat (λ s. AreStanding w s under) (λ s. AreStanding w s beside) h), l)
function-made w seat (Refused refusal) p under beside fs all h l = l
function-made w seat (RefusedFunction refusal) p under beside fs all h l = l

-- the functions
pub functions-made : (w : Program) (seat : Seat) (e : Expansion) → AreIn w (functions_of e) → AreStanding w seat e → BodiesAreMade w (functions_of e)
functions-made w seat NoTrees all h = tt
functions-made w seat (Tree kind p under beside) all h =
    let parts : BodiesAreMade w (functions_of under) × BodiesAreMade w (functions_of beside) =
    stand-out (standing seat (role_in kind)) (λ s. AreStanding w s under) (λ s. AreStanding w s beside)
    (BodiesAreMade w (functions_of under)) (BodiesAreMade w (functions_of beside))
    (λ s l. functions-made w s under (in-under w kind p under beside all) l) (λ s l. functions-made w s beside (in-beside w kind p under beside all) l) h.1 in
    function-made w seat kind p under beside (functions_of under ++ functions_of beside) (in-under w kind p under beside all) h.1
    (both-made w (functions_of under) (functions_of beside) parts.0 parts.1)
