-- The core forms and the functions of an expansion name what is open round them.
use Rattle.std.proofs.Common.{ℕ, if◌then◌else◌, List, [], ◌∷◌, ◌++◌}
use Rattle.lisp_base.specs.Forest.{NoTrees, Tree}
use Rattle.lisp_program.specs.Forms.{Forms}
use Rattle.lisp_program.specs.Program.{Function}
use Rattle.form_shapes.specs.declared.expanded.Expanded.{Expanded}
use Rattle.form_shapes.specs.declared.expanded.Expanded.TheVariants.{Form, InBlock, Lambda, Defun, Refused, RefusedFunction}
use Rattle.form_shapes.specs.declared.expanded.Turning.{Turning}
use Rattle.form_shapes.specs.declared.expanded.Turning.TheVariants.{While, Let}
use Rattle.lisp_forms.specs.Blocks.{is_function, turning_kind}
use Rattle.lisp_forms.specs.Program.{core_forms, core_kind, functions_of, with_block, with_function}
use Rattle.lisp_forms.specs.Trees.{Expansion}
use Rattle.form_laws.specs.Scoping.{AreScoped, Entry, IsNamedIn, IsScoped, Opening}
use Rattle.form_laws.specs.inside.Openings.{IsRound, naming_in, opened_under}

-- a `while` or a `let` in a block
scoped-turning : (os : List Opening) (turning : Turning) (p : ℕ) (under : Forms) → IsScoped (Entry ∷ os) under
    → IsScoped (Entry ∷ os) (Tree (turning_kind turning) p under NoTrees)
scoped-turning os While p under h = (tt, h, tt)
scoped-turning os Let p under h = (tt, h, tt)

-- a form with its forms under it, before others
scoped-one : (os : List Opening) (kind : Expanded) (p : ℕ) (under others : Forms) → IsNamedIn os (naming_in kind) → IsScoped (opened_under os kind) under
    → IsScoped os others → IsScoped os (with_block kind (core_kind kind p) p (if is_function kind then NoTrees else under) others)
scoped-one os (Form kind) p under others n h beside = (n, h, beside)
scoped-one os (InBlock x turning) p under others n h beside = (n, scoped-turning os turning p under h, beside)
scoped-one os (Lambda parameters) p under others n h beside = (tt, tt, beside)
scoped-one os (Defun f parameters) p under others n h beside = (tt, tt, beside)
scoped-one os (Refused refusal) p under others n h beside = (tt, h, beside)
scoped-one os (RefusedFunction refusal) p under others n h beside = (tt, tt, beside)

-- the forms
pub core-scoped : (os : List Opening) (e : Expansion) → IsRound os e → IsScoped os (core_forms e)
core-scoped os NoTrees h = tt
core-scoped os (Tree kind p under beside) h =
    scoped-one os kind p (core_forms under) (core_forms beside) h.0 (core-scoped (opened_under os kind) under h.1) (core-scoped os beside h.2)

-- the functions of both
both-scoped : (fs gs : List Function) → AreScoped fs → AreScoped gs → AreScoped (fs ++ gs)
both-scoped [] gs h k = k
both-scoped (f ∷ fs) gs h k = (h.0, both-scoped fs gs h.1 k)

-- a function before others
with-scoped : (os : List Opening) (kind : Expanded) (p : ℕ) (body : Forms) (fs : List Function) → IsScoped (opened_under os kind) body → AreScoped fs
    → AreScoped (with_function kind p body fs)
with-scoped os (Form kind) p body fs h k = k
with-scoped os (InBlock n turning) p body fs h k = k
with-scoped os (Lambda parameters) p body fs h k = (h, k)
with-scoped os (Defun f parameters) p body fs h k = (h, k)
with-scoped os (Refused refusal) p body fs h k = k
with-scoped os (RefusedFunction refusal) p body fs h k = k

-- the functions
pub functions-scoped : (os : List Opening) (e : Expansion) → IsRound os e → AreScoped (functions_of e)
functions-scoped os NoTrees h = tt
functions-scoped os (Tree kind p under beside) h =
    with-scoped os kind p (core_forms under) (functions_of under ++ functions_of beside) (core-scoped (opened_under os kind) under h.1)
    (both-scoped (functions_of under) (functions_of beside) (functions-scoped (opened_under os kind) under h.1) (functions-scoped os beside h.2))
