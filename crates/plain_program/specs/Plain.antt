-- Which core forms are run, and which plain forms they are.
use Rattle.std.specs.Prelude.{ℕ, Option, Some, None, min}
use Rattle.lisp_base.specs.Forest.{Forest, NoTrees, Tree}
use Rattle.lisp_base.specs.Value.{nil}
use Rattle.lisp_program.specs.declared.form.CoreKind.{CoreKind}
use Rattle.lisp_program.specs.declared.form.CoreKind.TheVariants.{Constant as CoreConstant, Special as CoreSpecial, SetSpecial, Defvar as CoreDefvar, Progn as CoreProgn, Let as CoreLet, BindSpecial, Apply, Print as CorePrint}
use Rattle.lisp_program.specs.declared.function.Primitive.{Primitive}
use Rattle.lisp_program.specs.declared.function.Primitive.TheVariants.{Add}
use Rattle.lisp_program.specs.declared.function.Printing.{Printing}
use Rattle.lisp_program.specs.declared.function.Printing.TheVariants.{Print as ThePrint}
use Rattle.lisp_program.specs.Forms.{Forms}
use Rattle.lisp_program.specs.Program.{Program}
use Rattle.plain_program.specs.declared.form.PlainKind.{PlainKind}
use Rattle.plain_program.specs.declared.form.PlainKind.TheVariants.{Constant, Plus, Print, Progn, Special, Setq, Defvar, Let, Bind}
use Rattle.plain_program.specs.Forms.{PlainForms}
use Rattle.plain_program.specs.Program.{PlainProgram}

-- the core kind that a plain kind is
abbrev pub kind_of : PlainKind → CoreKind
kind_of (Constant v) = CoreConstant v
kind_of Plus = Apply Add
kind_of Print = CorePrint ThePrint
kind_of Progn = CoreProgn
kind_of (Special s) = CoreSpecial s
kind_of (Setq s) = SetSpecial s
kind_of (Defvar s) = CoreDefvar s
kind_of Let = CoreLet
kind_of (Bind s above) = BindSpecial s above

-- of the functions with local points, `+` is run
abbrev pub plain_primitive : Primitive → Option PlainKind
plain_primitive Add = Some Plus
plain_primitive other = None

-- of the functions that print, `print` is run
abbrev pub plain_printing : Printing → Option PlainKind
plain_printing ThePrint = Some Print
plain_printing other = None

-- the plain kind that a core kind is; none where it is not run yet
abbrev pub plain_kind : CoreKind → Option PlainKind
plain_kind (CoreConstant v) = Some (Constant v)
plain_kind (Apply f) = plain_primitive f
plain_kind (CorePrint printing) = plain_printing printing
plain_kind CoreProgn = Some Progn
plain_kind (CoreSpecial s) = Some (Special s)
plain_kind (SetSpecial s) = Some (Setq s)
plain_kind (CoreDefvar s) = Some (Defvar s)
plain_kind CoreLet = Some Let
plain_kind (BindSpecial s above) = Some (Bind s above)
plain_kind other = None

-- a plain kind, or the constant NIL for a kind that is not run yet
abbrev pub kind_or_nil : Option PlainKind → PlainKind
kind_or_nil None = Constant nil
kind_or_nil (Some k) = k

-- trees of one kind as trees of another
abbrev pub mapped : {K L : Type 0} → (K → L) → Forest K → Forest L
mapped g NoTrees = NoTrees
mapped g (Tree k p under beside) = Tree (g k) p (mapped g under) (mapped g beside)

-- core forms as plain forms; what a form is that is not run yet does not matter
abbrev pub plain_forms : Forms → PlainForms
plain_forms f = mapped (λ k. kind_or_nil (plain_kind k)) f

-- a whole program as a plain one; no form that is run calls its functions
abbrev pub plain_program : Program → PlainProgram
plain_program p = record { forms = plain_forms p.forms; specials = p.specials }

-- plain forms as the core forms that they are
abbrev pub whole_forms : PlainForms → Forms
whole_forms f = mapped kind_of f

-- the least of two places, of those that there are
abbrev pub least : Option ℕ → Option ℕ → Option ℕ
least None b = b
least (Some a) None = Some a
least (Some a) (Some b) = Some (min a b)

-- the place of a form that has no plain kind
abbrev pub place_without : Option PlainKind → ℕ → Option ℕ
place_without None p = Some p
place_without (Some k) p = None

-- the least place of a form that is not run yet, among these and those under them
abbrev pub first_unbuilt : Forms → Option ℕ
first_unbuilt NoTrees = None
first_unbuilt (Tree k p under beside) = least (place_without (plain_kind k) p) (least (first_unbuilt under) (first_unbuilt beside))
