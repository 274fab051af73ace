-- The points of plain forms in the whole table.
use Rattle.std.proofs.Common.{◌≡◌, ℕ, zero, suc, List, [], ◌∷◌, Option, Some, None, map, min, refl, ap, ◌∙◌}
use Rattle.lisp_base.specs.Forest.{NoTrees, Tree}
use Rattle.lisp_base.specs.Value.{nil}
use Rattle.form_points.specs.declared.act.Question.TheVariants.{IsBound}
use Rattle.lisp_program.specs.declared.form.CoreKind.{CoreKind}
use Rattle.lisp_program.specs.declared.form.CoreKind.TheVariants.{Constant as CoreConstant, Special as CoreSpecial, SetSpecial, Defvar as CoreDefvar, Progn as CoreProgn, Let as CoreLet, BindSpecial, Apply, Print as CorePrint}
use Rattle.lisp_program.specs.declared.function.Primitive.{Primitive}
use Rattle.lisp_program.specs.declared.function.Primitive.TheVariants.{Add as TheSum}
use Rattle.lisp_program.specs.declared.function.Printing.{Printing}
use Rattle.lisp_program.specs.declared.function.Printing.TheVariants.{Print as ThePrint}
use Rattle.form_points.specs.Operands.{operands as whole_operands}
use Rattle.form_points.specs.Points.{Do as WholeDo, Ask as WholeAsk, Test as WholeTest, Enter as WholeEnter, all_of as whole_all_of, body_of as whole_body_of, joined as whole_joined}
use Rattle.form_points.specs.Table.{table as whole_table}
use Rattle.plain_program.specs.declared.act.Act.TheVariants.{Push, Discard, Add}
use Rattle.plain_program.specs.declared.act.Question.TheVariants.{Print as AskPrint, Write, Define, EndThread}
use Rattle.plain_program.specs.declared.act.Opening.TheVariants.{Bind as OpenBind}
use Rattle.plain_program.specs.declared.form.PlainKind.{PlainKind}
use Rattle.plain_program.specs.declared.form.PlainKind.TheVariants.{Constant, Plus, Print, Progn, Special, Setq, Defvar, Let, Bind}
use Rattle.plain_program.specs.Plain.{first_unbuilt, kind_of, kind_or_nil, least, place_without, plain_kind, plain_primitive, plain_printing}
use Rattle.plain_program.specs.Points.{Points, Done, Do, Ask, Test, Enter, all_of, body_of, joined, operands, points_of, table}
use Rattle.plain_program.specs.Table.{OneMain, OneTable, SameForms, whole_act, whole_opening, whole_points, whole_question}

-- points one after the other
whole-joined : (x y : Points) → whole_points (joined x y) ≡ whole_joined (whole_points x) (whole_points y)
whole-joined Done y = refl
whole-joined (Do a p rest) y = ap (WholeDo (whole_act a) p) (whole-joined rest y)
whole-joined (Ask q p rest) y = ap (WholeAsk (whole_question q) p) (whole-joined rest y)
whole-joined (Test s p value rest) y = ap (WholeTest (IsBound s) p (whole_points value)) (whole-joined rest y)
whole-joined (Enter o p body rest) y = ap (WholeEnter (whole_opening o) p (whole_points body)) (whole-joined rest y)

-- the points of each in turn
whole-all : (fs : List Points) → whole_points (all_of fs) ≡ whole_all_of (map whole_points fs)
whole-all [] = refl
whole-all (f ∷ fs) = whole-joined f (all_of fs) ∙ ap (whole_joined (whole_points f)) (whole-all fs)

-- a body
whole-body : (p : ℕ) (fs : List Points) → whole_points (body_of p fs) ≡ whole_body_of p (map whole_points fs)
whole-body p [] = refl
whole-body p (f ∷ []) = refl
whole-body p (f ∷ (g ∷ fs)) =
    whole-joined f (Do Discard p (body_of p (g ∷ fs)))
    ∙ ap (λ rest. whole_joined (whole_points f) (WholeDo (whole_act Discard) p rest)) (whole-body p (g ∷ fs))

-- operands
whole-operands : (n p : ℕ) (fs : List Points) → whole_points (operands n p fs) ≡ whole_operands n p (map whole_points fs)
whole-operands zero p fs = refl
whole-operands (suc n) p [] = ap (WholeDo (whole_act (Push nil)) p) (whole-operands n p [])
whole-operands (suc n) p (f ∷ fs) = whole-joined f (operands n p fs) ∙ ap (whole_joined (whole_points f)) (whole-operands n p fs)

-- operands, and then those points
whole-then : (n p : ℕ) (fs : List Points) (y : Points)
    → whole_points (joined (operands n p fs) y) ≡ whole_joined (whole_operands n p (map whole_points fs)) (whole_points y)
whole-then n p fs y = whole-joined (operands n p fs) y ∙ ap (λ x. whole_joined x (whole_points y)) (whole-operands n p fs)

-- one line of the table
whole-table : (k : PlainKind) (p : ℕ) (fs : List Points) → whole_points (table k p fs) ≡ whole_table (kind_of k) p (map whole_points fs)
whole-table (Constant v) p fs = refl
whole-table Plus p fs = whole-then 2 p fs (Do Add p Done)
whole-table Print p fs = whole-then 1 p fs (Ask AskPrint p Done)
whole-table Progn p fs = whole-body p fs
whole-table (Special s) p fs = refl
whole-table (Setq s) p fs = whole-then 1 p fs (Ask (Write s) p Done)
whole-table (Defvar s) p fs = ap (λ value. WholeTest (IsBound s) p value (whole_points Done)) (whole-then 1 p fs (Ask (Define s) p Done))
whole-table Let p fs = whole-all fs
whole-table (Bind s above) p fs = ap (λ body. WholeEnter (whole_opening (OpenBind s above)) p body (whole_points Done)) (whole-body p fs)

-- the points of each form
pub one_table : OneTable
one_table NoTrees = refl
one_table (Tree k p under beside) = rw (one_table beside, whole-table k p (points_of under), one_table under) refl

-- main's points
pub one_main : OneMain
one_main f =
    whole-joined (body_of 0 (points_of f)) (Ask EndThread 0 Done)
    ∙ ap (λ x. whole_joined x (whole_points (Ask EndThread 0 Done))) (whole-body 0 (points_of f) ∙ ap (whole_body_of 0) (one_table f))

-- a place is not nothing
no_place : (p : ℕ) → Some p ≡ None → ⊥
no_place p e = cc

-- a function that is run is the same function
primitive_back : (f : Primitive) (p : ℕ) → place_without (plain_primitive f) p ≡ None → kind_of (kind_or_nil (plain_primitive f)) ≡ Apply f
primitive_back TheSum p e = refl
primitive_back other p e = absurd (no_place p e)

printing_back : (printing : Printing) (p : ℕ) → place_without (plain_printing printing) p ≡ None
    → kind_of (kind_or_nil (plain_printing printing)) ≡ CorePrint printing
printing_back ThePrint p e = refl
printing_back other p e = absurd (no_place p e)

-- a kind that is run is the same kind
kind_back : (k : CoreKind) (p : ℕ) → place_without (plain_kind k) p ≡ None → kind_of (kind_or_nil (plain_kind k)) ≡ k
kind_back (CoreConstant v) p e = refl
kind_back (Apply f) p e = primitive_back f p e
kind_back (CorePrint printing) p e = printing_back printing p e
kind_back CoreProgn p e = refl
kind_back (CoreSpecial s) p e = refl
kind_back (SetSpecial s) p e = refl
kind_back (CoreDefvar s) p e = refl
kind_back CoreLet p e = refl
kind_back (BindSpecial s above) p e = refl
kind_back other p e = absurd (no_place p e)

-- the least of two is nothing where both are
least_none : (a b : Option ℕ) → least a b ≡ None → (a ≡ None) × (b ≡ None)
least_none None b e = (refl, e)
least_none (Some a) None e = absurd (no_place a e)
least_none (Some a) (Some b) e = absurd (no_place (min a b) e)

-- where all forms are run, the plain forms are these forms
pub same_forms : SameForms
same_forms NoTrees e = refl
same_forms (Tree k p under beside) e =
    let parts = least_none (place_without (plain_kind k) p) (least (first_unbuilt under) (first_unbuilt beside)) e in
    let forms = least_none (first_unbuilt under) (first_unbuilt beside) parts.1 in
    rw (kind_back k p parts.0, same_forms under forms.0, same_forms beside forms.1) refl
