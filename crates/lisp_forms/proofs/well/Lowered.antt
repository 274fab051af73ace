-- What is left where some implicit blocks are not made stands as it did.
use Rattle.std.proofs.Common.{◌≡◌, ℕ, List, Bool, true, false, refl, sym, subst}
use Rattle.lisp_base.specs.Forest.{NoTrees, Tree}
use Rattle.lisp_program.specs.Program.{Program}
use Rattle.lisp_program.specs.WellMade.{IsNamed, Misplaced, Seat, Stand, Standing, Stands, role_of, standing}
use Rattle.lisp_program.specs.declared.form.CoreKind.{CoreKind}
use Rattle.lisp_program.specs.declared.form.CoreKind.TheVariants as k
use Rattle.form_shapes.specs.declared.expanded.Expanded.{Expanded}
use Rattle.form_shapes.specs.declared.expanded.Expanded.TheVariants.{Form, InBlock, Lambda, Defun, Refused, RefusedFunction}
use Rattle.form_shapes.specs.declared.expanded.Turning.{Turning}
use Rattle.form_shapes.specs.declared.expanded.Turning.TheVariants.{While, Let}
use Rattle.lisp_forms.specs.Blocks.{is_made, lowered, lowered_core, lowered_kind, not_made_under, turning_kind}
use Rattle.lisp_forms.specs.Trees.{Expansion}
use Rattle.lisp_forms.specs.inside.Standing.{AreStanding, IsNamedIn, role_in}

-- it is what it was for the forms round it
role-core : (gone : List ℕ) (kind : CoreKind) → role_of (lowered_core gone kind) ≡ role_of kind
role-core gone (k.Local x) = refl
role-core gone (k.SetLocal x) = refl
role-core gone (k.ReturnFrom x) = refl
role-core gone (k.AllowWithInterrupts x) = refl
role-core gone (k.BindLocal x above) = refl
role-core gone (k.ClauseWith class x) = refl
role-core gone (k.Block x) = refl
role-core gone (k.WithoutInterrupts x) = refl
role-core gone _ = refl

role-lowered : (gone : List ℕ) (kind : Expanded) (made : Bool) → role_in (lowered_kind gone kind made) ≡ role_in kind
role-lowered gone (Form kind) made = role-core gone kind
role-lowered gone (InBlock n turning) true = refl
role-lowered gone (InBlock n turning) false = refl
role-lowered gone (Lambda parameters) made = refl
role-lowered gone (Defun f parameters) made = refl
role-lowered gone (Refused refusal) made = refl
role-lowered gone (RefusedFunction refusal) made = refl

-- it names what it named
named-core : (w : Program) (gone : List ℕ) (kind : CoreKind) → IsNamed w kind → IsNamed w (lowered_core gone kind)
named-core w gone (k.Local x) h = tt
named-core w gone (k.SetLocal x) h = tt
named-core w gone (k.ReturnFrom x) h = tt
named-core w gone (k.AllowWithInterrupts x) h = tt
named-core w gone (k.BindLocal x above) h = tt
named-core w gone (k.ClauseWith class x) h = tt
named-core w gone (k.Block x) h = tt
named-core w gone (k.WithoutInterrupts x) h = tt
named-core w gone _ h = h

named-turning : (w : Program) (turning : Turning) → IsNamed w (turning_kind turning)
named-turning w While = tt
named-turning w Let = tt

named-lowered : (w : Program) (gone : List ℕ) (kind : Expanded) (made : Bool) → IsNamedIn w kind → IsNamedIn w (lowered_kind gone kind made)
named-lowered w gone (Form kind) made h = named-core w gone kind h
named-lowered w gone (InBlock n turning) true h = tt
named-lowered w gone (InBlock n turning) false h = named-turning w turning
named-lowered w gone (Lambda parameters) made h = tt
named-lowered w gone (Defun f parameters) made h = tt
named-lowered w gone (Refused refusal) made h = tt
named-lowered w gone (RefusedFunction refusal) made h = tt

-- other forms in the same seats
pub stand-other : (seats : Standing) (under beside under' beside' : Seat → Type 0) → ((s : Seat) → under s → under' s) → ((s : Seat) → beside s → beside' s)
    → Stand seats under beside → Stand seats under' beside'
stand-other Misplaced under beside under' beside' f g h = absurd h
stand-other (Stands u b) under beside under' beside' f g h = (f u h.0, g b h.1)

-- what is left of these
pub lowered-standing : (w : Program) (seat : Seat) (gone : List ℕ) (e : Expansion) → AreStanding w seat e → AreStanding w seat (lowered gone e)
lowered-standing w seat gone NoTrees h = h
lowered-standing w seat gone (Tree kind p under beside) h =
    let made : Bool = is_made kind under in
    let inner : List ℕ = not_made_under gone kind made in (
      named-lowered w gone kind made h.0,
      subst (λ r. Stand (standing seat r) (λ s. AreStanding w s (lowered inner under)) (λ s. AreStanding w s (lowered gone beside))) (sym (role-lowered gone kind made))
          (stand-other (standing seat (role_in kind)) (λ s. AreStanding w s under) (λ s. AreStanding w s beside)
          (λ s. AreStanding w s (lowered inner under)) (λ s. AreStanding w s (lowered gone beside))
          (λ s k. lowered-standing w s inner under k) (λ s k. lowered-standing w s gone beside k) h.1),
    )
