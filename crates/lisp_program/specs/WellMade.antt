-- Which programs are well made: each form stands in a seat for forms like it, and what it names is the program's.
use Rattle.std.specs.Prelude.{◌≡◌, ◌⊎◌, ℕ, zero, suc, List, [], ◌∷◌, ◌==◌, if◌then◌else◌}
use Rattle.lisp_base.specs.Forest.{NoTrees, Tree}
use Rattle.lisp_base.specs.declared.id.FunctionName.{FunctionName}
use Rattle.lisp_base.specs.declared.id.FunctionName.TheVariants.{Named, AbortThread}
use Rattle.lisp_program.specs.declared.form.CoreKind.{CoreKind}
use Rattle.lisp_program.specs.declared.form.CoreKind.TheVariants as k
use Rattle.lisp_program.specs.Forms.{Forms}
use Rattle.lisp_program.specs.Program.{Function, Program}

-- where forms stand beside one another
pub data Seat : Type 0 where
  -- each of them gives a value, as arguments and the forms of a body do
  Each : Seat
  -- under a `let`: the values of its variables, of which there are so many before, and then what binds the first variable
  Values : (before : ℕ) → Seat
  -- under a form that binds a variable, where so many values are still to be bound: what binds the next variable, or the body
  Bound : (values : ℕ) → Seat
  -- under a `handler-case`: the form whose conditions it handles, and then the clauses
  Guarded : Seat
  -- clauses of a `handler-case`
  Clauses : Seat
  -- no form
  Empty : Seat

-- what a form is for the forms round it
pub data Role : Type 0 where
  -- it gives a value; the forms under it stand in this seat
  Gives : (under : Seat) → Role
  -- it binds a variable to the value that has so many others before it
  Binds : (above : ℕ) → Role
  -- it is a clause of a `handler-case`
  Handles : Role

-- what a form of each kind is
abbrev pub role_of : CoreKind → Role
role_of k.Let = Gives (Values 0)
role_of k.HandlerCase = Gives Guarded
role_of (k.BindLocal n above) = Binds above
role_of (k.BindSpecial s above) = Binds above
role_of (k.Clause class) = Handles
role_of (k.ClauseWith class n) = Handles
role_of _ = Gives Each

-- whether there may be no form in a seat
abbrev pub MayBeEmpty : Seat → Type 0
MayBeEmpty Each = Unit {0}
MayBeEmpty (Values before) = ⊥
MayBeEmpty (Bound values) = values ≡ 0
MayBeEmpty Guarded = ⊥
MayBeEmpty Clauses = Unit {0}
MayBeEmpty Empty = Unit {0}

-- where the forms under a form and those beside it stand; none where it may not stand in this seat
pub data Standing : Type 0 where
  Misplaced : Standing
  Stands : (under beside : Seat) → Standing

abbrev pub standing : Seat → Role → Standing
standing Each (Gives under) = Stands under Each
standing (Values before) (Gives under) = Stands under (Values (suc before))
standing (Values before) (Binds above) = if before == suc above then Stands (Bound above) Empty else Misplaced
standing (Bound zero) (Gives under) = Stands under Each
standing (Bound (suc values)) (Binds above) = if values == above then Stands (Bound above) Empty else Misplaced
standing Guarded (Gives under) = Stands under Clauses
standing Clauses Handles = Stands Each Clauses
standing _ _ = Misplaced

-- this is one of these
abbrev pub IsOneOf : {A : Type 0} → A → List A → Type 0
IsOneOf x [] = ⊥
IsOneOf x (y ∷ ys) = (x ≡ y) ⊎ IsOneOf x ys

-- one of these functions has this name
abbrev pub IsNameOf : FunctionName → List Function → Type 0
IsNameOf name [] = ⊥
IsNameOf name (f ∷ fs) = (name ≡ f.name) ⊎ IsNameOf name fs

-- what a form of this kind names is one of the program's special variables, one of its functions, or the function of `terminate-thread`
abbrev pub IsNamed : Program → CoreKind → Type 0
IsNamed p (k.Special s) = IsOneOf s p.specials
IsNamed p (k.SetSpecial s) = IsOneOf s p.specials
IsNamed p (k.Defvar s) = IsOneOf s p.specials
IsNamed p (k.Defparameter s) = IsOneOf s p.specials
IsNamed p (k.CompareAndSwap s) = IsOneOf s p.specials
IsNamed p (k.BindSpecial s above) = IsOneOf s p.specials
IsNamed p (k.Call f) = IsNameOf (Named f) p.functions
IsNamed p (k.Function AbortThread) = Unit {0}
IsNamed p (k.Function name) = IsNameOf name p.functions
IsNamed p _ = Unit {0}

-- forms under a form and beside it stand in the seats that are theirs
abbrev pub Stand : Standing → (under beside : Seat → Type 0) → Type 0
Stand Misplaced under beside = ⊥
Stand (Stands u b) under beside = under u × beside b

-- these forms stand as they should in this seat, and so do those under them
abbrev pub AreMade : Program → Seat → Forms → Type 0
AreMade p seat NoTrees = MayBeEmpty seat
AreMade p seat (Tree kind place under beside) =
    IsNamed p kind × Stand (standing seat (role_of kind)) (λ s. AreMade p s under) (λ s. AreMade p s beside)

-- the bodies of these functions are well made
abbrev pub BodiesAreMade : Program → List Function → Type 0
BodiesAreMade p [] = Unit {0}
BodiesAreMade p (f ∷ fs) = AreMade p Each f.body × BodiesAreMade p fs

-- main's forms and the bodies of the functions are well made
pub record IsWellMade (program : Program) : Type 0 where
  pub forms : AreMade program Each program.forms
  pub functions : BodiesAreMade program program.functions
