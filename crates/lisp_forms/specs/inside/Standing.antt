-- Where what stands for forms stands, before functions are taken out of it and implicit blocks are made or left out.
use Rattle.std.specs.Prelude.{◌≡◌, ℕ, List, [], ◌∷◌, Bool, true, Option, Some, None, length}
use Rattle.lisp_base.specs.Forest.{NoTrees, Tree, count_of}
use Rattle.lisp_base.specs.declared.id.FunctionName.TheVariants.{Named}
use Rattle.lisp_program.specs.Program.{Program}
use Rattle.lisp_program.specs.WellMade.{Clauses, Each, IsNamed, IsNameOf, IsOneOf, MayBeEmpty, Role, Gives, Binds, Handles, Seat, Stand, role_of, standing}
use Rattle.lisp_data.specs.Data.{Data, behind}
use Rattle.form_shapes.specs.declared.expanded.Expanded.{Expanded}
use Rattle.form_shapes.specs.declared.expanded.Expanded.TheVariants.{Form, InBlock, Lambda, Defun, Refused, RefusedFunction}
use Rattle.form_shapes.specs.declared.keywords.Roles.{Roles}
use Rattle.form_shapes.specs.declared.scope.Target.{Target}
use Rattle.form_shapes.specs.declared.scope.Target.TheVariants.{Local, Special}
use Rattle.form_shapes.specs.declared.shape.Shape.{Shape}
use Rattle.form_shapes.specs.declared.shape.Shape.TheVariants as shape
use Rattle.form_shapes.specs.Clauses.{are_clauses, is_clause}
use Rattle.form_shapes.specs.Scopes.{Scope, has}
use Rattle.lisp_forms.specs.Blocks.{turning_kind}
use Rattle.lisp_forms.specs.Expansion.{body_in, by_roles, clause_in, clauses_behind, clauses_in, conds_in, forms_in, function_body_in, listed, ors_in, pair_in, pairs_in, seated, seated_first, turn_first, turns_in, values_first, values_in, within_first}
use Rattle.lisp_forms.specs.Parts.{Parts}
use Rattle.lisp_forms.specs.Trees.{Expansion, Single, in_front, leaf}

-- what it is for the forms round it
abbrev pub role_in : Expanded → Role
role_in (Form kind) = role_of kind
role_in (InBlock n turning) = role_of (turning_kind turning)
role_in (Lambda parameters) = Gives Each
role_in (Defun f parameters) = Gives Each
role_in (Refused refusal) = Gives Each
role_in (RefusedFunction refusal) = Gives Each

-- what it names is the program's
abbrev pub IsNamedIn : Program → Expanded → Type 0
IsNamedIn w (Form kind) = IsNamed w kind
IsNamedIn w (InBlock n turning) = Unit {0}
IsNamedIn w (Lambda parameters) = Unit {0}
IsNamedIn w (Defun f parameters) = Unit {0}
IsNamedIn w (Refused refusal) = Unit {0}
IsNamedIn w (RefusedFunction refusal) = Unit {0}

-- these stand as they should in this seat, and so do those under them
abbrev pub AreStanding : Program → Seat → Expansion → Type 0
AreStanding w seat NoTrees = MayBeEmpty seat
AreStanding w seat (Tree kind p under beside) =
    IsNamedIn w kind × Stand (standing seat (role_in kind)) (λ s. AreStanding w s under) (λ s. AreStanding w s beside)

-- what has this role gives a value, and this holds of the seat under it
abbrev pub IsGiver : Role → (Seat → Type 0) → Type 0
IsGiver (Gives under) stand = stand under
IsGiver (Binds above) stand = ⊥
IsGiver Handles stand = ⊥

-- one form gives a value, and what is under it stands as it should
abbrev pub IsStanding : Program → Single → Type 0
IsStanding w t = IsNamedIn w t.kind × IsGiver (role_in t.kind) (λ s. AreStanding w s t.under)

-- the special variables and the functions that forms are read by are the program's
abbrev pub Suits : Program → Scope → Type 0
Suits w s =
    ((x : ℕ) → has s.specials x ≡ true → IsOneOf x w.specials) × ((f : ℕ) → has s.functions f ≡ true → IsNameOf (Named f) w.functions)

-- a special variable is the program's
abbrev pub IsTarget : Program → Target → Type 0
IsTarget w (Local n) = Unit {0}
IsTarget w (Special x) = IsOneOf x w.specials

-- and so is one that a symbol is, where there is one
abbrev pub IsTargetIn : Program → Option Target → Type 0
IsTargetIn w None = Unit {0}
IsTargetIn w (Some target) = IsTarget w target

-- the kind in a shape gives a value, and what it names is the program's; all clauses of a `handler-case` have their shape
abbrev pub IsShapeStanding : Program → Bool → Shape → Type 0
IsShapeStanding w are_shaped (shape.Leaf kind) = IsStanding w (leaf kind 0)
IsShapeStanding w are_shaped (shape.Over kind roles) = IsNamed w kind × (role_of kind ≡ Gives Each)
IsShapeStanding w are_shaped (shape.OverNil kind roles) = IsNamed w kind × (role_of kind ≡ Gives Each)
IsShapeStanding w are_shaped (shape.Change target f) = IsTarget w target
IsShapeStanding w are_shaped (shape.Body kind) = IsNamed w kind × (role_of kind ≡ Gives Each)
IsShapeStanding w are_shaped shape.Handler = are_shaped ≡ true
IsShapeStanding w are_shaped _ = Unit {0}

-- these are as many as the variables, where there are variables
abbrev pub AreValuesOf : List ℕ → Expansion → Type 0
AreValuesOf [] values = Unit {0}
AreValuesOf (x ∷ xs) values = count_of values ≡ length (x ∷ xs)

-- forms, by the scope that they are read by, give values
abbrev pub AreRead : Program → (Scope → Expansion) → Type 0
AreRead w f = (s : Scope) → Suits w s → AreStanding w Each (f s)

-- and one form
abbrev pub IsRead : Program → (Scope → Single) → Type 0
IsRead w f = (s : Scope) → Suits w s → IsStanding w (f s)

-- each part of a list with these variables stands as it should; the clauses of a `handler-case` do where each has its shape
pub record ArePartsStanding (w : Program) (xs : List ℕ) (are_shaped : Bool) (parts : Parts) : Type 0 where
  pub arguments : (roles : Roles) → AreStanding w Each (parts.arguments roles)
  pub body : (n : ℕ) → AreRead w (λ inner. parts.body inner n)
  pub forms : AreRead w parts.forms
  pub within : (roles : Roles) → AreRead w (λ inner. parts.within inner roles)
  pub values : AreStanding w Each parts.values
  pub many : AreValuesOf xs parts.values
  pub turns : AreStanding w Each parts.values_in_turn
  pub pairs : AreStanding w Each parts.pairs
  pub ors : IsStanding w parts.ors
  pub conds : IsStanding w parts.conds
  pub clauses : are_shaped ≡ true → AreStanding w Clauses parts.clauses

-- data in each way in which they are read as forms
pub record IsStandingData (w : Program) (d : Data) : Type 0 where
  pub forms : AreRead w (λ s. forms_in s d)
  pub listed : (p : ℕ) → IsRead w (λ s. listed s p d)
  pub roles : (roles : Roles) (i : ℕ) → AreRead w (λ s. by_roles s roles i d)
  pub body : (n : ℕ) → AreRead w (λ s. body_in s n d)
  pub function_body : (n : ℕ) → AreRead w (λ s. function_body_in s n d)
  pub within : (roles : Roles) → AreRead w (λ s. within_first s roles d)
  pub values_first : AreRead w (λ s. values_first s d)
  pub values : AreRead w (λ s. values_in s d)
  pub turns_first : AreRead w (λ s. turn_first s d)
  pub turns : AreRead w (λ s. turns_in s d)
  pub pairs : (p : ℕ) → AreRead w (λ s. pairs_in s p d)
  pub pair : (p : ℕ) (target : Option Target) (q : ℕ) (s : Scope) → Suits w s → IsTargetIn w target → AreStanding w Each (pair_in s p target q d)
  pub ors : (p : ℕ) → IsRead w (λ s. ors_in s p d)
  pub conds : (p : ℕ) → IsRead w (λ s. conds_in s p d)
  pub clauses_behind : (p : ℕ) (s : Scope) → Suits w s → are_clauses s.names (behind 1 d) ≡ true → AreStanding w Clauses (clauses_behind s p d)
  pub clauses : (p : ℕ) (s : Scope) → Suits w s → are_clauses s.names d ≡ true → AreStanding w Clauses (clauses_in s p d)
  pub clause : (p : ℕ) (s : Scope) → Suits w s → is_clause s.names d ≡ true → (others : Expansion) → AreStanding w Clauses others
      → AreStanding w Clauses (in_front (clause_in s p d) others)
  pub seated : (p : ℕ) → IsRead w (λ s. seated s p d)
  pub seated_first : IsRead w (λ s. seated_first s d)
