-- Data in each way in which they are read as forms.
use Rattle.std.specs.Prelude.{ℕ, List, Option}
use Rattle.lisp_data.specs.Data.{Data}
use Rattle.form_shapes.specs.declared.keywords.Roles.{Roles}
use Rattle.form_shapes.specs.declared.scope.Target.{Target}
use Rattle.form_shapes.specs.Bindings.{bound_in, or_none, variables_of}
use Rattle.form_shapes.specs.Scopes.{Scope}
use Rattle.lisp_forms.specs.Expansion.{body_in, by_roles, clause_in, clauses_behind, clauses_in, conds_in, forms_in, function_body_in, listed, ors_in, pair_in, pairs_in, seated, seated_first, turn_first, turns_in, values_first, values_in, within_first}
use Rattle.form_laws.specs.Scoping.{Opening}
use Rattle.form_laws.specs.inside.Openings.{Fits, IsRound, IsTargetIn}
use Rattle.form_laws.specs.inside.Parts.{AreRead, AreTurnsRound, IsRead}

-- in each way they name what is open round them
pub record IsScopedData (d : Data) : Type 0 where
  pub forms : AreRead (λ s. forms_in s d)
  pub listed : (p : ℕ) → IsRead (λ s. listed s p d)
  pub roles : (roles : Roles) (i : ℕ) → AreRead (λ s. by_roles s roles i d)
  pub body : (n : ℕ) → AreRead (λ s. body_in s n d)
  pub function_body : (n : ℕ) → AreRead (λ s. function_body_in s n d)
  pub within : (roles : Roles) → AreRead (λ s. within_first s roles d)
  pub values_first : AreRead (λ s. values_first s d)
  pub values : AreRead (λ s. values_in s d)
  pub turns_first : (os : List Opening) (s : Scope) → Fits os s → AreTurnsRound os s (or_none (variables_of d)) (turn_first s d)
  pub turns : (os : List Opening) (s : Scope) → Fits os s → AreTurnsRound os s (or_none (bound_in d)) (turns_in s d)
  pub pairs : (p : ℕ) → AreRead (λ s. pairs_in s p d)
  pub pair : (p : ℕ) (target : Option Target) (q : ℕ) (os : List Opening) (s : Scope) → Fits os s → IsTargetIn os target → IsRound os (pair_in s p target q d)
  pub ors : (p : ℕ) → IsRead (λ s. ors_in s p d)
  pub conds : (p : ℕ) → IsRead (λ s. conds_in s p d)
  pub clauses_behind : (p : ℕ) → AreRead (λ s. clauses_behind s p d)
  pub clauses : (p : ℕ) → AreRead (λ s. clauses_in s p d)
  pub clause : (p : ℕ) → IsRead (λ s. clause_in s p d)
  pub seated : (p : ℕ) → IsRead (λ s. seated s p d)
  pub seated_first : IsRead (λ s. seated_first s d)
