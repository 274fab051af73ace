-- The parts of a list name what is open round them.
use Rattle.std.specs.Prelude.{ℕ, List, [], ◌∷◌, Option, Some, None, if◌then◌else◌}
use Rattle.form_shapes.specs.declared.keywords.Roles.{Roles}
use Rattle.form_shapes.specs.Bindings.{opened_by as opened_with}
use Rattle.form_shapes.specs.Scopes.{Scope, has}
use Rattle.lisp_forms.specs.Parts.{Parts}
use Rattle.lisp_forms.specs.Trees.{Expansion, Single, first, others}
use Rattle.form_laws.specs.Scoping.{Opening, Variable}
use Rattle.form_laws.specs.inside.Openings.{Fits, IsRound, IsRoundOne}

-- what is open after a variable of a `let`
abbrev pub with_variable : List Opening → Scope → ℕ → List Opening
with_variable os s x = if has s.specials x then os else Variable ∷ os

-- what is open after these
abbrev pub with_variables : List Opening → Scope → List ℕ → List Opening
with_variables os s [] = os
with_variables os s (x ∷ xs) = with_variables (with_variable os s x) (opened_with s x) xs

-- what is open in a clause with this variable or none
abbrev pub with_clause : List Opening → Option ℕ → List Opening
with_clause os None = os
with_clause os (Some x) = Variable ∷ os

-- the values of these variables, each read with those before it
abbrev pub AreTurnsRound : List Opening → Scope → List ℕ → Expansion → Type 0
AreTurnsRound os s [] values = Unit {0}
AreTurnsRound os s (x ∷ xs) values =
    ((p : ℕ) → IsRoundOne os (first p values)) × AreTurnsRound (with_variable os s x) (opened_with s x) xs (others values)

-- forms, by the scope that they are read by, name what is open by it
abbrev pub AreRead : (Scope → Expansion) → Type 0
AreRead f = (os : List Opening) (s : Scope) → Fits os s → IsRound os (f s)

-- and one form
abbrev pub IsRead : (Scope → Single) → Type 0
IsRead f = (os : List Opening) (s : Scope) → Fits os s → IsRoundOne os (f s)

-- each part does
pub record ArePartsRound (os : List Opening) (s : Scope) (xs : List ℕ) (parts : Parts) : Type 0 where
  pub arguments : (roles : Roles) → IsRound os (parts.arguments roles)
  pub body : (n : ℕ) → AreRead (λ inner. parts.body inner n)
  pub forms : AreRead parts.forms
  pub within : (roles : Roles) → AreRead (λ inner. parts.within inner roles)
  pub values : IsRound os parts.values
  pub turns : AreTurnsRound os s xs parts.values_in_turn
  pub pairs : IsRound os parts.pairs
  pub ors : IsRoundOne os parts.ors
  pub conds : IsRoundOne os parts.conds
  pub clauses : IsRound os parts.clauses
