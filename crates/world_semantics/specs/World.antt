-- The shared objects.
use Rattle.std.specs.Prelude.{ℕ, ◌==◌, if◌then◌else◌, List, [], ◌∷◌, Option, Some, None}
use Rattle.lisp_base.specs.declared.value.Node.{Node}
use Rattle.world_semantics.specs.declared.global.Global.{Global}
use Rattle.world_semantics.specs.declared.phase.Phase.{Phase}
use Rattle.world_semantics.specs.declared.phase.Phase.TheVariants.{Alive}

-- The special variables in order of definition with their global values, and the phases of the threads that were made, by number. What was
-- printed stands in the journal.
pub record World : Type 0 where
  pub globals : List Global
  pub phases : List Phase

-- each special variable without a value
abbrev pub unbound_all : List ℕ → List Global
unbound_all [] = []
unbound_all (s ∷ specials) = (record { symbol = s; value = None }) ∷ unbound_all specials

-- no special variable has a value, and main is the only thread, and alive
abbrev pub first_world : List ℕ → World
first_world specials = record { globals = unbound_all specials; phases = Alive ∷ [] }

-- the global value of a special variable
abbrev pub global_of : ℕ → List Global → Option Node
global_of s [] = None
global_of s (g ∷ gs) = if g.symbol == s then g.value else global_of s gs

-- the special variables after a write to one of them
abbrev pub with_global : ℕ → Node → List Global → List Global
with_global s v [] = []
with_global s v (g ∷ gs) = if g.symbol == s then record g { value = Some v } ∷ gs else g ∷ with_global s v gs
