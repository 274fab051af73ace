-- Which refusal of an expansion is told, and that an accepted program is well made.
use Rattle.std.specs.Prelude.{◌≡◌, ◌⊎◌, ℕ, List, false, Option, Some, None, Contains}
use Rattle.lisp_base.specs.Forest.{NoTrees, Tree}
use Rattle.lisp_base.specs.declared.refusal.Refusal.TheVariants.{TooMany}
use Rattle.lisp_base.specs.declared.refusal.Refused.{Refused}
use Rattle.lisp_program.specs.Program.{Program}
use Rattle.lisp_program.specs.WellMade.{IsWellMade}
use Rattle.lisp_data.specs.Data.{Data}
use Rattle.lisp_forms.specs.Program.{Expands, before, comes_before, function_places, most_functions, program_refusal, refusal_of}
use Rattle.lisp_forms.specs.Trees.{Expansion}

-- some form of these is refused for this reason at this place
abbrev pub IsFormRefusal : Refused → Expansion → Type 0
IsFormRefusal r NoTrees = ⊥
IsFormRefusal r (Tree kind p under beside) = (refusal_of kind p ≡ Some r) ⊎ IsFormRefusal r under ⊎ IsFormRefusal r beside

-- a function of these is refused with `TooMany`, since as many functions as there may be come before it
abbrev pub IsLimitRefusal : Refused → Expansion → Type 0
IsLimitRefusal r e = (r.refusal ≡ TooMany) × Contains (function_places e) r.place × (before r.place (function_places e) ≡ most_functions)

-- a refusal of these is that of a form, or that of the function that is one too many
abbrev pub IsRefusalIn : Refused → Expansion → Type 0
IsRefusalIn r e = IsFormRefusal r e ⊎ IsLimitRefusal r e

-- This is told of these: one of their refusals, where no other of them comes before it, or nothing, where they have none.
abbrev pub IsTold : Option Refused → Expansion → Type 0
IsTold None e = (r : Refused) → ¬ IsRefusalIn r e
IsTold (Some told) e = IsRefusalIn told e × ((r : Refused) → IsRefusalIn r e → comes_before r told ≡ false)

-- the refusal that comes first is told, of whatever expansion
abbrev pub FirstIsTold : Type 0
FirstIsTold = (e : Expansion) → IsTold (program_refusal e) e

-- an accepted program is well made
abbrev pub ProgramsAreWellMade : Type 0
ProgramsAreWellMade = (names texts : List (List ℕ)) (ds : List Data) (program : Program) → Expands names texts ds program → IsWellMade program
