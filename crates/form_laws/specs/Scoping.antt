-- What the numbers in a program name.
use Rattle.std.specs.Prelude.{◌≡◌, ◌⊎◌, ℕ, List, [], ◌∷◌, length, replicate}
use Rattle.lisp_base.specs.Forest.{NoTrees, Tree}
use Rattle.lisp_program.specs.Forms.{Forms}
use Rattle.lisp_program.specs.Program.{Function, Program}
use Rattle.lisp_program.specs.declared.form.CoreKind.{CoreKind}
use Rattle.lisp_program.specs.declared.form.CoreKind.TheVariants as k
use Rattle.lisp_data.specs.Data.{Data}
use Rattle.lisp_forms.specs.Program.{Expands}

-- what a form may open: a lexical variable, the entry of a block, or the flag that `without-interrupts` remembers
pub data Opening : Type 0 where
  Variable : Opening
  Entry : Opening
  Flag : Opening

-- how a form names an opening by its number: not at all, or it uses one, or it opens one round the forms under it
pub data Naming : Type 0 where
  NamesNone : Naming
  Uses : Opening → ℕ → Naming
  Opens : Opening → ℕ → Naming

-- how a form of each kind names an opening
abbrev pub naming_of : CoreKind → Naming
naming_of (k.Local n) = Uses Variable n
naming_of (k.SetLocal n) = Uses Variable n
naming_of (k.ReturnFrom n) = Uses Entry n
naming_of (k.AllowWithInterrupts n) = Uses Flag n
naming_of (k.BindLocal n above) = Opens Variable n
naming_of (k.ClauseWith class n) = Opens Variable n
naming_of (k.Block n) = Opens Entry n
naming_of (k.WithoutInterrupts n) = Opens Flag n
naming_of _ = NamesNone

-- one of these openings, the innermost first, is of this kind and has this number: as many are open round it
abbrev pub IsOpen : Opening → List Opening → ℕ → Type 0
IsOpen o [] n = ⊥
IsOpen o (x ∷ xs) n = ((x ≡ o) × (n ≡ length xs)) ⊎ IsOpen o xs n

-- what is used is open, and what is opened has the next number
abbrev pub IsNamedIn : List Opening → Naming → Type 0
IsNamedIn os NamesNone = Unit {0}
IsNamedIn os (Uses o n) = IsOpen o os n
IsNamedIn os (Opens o n) = n ≡ length os

-- what is open round the forms under one that names an opening so
abbrev pub opened_by : List Opening → Naming → List Opening
opened_by os NamesNone = os
opened_by os (Uses o n) = os
opened_by os (Opens o n) = o ∷ os

-- each of these forms, and of those under them, names what is open round it
abbrev pub IsScoped : List Opening → Forms → Type 0
IsScoped os NoTrees = Unit {0}
IsScoped os (Tree kind p under beside) =
    IsNamedIn os (naming_of kind) × IsScoped (opened_by os (naming_of kind)) under × IsScoped os beside

-- so does the body of each of these functions, where just its parameters are open, which are the variables from 0 on
abbrev pub AreScoped : List Function → Type 0
AreScoped [] = Unit {0}
AreScoped (f ∷ fs) = IsScoped (replicate f.params Variable) f.body × AreScoped fs

-- the forms of a program name what is open round them, where nothing is open at first, and so do its functions
pub record IsScopedProgram (program : Program) : Type 0 where
  pub forms : IsScoped [] program.forms
  pub functions : AreScoped program.functions

-- in an accepted program what a form names has its opener round it in its own function
abbrev pub ProgramsAreScoped : Type 0
ProgramsAreScoped =
    (names texts : List (List ℕ)) (ds : List Data) (program : Program) → Expands names texts ds program → IsScopedProgram program
