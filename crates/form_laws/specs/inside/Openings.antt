-- The same of an expansion, before its implicit blocks are made or left out.
use Rattle.std.specs.Prelude.{◌≡◌, List, [], ◌∷◌, Option, Some, None, length, replicate}
use Rattle.lisp_base.specs.Forest.{NoTrees, Tree}
use Rattle.form_shapes.specs.declared.expanded.Expanded.{Expanded}
use Rattle.form_shapes.specs.declared.expanded.Expanded.TheVariants.{Form, InBlock, Lambda, Defun, Refused, RefusedFunction}
use Rattle.form_shapes.specs.declared.levels.Level.{Level}
use Rattle.form_shapes.specs.declared.levels.Level.TheVariants as level
use Rattle.form_shapes.specs.declared.levels.Numbered.{Numbered}
use Rattle.form_shapes.specs.declared.scope.Target.{Target}
use Rattle.form_shapes.specs.declared.scope.Target.TheVariants.{Local, Special}
use Rattle.form_shapes.specs.Scopes.{Scope}
use Rattle.form_laws.specs.Scoping.{Opening, Variable, Entry, Flag, Naming, NamesNone, Opens, IsNamedIn, IsOpen, naming_of, opened_by}
use Rattle.lisp_forms.specs.Trees.{Expansion, Single}

-- how what stands for a form names an opening
abbrev pub naming_in : Expanded → Naming
naming_in (Form kind) = naming_of kind
naming_in (InBlock n turning) = Opens Entry n
naming_in (Lambda parameters) = NamesNone
naming_in (Defun f parameters) = NamesNone
naming_in (Refused refusal) = NamesNone
naming_in (RefusedFunction refusal) = NamesNone

-- what is open round what is under it
abbrev pub opened_under : List Opening → Expanded → List Opening
opened_under os (Form kind) = opened_by os (naming_of kind)
opened_under os (InBlock n turning) = Entry ∷ os
opened_under os (Lambda parameters) = replicate parameters Variable
opened_under os (Defun f parameters) = replicate parameters Variable
opened_under os (Refused refusal) = os
opened_under os (RefusedFunction refusal) = []

-- each of these names what is open round it
abbrev pub IsRound : List Opening → Expansion → Type 0
IsRound os NoTrees = Unit {0}
IsRound os (Tree kind p under beside) = IsNamedIn os (naming_in kind) × IsRound (opened_under os kind) under × IsRound os beside

-- one of them does
abbrev pub IsRoundOne : List Opening → Single → Type 0
IsRoundOne os t = IsNamedIn os (naming_in t.kind) × IsRound (opened_under os t.kind) t.under

-- what a level is as an opening
abbrev pub opening_of : Level → Opening
opening_of (level.Variable x) = Variable
opening_of (level.Block b) = Entry
opening_of level.Region = Flag

-- each of these levels is open
abbrev pub AreOpen : List Opening → List Numbered → Type 0
AreOpen os [] = Unit {0}
AreOpen os (l ∷ ls) = IsOpen (opening_of l.level) os l.number × AreOpen os ls

-- what is open by a scope is just this
abbrev pub Fits : List Opening → Scope → Type 0
Fits os s = (s.depth ≡ length os) × AreOpen os s.levels

-- a lexical variable is open
abbrev pub IsTarget : List Opening → Target → Type 0
IsTarget os (Local n) = IsOpen Variable os n
IsTarget os (Special x) = Unit {0}

-- and so is one that a symbol is, where there is one
abbrev pub IsTargetIn : List Opening → Option Target → Type 0
IsTargetIn os None = Unit {0}
IsTargetIn os (Some target) = IsTarget os target
