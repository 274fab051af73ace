-- Forms with what is refused of them in its place, as trees.
use Rattle.std.specs.Prelude.{ℕ}
use Rattle.lisp_base.specs.Forest.{Forest, NoTrees, Tree}
use Rattle.lisp_base.specs.declared.refusal.Refusal.{Refusal}
use Rattle.lisp_base.specs.Value.{nil}
use Rattle.lisp_program.specs.declared.form.CoreKind.{CoreKind}
use Rattle.lisp_program.specs.declared.form.CoreKind.TheVariants.{Constant, Progn}
use Rattle.form_shapes.specs.declared.expanded.Expanded.{Expanded}
use Rattle.form_shapes.specs.declared.expanded.Expanded.TheVariants.{Form, Refused}

-- forms beside one another, with what is refused of them in its place
abbrev pub Expansion : Type 0
Expansion = Forest Expanded

-- one of them, with the forms under it
pub record Single : Type 0 where
  pub kind : Expanded
  pub place : ℕ
  pub under : Expansion

-- one before others
abbrev pub in_front : Single → Expansion → Expansion
in_front t others = Tree t.kind t.place t.under others

-- one alone
abbrev pub only : Single → Expansion
only a = in_front a NoTrees

-- two
abbrev pub both : Single → Single → Expansion
both a b = in_front a (only b)

-- three
abbrev pub three : Single → Single → Single → Expansion
three a b c = in_front a (both b c)

-- one with nothing under it
abbrev pub leaf : Expanded → ℕ → Single
leaf k p = record { kind = k; place = p; under = NoTrees }

-- a core form of this kind at this place, with these forms under it
abbrev pub form : CoreKind → ℕ → Expansion → Single
form k p under = record { kind = Form k; place = p; under = under }

-- what is refused for this reason at this place
abbrev pub refused : Refusal → ℕ → Single
refused refusal p = leaf (Refused refusal) p

-- the constant NIL
abbrev pub nil_form : ℕ → Single
nil_form p = form (Constant nil) p NoTrees

-- forms as one
abbrev pub progn_form : ℕ → Expansion → Single
progn_form p fs = form Progn p fs

-- the first of these; where there is none, it is NIL
abbrev pub first : ℕ → Expansion → Single
first p NoTrees = nil_form p
first p (Tree k q under beside) = record { kind = k; place = q; under = under }

-- the others
abbrev pub others : Expansion → Expansion
others NoTrees = NoTrees
others (Tree k p under beside) = beside

-- the second
abbrev pub second : ℕ → Expansion → Single
second p fs = first p (others fs)
