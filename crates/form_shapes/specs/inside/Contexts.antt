-- What the code reads forms by, as a scope.
use Rattle.std.specs.Prelude.{◌≡◌, ℕ, List, Option, Some, None, Vec}
use Rattle.std.specs.Global.{Global}
use Rattle.form_shapes.specs.declared.levels.Numbered.{Numbered}
use Rattle.form_shapes.specs.declared.scope.Base.{Base}
use Rattle.form_shapes.specs.declared.scope.Context.{Context}
use Rattle.form_shapes.specs.declared.scope.Opened.{Opened}
use Rattle.form_shapes.specs.declared.scope.Within.{Within}
use Rattle.form_shapes.specs.Scopes.{Scope, with_open}

-- a context as a scope
abbrev pub scope_in : Context → Scope
scope_in c = record { names = c.symbols.now; texts = c.texts.now; specials = c.specials.now; functions = c.functions.now; levels = c.levels.now; depth = c.depth }

-- what all forms are read by, with what is open round one of them, as a scope
abbrev pub scope_at : Base → List Numbered → ℕ → Scope
scope_at b levels depth =
    record { names = b.symbols.now; texts = b.texts.now; specials = b.specials.now; functions = b.functions.now; levels = levels; depth = depth }

-- what the expander hands on, as a scope
abbrev pub scope_of : Within → Scope
scope_of w = scope_at w.base.now w.levels.now w.depth

-- a scope with this open in place of what is open in it
abbrev pub with_opened : Scope → Opened → Scope
with_opened s o = with_open s o.levels o.depth

-- the code gives these symbols, or none where there are none
abbrev pub is_told : Option (Vec ℕ Global) → Option (List ℕ) → Type 0
is_told None told = told ≡ None
is_told (Some variables) told = told ≡ Some variables.items
