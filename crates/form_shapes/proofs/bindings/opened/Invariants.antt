use Rattle.std.proofs.Common.{◌≡◌, drop}
use Rattle.form_shapes.specs.Bindings
use Rattle.form_shapes.specs.inside.Contexts.{scope_in, with_opened}
use Rattle.form_shapes.proofs.bindings.opened.Given as goal

-- what the variables that are left open in what is open so far is all
abbrev pub invariant-loop-variable : goal.invariant-loop-variable
invariant-loop-variable l =
    Bindings.opened (with_opened (scope_in l.context) l.opened) (drop l.variable-index l.variables) ≡ Bindings.opened (scope_in l.context) l.variables
