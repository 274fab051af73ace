use Rattle.std.proofs.Common.{◌≡◌, drop}
use Rattle.form_shapes.specs.Bindings
use Rattle.form_shapes.specs.inside.Contexts.{scope_in, with_opened}
use Rattle.form_shapes.specs.Seats.{scope_within}
use Rattle.form_shapes.proofs.bindings.received.Given as goal

-- what the parameters that are left open in what is open so far is all
abbrev pub invariant-loop-parameter : goal.invariant-loop-parameter
invariant-loop-parameter l =
    Bindings.received (with_opened (scope_in l.context) l.opened) (drop l.parameter-index l.parameters) ≡ scope_within (scope_in l.context) l.parameters
