use Rattle.std.proofs.Common.{◌≡◌, drop}
use Rattle.lisp_forms.specs.Program
use Rattle.lisp_forms.proofs.expander.past_limit.Given as goal

-- what is left says which is past the limit
abbrev pub invariant-loop-place : goal.invariant-loop-place
invariant-loop-place l = Program.past_limit l.places (drop l.place-index l.places) ≡ Program.past_limit l.places l.places
