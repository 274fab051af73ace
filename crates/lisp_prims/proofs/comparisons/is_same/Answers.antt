use Rattle.std.proofs.Common.{◌≡◌, ◌↔◌, IsTrue}
use Rattle.lisp_base.specs.declared.word.Operand.TheVariants.{Value}
use Rattle.lisp_prims.proofs.Same.{told_by}
use Rattle.lisp_prims.proofs.comparisons.is_same.Goals as goal

pub returns : goal.returns
returns c =
    let words : IsTrue c.is.result ↔ (Value c.args.a ≡ Value c.args.b) = rw (← c.of_value.ensures, ← c.of_value-2.ensures) c.is.ensures in
    told_by c.args.a c.args.b c.is.result (λ t. (cc (words.0 t)), λ e. words.1 (cc e))
