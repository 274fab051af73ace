use Rattle.std.proofs.Common.{◌≡◌, true, rules}
use Rattle.lisp_code.specs.Validity.{goings}
use Rattle.lisp_code.proofs.Each.{all_lie}
use Rattle.lisp_code.proofs.valid.is_fine.Goals as goal

pub returns-then-goes_on : goal.returns-then-goes_on
returns-then-goes_on c =
    let fitting : c.fits.result ≡ true = search rules in
    let fit = c.fits.ensures.0 fitting in (
      λ t.
          let there = c.refers.ensures.0 t in
          record { finds = fit.0; leaves = fit.1; goes_on = all_lie c.args.parts.now (goings c.args.parts.now.handlers c.args.at c.args.height c.args.instr.now) (c.goes_on.ensures.0 c.if-goes_on.true); in_range = there.0; lands = there.1 },
      λ fine. c.refers.ensures.1 (fine.in_range, fine.lands),
    )
