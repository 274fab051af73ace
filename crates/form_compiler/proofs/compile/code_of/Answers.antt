use Rattle.std.proofs.Common.{◌≡◌, IfErr, IfOk, None, subst, sym}
use Rattle.form_compiler.specs.Refusals.{IsRefusalOf}
use Rattle.form_compiler.proofs.Compiled.{by_height, short_enough, too_long}
use Rattle.form_compiler.proofs.compile.code_of.Goals as goal

pub returns-then-branch-gt-MOST_INSTRUCTIONS-clause-refused : goal.returns-then-branch-gt-MOST_INSTRUCTIONS-clause-refused
returns-then-branch-gt-MOST_INSTRUCTIONS-clause-refused c =
    too_long c.args.program.now c.in_ok-program_lines.field-0 c.in_ok-program_lines.ensures c.if-branch-gt-MOST_INSTRUCTIONS.true

pub laid_code-requires-clause-few : goal.laid_code-requires-clause-few
laid_code-requires-clause-few c =
    short_enough c.args.program.now c.in_ok-program_lines.field-0 c.in_ok-program_lines.ensures c.if-branch-gt-MOST_INSTRUCTIONS.false

pub returns-clause-accepted : goal.returns-clause-accepted
returns-clause-accepted c =
    subst (λ r. IfOk c.laid_code.result (λ code. r ≡ None))
    (sym (by_height c.args.program.now (short_enough c.args.program.now c.in_ok-program_lines.field-0 c.in_ok-program_lines.ensures c.if-branch-gt-MOST_INSTRUCTIONS.false)))
    c.laid_code.ensures.accepted

pub returns-clause-refused : goal.returns-clause-refused
returns-clause-refused c =
    subst (λ r. IfErr c.laid_code.result (IsRefusalOf r))
    (sym (by_height c.args.program.now (short_enough c.args.program.now c.in_ok-program_lines.field-0 c.in_ok-program_lines.ensures c.if-branch-gt-MOST_INSTRUCTIONS.false)))
    c.laid_code.ensures.refused
