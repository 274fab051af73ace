use Rattle.std.proofs.Common.{◌<◌, ◌∷◌, ap, subst, ◌∙◌}
use Rattle.lisp_base.specs.declared.refusal.Refusal.TheVariants.{HeightTooLarge}
use Rattle.lisp_program.specs.Program.{function_of}
use Rattle.lisp_code.specs.CodeOf.{stretch_of}
use Rattle.form_compiler.specs.Refusals.{IsRefusalOf, at, most_values}
use Rattle.form_compiler.specs.inside.Programs.{functions_refusal}
use Rattle.form_compiler.proofs.Programs.{first-refused, function-added, height-laid, passed-on}
use Rattle.form_compiler.proofs.compile.add_function.Goals as goal

pub returns-in_err-height-clause-refused : goal.returns-in_err-height-clause-refused
returns-in_err-height-clause-refused c left =
    passed-on c.from_residual-in_err-height.result c.in_err-height.field-0.0
    (IsRefusalOf (functions_refusal c.args.names.now (stretch_of (function_of c.args.function.now) ∷ left))) c.from_residual-in_err-height.ensures.1
    (first-refused c.args.names.now (stretch_of (function_of c.args.function.now)) left c.in_err-height.field-0.0
    (c.in_err-height.ensures.refused ∙ ap (at HeightTooLarge) c.place.ensures)
    (subst (λ n. most_values < n)
    (height-laid c.args.names.now (stretch_of (function_of c.args.function.now)) c.args.sheet.now c.lay_function.new.sheet c.len-entry.result c.len-entry.ensures c.in_ok-lay_function.ensures)
    c.in_err-height.ensures.high))

pub returns-clause-added : goal.returns-clause-added
returns-clause-added c =
    function-added c.args.names.now (stretch_of (function_of c.args.function.now)) c.args.sheet.now c.lay_function.new.sheet
    c.name.result c.place-2.result c.len-entry.result c.params.result c.in_ok-height.height
    c.name.ensures c.place-2.ensures c.len-entry.ensures c.params.ensures c.in_ok-height.ensures.is c.in_ok-height.ensures.few c.in_ok-lay_function.ensures
