use Rattle.std.proofs.Common.{[], subst, sym, ◌∙◌}
use Rattle.lisp_program.specs.Program.{program_of}
use Rattle.lisp_code.specs.CodeOf.{IsCodeOf}
use Rattle.form_compiler.specs.inside.Programs.{Laying}
use Rattle.form_compiler.proofs.Compiled.{is_code, laid_valid, program_small}
use Rattle.form_compiler.proofs.Programs.{bodies-layable, forms-layable, main-added}
use Rattle.form_compiler.proofs.compile.laid_code.Goals as goal

pub of_program-requires : goal.of_program-requires
of_program-requires c = program_small c.args.program.now c.requires.few

pub lay_main-requires-clause-made : goal.lay_main-requires-clause-made
lay_main-requires-clause-made c = forms-layable (program_of c.args.program.now) _ c.requires.made.forms

pub add_functions-requires-clause-made : goal.add_functions-requires-clause-made
add_functions-requires-clause-made c = bodies-layable (program_of c.args.program.now) c.args.program.now.functions c.requires.made.functions

pub add_functions-requires-clause-begun : goal.add_functions-requires-clause-begun
add_functions-requires-clause-begun c =
    main-added (program_of c.args.program.now) c.lay_main.new.sheet (rw c.in_ok-names.ensures at c.in_ok-lay_main.ensures)
    (rw c.in_ok-_height.ensures.is at c.in_ok-_height.ensures.few)

pub unwrap-requires : goal.unwrap-requires
unwrap-requires c =
    c.new.ensures.given.1
    (laid_valid (program_of c.args.program.now) c.add_functions.new.sheet c.in_ok-functions.functions.items c.in_ok-parts.parts c.in_ok-functions.ensures.laid
    (is_code (program_of c.args.program.now) _ c.in_ok-functions.functions.items c.in_ok-parts.parts
    (subst (λ lines. Laying (program_of c.args.program.now) [] lines c.in_ok-functions.functions.items) (sym c.sheet-2.view_is) c.in_ok-functions.ensures.laid)
    c.in_ok-parts.ensures.lines c.in_ok-parts.ensures.places c.in_ok-parts.ensures.heights c.in_ok-parts.ensures.functions
    (c.in_ok-parts.ensures.specials ∙ c.in_ok-specials.ensures))
    c.requires.made c.in_ok-parts.ensures.rows)

pub returns-clause-code : goal.returns-clause-code
returns-clause-code c =
    subst (IsCodeOf (program_of c.args.program.now)) (sym (rw c.unwrap.ensures at c.new.ensures.same))
    (is_code (program_of c.args.program.now) _ c.in_ok-functions.functions.items c.in_ok-parts.parts
    (subst (λ lines. Laying (program_of c.args.program.now) [] lines c.in_ok-functions.functions.items) (sym c.sheet-2.view_is) c.in_ok-functions.ensures.laid)
    c.in_ok-parts.ensures.lines c.in_ok-parts.ensures.places c.in_ok-parts.ensures.heights c.in_ok-parts.ensures.functions
    (c.in_ok-parts.ensures.specials ∙ c.in_ok-specials.ensures))
