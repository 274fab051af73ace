use Rattle.std.proofs.Common.{◌≡◌, ◌∙◌}
use Rattle.lisp_program.specs.Program.{program_of}
use Rattle.lisp_forms.specs.inside.Flat.{flat}
use Rattle.lisp_forms.specs.Program.{expansion_of}
use Rattle.lisp_forms.proofs.Expands.{bodies_whole, expands, expansion-nodes, main_whole}
use Rattle.lisp_forms.proofs.well.Programs.{programs_are_well_made}
use Rattle.lisp_forms.proofs.expander.expand.Goals as goal

pub returns-clause-expanded : goal.returns-clause-expanded
returns-clause-expanded c =
    let names = c.args.symbols.now in
    let texts = c.args.texts.now in
    let ds = c.args.program.now in
    let all : c.as_slice-nodes.result.now ≡ flat (expansion_of names texts ds) =
    expansion-nodes names texts ds c.as_slice.result.now c.as_slice-2.result.now _ c.as_slice-nodes.result.now
    (c.as_slice.ensures.value ∙ c.in_ok-specials.ensures) (c.as_slice-2.ensures.value ∙ c.in_ok-functions.ensures) c.none-levels.ensures
    (c.as_slice-nodes.ensures.value ∙ c.in_ok-expansion.ensures) in
    expands names texts ds c.as_slice-nodes.result.now c.in_ok-told.field-0 _ _ _ c.of.result all
    c.in_ok-told.ensures c.in_default.is c.in_ok-main.ensures c.in_ok-specials.ensures c.of.ensures

pub returns-clause-whole : goal.returns-clause-whole
returns-clause-whole c =
    let names = c.args.symbols.now in
    let texts = c.args.texts.now in
    let ds = c.args.program.now in
    let all : c.as_slice-nodes.result.now ≡ flat (expansion_of names texts ds) =
    expansion-nodes names texts ds c.as_slice.result.now c.as_slice-2.result.now _ c.as_slice-nodes.result.now
    (c.as_slice.ensures.value ∙ c.in_ok-specials.ensures) (c.as_slice-2.ensures.value ∙ c.in_ok-functions.ensures) c.none-levels.ensures
    (c.as_slice-nodes.ensures.value ∙ c.in_ok-expansion.ensures) in
    main_whole names texts ds c.as_slice-nodes.result.now _ _ _ c.of.result all c.in_ok-main.ensures c.of.ensures

pub returns-clause-bodies : goal.returns-clause-bodies
returns-clause-bodies c =
    let names = c.args.symbols.now in
    let texts = c.args.texts.now in
    let ds = c.args.program.now in
    let all : c.as_slice-nodes.result.now ≡ flat (expansion_of names texts ds) =
    expansion-nodes names texts ds c.as_slice.result.now c.as_slice-2.result.now _ c.as_slice-nodes.result.now
    (c.as_slice.ensures.value ∙ c.in_ok-specials.ensures) (c.as_slice-2.ensures.value ∙ c.in_ok-functions.ensures) c.none-levels.ensures
    (c.as_slice-nodes.ensures.value ∙ c.in_ok-expansion.ensures) in
    bodies_whole names texts ds c.as_slice-nodes.result.now _ _ _ c.of.result all c.in_ok-main.ensures c.of.ensures

pub returns-clause-made : goal.returns-clause-made
returns-clause-made c =
    let names = c.args.symbols.now in
    let texts = c.args.texts.now in
    let ds = c.args.program.now in
    let all : c.as_slice-nodes.result.now ≡ flat (expansion_of names texts ds) =
    expansion-nodes names texts ds c.as_slice.result.now c.as_slice-2.result.now _ c.as_slice-nodes.result.now
    (c.as_slice.ensures.value ∙ c.in_ok-specials.ensures) (c.as_slice-2.ensures.value ∙ c.in_ok-functions.ensures) c.none-levels.ensures
    (c.as_slice-nodes.ensures.value ∙ c.in_ok-expansion.ensures) in
    programs_are_well_made names texts ds (program_of c.of.result) (expands names texts ds c.as_slice-nodes.result.now c.in_ok-told.field-0 _ _ _ c.of.result all
    c.in_ok-told.ensures c.in_default.is c.in_ok-main.ensures c.in_ok-specials.ensures c.of.ensures)
