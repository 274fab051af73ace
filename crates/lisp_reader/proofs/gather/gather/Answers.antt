use Rattle.std.proofs.Common.{arith, subst}
use Rattle.lisp_reader.specs.declared.scan.Scanned.TheVariants.{Found}
use Rattle.lisp_reader.specs.inside.Marking.{IsRefusalOf}
use Rattle.lisp_reader.specs.Parts.{parts_of}
use Rattle.lisp_reader.specs.inside.Scanning.{IsScanned}
use Rattle.lisp_reader.specs.Tables.{tables_of}
use Rattle.lisp_reader.proofs.Gathers.{goes_part, marked_end, refused_end, refused_part}
use Rattle.lisp_reader.proofs.Leaves.{passed_on}
use Rattle.lisp_reader.proofs.gather.gather.Goals as goal

pub returns-clause-refused : goal.returns-clause-refused
returns-clause-refused c =
    refused_end c.args.text.now c.loop-at.at (tables_of c.args.symbols.now c.args.texts.now) c.loop-at.gatherer.opens (tables_of c.loop-at.symbols c.loop-at.texts)
    c.loop-at.gatherer.marks.items c.finish.result (omega arith) c.loop-at.invariant (c.finish.ensures.refused (tables_of c.loop-at.symbols c.loop-at.texts))

pub returns-clause-marks : goal.returns-clause-marks
returns-clause-marks c =
    marked_end c.args.text.now c.loop-at.at (tables_of c.args.symbols.now c.args.texts.now) c.loop-at.gatherer.opens (tables_of c.loop-at.symbols c.loop-at.texts)
    c.loop-at.gatherer.marks.items c.finish.result (λ v. v.items) (omega arith) c.loop-at.invariant (c.finish.ensures.ends (tables_of c.loop-at.symbols c.loop-at.texts))
    c.finish.ensures.marks

pub returns-in_err-take-in-Found-clause-refused : goal.returns-in_err-take-in-Found-clause-refused
returns-in_err-take-in-Found-clause-refused c =
    let scanned : IsScanned c.args.text.now c.loop-at.at (Found c.in-Found.kind c.in-Found.next) =
    subst (IsScanned c.args.text.now c.loop-at.at) c.in-Found.is c.in_ok-next.ensures in
    let refused =
    refused_part c.args.text.now c.loop-at.at c.in-Found.next c.in-Found.kind (tables_of c.args.symbols.now c.args.texts.now) c.loop-at.gatherer.opens
    (tables_of c.loop-at.symbols c.loop-at.texts) (tables_of c.take.new.symbols c.take.new.texts) c.loop-at.gatherer.marks.items
    c.in_err-take-in-Found.field-0.0 c.loop-at.invariant scanned c.in_err-take-in-Found.ensures.refused in
    passed_on c.from_residual-in_err-take-in-Found.result c.in_err-take-in-Found.field-0.0
    (IsRefusalOf (parts_of c.args.text.now) (tables_of c.args.symbols.now c.args.texts.now) (tables_of c.take.new.symbols c.take.new.texts))
    c.from_residual-in_err-take-in-Found.ensures.1 refused

pub loop-at-preserved-in_ok-take-in-Found : goal.loop-at-preserved-in_ok-take-in-Found
loop-at-preserved-in_ok-take-in-Found c =
    let scanned : IsScanned c.args.text.now c.loop-at.at (Found c.in-Found.kind c.in-Found.next) =
    subst (IsScanned c.args.text.now c.loop-at.at) c.in-Found.is c.in_ok-next.ensures in
    goes_part c.args.text.now c.loop-at.at c.in-Found.next c.in-Found.kind _ _ _ _ _ _ _ c.loop-at.invariant scanned c.in_ok-take-in-Found.ensures.took

pub loop-at-preserved : goal.loop-at-preserved
loop-at-preserved c =
    let scanned : IsScanned c.args.text.now c.loop-at.at (Found c.in-Found.kind c.in-Found.next) =
    subst (IsScanned c.args.text.now c.loop-at.at) c.in-Found.is c.in_ok-next.ensures in
    goes_part c.args.text.now c.loop-at.at c.in-Found.next c.in-Found.kind _ _ _ _ _ _ _ c.loop-at.invariant scanned c.in_ok-take-in-Found.ensures.took
