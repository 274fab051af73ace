use Rattle.std.proofs.Common.{◌≤◌, arith, length, ◌∙◌, ap}
use Rattle.lisp_base.specs.declared.refusal.Rejection.TheVariants.{Memory}
use Rattle.lisp_data.specs.Data.{each}
use Rattle.lisp_reader.specs.Reading.{longest}
use Rattle.lisp_reader.proofs.Leaves.{passed_on}
use Rattle.lisp_reader.proofs.Passes.{few_marks, few_nodes, holds_all, reads_nodes, whole_nodes}
use Rattle.lisp_reader.proofs.reader.read_program.Goals as goal

pub nodes_of-requires : goal.nodes_of-requires
nodes_of-requires c =
    let short : length c.args.text.now ≤ longest = omega arith in
    few_marks c.args.text.now _ c.as_slice.result.now short (c.as_slice.ensures.value ∙ c.in_ok-marks.ensures.marks)

pub returns-in_err-nodes-clause-refused : goal.returns-in_err-nodes-clause-refused
returns-in_err-nodes-clause-refused c =
    passed_on c.from_residual-in_err-nodes.result Memory _ c.from_residual-in_err-nodes.ensures.1
    (holds_all c.args.text.now _ _ c.in_ok-marks.ensures.gathered)

pub of-requires : goal.of-requires
of-requires c =
    let short : length c.args.text.now ≤ longest = omega arith in
    record {
      whole = whole_nodes c.args.text.now _ _ c.as_slice.result.now c.in_ok-nodes.nodes.items c.in_ok-marks.ensures.gathered
          (c.as_slice.ensures.value ∙ c.in_ok-marks.ensures.marks) c.in_ok-nodes.ensures;
      short = few_nodes c.args.text.now _ c.as_slice.result.now c.in_ok-nodes.nodes.items short (c.as_slice.ensures.value ∙ c.in_ok-marks.ensures.marks)
          c.in_ok-nodes.ensures;
    }

pub returns-clause-read : goal.returns-clause-read
returns-clause-read c =
    let short : length c.args.text.now ≤ longest = omega arith in
    reads_nodes c.args.text.now _ _ c.as_slice.result.now c.in_ok-nodes.nodes.items _ short c.in_default.ensures.cases.1
    c.in_ok-marks.ensures.gathered (c.as_slice.ensures.value ∙ c.in_ok-marks.ensures.marks) c.in_ok-nodes.ensures
    (ap each c.of.ensures)
