use Rattle.std.proofs.Common.{◌<◌, ◌∙◌, get_or, sym, subst, arith, []}
use Rattle.std.proofs.lemmas.List.Elements.{All-head}
use Rattle.lisp_code.specs.Validity.{IsNoJump, Lies, on}
use Rattle.lisp_code.specs.inside.Rests.{back_rests, is_no_jump, no_jump_rests, on_rests}
use Rattle.lisp_code.proofs.code.Code.resting.Goals as goal

pub returns-then-to-here-clause-rests : goal.returns-then-to-here-clause-rests
returns-then-to-here-clause-rests c =
    sym (back_rests c.args.self.now.instrs c.loop-to.here c.in-Jump.to c.in-Jump.ensures.value c.if-to-here.true) ∙ c.loop-to.invariant.rests

pub loop-to-preserved : goal.loop-to-preserved
loop-to-preserved c =
    let later : c.loop-to.here < c.in-Jump.to = omega arith in
    let lands : Lies c.args.self.now (on c.in-Jump.to (get_or c.args.self.now.heights c.loop-to.here 0)) =
    All-head (Lies c.args.self.now) (on c.in-Jump.to (get_or c.args.self.now.heights c.loop-to.here 0)) [] c.in-Jump.ensures.fine.goes_on in
    record {
      inside = lands.0;
      rests = sym (on_rests c.args.self.now.instrs c.loop-to.here c.in-Jump.to c.in-Jump.ensures.value later) ∙ c.loop-to.invariant.rests;
    }

pub returns : goal.returns
returns c =
    let none : IsNoJump c.instr.result = is_no_jump c.instr.result c.in_default.not-Jump in
    record {
      inside = c.loop-to.invariant.inside;
      no_jump = subst IsNoJump c.instr.ensures.value none;
      rests = sym (no_jump_rests c.args.self.now.instrs c.loop-to.here c.instr.result c.instr.ensures.value none) ∙ c.loop-to.invariant.rests;
    }
