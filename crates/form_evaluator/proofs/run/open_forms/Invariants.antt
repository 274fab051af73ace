use Rattle.std.proofs.Common.{◌≡◌, ◌+◌, ◌++◌, length}
use Rattle.form_evaluator.specs.inside.Running.{shown_forms}
use Rattle.form_evaluator.proofs.run.open_forms.Given as goal

abbrev pub invariant-loop-frame : goal.invariant-loop-frame
invariant-loop-frame l =
    record {
      shown : l.forms ++ shown_forms l.frames ≡ shown_forms l.fn.frames;
      left : length l.frames + l._frame ≡ length l.fn.frames;
    }
