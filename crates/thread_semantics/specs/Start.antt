-- How a run begins.
use Rattle.std.specs.Prelude.{[], ◌∷◌, ◌++◌}
use Rattle.lisp_base.specs.Limits.{Numbers}
use Rattle.lisp_program.specs.Program.{Program}
use Rattle.form_points.specs.Table.{main_points}
use Rattle.thread_semantics.specs.Acts.{aborting}
use Rattle.thread_semantics.specs.State.{Setting, ThreadState, at}

-- what is the same in a run of this program with these numbers
abbrev pub setting_of : Numbers → Program → Setting
setting_of limits p = record { functions = p.functions ++ aborting ∷ []; limits = limits }

-- main, which is thread 0, before its first point
abbrev pub first_state : Program → ThreadState
first_state p = record {
  thread = 0;
  control = at (main_points p.forms) [];
  frames = [];
  variables = [];
  environment = record { bindings = [] };
  store = [];
  pushed = 0;
  points = 0;
}
