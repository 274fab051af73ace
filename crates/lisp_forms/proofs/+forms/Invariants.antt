use Rattle.std.proofs.Common.{◌≡◌, ◌+◌, ◌*◌, ◌^◌, ◌-◌, ◌≤◌, Some, drop}
use Rattle.lisp_base.proofs.Writing.{Writes}
use Rattle.lisp_data.specs.Data.{NoData, count_of}
use Rattle.lisp_data.specs.First.{with_first}
use Rattle.form_shapes.specs.Bindings.{bound_in}
use Rattle.form_shapes.specs.inside.Contexts.{scope_at, with_opened}
use Rattle.form_shapes.specs.inside.Sizes.{size_of}
use Rattle.lisp_forms.specs.Expansion.{by_roles, clauses_in, conds_in, forms_in, ors_in, pairs_in, values_in}
use Rattle.lisp_forms.specs.inside.Flat.{flat, flat_one}
use Rattle.lisp_forms.specs.inside.Written.{and_front, turn_nodes}
use Rattle.lisp_forms.proofs.+forms.Given as goal

-- each call has fewer data left, or is a part of its caller's work on the same data

abbrev pub decreases-bodies::push_block : goal.decreases-bodies::push_block
decreases-bodies::push_block l = 40 * size_of l.arguments + 4

abbrev pub decreases-bodies::push_body_form : goal.decreases-bodies::push_body_form
decreases-bodies::push_body_form l = 40 * size_of l.arguments + 3

abbrev pub decreases-bodies::push_bound_clause : goal.decreases-bodies::push_bound_clause
decreases-bodies::push_bound_clause l = 40 * size_of l.body + 3

abbrev pub decreases-bodies::push_catch : goal.decreases-bodies::push_catch
decreases-bodies::push_catch l = 40 * size_of l.arguments + 3

abbrev pub decreases-bodies::push_clause : goal.decreases-bodies::push_clause
decreases-bodies::push_clause l = 40 * size_of l.under + 4

abbrev pub decreases-bodies::push_clauses : goal.decreases-bodies::push_clauses
decreases-bodies::push_clauses l = 40 * size_of l.clauses + 2

abbrev pub decreases-bodies::push_deadline : goal.decreases-bodies::push_deadline
decreases-bodies::push_deadline l = 40 * size_of l.arguments + 3

abbrev pub decreases-bodies::push_handler : goal.decreases-bodies::push_handler
decreases-bodies::push_handler l = 40 * size_of l.arguments + 3

abbrev pub decreases-bodies::push_local_interrupts : goal.decreases-bodies::push_local_interrupts
decreases-bodies::push_local_interrupts l = 40 * size_of l.arguments + 4

abbrev pub decreases-bodies::push_without : goal.decreases-bodies::push_without
decreases-bodies::push_without l = 40 * size_of l.arguments + 4

abbrev pub decreases-expand::push_all : goal.decreases-expand::push_all
decreases-expand::push_all l = 40 * size_of l.items + 2

abbrev pub decreases-expand::push_by_roles : goal.decreases-expand::push_by_roles
decreases-expand::push_by_roles l = 40 * size_of l.items + 2

abbrev pub decreases-expand::push_first : goal.decreases-expand::push_first
decreases-expand::push_first l = 40 * size_of (with_first l.first NoData) + 1

abbrev pub decreases-expand::push_head : goal.decreases-expand::push_head
decreases-expand::push_head l = 40 * size_of l.items + 2

abbrev pub decreases-expand::push_inner : goal.decreases-expand::push_inner
decreases-expand::push_inner l = 40 * size_of l.arguments + 2

abbrev pub decreases-expand::push_lambda : goal.decreases-expand::push_lambda
decreases-expand::push_lambda l = 40 * size_of l.arguments + 3

abbrev pub decreases-expand::push_list : goal.decreases-expand::push_list
decreases-expand::push_list l = 40 * size_of l.under + 7

abbrev pub decreases-expand::push_over : goal.decreases-expand::push_over
decreases-expand::push_over l = 40 * size_of l.arguments + 3

abbrev pub decreases-expand::push_seated : goal.decreases-expand::push_seated
decreases-expand::push_seated l = 40 * size_of (with_first l.first NoData) + 1

abbrev pub decreases-expand::push_seated_list : goal.decreases-expand::push_seated_list
decreases-expand::push_seated_list l = 40 * size_of l.under + 6

abbrev pub decreases-expand::push_shaped : goal.decreases-expand::push_shaped
decreases-expand::push_shaped l = 40 * size_of l.arguments + 6

abbrev pub decreases-lets::push_bound : goal.decreases-lets::push_bound
decreases-lets::push_bound l = 40 * size_of (with_first l.first NoData) + 1

abbrev pub decreases-lets::push_let : goal.decreases-lets::push_let
decreases-lets::push_let l = 40 * size_of l.arguments + 3

abbrev pub decreases-lets::push_let_star : goal.decreases-lets::push_let_star
decreases-lets::push_let_star l = 40 * size_of l.arguments + 4

abbrev pub decreases-lets::push_turns : goal.decreases-lets::push_turns
decreases-lets::push_turns l = 40 * size_of l.bindings + 3

abbrev pub decreases-lets::push_values : goal.decreases-lets::push_values
decreases-lets::push_values l = 40 * size_of l.bindings + 2

abbrev pub decreases-locks::push_lock : goal.decreases-locks::push_lock
decreases-locks::push_lock l = 40 * size_of l.arguments + 4

abbrev pub decreases-locks::push_locked_body : goal.decreases-locks::push_locked_body
decreases-locks::push_locked_body l = 40 * size_of l.body + 3

abbrev pub decreases-locks::push_mutex : goal.decreases-locks::push_mutex
decreases-locks::push_mutex l = 40 * size_of l.arguments + 4

abbrev pub decreases-locks::push_timeout : goal.decreases-locks::push_timeout
decreases-locks::push_timeout l = 40 * size_of l.arguments + 4

abbrev pub decreases-loops::push_dotimes : goal.decreases-loops::push_dotimes
decreases-loops::push_dotimes l = 40 * size_of l.arguments + 5

abbrev pub decreases-loops::push_loop : goal.decreases-loops::push_loop
decreases-loops::push_loop l = 40 * size_of l.arguments + 3

abbrev pub decreases-loops::push_result : goal.decreases-loops::push_result
decreases-loops::push_result l = 40 * size_of l.arguments + 3

abbrev pub decreases-loops::push_turns : goal.decreases-loops::push_turns
decreases-loops::push_turns l = 40 * size_of l.arguments + 4

abbrev pub decreases-rows::push_and : goal.decreases-rows::push_and
decreases-rows::push_and l = 40 * size_of l.arguments + 3

abbrev pub decreases-rows::push_change : goal.decreases-rows::push_change
decreases-rows::push_change l = 40 * size_of l.arguments + 3

abbrev pub decreases-rows::push_clause : goal.decreases-rows::push_clause
decreases-rows::push_clause l = 40 * size_of l.under + 4

abbrev pub decreases-rows::push_cond : goal.decreases-rows::push_cond
decreases-rows::push_cond l = 40 * size_of l.clauses + 3

abbrev pub decreases-rows::push_either : goal.decreases-rows::push_either
decreases-rows::push_either l = 40 * size_of (with_first l.first NoData) + 2

abbrev pub decreases-rows::push_fold : goal.decreases-rows::push_fold
decreases-rows::push_fold l = 40 * size_of l.arguments + 3

abbrev pub decreases-rows::push_ignore : goal.decreases-rows::push_ignore
decreases-rows::push_ignore l = 40 * size_of l.arguments + 4

abbrev pub decreases-rows::push_or : goal.decreases-rows::push_or
decreases-rows::push_or l = 40 * size_of l.arguments + 3

abbrev pub decreases-rows::push_over_nil : goal.decreases-rows::push_over_nil
decreases-rows::push_over_nil l = 40 * size_of l.arguments + 3

abbrev pub decreases-rows::push_pair : goal.decreases-rows::push_pair
decreases-rows::push_pair l = 40 * size_of (with_first l.value NoData) + 2

abbrev pub decreases-rows::push_pairs : goal.decreases-rows::push_pairs
decreases-rows::push_pairs l = 40 * size_of l.items + 3

abbrev pub decreases-rows::push_prog1 : goal.decreases-rows::push_prog1
decreases-rows::push_prog1 l = 40 * size_of l.arguments + 3

abbrev pub decreases-rows::push_progn : goal.decreases-rows::push_progn
decreases-rows::push_progn l = 40 * size_of l.items + 3

abbrev pub decreases-rows::push_setq : goal.decreases-rows::push_setq
decreases-rows::push_setq l = 40 * size_of l.arguments + 4

abbrev pub decreases-rows::push_terminate : goal.decreases-rows::push_terminate
decreases-rows::push_terminate l = 40 * size_of l.arguments + 3

abbrev pub decreases-rows::push_twice : goal.decreases-rows::push_twice
decreases-rows::push_twice l = 40 * size_of l.arguments + 3

abbrev pub decreases-rows::push_unless : goal.decreases-rows::push_unless
decreases-rows::push_unless l = 40 * size_of l.arguments + 4

abbrev pub decreases-rows::push_when : goal.decreases-rows::push_when
decreases-rows::push_when l = 40 * size_of l.arguments + 4

-- what is written so far, with what stands for the rest, is all

abbrev pub invariant-bodies::push_clauses-loop-first : goal.invariant-bodies::push_clauses-loop-first
invariant-bodies::push_clauses-loop-first l = record {
  smaller : size_of l.left ≤ size_of l.fn.clauses;
  written : Writes l.fn.nodes l.nodes (flat (clauses_in (scope_at l.within.base.now l.within.levels.now l.within.depth) l.place l.left)) (flat (clauses_in (scope_at l.within.base.now l.within.levels.now l.within.depth) l.place l.fn.clauses));
}

abbrev pub decreases-bodies::push_clauses-loop-first : goal.decreases-bodies::push_clauses-loop-first
decreases-bodies::push_clauses-loop-first l = size_of l.left

abbrev pub invariant-expand::push_all-loop-first : goal.invariant-expand::push_all-loop-first
invariant-expand::push_all-loop-first l = record {
  smaller : size_of l.left ≤ size_of l.fn.items;
  written : Writes l.fn.nodes l.nodes (flat (forms_in (scope_at l.within.base.now l.within.levels.now l.within.depth) l.left)) (flat (forms_in (scope_at l.within.base.now l.within.levels.now l.within.depth) l.fn.items));
}

abbrev pub decreases-expand::push_all-loop-first : goal.decreases-expand::push_all-loop-first
decreases-expand::push_all-loop-first l = size_of l.left

abbrev pub invariant-expand::push_by_roles-loop-first : goal.invariant-expand::push_by_roles-loop-first
invariant-expand::push_by_roles-loop-first l = record {
  smaller : size_of l.left ≤ size_of l.fn.items;
  few : l.index ≤ 2 ^ 30 - 1 - count_of l.left;
  written : Writes l.fn.nodes l.nodes (flat (by_roles (scope_at l.within.base.now l.within.levels.now l.within.depth) l.roles l.index l.left)) (flat (by_roles (scope_at l.within.base.now l.within.levels.now l.within.depth) l.roles 0 l.fn.items));
}

abbrev pub decreases-expand::push_by_roles-loop-first : goal.decreases-expand::push_by_roles-loop-first
decreases-expand::push_by_roles-loop-first l = size_of l.left

abbrev pub invariant-lets::push_values-loop-first : goal.invariant-lets::push_values-loop-first
invariant-lets::push_values-loop-first l = record {
  smaller : size_of l.left ≤ size_of l.fn.bindings;
  written : Writes l.fn.nodes l.nodes (flat (values_in (scope_at l.within.base.now l.within.levels.now l.within.depth) l.left)) (flat (values_in (scope_at l.within.base.now l.within.levels.now l.within.depth) l.fn.bindings));
}

abbrev pub decreases-lets::push_values-loop-first : goal.decreases-lets::push_values-loop-first
decreases-lets::push_values-loop-first l = size_of l.left

abbrev pub invariant-rows::push_and-loop-first : goal.invariant-rows::push_and-loop-first
invariant-rows::push_and-loop-first l = record {
  smaller : size_of l.left ≤ size_of l.fn.arguments;
  written : Writes l.fn.nodes l.nodes (and_front l.place (forms_in (scope_at l.within.base.now l.within.levels.now l.within.depth) l.left)) (and_front l.place (forms_in (scope_at l.within.base.now l.within.levels.now l.within.depth) l.fn.arguments));
}

abbrev pub decreases-rows::push_and-loop-first : goal.decreases-rows::push_and-loop-first
decreases-rows::push_and-loop-first l = size_of l.left

abbrev pub invariant-rows::push_cond-loop-first : goal.invariant-rows::push_cond-loop-first
invariant-rows::push_cond-loop-first l = record {
  smaller : size_of l.left ≤ size_of l.fn.clauses;
  written : Writes l.fn.nodes l.nodes (flat_one (conds_in (scope_at l.within.base.now l.within.levels.now l.open) l.place l.left)) (flat_one (conds_in (scope_at l.within.base.now l.within.levels.now l.within.depth) l.place l.fn.clauses));
}

abbrev pub decreases-rows::push_cond-loop-first : goal.decreases-rows::push_cond-loop-first
decreases-rows::push_cond-loop-first l = size_of l.left

abbrev pub invariant-rows::push_or-loop-first : goal.invariant-rows::push_or-loop-first
invariant-rows::push_or-loop-first l = record {
  smaller : size_of l.left ≤ size_of l.fn.arguments;
  written : Writes l.fn.nodes l.nodes (flat_one (ors_in (scope_at l.within.base.now l.within.levels.now l.open) l.place l.left)) (flat_one (ors_in (scope_at l.within.base.now l.within.levels.now l.within.depth) l.place l.fn.arguments));
}

abbrev pub decreases-rows::push_or-loop-first : goal.decreases-rows::push_or-loop-first
decreases-rows::push_or-loop-first l = size_of l.left

abbrev pub invariant-rows::push_pairs-loop-first : goal.invariant-rows::push_pairs-loop-first
invariant-rows::push_pairs-loop-first l = record {
  smaller : size_of l.left ≤ size_of l.fn.items;
  written : Writes l.fn.nodes l.nodes (flat (pairs_in (scope_at l.within.base.now l.within.levels.now l.within.depth) l.place l.left)) (flat (pairs_in (scope_at l.within.base.now l.within.levels.now l.within.depth) l.place l.fn.items));
}

abbrev pub decreases-rows::push_pairs-loop-first : goal.decreases-rows::push_pairs-loop-first
decreases-rows::push_pairs-loop-first l = size_of l.left

abbrev pub invariant-lets::push_turns-loop-variable : goal.invariant-lets::push_turns-loop-variable
invariant-lets::push_turns-loop-variable l = record {
  smaller : size_of l.left ≤ size_of l.fn.bindings;
  bound : bound_in l.fn.bindings ≡ Some l.variables → bound_in l.left ≡ Some (drop l.variable-index l.variables);
  written : bound_in l.fn.bindings ≡ Some l.variables
      → Writes l.fn.nodes l.nodes (turn_nodes (with_opened (scope_at l.within.base.now l.within.levels.now l.within.depth) l.«open») l.place l.body l.left) (turn_nodes (scope_at l.within.base.now l.within.levels.now l.within.depth) l.place l.body l.fn.bindings);
}
