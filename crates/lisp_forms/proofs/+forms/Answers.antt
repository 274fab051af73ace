use Rattle.std.proofs.Common.{◌≡◌, ap, arith, refl, sym, ◌∙◌, ◌≢◌, ◌∷◌, [], ◌+◌, Some, drop, length, None}
use Rattle.lisp_base.proofs.Writing.{wrote_both, wrote_same}
use Rattle.std.proofs.lemmas.Bool.Decides.{nat_tests}
use Rattle.lisp_program.specs.declared.form.CoreKind.TheVariants.{Catch, Clause, WithDeadline}
use Rattle.lisp_program.specs.declared.form.CoreKind.TheVariants as k
use Rattle.lisp_data.specs.Data.{behind, count_of}
use Rattle.form_shapes.specs.Bindings.{bound_in}
use Rattle.form_shapes.specs.inside.Contexts.{scope_at, with_opened}
use Rattle.form_shapes.specs.Keywords.{part_count}
use Rattle.form_shapes.specs.inside.One.{bound_by, let_variables}
use Rattle.form_shapes.specs.Scopes.{Scope}
use Rattle.form_shapes.specs.inside.Sizes.{size_of}
use Rattle.form_shapes.specs.declared.keywords.Roles.TheVariants.{Values}
use Rattle.lisp_forms.specs.Expansion.{forms_in, parts_in}
use Rattle.lisp_forms.specs.Rows.{list_form}
use Rattle.lisp_forms.specs.inside.Flat.{flat_one}
use Rattle.lisp_forms.proofs.+forms.Goals.{expand::push_by_roles-in-Value, expand::push_by_roles-in-Seat, expand::push_by_roles-in-Skipped, bodies::push_bound_clause-then-has, bodies::push_bound_clause-else-has}
use Rattle.lisp_forms.proofs.Bodied.{body_form, clause-is, front_form, append_form, lexical_clause, special_clause, under_form}
use Rattle.lisp_forms.proofs.Functions.{lambda_steps}
use Rattle.lisp_forms.proofs.Letting.{few_variables, let_of_none, let_of_some, let_star_of_none}
use Rattle.lisp_forms.proofs.Locked.{lock_steps, locked_body, mutex_steps, timeout_steps}
use Rattle.lisp_forms.proofs.Looping.{dotimes_written, loop_written, turns_written}
use Rattle.lisp_forms.proofs.Nesting.{Split, bound_next, first_bound, let_star_of_some, others_bound, smaller_others, turn_step, turns_done}
use Rattle.lisp_forms.proofs.Parts.{count-forms, count-roles, where_ok}
use Rattle.lisp_forms.proofs.Steps.{and_end, change_steps, clause_step, clause_steps, data-with_first, fold_steps, listed-shape, nothing_written, or_step, over, over_nil, seat_written, prog1_steps, role_step, size_of-with_first, test_step, unless_steps, value_written, when_steps}
use Rattle.lisp_forms.proofs.+forms.Goals as goal

pub bodies::push_body_form-returns : goal.bodies::push_body_form-returns
bodies::push_body_form-returns t c =
    wrote_same _ _ _ _ (wrote_both _ _ _ _ _ c.push_form.ensures c.push_all.ensures)
    (body_form (scope_at c.args.within.base.now c.args.within.levels.now c.args.within.depth) c.args.kind c.args.place 0 c.count.result c.args.arguments c.args.arguments c.after_declarations-body.result [] _ _
    refl c.after_declarations-body.ensures.is c.count.ensures.is refl refl)

pub bodies::push_catch-returns : goal.bodies::push_catch-returns
bodies::push_catch-returns t c =
    wrote_same _ _ _ _ (wrote_both _ _ _ _ _ (wrote_both _ _ _ _ _ c.push_form.ensures c.push_head.ensures) c.push_all.ensures)
    (front_form (scope_at c.args.within.base.now c.args.within.levels.now c.args.within.depth) Catch c.args.place 1 c.count.result _ c.args.arguments _ c.after_declarations-body.result [] _ _ _
    c.rest.ensures.is c.after_declarations-body.ensures.is c.count.ensures.is refl refl refl)

pub bodies::push_deadline-returns : goal.bodies::push_deadline-returns
bodies::push_deadline-returns t c =
    wrote_same _ _ _ _ (wrote_both _ _ _ _ _ (wrote_both _ _ _ _ _ c.push_form.ensures c.push_by_roles.ensures) c.push_all.ensures)
    (append_form (scope_at c.args.within.base.now c.args.within.levels.now c.args.within.depth) (WithDeadline c.args.seconds c.args.replaces) (Values 0) c.args.place 1 c.part_count.result c.count-2.result c.args.arguments _ _ c.after_declarations-body.result [] _ _ _
    c.items_first-items.ensures.is c.rest.ensures.is c.after_declarations-body.ensures.is (c.part_count.ensures.is ∙ ap (part_count (Values 0) 0) c.count.ensures.is) c.count-2.ensures.is refl refl refl)

pub bodies::push_bound_clause-returns : goal.bodies::push_bound_clause-returns
bodies::push_bound_clause-returns t c =
    elim c.if-has.branch [
      | bodies::push_bound_clause-then-has w ↦ wrote_same _ _ _ _
          (wrote_both _ _ _ _ _ (wrote_both _ _ _ _ _ (wrote_both _ _ _ _ _ (wrote_both _ _ _ _ _ w.push_form.ensures w.push_form-then-has.ensures) w.push_local.ensures) w.push_form-then-has-2.ensures)
          (rw w.nodes-is at c.push_all.ensures))
          (special_clause (scope_at c.args.within.base.now c.args.within.levels.now c.args.within.depth) (with_opened (scope_at c.args.within.base.now c.args.within.levels.now c.args.within.depth) c.in-Ok.open) c.args.within.depth c.args.place c.args.variable w.count.result c.args.class c.args.body [] _ _ _ _ _
          (sym c.has.ensures ∙ w.if-has.true) c.in-Ok.ensures w.count.ensures.is refl refl refl refl refl)
      | bodies::push_bound_clause-else-has w ↦ wrote_same _ _ _ _ (wrote_both _ _ _ _ _ w.push_form-else-has.ensures (rw w.nodes-is at c.push_all.ensures))
          (lexical_clause (scope_at c.args.within.base.now c.args.within.levels.now c.args.within.depth) (with_opened (scope_at c.args.within.base.now c.args.within.levels.now c.args.within.depth) c.in-Ok.open) c.args.within.depth c.args.place c.args.variable w.count-else-has.result c.args.class c.args.body [] _ _
          (sym c.has.ensures ∙ w.if-has.false) c.in-Ok.ensures w.count-else-has.ensures.is refl refl)
    ]

pub bodies::push_clause-returns-in-Some-clause_variable : goal.bodies::push_clause-returns-in-Some-clause_variable
bodies::push_clause-returns-in-Some-clause_variable t c =
    wrote_same _ _ _ _ c.push_bound_clause.ensures (ap flat_one
    (clause-is (scope_at c.args.within.base.now c.args.within.levels.now c.args.within.depth) c.args.place c.args.under c.in-Some.others c.rest.result c.after_declarations-body.result c.in-Some.first c.unwrap_or-class.result c.class_of.result c.symbol_by.result (Some c.in-Some-clause_variable.variable)
    c.in-Some.ensures.some (sym c.is_list.ensures ∙ c.if-is_list.false) c.symbol_by.ensures c.class_of.ensures c.unwrap_or-class.ensures (sym c.clause_variable.ensures ∙ c.in-Some-clause_variable.is) c.rest.ensures.is c.after_declarations-body.ensures.is))

pub bodies::push_clause-returns-in-None : goal.bodies::push_clause-returns-in-None
bodies::push_clause-returns-in-None t c =
    wrote_same _ _ _ _ (wrote_both _ _ _ _ _ c.push_form.ensures c.push_all.ensures)
    (under_form (Clause c.unwrap_or-class.result) c.args.place c.count.result (forms_in (scope_at c.args.within.base.now c.args.within.levels.now c.args.within.depth) c.after_declarations-body.result) [] _ _ (c.count.ensures.is ∙ sym (count-forms (scope_at c.args.within.base.now c.args.within.levels.now c.args.within.depth) c.after_declarations-body.result)) refl refl
    ∙ ap flat_one (clause-is (scope_at c.args.within.base.now c.args.within.levels.now c.args.within.depth) c.args.place c.args.under c.in-Some.others c.rest.result c.after_declarations-body.result c.in-Some.first c.unwrap_or-class.result c.class_of.result c.symbol_by.result None
    c.in-Some.ensures.some (sym c.is_list.ensures ∙ c.if-is_list.false) c.symbol_by.ensures c.class_of.ensures c.unwrap_or-class.ensures (sym c.clause_variable.ensures ∙ c.in-None.is) c.rest.ensures.is c.after_declarations-body.ensures.is))

pub expand::push_by_roles-loop-first-preserved : goal.expand::push_by_roles-loop-first-preserved
expand::push_by_roles-loop-first-preserved t c = record {
  smaller = omega (arith, c.loop-first.invariant.smaller, ap size_of c.in-Some.ensures.some, size_of-with_first c.in-Some.first c.in-Some.others);
  few = omega (arith, c.loop-first.invariant.few, c.in-Some.ensures.few, ap count_of c.in-Some.ensures.some, data-with_first c.in-Some.first c.in-Some.others);
  written = role_step (scope_at c.args.within.base.now c.args.within.levels.now c.args.within.depth) c.args.roles c.loop-first.index c.role_at.result c.in-Some.first _ _ _ _ _ _ c.in-Some.ensures.some c.role_at.ensures c.loop-first.invariant.written
      (elim c.match-role_at.branch [
        | expand::push_by_roles-in-Value w ↦ value_written c.role_at.result _ _ _ _ w.in-Value.is (rw w.nodes-is w.push_first.ensures)
        | expand::push_by_roles-in-Seat w ↦ seat_written c.role_at.result _ _ _ _ w.in-Seat.is (rw w.nodes-is w.push_seated.ensures)
        | expand::push_by_roles-in-Skipped w ↦ rw w.nodes-is (nothing_written c.role_at.result _ _ _ w.in-Skipped.is)
      ]);
}

pub expand::push_lambda-returns : goal.expand::push_lambda-returns
expand::push_lambda-returns t c =
    wrote_same _ _ _ _ (wrote_both _ _ _ _ _ (wrote_both _ _ _ _ _ c.push_node.ensures c.push_specials.ensures) c.push_all.ensures)
    (lambda_steps (scope_at c.args.within.base.now c.args.within.levels.now c.args.within.depth) c.in-Ok-received_within.open c.args.place c.count.result c.count-2.result _ c.as_slice.result.now c.as_slice-2.result.now c.as_slice-3.result.now
    c.args.arguments c.rest.result c.function_body_of-body.result [] _ _ _
    (c.as_slice.ensures.value ∙ c.in-Ok.ensures) (c.as_slice-2.ensures.value ∙ c.in-Ok.ensures) (c.as_slice-3.ensures.value ∙ c.in-Ok.ensures) c.in-Ok-received_within.ensures
    c.rest.ensures.is c.function_body_of-body.ensures.is c.count.ensures.is c.count-2.ensures.is c.special_parts-parts.ensures refl refl refl)

pub expand::push_list-returns-in-Ok : goal.expand::push_list-returns-in-Ok
expand::push_list-returns-in-Ok t c =
    wrote_same _ _ _ _ c.push_shaped.ensures
    (ap (λ d. flat_one (list_form (scope_at c.args.within.base.now c.args.within.levels.now c.args.within.depth) c.args.place c.in-Ok.shape (let_variables d) (parts_in (scope_at c.args.within.base.now c.args.within.levels.now c.args.within.depth) c.args.place d))) c.rest.ensures.is
    ∙ ap (λ h. flat_one (list_form (scope_at c.args.within.base.now c.args.within.levels.now c.args.within.depth) c.args.place h (let_variables (behind 1 c.args.under)) (parts_in (scope_at c.args.within.base.now c.args.within.levels.now c.args.within.depth) c.args.place (behind 1 c.args.under)))) c.in-Ok.ensures
    ∙ sym (ap flat_one (listed-shape (scope_at c.args.within.base.now c.args.within.levels.now c.args.within.depth) c.args.place c.args.under)))

pub expand::push_over-returns : goal.expand::push_over-returns
expand::push_over-returns t c =
    wrote_same _ _ _ _ (wrote_both _ _ _ _ _ c.push_form.ensures c.push_by_roles.ensures)
    (over c.args.kind c.args.place c.part_count-parts.result _ [] _ _
    (c.part_count-parts.ensures.is ∙ ap (part_count c.args.roles 0) c.count.ensures.is ∙ sym (count-roles (scope_at c.args.within.base.now c.args.within.levels.now c.args.within.depth) c.args.roles 0 c.args.arguments)) refl refl)

pub expand::push_shaped-returns-in-Dotimes : goal.expand::push_shaped-returns-in-Dotimes
expand::push_shaped-returns-in-Dotimes t c =
    rw c.in-Dotimes.is c.push_dotimes.ensures

pub expand::push_shaped-returns-in-Mutex : goal.expand::push_shaped-returns-in-Mutex
expand::push_shaped-returns-in-Mutex t c =
    rw c.in-Mutex.is c.push_mutex.ensures

pub expand::push_shaped-returns-in-RecursiveLock : goal.expand::push_shaped-returns-in-RecursiveLock
expand::push_shaped-returns-in-RecursiveLock t c =
    rw c.in-RecursiveLock.is c.push_lock.ensures

pub lets::push_let-push_binds-requires : goal.lets::push_let-push_binds-requires
lets::push_let-push_binds-requires t c =
    few_variables c.args.arguments c.items_first-bindings.result _ (c.as_slice-2.ensures.value ∙ c.in-Ok.ensures) c.items_first-bindings.ensures.is (rw c.count-2.ensures.is at c.count-2.ensures.few)

pub lets::push_let-returns : goal.lets::push_let-returns
lets::push_let-returns t c =
    let some : length c.in-Ok.variables.items ≢ 0 = grind (arith, nat_tests, c.is_empty.ensures, c.if-is_empty.false, c.in-Ok.variables.ok.0) in
    let same : c.as_slice-2.result.now ≡ c.as_slice.result.now = c.as_slice-2.ensures.value ∙ sym c.as_slice.ensures.value in
    wrote_same _ _ _ _ (wrote_both _ _ _ _ _ (wrote_both _ _ _ _ _ (wrote_both _ _ _ _ _ c.push_form-2.ensures c.push_values.ensures) (rw same at c.push_binds.ensures)) c.push_all-2.ensures)
    (let_of_some (scope_at c.args.within.base.now c.args.within.levels.now c.args.within.depth) c.in-Ok-opened_within.open c.args.place c.count-2.result c.count-3.result c.args.arguments c.rest.result
    c.after_declarations-body.result c.items_first-bindings.result c.as_slice.result.now [] _ _ _ _ (λ h. some (ap length (sym c.as_slice.ensures.value) ∙ h))
    (c.as_slice.ensures.value ∙ c.in-Ok.ensures) c.in-Ok-opened_within.ensures c.rest.ensures.is c.after_declarations-body.ensures.is c.count-3.ensures.is
    c.items_first-bindings.ensures.is c.count-2.ensures.is refl refl refl refl)

pub lets::push_let-returns-then-is_empty : goal.lets::push_let-returns-then-is_empty
lets::push_let-returns-then-is_empty t c =
    let none : length c.in-Ok.variables.items ≡ 0 = grind (arith, nat_tests, c.is_empty.ensures, c.if-is_empty.true, c.in-Ok.variables.ok.0) in
    wrote_same _ _ _ _ (wrote_both _ _ _ _ _ c.push_form.ensures c.push_all.ensures)
    (let_of_none (scope_at c.args.within.base.now c.args.within.levels.now c.args.within.depth) c.in-Ok-opened_within.open c.args.place c.count.result c.args.arguments c.rest.result
    c.after_declarations-body.result c.as_slice.result.now [] _ _ (ap length c.as_slice.ensures.value ∙ none) (c.as_slice.ensures.value ∙ c.in-Ok.ensures) c.in-Ok-opened_within.ensures
    c.rest.ensures.is c.after_declarations-body.ensures.is c.count.ensures.is refl refl)

pub lets::push_let_star-returns-then-is_empty : goal.lets::push_let_star-returns-then-is_empty
lets::push_let_star-returns-then-is_empty t c =
    let none : length c.in-Ok.variables.items ≡ 0 = grind (arith, nat_tests, c.is_empty.ensures, c.if-is_empty.true, c.in-Ok.variables.ok.0) in
    wrote_same _ _ _ _ (wrote_both _ _ _ _ _ c.push_form.ensures c.push_all.ensures)
    (let_star_of_none (scope_at c.args.within.base.now c.args.within.levels.now c.args.within.depth) c.in-Ok-opened_within.open c.args.place c.count.result c.args.arguments c.rest.result
    c.after_declarations-body.result c.as_slice.result.now [] _ _ (ap length c.as_slice.ensures.value ∙ none) (c.as_slice.ensures.value ∙ c.in-Ok.ensures) c.in-Ok-opened_within.ensures
    c.rest.ensures.is c.after_declarations-body.ensures.is c.count.ensures.is refl refl)

pub lets::push_let_star-returns : goal.lets::push_let_star-returns
lets::push_let_star-returns t c =
    let some : length c.in-Ok.variables.items ≢ 0 = grind (arith, nat_tests, c.is_empty.ensures, c.if-is_empty.false, c.in-Ok.variables.ok.0) in
    let same : c.as_slice-2.result.now ≡ c.as_slice.result.now = c.as_slice-2.ensures.value ∙ sym c.as_slice.ensures.value in
    let_star_of_some (scope_at c.args.within.base.now c.args.within.levels.now c.args.within.depth) c.in-Ok-opened_within.open c.args.place c.count-2.result c.args.arguments c.rest.result
    c.after_declarations-body.result c.items_first-bindings.result c.as_slice.result.now c.args.nodes.now c.push_turns.new.nodes c.push_all-2.new.nodes (λ h. some (ap length (sym c.as_slice.ensures.value) ∙ h))
    (c.as_slice.ensures.value ∙ c.in-Ok.ensures) c.in-Ok-opened_within.ensures c.rest.ensures.is c.after_declarations-body.ensures.is c.count-2.ensures.is
    c.items_first-bindings.ensures.is (rw same at c.push_turns.ensures) c.push_all-2.ensures

pub lets::push_turns-returns : goal.lets::push_turns-returns
lets::push_turns-returns t c =
    λ h. turns_done (with_opened (scope_at c.args.within.base.now c.args.within.levels.now c.args.within.depth) c.loop-variable.open) c.args.place c.args.body c.loop-variable.variable-index c.args.variables.now
    c.loop-variable.left _ _ _ (omega (arith, c.loop-variable-test.false)) (c.loop-variable.invariant.bound h) (c.loop-variable.invariant.written h)

pub lets::push_turns-loop-variable-preserved : goal.lets::push_turns-loop-variable-preserved
lets::push_turns-loop-variable-preserved t c =
    let s : Scope = with_opened (scope_at c.args.within.base.now c.args.within.levels.now c.args.within.depth) c.loop-variable.open in
    let next : bound_in c.args.bindings ≡ Some c.args.variables.now
    → Split (bound_by c.in-Some.first) (bound_in c.in-Some.others) (c.variable-item.result ∷ drop (c.loop-variable.variable-index + 1) c.args.variables.now) =
    λ h. bound_next c.args.variables.now _ c.variable-item.result c.loop-variable.left c.in-Some.others c.in-Some.first c.loop-variable-test.true c.variable-item.is c.in-Some.ensures.some
    (c.loop-variable.invariant.bound h) in
    record {
      smaller = omega (arith, c.loop-variable.invariant.smaller, smaller_others c.in-Some.first c.in-Some.others c.loop-variable.left c.in-Some.ensures.some);
      bound = λ h. others_bound _ _ _ _ (next h);
      written = λ h. turn_step s _ c.args.place c.args.body c.turn_parts.result c.variable-item.result c.bind_kind-kind.result c.in-Some.first c.loop-variable.left c.in-Some.others
          c.args.nodes.now c.loop-variable.nodes c.push_form.new.nodes c.push_bound.new.nodes c.push_form-in-loop-variable.new.nodes _
          c.in-Some.ensures.some (first_bound _ _ _ _ (next h)) (where_ok c.open_variable.result c.is_err.result c.is_err.ensures.value c.if-is_err.false c.open_variable.ensures (scope_at c.args.within.base.now c.args.within.levels.now c.args.within.depth) refl)
          (c.bind_kind-kind.ensures s refl) c.turn_parts.ensures c.push_form.ensures c.push_bound.ensures c.push_form-in-loop-variable.ensures (c.loop-variable.invariant.written h);
    }

pub locks::push_lock-returns : goal.locks::push_lock-returns
locks::push_lock-returns t c =
    wrote_same _ _ _ _ (wrote_both _ _ _ _ _ (wrote_both _ _ _ _ _ (wrote_both _ _ _ _ _ (wrote_both _ _ _ _ _ (wrote_both _ _ _ _ _ c.push_form.ensures c.push_head.ensures) c.push_region.ensures) c.push_held.ensures) c.push_grab.ensures) c.push_locked_body.ensures)
    (lock_steps c.args.within.base.now c.args.within.levels.now c.args.within.depth c.args.place c.in-Ok.lock c.args.arguments
    c.items_first.result c.rest.result c.after_declarations-body.result [] _ _ _ _ _ _ c.in-Ok.ensures c.items_first.ensures.is c.rest.ensures.is c.after_declarations-body.ensures.is refl refl refl refl refl refl)

pub locks::push_locked_body-returns : goal.locks::push_locked_body-returns
locks::push_locked_body-returns t c =
    wrote_same _ _ _ _ (wrote_both _ _ _ _ _ (wrote_both _ _ _ _ _ (wrote_both _ _ _ _ _ (wrote_both _ _ _ _ _ (wrote_both _ _ _ _ _ c.push_form.ensures c.push_form-2.ensures) c.push_form-3.ensures) c.push_all.ensures) c.push_nil.ensures) c.push_release.ensures)
    (locked_body c.args.lock.now (scope_at c.args.within.base.now c.args.within.levels.now c.args.within.depth) c.args.place c.count.result c.args.body [] _ _ _ _ _ _ c.count.ensures.is refl refl refl refl refl refl)

pub locks::push_mutex-returns : goal.locks::push_mutex-returns
locks::push_mutex-returns t c =
    wrote_same _ _ _ _ (wrote_both _ _ _ _ _ (wrote_both _ _ _ _ _ (wrote_both _ _ _ _ _ (wrote_both _ _ _ _ _ (wrote_both _ _ _ _ _ c.push_form.ensures c.push_head.ensures) c.push_region.ensures) c.push_grab.ensures) c.push_by_roles.ensures) c.push_locked_body.ensures)
    (mutex_steps c.args.within.base.now c.args.within.levels.now c.args.within.depth c.args.place c.part_count-count.result c.args.waitp c.args.timeout c.in-Ok.lock c.args.arguments
    c.items_first-items.result c.items_first-operands.result c.rest.result c.after_declarations-body.result [] _ _ _ _ _ _ c.in-Ok.ensures c.items_first-items.ensures.is c.items_first-operands.ensures.is
    (c.part_count-count.ensures.is ∙ ap (part_count (Values 1) 0) c.count.ensures.is) c.rest.ensures.is c.after_declarations-body.ensures.is refl refl refl refl refl refl)

pub locks::push_timeout-returns : goal.locks::push_timeout-returns
locks::push_timeout-returns t c =
    wrote_same _ _ _ _ (wrote_both _ _ _ _ _ (wrote_both _ _ _ _ _ (wrote_both _ _ _ _ _ (wrote_both _ _ _ _ _ (wrote_both _ _ _ _ _ (wrote_both _ _ _ _ _ (wrote_both _ _ _ _ _ (wrote_both _ _ _ _ _ (wrote_both _ _ _ _ _ c.push_form.ensures c.push_timer.ensures) c.push_form-2.ensures) c.push_form-3.ensures) c.push_local.ensures) c.push_head.ensures) c.push_form-4.ensures) c.push_progn.ensures) c.push_form-5.ensures) c.push_local-2.ensures)
    (timeout_steps c.args.within.base.now c.args.within.levels.now c.args.within.depth c.in-Ok.inner c.args.place c.args.arguments c.rest-body.result [] _ _ _ _ _ _ _ _ _ _
    c.in-Ok.ensures c.rest-body.ensures.is refl refl refl refl refl refl refl refl refl refl)

pub loops::push_dotimes-returns : goal.loops::push_dotimes-returns
loops::push_dotimes-returns t c =
    dotimes_written (scope_at c.args.within.base.now c.args.within.levels.now c.args.within.depth) c.in-Ok.block c.args.place c.nil.result c.args.variable c.args.arguments
    c.items_first-items.result c.rest.result _ _ _ _ c.in-Ok.ensures c.nil.ensures c.items_first-items.ensures.is c.rest.ensures.is
    (wrote_both _ _ _ _ _ (wrote_both _ _ _ _ _ (wrote_both _ _ _ _ _ c.push_node.ensures c.push_head.ensures) c.push_number.ensures) c.push_turns.ensures)

pub loops::push_loop-returns : goal.loops::push_loop-returns
loops::push_loop-returns t c =
    loop_written (scope_at c.args.within.base.now c.args.within.levels.now c.args.within.depth) c.in-Ok.open c.args.place c.nil.result c.count.result c.args.arguments
    c.after_declarations-body.result _ _ c.in-Ok.ensures c.nil.ensures c.after_declarations-body.ensures.is c.count.ensures.is
    (wrote_both _ _ _ _ _ (wrote_both _ _ _ _ _ c.push_node.ensures c.push_true.ensures) c.push_all.ensures)

pub loops::push_turns-returns : goal.loops::push_turns-returns
loops::push_turns-returns t c =
    wrote_same _ _ _ _ (wrote_both _ _ _ _ _ (wrote_both _ _ _ _ _ (wrote_both _ _ _ _ _ (wrote_both _ _ _ _ _ (wrote_both _ _ _ _ _ (wrote_both _ _ _ _ _ (wrote_both _ _ _ _ _ c.push_form.ensures c.push_form-2.ensures) c.push_form-3.ensures) c.push_more.ensures) c.push_bound_turn.ensures) c.push_all.ensures) c.push_step.ensures) c.push_result.ensures)
    (turns_written (scope_at c.args.within.base.now c.args.within.levels.now c.args.within.depth) c.in-Ok.open c.open_variable.new.opened c.args.place c.args.variable
    c.in-Ok-next.limit c.in-Ok-next-2.done c.count.result c.bind_kind-kind.result c.args.arguments c.rest.result c.after_declarations-body.result [] _ _ _ _ _ _ _ _
    c.in-Ok.ensures c.in-Ok-next.ensures c.in-Ok-next-2.ensures (c.bind_kind-kind.ensures (scope_at c.args.within.base.now c.args.within.levels.now c.args.within.depth) refl)
    (where_ok c.open_variable.result c.is_err.result c.is_err.ensures.value c.if-is_err.false c.open_variable.ensures (scope_at c.args.within.base.now c.args.within.levels.now c.args.within.depth) refl) c.rest.ensures.is c.after_declarations-body.ensures.is c.count.ensures.is refl refl refl refl refl refl refl refl)

pub rows::push_and-returns : goal.rows::push_and-returns
rows::push_and-returns t c =
    and_end (scope_at c.args.within.base.now c.args.within.levels.now c.args.within.depth) c.args.place c.count-ifs.result _ _ _ _ _ _ c.count-ifs.ensures.is
    (λ none. c.if-count-eq0.false (c.count.ensures.is ∙ sym c.count-ifs.ensures.is ∙ none)) refl (c.in_default.ensures.none) c.loop-first.invariant.written (rw c.nil.ensures at c.push_forms.ensures)

pub rows::push_change-returns-in-Some : goal.rows::push_change-returns-in-Some
rows::push_change-returns-in-Some t c =
    wrote_same _ _ _ _ (wrote_both _ _ _ _ _ (wrote_both _ _ _ _ _ (wrote_both _ _ _ _ _ c.push_form.ensures c.push_form-2.ensures) c.push_head.ensures) c.push_first.ensures)
    (change_steps (scope_at c.args.within.base.now c.args.within.levels.now c.args.within.depth) c.args.place c.args.target c.args.function _ c.in-Some.first c.args.arguments _ _ [] _ _ _ _
    c.rest-amount.ensures.is c.in-Some.ensures.some c.set_kind.ensures refl refl refl refl)

pub rows::push_clause-returns : goal.rows::push_clause-returns
rows::push_clause-returns t c =
    wrote_same _ _ _ _ (wrote_both _ _ _ _ _ (wrote_both _ _ _ _ _ c.push_form.ensures c.push_first.ensures) c.push_progn.ensures)
    (clause_steps (scope_at c.args.within.base.now c.args.within.levels.now c.args.within.depth) c.args.within.depth c.args.place c.in-Some.first _ _ [] _ _ _ c.in-Some.ensures.some
    (λ none. c.if-count-eq0.false (c.count.ensures.is ∙ none)) refl refl refl)

pub rows::push_cond-loop-first-preserved-in-Ok : goal.rows::push_cond-loop-first-preserved-in-Ok
rows::push_cond-loop-first-preserved-in-Ok t c = record {
  smaller = omega (arith, c.loop-first.invariant.smaller, ap size_of c.in-Some.ensures.some, size_of-with_first c.in-Some.first c.in-Some.others);
  written = test_step (scope_at c.args.within.base.now c.args.within.levels.now c.loop-first.«open») c.args.place c.in-List.field-0 c.in-Ok.behind c.in-Some.first _ _ _ _ _ _ _ c.in-Some.ensures.some c.in-List.is
      (sym c.count-is_test.ensures.is ∙ c.if-is_test.true) c.loop-first.invariant.written c.push_clause.ensures c.in-Ok.ensures;
}

pub rows::push_fold-returns : goal.rows::push_fold-returns
rows::push_fold-returns t c =
    wrote_same _ _ _ _ (wrote_both _ _ _ _ _ c.push_forms.ensures c.push_all-2.ensures)
    (fold_steps (scope_at c.args.within.base.now c.args.within.levels.now c.args.within.depth) c.args.place c.count-count.result c.args.function c.args.arguments [] _ _ c.count-count.ensures.is c.if-count-eq0.false c.if-count-eq1.false refl refl)

pub rows::push_or-loop-first-preserved : goal.rows::push_or-loop-first-preserved
rows::push_or-loop-first-preserved t c = record {
  smaller = omega (arith, c.loop-first.invariant.smaller, ap size_of c.in-Some.ensures.some, size_of-with_first c.in-Some.first c.in-Some.others);
  written = or_step (scope_at c.args.within.base.now c.args.within.levels.now c.loop-first.«open») c.args.place c.in-Ok.behind c.in-Some.first _ _ _ _ _ _ c.in-Some.ensures.some
      (λ none. c.if-count-eq0.false (c.count.ensures.is ∙ none)) c.loop-first.invariant.written c.push_either.ensures c.in-Ok.ensures;
}

pub rows::push_over_nil-returns : goal.rows::push_over_nil-returns
rows::push_over_nil-returns t c =
    wrote_same _ _ _ _ (wrote_both _ _ _ _ _ (wrote_both _ _ _ _ _ c.push_form.ensures c.push_by_roles.ensures) c.push_nil.ensures)
    (over_nil c.args.kind c.args.place c.part_count-parts.result _ [] _ _ _
    (c.part_count-parts.ensures.is ∙ ap (part_count c.args.roles 0) c.count.ensures.is ∙ sym (count-roles (scope_at c.args.within.base.now c.args.within.levels.now c.args.within.depth) c.args.roles 0 c.args.arguments)) refl refl refl)

pub rows::push_prog1-returns : goal.rows::push_prog1-returns
rows::push_prog1-returns t c =
    wrote_same _ _ _ _ (wrote_both _ _ _ _ _ (wrote_both _ _ _ _ _ (wrote_both _ _ _ _ _ (wrote_both _ _ _ _ _ c.push_form.ensures c.push_head.ensures) c.push_form-2.ensures) c.push_all.ensures) c.push_local.ensures)
    (prog1_steps (scope_at c.args.within.base.now c.args.within.levels.now c.args.within.depth) c.args.within.depth c.args.place _ _ c.args.arguments _ _ [] _ _ _ _ _
    c.in-Ok.ensures c.rest.ensures.is c.after_declarations-body.ensures.is c.count.ensures.is refl refl refl refl refl)

pub rows::push_progn-returns : goal.rows::push_progn-returns
rows::push_progn-returns t c =
    wrote_same _ _ _ _ (wrote_both _ _ _ _ _ c.push_form.ensures c.push_all.ensures)
    (over k.Progn c.args.place c.count.result _ [] _ _ (c.count.ensures.is ∙ sym (count-forms (scope_at c.args.within.base.now c.args.within.levels.now c.args.within.depth) c.args.items)) refl refl)

pub rows::push_unless-returns : goal.rows::push_unless-returns
rows::push_unless-returns t c =
    wrote_same _ _ _ _ (wrote_both _ _ _ _ _ (wrote_both _ _ _ _ _ (wrote_both _ _ _ _ _ c.push_form.ensures c.push_head.ensures) c.push_nil.ensures) c.push_progn.ensures)
    (unless_steps (scope_at c.args.within.base.now c.args.within.levels.now c.args.within.depth) c.args.place c.args.arguments _ [] _ _ _ _ c.rest-body.ensures.is refl refl refl refl)

pub rows::push_when-returns : goal.rows::push_when-returns
rows::push_when-returns t c =
    wrote_same _ _ _ _ (wrote_both _ _ _ _ _ (wrote_both _ _ _ _ _ (wrote_both _ _ _ _ _ c.push_form.ensures c.push_head.ensures) c.push_progn.ensures) c.push_nil.ensures)
    (when_steps (scope_at c.args.within.base.now c.args.within.levels.now c.args.within.depth) c.args.place c.args.arguments _ [] _ _ _ _ c.rest-body.ensures.is refl refl refl refl)

pub rows::push_cond-loop-first-preserved : goal.rows::push_cond-loop-first-preserved
rows::push_cond-loop-first-preserved t c = record {
  smaller = omega (arith, c.loop-first.invariant.smaller, ap size_of c.in-Some.ensures.some, size_of-with_first c.in-Some.first c.in-Some.others);
  written = clause_step (scope_at c.args.within.base.now c.args.within.levels.now c.loop-first.«open») c.args.place c.in-List.field-0 c.in-Some.first _ _ _ _ _ _ _ c.in-Some.ensures.some c.in-List.is
      (λ one. c.if-is_test.false (c.count-is_test.ensures.is ∙ one)) c.loop-first.invariant.written c.push_clause.ensures;
}
