-- What data stand for where a block is open, and the same without the block.
use Rattle.std.proofs.Common.{inl, ℕ, zero, suc, Option, sym, subst}
use Rattle.lisp_data.specs.Data.{Data, NoData, Atom, Listed}
use Rattle.form_shapes.specs.declared.keywords.Roles.{Roles}
use Rattle.form_shapes.specs.declared.keywords.Roles.TheVariants.{From}
use Rattle.form_shapes.specs.declared.scope.Target.{Target}
use Rattle.form_shapes.specs.Bindings.{bound_in_list, is_declaration, or_none, variables_of}
use Rattle.form_shapes.specs.Clauses.{class_of, clause_variable}
use Rattle.form_shapes.specs.Keywords.{role_at}
use Rattle.form_shapes.specs.Seats.{misplaced_kind, parameters_in, scope_within}
use Rattle.form_shapes.specs.Scopes.{Scope, leaf_form, leaf_symbol, target_in}
use Rattle.form_shapes.specs.Shapes.{shape_of}
use Rattle.lisp_forms.specs.Expansion.{body_in, by_roles, clause_in, clauses_behind, clauses_in, conds_in, forms_in, function_body_in, in_clause, is_none, leaf_single, listed, or_condition, ors_in, pair_in, pairs_in, parts_in, seated, seated_first, turn_first, turns_in, values_first, values_in, within_first}
use Rattle.lisp_forms.specs.Trees.{in_front, leaf}
use Rattle.form_laws.proofs.Related.{Related, RelatedOne}
use Rattle.form_laws.proofs.Without.{Without, bare, outer, shifted_targets, target_in-shifted}
use Rattle.form_laws.proofs.Alike.{shapes-without}
use Rattle.form_laws.proofs.Rowed.{related-cond, related-first, related-nil, related-or, related-set}
use Rattle.form_laws.proofs.Framed.{related-clause, related-list}
use Rattle.form_laws.proofs.Seating.{behind-all, in_clause-all, misplaced-free, related-if, related-leaf_single, related-seat, related-with_role}

mutual
  pub related-forms : (n : ℕ) (s : Scope) (d : Data) (w : Without n) → Related n (forms_in (outer n s w) d) (forms_in (bare n s w) d)
  related-forms n s NoData w = tt
  related-forms n s (Atom l p beside) w = (related-leaf_single n s l p w, related-forms n s beside w)
  related-forms n s (Listed p under beside) w = (related-listed n s p under w, related-forms n s beside w)

  related-listed : (n : ℕ) (s : Scope) (p : ℕ) (d : Data) (w : Without n) → RelatedOne n (listed (outer n s w) p d) (listed (bare n s w) p d)
  related-listed n s p NoData w = inl tt
  related-listed n s p (Listed q under args) w = inl tt
  related-listed n s p (Atom l q args) w =
      related-list n s p (shape_of (outer n s w) p (Atom l q args)) (shape_of (bare n s w) p (Atom l q args)) (or_none (variables_of args)) w
      (parts_in (outer n s w) p args) (parts_in (bare n s w) p args) (shapes-without n s w p (Atom l q args)) record {
        arguments = λ roles. related-roles n s roles 0 args w;
        body = λ v m. related-body n s m args v;
        forms = λ v. related-forms n s args v;
        within = λ v roles. related-within n s roles args v;
        values = related-values_first n s args w;
        values_in_turn = related-turn_first n s args w;
        pairs = related-pairs n s p args w;
        ors = related-ors n s p args w;
        conds = related-conds n s p args w;
        clauses = related-clauses_behind n s p args w;
      }

  related-roles : (n : ℕ) (s : Scope) (roles : Roles) (i : ℕ) (d : Data) (w : Without n) → Related n (by_roles (outer n s w) roles i d) (by_roles (bare n s w) roles i d)
  related-roles n s roles i NoData w = tt
  related-roles n s roles i (Atom l p beside) w =
      related-with_role n (role_at roles i) (leaf_single (outer n s w) l p) (leaf_single (bare n s w) l p)
      (leaf (misplaced_kind (leaf_form (outer n s w) l)) p) (leaf (misplaced_kind (leaf_form (bare n s w) l)) p)
      (by_roles (outer n s w) roles (suc i) beside) (by_roles (bare n s w) roles (suc i) beside)
      (related-leaf_single n s l p w) (inl (misplaced-free n (leaf_form (outer n s w) l))) (related-roles n s roles (suc i) beside w)
  related-roles n s roles i (Listed p under beside) w =
      related-with_role n (role_at roles i) (listed (outer n s w) p under) (listed (bare n s w) p under) (seated (outer n s w) p under) (seated (bare n s w) p under)
      (by_roles (outer n s w) roles (suc i) beside) (by_roles (bare n s w) roles (suc i) beside)
      (related-listed n s p under w) (related-seated n s p under w) (related-roles n s roles (suc i) beside w)

  pub related-body : (n : ℕ) (s : Scope) (m : ℕ) (d : Data) (w : Without n) → Related n (body_in (outer n s w) m d) (body_in (bare n s w) m d)
  related-body n s m NoData w = none m
    where
      none : (m : ℕ) → Related n (body_in (outer n s w) m NoData) (body_in (bare n s w) m NoData)
      none zero = tt
      none (suc i) = tt
  related-body n s (suc m) (Atom l p beside) w = related-body n s m beside w
  related-body n s (suc m) (Listed p under beside) w = related-body n s m beside w
  related-body n s zero (Atom l p beside) w = (related-leaf_single n s l p w, related-forms n s beside w)
  related-body n s zero (Listed p under beside) w =
      related-if n (is_declaration s.names under) (body_in (outer n s w) zero beside) (body_in (bare n s w) zero beside)
      (in_front (listed (outer n s w) p under) (forms_in (outer n s w) beside)) (in_front (listed (bare n s w) p under) (forms_in (bare n s w) beside))
      (related-body n s zero beside w) (related-listed n s p under w, related-forms n s beside w)

  pub related-within : (n : ℕ) (s : Scope) (roles : Roles) (d : Data) (w : Without n) → Related n (within_first (outer n s w) roles d) (within_first (bare n s w) roles d)
  related-within n s roles NoData w = tt
  related-within n s roles (Atom l p beside) w = tt
  related-within n s roles (Listed p under beside) w = related-roles n s roles 0 under w

  related-values_first : (n : ℕ) (s : Scope) (d : Data) (w : Without n) → Related n (values_first (outer n s w) d) (values_first (bare n s w) d)
  related-values_first n s NoData w = tt
  related-values_first n s (Atom l p beside) w = tt
  related-values_first n s (Listed p under beside) w = related-values n s under w

  related-values : (n : ℕ) (s : Scope) (d : Data) (w : Without n) → Related n (values_in (outer n s w) d) (values_in (bare n s w) d)
  related-values n s NoData w = tt
  related-values n s (Atom l p beside) w = (related-nil n p, related-values n s beside w)
  related-values n s (Listed p under beside) w =
      (related-first n p (by_roles (outer n s w) (From 1) 0 under) (by_roles (bare n s w) (From 1) 0 under) (related-roles n s (From 1) 0 under w), related-values n s beside w)

  related-turn_first : (n : ℕ) (s : Scope) (d : Data) (w : Without n) → Related n (turn_first (outer n s w) d) (turn_first (bare n s w) d)
  related-turn_first n s NoData w = tt
  related-turn_first n s (Atom l p beside) w = tt
  related-turn_first n s (Listed p under beside) w = related-turns n s under w

  related-turns : (n : ℕ) (s : Scope) (d : Data) (w : Without n) → Related n (turns_in (outer n s w) d) (turns_in (bare n s w) d)
  related-turns n s NoData w = tt
  related-turns n s (Atom l p beside) w =
      (related-nil n p, behind-all n s (λ u v. Related n (turns_in u beside) (turns_in v beside)) (λ v. related-turns n s beside v) (leaf_symbol l) w)
  related-turns n s (Listed p under beside) w = (
    related-first n p (by_roles (outer n s w) (From 1) 0 under) (by_roles (bare n s w) (From 1) 0 under) (related-roles n s (From 1) 0 under w),
    behind-all n s (λ u v. Related n (turns_in u beside) (turns_in v beside)) (λ v. related-turns n s beside v) (bound_in_list under) w,
  )

  related-pairs : (n : ℕ) (s : Scope) (p : ℕ) (d : Data) (w : Without n) → Related n (pairs_in (outer n s w) p d) (pairs_in (bare n s w) p d)
  related-pairs n s p NoData w = tt
  related-pairs n s p (Listed q under beside) w = tt
  related-pairs n s p (Atom l q beside) w =
      subst (λ o. Related n (pair_in (outer n s w) p (target_in (outer n s w) (leaf_symbol l)) q beside) (pair_in (bare n s w) p o q beside))
      (sym (target_in-shifted n s w (leaf_symbol l))) (related-pair n s p (target_in (outer n s w) (leaf_symbol l)) q beside w)

  related-pair : (n : ℕ) (s : Scope) (p : ℕ) (o : Option Target) (q : ℕ) (d : Data) (w : Without n)
      → Related n (pair_in (outer n s w) p o q d) (pair_in (bare n s w) p (shifted_targets n o) q d)
  related-pair n s p o q NoData w = tt
  related-pair n s p o q (Atom l r beside) w =
      (related-set n p o q (leaf_single (outer n s w) l r) (leaf_single (bare n s w) l r) (related-leaf_single n s l r w), related-pairs n s p beside w)
  related-pair n s p o q (Listed r under beside) w =
      (related-set n p o q (listed (outer n s w) r under) (listed (bare n s w) r under) (related-listed n s r under w), related-pairs n s p beside w)

  related-ors : (n : ℕ) (s : Scope) (p : ℕ) (d : Data) (w : Without n) → RelatedOne n (ors_in (outer n s w) p d) (ors_in (bare n s w) p d)
  related-ors n s p NoData w = related-nil n p
  related-ors n s p (Atom l q beside) w =
      related-or n s p (is_none beside) (leaf_single (outer n s w) l q) (leaf_single (bare n s w) l q) (λ u. ors_in u p beside) (λ u. ors_in u p beside)
      (related-leaf_single n s l q w) (λ v. related-ors n s p beside v) w
  related-ors n s p (Listed q under beside) w =
      related-or n s p (is_none beside) (listed (outer n s w) q under) (listed (bare n s w) q under) (λ u. ors_in u p beside) (λ u. ors_in u p beside)
      (related-listed n s q under w) (λ v. related-ors n s p beside v) w

  related-conds : (n : ℕ) (s : Scope) (p : ℕ) (d : Data) (w : Without n) → RelatedOne n (conds_in (outer n s w) p d) (conds_in (bare n s w) p d)
  related-conds n s p NoData w = related-nil n p
  related-conds n s p (Atom l q beside) w = related-conds n s p beside w
  related-conds n s p (Listed q under beside) w =
      related-cond n s p (forms_in (outer n s w) under) (forms_in (bare n s w) under) (λ u. conds_in u p beside) (λ u. conds_in u p beside)
      (related-forms n s under w) (λ v. related-conds n s p beside v) w

  related-clauses_behind : (n : ℕ) (s : Scope) (p : ℕ) (d : Data) (w : Without n) → Related n (clauses_behind (outer n s w) p d) (clauses_behind (bare n s w) p d)
  related-clauses_behind n s p NoData w = tt
  related-clauses_behind n s p (Atom l q beside) w = related-clauses n s p beside w
  related-clauses_behind n s p (Listed q under beside) w = related-clauses n s p beside w

  related-clauses : (n : ℕ) (s : Scope) (p : ℕ) (d : Data) (w : Without n) → Related n (clauses_in (outer n s w) p d) (clauses_in (bare n s w) p d)
  related-clauses n s p NoData w = tt
  related-clauses n s p (Atom l q beside) w = related-clauses n s p beside w
  related-clauses n s p (Listed q under beside) w = (related-clause_in n s p under w, related-clauses n s p beside w)

  related-clause_in : (n : ℕ) (s : Scope) (p : ℕ) (d : Data) (w : Without n) → RelatedOne n (clause_in (outer n s w) p d) (clause_in (bare n s w) p d)
  related-clause_in n s p NoData w = related-nil n p
  related-clause_in n s p (Listed q under rest) w = related-nil n p
  related-clause_in n s p (Atom l q rest) w =
      related-clause n s p (or_condition (class_of s.names (leaf_symbol l))) (clause_variable rest) w
      (body_in (in_clause (outer n s w) (clause_variable rest)) 1 rest) (body_in (in_clause (bare n s w) (clause_variable rest)) 1 rest)
      (in_clause-all n s (λ u v. Related n (body_in u 1 rest) (body_in v 1 rest)) (λ v. related-body n s 1 rest v) (clause_variable rest) w)

  related-seated : (n : ℕ) (s : Scope) (p : ℕ) (d : Data) (w : Without n) → RelatedOne n (seated (outer n s w) p d) (seated (bare n s w) p d)
  related-seated n s p NoData w = inl tt
  related-seated n s p (Listed q under args) w = inl tt
  related-seated n s p (Atom l q args) w =
      related-seat n s w p (parameters_in args) (function_body_in (scope_within s (parameters_in args)) 1 args)
      (seated_first (outer n s w) args) (seated_first (bare n s w) args) (Atom l q args) (related-seated_first n s args w)

  related-seated_first : (n : ℕ) (s : Scope) (d : Data) (w : Without n) → RelatedOne n (seated_first (outer n s w) d) (seated_first (bare n s w) d)
  related-seated_first n s NoData w = inl tt
  related-seated_first n s (Atom l p beside) w = inl tt
  related-seated_first n s (Listed p under beside) w = related-seated n s p under w
