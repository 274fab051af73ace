use Rattle.std.proofs.Common.{SFits, w64, rules, ◌∙◌, sym}
use Rattle.std.proofs.lemmas.Int.{to_z-of_z}
use Rattle.lisp_data.proofs.Beside.{few_items, first_items, no_items, other_items, split_leaf, split_list}
use Rattle.lisp_data.proofs.items.Items.split_first.Goals as goal
use Rattle.lisp_data.proofs.items.Items.split_first.Goals.{in-List, in-Int, in-Symbol, in-Text, in-Time}

pub returns-then-self-eq0-clause-none : goal.returns-then-self-eq0-clause-none
returns-then-self-eq0-clause-none c = sym c.self.view_is ∙ no_items _ (sym c.if-self-eq0.true ∙ c.self.invariant.many)

pub invariant_of-first : goal.invariant_of-first
invariant_of-first c = first_items _ _ _ _ _ _ c.self.invariant c.end_of-end.ensures c.in-List.is

pub invariant_of-others : goal.invariant_of-others
invariant_of-others c = other_items _ _ _ c.self.invariant c.end_of-end.ensures

pub returns-clause-some : goal.returns-clause-some
returns-clause-some c =
    sym c.self.view_is ∙ elim c.match-node-offset0.branch [
      | in-List w ↦ split_list _ _ _ _ _ _ w.first-is c.end_of-end.ensures w.in-List.is
      | in-Int w ↦
          let fits : SFits w64 w.in-Int.number = search rules in
          let first = simp to_z-of_z at w.first-is in
          split_leaf _ _ _ _ _ first c.end_of-end.ensures w.in-Int.is
      | in-Symbol w ↦ split_leaf _ _ _ _ _ w.first-is c.end_of-end.ensures w.in-Symbol.is
      | in-Text w ↦ split_leaf _ _ _ _ _ w.first-is c.end_of-end.ensures w.in-Text.is
      | in-Time w ↦ split_leaf _ _ _ _ _ w.first-is c.end_of-end.ensures w.in-Time.is
    ]

pub returns-then-self-eq0-clause-few : goal.returns-then-self-eq0-clause-few
returns-then-self-eq0-clause-few c = rw (← c.self.view_is) (few_items _ _ c.self.invariant)

pub returns-clause-few : goal.returns-clause-few
returns-clause-few c = rw (← c.self.view_is) (few_items _ _ c.self.invariant)
