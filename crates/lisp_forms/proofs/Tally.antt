-- How many clauses and pairs there are, one by one.
use Rattle.std.proofs.Common.{◌≡◌, ℕ, suc, ◌+◌, ◌≤◌, refl, ap, ◌∙◌, arith, false, true}
use Rattle.lisp_base.specs.Forest.{count_of}
use Rattle.lisp_data.specs.Data.{Data, NoData, count_of as data_in}
use Rattle.lisp_data.specs.First.{with_first}
use Rattle.lisp_data.specs.declared.items.First.{First}
use Rattle.lisp_data.specs.declared.items.First.TheVariants.{Leaf as LeafFirst, List as ListFirst}
use Rattle.form_shapes.specs.inside.One.{is_list}
use Rattle.form_shapes.specs.Scopes.{Scope}
use Rattle.form_shapes.specs.inside.Sizes.{size_of}
use Rattle.lisp_forms.specs.Expansion.{clauses_in, pairs_in}
use Rattle.lisp_forms.specs.inside.Written.{one_list}

-- one in front of others is one more
pub data_in-with_first : (first : First) (others : Data) → data_in (with_first first others) ≡ suc (data_in others)
data_in-with_first (LeafFirst l p) others = refl
data_in-with_first (ListFirst p under) others = refl

-- a list counts for one
pub one_list-few : (first : First) → one_list first ≤ 1
one_list-few (LeafFirst l p) = omega arith
one_list-few (ListFirst p under) = omega arith

-- what is behind is smaller
pub size_behind : (first : First) (others d : Data) → d ≡ with_first first others → suc (size_of others) ≤ size_of d
size_behind (LeafFirst l p) others d h = omega (arith, ap size_of h)
size_behind (ListFirst p under) others d h = omega (arith, ap size_of h)

-- a clause more, or not
clauses-with_first : (s : Scope) (p : ℕ) (first : First) (others : Data) → count_of (clauses_in s p (with_first first others)) ≡ one_list first + count_of (clauses_in s p others)
clauses-with_first s p (LeafFirst l q) others = omega arith
clauses-with_first s p (ListFirst q under) others = omega arith

pub clauses_next : (s : Scope) (p n : ℕ) (first : First) (d others : Data) (all : ℕ) → d ≡ with_first first others
    → n + count_of (clauses_in s p d) ≡ all → n + one_list first + count_of (clauses_in s p others) ≡ all
clauses_next s p n first d others all h so_far =
    omega (arith, so_far, ap (λ x. count_of (clauses_in s p x)) h, clauses-with_first s p first others)

-- no pairs begin with a list
pub no_pair-list : (s : Scope) (p : ℕ) (first : First) (d others : Data) → d ≡ with_first first others → is_list first ≡ true → count_of (pairs_in s p d) ≡ 0
no_pair-list s p (LeafFirst l q) d others h t = cc
no_pair-list s p (ListFirst q under) d others h t = ap (λ x. count_of (pairs_in s p x)) h

-- nor is one alone a pair
no_pair-one : (s : Scope) (p : ℕ) (first : First) → count_of (pairs_in s p (with_first first NoData)) ≡ 0
no_pair-one s p (LeafFirst l q) = refl
no_pair-one s p (ListFirst q under) = refl

pub no_pair-alone : (s : Scope) (p : ℕ) (first : First) (d others : Data) → d ≡ with_first first others → others ≡ NoData → count_of (pairs_in s p d) ≡ 0
no_pair-alone s p first d others h e = ap (λ x. count_of (pairs_in s p x)) (h ∙ ap (with_first first) e) ∙ no_pair-one s p first

-- two are a pair more
pairs-with_two : (s : Scope) (p : ℕ) (first second : First) (others : Data) → is_list first ≡ false
    → count_of (pairs_in s p (with_first first (with_first second others))) ≡ suc (count_of (pairs_in s p others))
pairs-with_two s p (LeafFirst l q) (LeafFirst m r) others t = refl
pairs-with_two s p (LeafFirst l q) (ListFirst r under) others t = refl
pairs-with_two s p (ListFirst q under) second others t = cc

pub pairs_next : (s : Scope) (p n : ℕ) (first second : First) (d behind others : Data) (all : ℕ) → d ≡ with_first first behind → behind ≡ with_first second others → is_list first ≡ false
    → n + count_of (pairs_in s p d) ≡ all → n + 1 + count_of (pairs_in s p others) ≡ all
pairs_next s p n first second d behind others all h e t so_far =
    let split : d ≡ with_first first (with_first second others) = h ∙ ap (with_first first) e in
    omega (arith, so_far, ap (λ x. count_of (pairs_in s p x)) split, pairs-with_two s p first second others t)
