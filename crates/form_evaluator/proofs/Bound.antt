-- Bindings that are kept, and values behind others.
use Rattle.std.proofs.Common.{◌≡◌, ℕ, zero, suc, ◌+◌, ◌<◌, ◌≤◌, min, List, [], ◌∷◌, Bool, true, false, cond, nat_lt, length, drop, slice_get, refl, ap, sym, ◌∙◌, arith, add-one}
use Rattle.std.proofs.lemmas.Bool.Decides.{nat_tests}
use Rattle.std.specs.Prelude.{unwrap_or}
use Rattle.lisp_base.specs.Value.{nil}
use Rattle.lisp_base.specs.declared.value.Node.{Node}
use Rattle.binding_stack.specs.Stack.{Bound, kept}
use Rattle.plain_threads.specs.Acts.{top}
use Rattle.form_evaluator.proofs.Advances.{drop-one_more}

below : (m n : ℕ) → m < n → nat_lt m n ≡ true
below m n h = grind (arith, nat_tests)

-- all bindings are kept where there are no more than asked for
pub kept_all : (height : ℕ) (bs : List Bound) → length bs ≤ height → kept height bs ≡ bs
kept_all height [] h = refl
kept_all height (b ∷ bs) h = ap (λ t. cond t (b ∷ bs) (kept height bs)) (below (length bs) height (omega arith))

-- more than there are are never kept
pub kept_min : (height : ℕ) (bs : List Bound) → kept (min height (length bs)) bs ≡ kept height bs
kept_min height bs = by_test (nat_lt (length bs) height) refl
  where
    more : (m n : ℕ) → nat_lt m n ≡ true → m < n
    more m n e = grind (arith, nat_tests)

    fewer : (m n : ℕ) → nat_lt m n ≡ false → n ≤ m
    fewer m n e = grind (arith, nat_tests)

    by_test : (t : Bool) → nat_lt (length bs) height ≡ t → kept (min height (length bs)) bs ≡ kept height bs
    by_test true e =
        let h : length bs < height = more (length bs) height e in
        kept_all (min height (length bs)) bs (omega arith) ∙ sym (kept_all height bs (omega arith))
    by_test false e =
        let h : height ≤ length bs = fewer (length bs) height e in
        ap (λ m. kept m bs) (omega arith)

-- the front of what is behind others
pub front_behind : (above : ℕ) (vs : List Node) → top (drop above vs) ≡ unwrap_or (slice_get vs above) nil
front_behind zero [] = refl
front_behind zero (v ∷ vs) = refl
front_behind (suc n) [] = refl
front_behind (suc n) (v ∷ vs) = front_behind n vs

pub rest_behind : (above : ℕ) (vs : List Node) → drop 1 (drop above vs) ≡ drop (above + 1) vs
rest_behind above vs = rw add-one (sym (drop-one_more above vs))
