-- How a change of the entries changes the bindings that they stand for.
use Rattle.std.proofs.Common.{◌≡◌, ◌≢◌, ℕ, zero, suc, ◌+◌, ◌<◌, ◌≤◌, List, [], ◌∷◌, ◌++◌, length, take, slice_index_or, slice_set, Some, refl, ap, ◌∙◌, arith}
use Rattle.std.proofs.lemmas.Bool.Decides.{nat_tests}
use Rattle.binding_stack.specs.declared.bindings.Entry.{Entry}
use Rattle.binding_stack.specs.Stack.{Bound, with_binding, word_of, with_word, kept}
use Rattle.binding_stack.specs.inside.Entries.{stacked, NoneFrom}

-- one more entry is one more binding

pub stacked_push : (bs : List Bound) (es : List Entry) (e : Entry) → stacked bs (es ++ e ∷ []) ≡ with_binding e.symbol e.word (stacked bs es)
stacked_push bs [] e = refl
stacked_push bs (x ∷ es) e = stacked_push _ es e

pub length_stacked : (bs : List Bound) (es : List Entry) → length (stacked bs es) ≡ length es + length bs
length_stacked bs [] = omega arith
length_stacked bs (e ∷ es) =
    let behind : length (stacked (with_binding e.symbol e.word bs) es) ≡ length es + length (with_binding e.symbol e.word bs) = length_stacked _ es in
    omega (arith, behind)

-- fewer entries

kept_all : (height : ℕ) (bs : List Bound) → length bs ≤ height → kept height bs ≡ bs
kept_all height [] h = refl
kept_all height (b ∷ bs) h = grind (arith, nat_tests)

kept_inside : (height : ℕ) (b : Bound) (bs : List Bound) → height ≤ length bs → kept height (b ∷ bs) ≡ kept height bs
kept_inside height b bs h = grind (arith, nat_tests)

kept_below : (height : ℕ) (bs : List Bound) (es : List Entry) → height ≤ length bs → kept height (stacked bs es) ≡ kept height bs
kept_below height bs [] h = refl
kept_below height bs (e ∷ es) h =
    kept_below height (with_binding e.symbol e.word bs) es (omega arith) ∙ kept_inside height _ bs h

kept_front : (n height : ℕ) (bs : List Bound) (es : List Entry) → height ≡ n + length bs → n ≤ length es → kept height (stacked bs es) ≡ stacked bs (take n es)
kept_front zero height bs es at h = kept_below height bs es (omega arith) ∙ kept_all height bs (omega arith)
kept_front (suc n) height bs [] at h = absurd (omega arith)
kept_front (suc n) height bs (e ∷ es) at h = kept_front n height (with_binding e.symbol e.word bs) es (omega arith) (omega arith)

pub kept_stacked : (n : ℕ) (es : List Entry) → n ≤ length es → kept n (stacked [] es) ≡ stacked [] (take n es)
kept_stacked n es h = kept_front n n [] es (omega arith) h

-- the entries of other symbols

none_behind : (symbol n : ℕ) (e : Entry) (es : List Entry) → NoneFrom symbol (suc n) (e ∷ es) → NoneFrom symbol n es
none_behind symbol n e es none k d from below = none (suc k) d (omega arith) (omega arith)

none_after : (symbol : ℕ) (e : Entry) (es : List Entry) → NoneFrom symbol 0 (e ∷ es) → NoneFrom symbol 0 es
none_after symbol e es none k d from below = none (suc k) d (omega arith) (omega arith)

none_here : (symbol : ℕ) (e : Entry) (es : List Entry) → NoneFrom symbol 0 (e ∷ es) → e.symbol ≢ symbol
none_here symbol e es none = none 0 e (omega arith) (omega arith)

word_behind : (symbol : ℕ) (b : Bound) (bs : List Bound) → b.symbol ≢ symbol → word_of symbol (b ∷ bs) ≡ word_of symbol bs
word_behind symbol b bs other = grind (arith, nat_tests)

with_word_behind : (symbol word : ℕ) (b : Bound) (bs : List Bound) → b.symbol ≢ symbol → with_word symbol word (b ∷ bs) ≡ b ∷ with_word symbol word bs
with_word_behind symbol word b bs other = grind (arith, nat_tests)

word_here : (symbol : ℕ) (b : Bound) (bs : List Bound) → b.symbol ≡ symbol → word_of symbol (b ∷ bs) ≡ Some b.word
word_here symbol b bs same = grind (arith, nat_tests)

with_word_here : (symbol word : ℕ) (b : Bound) (bs : List Bound) → b.symbol ≡ symbol → with_word symbol word (b ∷ bs) ≡ record b { word = word } ∷ bs
with_word_here symbol word b bs same = grind (arith, nat_tests)

-- where no entry is of the symbol

pub word_none : (symbol : ℕ) (bs : List Bound) (es : List Entry) → NoneFrom symbol 0 es → word_of symbol (stacked bs es) ≡ word_of symbol bs
word_none symbol bs [] none = refl
word_none symbol bs (e ∷ es) none =
    word_none symbol (with_binding e.symbol e.word bs) es (none_after symbol e es none)
    ∙ word_behind symbol _ bs (none_here symbol e es none)

pub with_word_none : (symbol word : ℕ) (bs : List Bound) (es : List Entry) → NoneFrom symbol 0 es → with_word symbol word (stacked bs es) ≡ stacked (with_word symbol word bs) es
with_word_none symbol word bs [] none = refl
with_word_none symbol word bs (e ∷ es) none =
    with_word_none symbol word (with_binding e.symbol e.word bs) es (none_after symbol e es none)
    ∙ ap (λ cs. stacked cs es) (with_word_behind symbol word _ bs (none_here symbol e es none))

-- where this is the last entry of the symbol

pub word_last : (symbol at : ℕ) (d : Entry) (bs : List Bound) (es : List Entry) → at < length es → (slice_index_or es at d).symbol ≡ symbol → NoneFrom symbol (suc at) es
    → word_of symbol (stacked bs es) ≡ Some (slice_index_or es at d).word
word_last symbol at d bs [] below is none = absurd (omega arith)
word_last symbol zero d bs (e ∷ es) below is none =
    word_none symbol (with_binding e.symbol e.word bs) es (none_behind symbol 0 e es none) ∙ word_here symbol _ bs is
word_last symbol (suc at) d bs (e ∷ es) below is none =
    word_last symbol at d (with_binding e.symbol e.word bs) es (omega arith) is (none_behind symbol (suc at) e es none)

pub with_word_last : (symbol word at : ℕ) (d : Entry) (bs : List Bound) (es : List Entry) → at < length es → (slice_index_or es at d).symbol ≡ symbol → NoneFrom symbol (suc at) es
    → with_word symbol word (stacked bs es) ≡ stacked bs (slice_set es at (record (slice_index_or es at d) { word = word }))
with_word_last symbol word at d bs [] below is none = absurd (omega arith)
with_word_last symbol word zero d bs (e ∷ es) below is none =
    with_word_none symbol word (with_binding e.symbol e.word bs) es (none_behind symbol 0 e es none) ∙ ap (λ cs. stacked cs es) (with_word_here symbol word _ bs is)
with_word_last symbol word (suc at) d bs (e ∷ es) below is none =
    with_word_last symbol word at d (with_binding e.symbol e.word bs) es (omega arith) is (none_behind symbol (suc at) e es none)

-- what `get` and `set` stand on
pub ruleset writes = (word_none, word_last, with_word_none, with_word_last)
