-- A token of a text is a longest run of bytes that may belong to one.
use Rattle.std.specs.List.{All, list_all, prefix_len}
use Rattle.std.proofs.Common.{◌≡◌, ℕ, zero, suc, ◌+◌, ◌<◌, ◌≤◌, Bool, true, false, ◌&&◌, ◌||◌, ◌==◌, not, cond, List, [], ◌∷◌, ◌++◌, length, take, drop, reverse, refl, ap, subst, sym, ◌∙◌, arith, append_assoc, length-append, length-drop, ⊎_elim}
use Rattle.std.proofs.lemmas.Bool.{cases_Bool}
use Rattle.std.proofs.lemmas.Bool.Decides.{nat_tests}
use Rattle.std.proofs.lemmas.List.{reverse-append, take-append-drop}
use Rattle.std.proofs.lemmas.List.Elements.{All-nil, All-cons, All-contains}
use Rattle.std.proofs.lemmas.List.Folds.{length-prefix_len}
use Rattle.lisp_reader.specs.Parts.{Where', Between, Within, Sharp, Comment, Inside, Escaped, Part, Opens, Closes, Quotes, Literal, OpenLiteral, Token', begins_with_quote, is_separator, parts_from, is_token_letter}
use Rattle.lisp_reader.specs.Tokens.{IsLongestRun, TokensAreRuns, begins_with_letter}
use Rattle.lisp_reader.proofs.Parted.{by_tests, front_token, same_case}

-- a part of a text that is a token is a run
abbrev IsRun : List ℕ → Part → Type 0
IsRun text (Token' p letters) = IsLongestRun text p letters
IsRun text (other) = Unit {0}

-- each token among these parts is a run
abbrev AreRuns : List ℕ → List Part → Type 0
AreRuns text ps = All (IsRun text) ps

-- these bytes are left of a text, from this place on, after those that are done
record Left (text : List ℕ) (p : ℕ) (done bs : List ℕ) : Type 0 where
  is : text ≡ done ++ bs
  at : length done ≡ p

-- some bytes more are done
more : (text : List ℕ) (p n : ℕ) (done front bs : List ℕ) → Left text p done (front ++ bs) → length front ≡ n → Left text (p + n) (done ++ front) bs
more text p n done front bs s h =
    record { is = s.is ∙ sym (append_assoc done front bs); at = omega (arith, length-append done front, s.at, h) }

-- one byte more is done
one_more : (text : List ℕ) (p b : ℕ) (done bs : List ℕ) → Left text p done (b ∷ bs) → Left text (suc p) (done ++ b ∷ []) bs
one_more text p b done bs s =
    record { is = s.is ∙ sym (append_assoc done (b ∷ []) bs); at = omega (arith, length-append done (b ∷ []), s.at) }

-- where a text goes on between parts, no run goes on; where it goes on after the `#` of a quote, the `'` comes
abbrev Apart : Where' → List ℕ → List ℕ → Type 0
Apart Between done bs = (begins_with_letter (reverse done) && begins_with_letter bs) ≡ false
Apart Within done bs = ⊥
Apart Sharp done bs = begins_with_quote bs ≡ true
Apart Comment done bs = Unit {0}
Apart (Inside start so_far) done bs = Unit {0}
Apart (Escaped start so_far) done bs = Unit {0}

-- no run goes on after a byte that may not belong to a token
after_other : (b : ℕ) (done bs : List ℕ) → is_token_letter b ≡ false → Apart Between (done ++ b ∷ []) bs
after_other b done bs h =
    let last : begins_with_letter (reverse (done ++ b ∷ [])) ≡ false = rw (reverse-append done (b ∷ [])) h in
    rw last refl

-- nor before one
before_none : (done bs : List ℕ) → begins_with_letter bs ≡ false → Apart Between done bs
before_none done bs h = elim (begins_with_letter (reverse done)) as (λ v. (v && begins_with_letter bs) ≡ false) [ true ↦ h | false ↦ refl ]

-- a letter comes after none
none_before_letter : (v w : Bool) → (v && w) ≡ false → w ≡ true → v ≡ false
none_before_letter true w h k = sym k ∙ h
none_before_letter false w h k = refl

-- one more of the letters at the beginning
all_by : (b : ℕ) (bs : List ℕ) (v : Bool) → is_token_letter b ≡ v → list_all is_token_letter (take (prefix_len is_token_letter bs) bs) ≡ true
    → list_all is_token_letter (take (cond v (1 + prefix_len is_token_letter bs) 0) (b ∷ bs)) ≡ true
all_by b bs true h k =
    let one : 1 + prefix_len is_token_letter bs ≡ suc (prefix_len is_token_letter bs) = omega arith in
    rw (one, h, k) refl
all_by b bs false h k = refl

-- the letters at the beginning may all belong to a token
all_letters : (bs : List ℕ) → list_all is_token_letter (take (prefix_len is_token_letter bs) bs) ≡ true
all_letters [] = refl
all_letters (b ∷ bs) = all_by b bs (is_token_letter b) refl (all_letters bs)

-- a byte more before the end of the letters
none_by : (b : ℕ) (bs : List ℕ) (v : Bool) → is_token_letter b ≡ v → begins_with_letter (drop (prefix_len is_token_letter bs) bs) ≡ false
    → begins_with_letter (drop (cond v (1 + prefix_len is_token_letter bs) 0) (b ∷ bs)) ≡ false
none_by b bs true h k = let one : 1 + prefix_len is_token_letter bs ≡ suc (prefix_len is_token_letter bs) = omega arith in rw one k
none_by b bs false h k = h

-- after them comes none
none_left : (bs : List ℕ) → begins_with_letter (drop (prefix_len is_token_letter bs) bs) ≡ false
none_left [] = refl
none_left (b ∷ bs) = none_by b bs (is_token_letter b) refl (none_left bs)

-- a letter is one of them
pub some_letter : (b : ℕ) (bs : List ℕ) → is_token_letter b ≡ true → 0 < prefix_len is_token_letter (b ∷ bs)
some_letter b bs h = rw h (omega arith)

-- where no run goes on, the letters at the beginning are a run
first_run : (text : List ℕ) (p b : ℕ) (done bs : List ℕ) → is_token_letter b ≡ true → Left text p done (b ∷ bs) → Apart Between done (b ∷ bs)
    → IsLongestRun text p (take (prefix_len is_token_letter (b ∷ bs)) (b ∷ bs))
first_run text p b done bs h s apart =
    let n : ℕ = prefix_len is_token_letter (b ∷ bs) in
    let long : length (take n (b ∷ bs)) ≡ n = length-prefix_len is_token_letter (b ∷ bs) in
    record {
      before = done;
      after = drop n (b ∷ bs);
      stands = s.is ∙ ap (λ xs. done ++ xs) (sym (take-append-drop n (b ∷ bs))) ∙ sym (append_assoc done (take n (b ∷ bs)) (drop n (b ∷ bs)));
      at = s.at;
      some = omega (arith, long, some_letter b bs h);
      all = all_letters (b ∷ bs);
      none_before = none_before_letter (begins_with_letter (reverse done)) (is_token_letter b) apart h;
      none_after = none_left (b ∷ bs);
    }

-- the bytes that are left after the first token
after_run : (text : List ℕ) (p n : ℕ) (done bs : List ℕ) → n ≡ prefix_len is_token_letter bs → Left text p done bs
    → Left text (p + n) (done ++ take n bs) (drop n bs)
after_run text p n done bs is s =
    let long : length (take n bs) ≡ n = rw is (length-prefix_len is_token_letter bs) in
    more text p n done (take n bs) (drop n bs) (rw (take-append-drop n bs) s) long

-- a `#` before a quote begins with the quote
pub sharp_front : (p b : ℕ) (bs : List ℕ) → b ≡ 35 → begins_with_quote bs ≡ true → parts_from Between p (b ∷ bs) ≡ Quotes true p ∷ parts_from Sharp (suc p) bs
sharp_front p b bs h k = rw (h, k) refl

-- two tests that hold
pub both_hold : (v w : Bool) → (v && w) ≡ true → (v ≡ true) × (w ≡ true)
both_hold true w h = (refl, h)
both_hold false w h = absurd (cc)

-- either of two
either_run : (text : List ℕ) (v : Bool) (xs ys : List Part) → (v ≡ true → AreRuns text xs) → AreRuns text ys → AreRuns text (cond v xs ys)
either_run text true xs ys f i = f refl
either_run text false xs ys f i = i

-- a part that is no token, before others
opens_run : (text : List ℕ) (p : ℕ) (ps : List Part) → AreRuns text ps → AreRuns text (Opens p ∷ ps)
opens_run text p ps h = All-cons (IsRun text) (Opens p) ps tt h

closes_run : (text : List ℕ) (p : ℕ) (ps : List Part) → AreRuns text ps → AreRuns text (Closes p ∷ ps)
closes_run text p ps h = All-cons (IsRun text) (Closes p) ps tt h

quotes_run : (text : List ℕ) (function : Bool) (p : ℕ) (ps : List Part) → AreRuns text ps → AreRuns text (Quotes function p ∷ ps)
quotes_run text function p ps h = All-cons (IsRun text) (Quotes function p) ps tt h

literal_runs : (text : List ℕ) (p : ℕ) (characters : List ℕ) (ps : List Part) → AreRuns text ps → AreRuns text (Literal p characters ∷ ps)
literal_runs text p characters ps h = All-cons (IsRun text) (Literal p characters) ps tt h

open_literal_run : (text : List ℕ) (p : ℕ) → AreRuns text (OpenLiteral p ∷ [])
open_literal_run text p = All-cons (IsRun text) (OpenLiteral p) [] tt (All-nil (IsRun text))

-- a byte that may not belong to a token, by what it is
other_runs : (text : List ℕ) (sep semi quotes open' close quote : Bool) (s c t o k q other : List Part)
    → not (sep || semi || quotes || open' || close || quote) ≡ false → AreRuns text s → AreRuns text c → AreRuns text t → AreRuns text o
    → AreRuns text k → AreRuns text q → AreRuns text (by_tests sep semi quotes open' close quote s c t o k q other)
other_runs text sep semi quotes open' close quote s c t o k q other h hs hc ht ho hk hq =
    subst (AreRuns text) (same_case sep semi quotes open' close quote s c t o k q [] other h)
    (either_run text sep _ _ (λ _. hs)
    (either_run text semi _ _ (λ _. hc)
    (either_run text quotes _ _ (λ _. ht)
    (either_run text open' _ _ (λ _. ho) (either_run text close _ _ (λ _. hk) (either_run text quote _ _ (λ _. hq) (All-nil (IsRun text))))))))

-- nothing is left
runs_end : (text : List ℕ) (w : Where') (p : ℕ) → AreRuns text (parts_from w p [])
runs_end text Between p = All-nil (IsRun text)
runs_end text Within p = All-nil (IsRun text)
runs_end text Sharp p = All-nil (IsRun text)
runs_end text Comment p = All-nil (IsRun text)
runs_end text (Inside start so_far) p = open_literal_run text start
runs_end text (Escaped start so_far) p = open_literal_run text start

-- each token among the parts of what is left is a run
runs : (n : ℕ) (text : List ℕ) (w : Where') (p : ℕ) (done bs : List ℕ) → length bs ≤ n → Left text p done bs → Apart w done bs
    → AreRuns text (parts_from w p bs)
runs n text w p done [] few s apart = runs_end text w p
runs zero text w p done (b ∷ bs) few s apart = absurd (omega arith)
runs (suc n) text Between p done (b ∷ bs) few s apart =
    let few' : length bs ≤ n = omega arith in
    let s' : Left text (suc p) (done ++ b ∷ []) bs = one_more text p b done bs s in
    let letter : is_token_letter b ≡ true → AreRuns text (parts_from Between p (b ∷ bs)) =
    λ h. ⊎_elim
    (λ sharp.
    let is = both_hold (b == 35) (begins_with_quote bs) sharp in
    let same : b ≡ 35 = grind (arith, nat_tests) in
    rw (sharp_front p b bs same is.1) (quotes_run text true p (parts_from Sharp (suc p) bs) (runs n text Sharp (suc p) (done ++ b ∷ []) bs few' s' is.1)))
    (λ no_sharp.
    let k : ℕ = prefix_len is_token_letter (b ∷ bs) in
    let less : length (drop k (b ∷ bs)) ≤ n = omega (arith, length-drop k (b ∷ bs), some_letter b bs h) in
    rw (front_token p b bs h no_sharp)
    (All-cons (IsRun text) (Token' p (take k (b ∷ bs))) (parts_from Between (p + k) (drop k (b ∷ bs))) (first_run text p b done bs h s apart)
    (runs n text Between (p + k) (done ++ take k (b ∷ bs)) (drop k (b ∷ bs)) less (after_run text p k done (b ∷ bs) refl s)
    (before_none (done ++ take k (b ∷ bs)) (drop k (b ∷ bs)) (none_left (b ∷ bs))))))
    (cases_Bool ((b == 35) && begins_with_quote bs)) in
    let other : is_token_letter b ≡ false → AreRuns text (parts_from Between p (b ∷ bs)) =
    λ h.
    let rest : AreRuns text (parts_from Between (suc p) bs) = runs n text Between (suc p) (done ++ b ∷ []) bs few' s' (after_other b done bs h) in
    other_runs text (is_separator b) (b == 59) (b == 34) (b == 40) (b == 41) (b == 39) _ _ _ _ _ _ _ h rest
    (runs n text Comment (suc p) (done ++ b ∷ []) bs few' s' tt) (runs n text (Inside p []) (suc p) (done ++ b ∷ []) bs few' s' tt)
    (opens_run text p _ rest) (closes_run text p _ rest) (quotes_run text false p _ rest) in
    ⊎_elim letter other (cases_Bool (is_token_letter b))
runs (suc n) text Within p done (b ∷ bs) few s apart = absurd apart
runs (suc n) text Sharp p done (b ∷ bs) few s apart =
    let same : b ≡ 39 = grind (arith, nat_tests) in
    runs n text Between (suc p) (done ++ b ∷ []) bs (omega arith) (one_more text p b done bs s) (after_other b done bs (ap is_token_letter same))
runs (suc n) text Comment p done (b ∷ bs) few s apart =
    let few' : length bs ≤ n = omega arith in
    let s' : Left text (suc p) (done ++ b ∷ []) bs = one_more text p b done bs s in
    either_run text (b == 10) _ _
    (λ h. let same : b ≡ 10 = grind (arith, nat_tests) in runs n text Between (suc p) (done ++ b ∷ []) bs few' s' (after_other b done bs (ap is_token_letter same)))
    (runs n text Comment (suc p) (done ++ b ∷ []) bs few' s' tt)
runs (suc n) text (Inside start so_far) p done (b ∷ bs) few s apart =
    let few' : length bs ≤ n = omega arith in
    let s' : Left text (suc p) (done ++ b ∷ []) bs = one_more text p b done bs s in
    either_run text (b == 34) _ _
    (λ h. let same : b ≡ 34 = grind (arith, nat_tests) in literal_runs text start so_far _ (runs n text Between (suc p) (done ++ b ∷ []) bs few' s' (after_other b done bs (ap is_token_letter same))))
    (either_run text (b == 92) _ _ (λ _. runs n text (Escaped start so_far) (suc p) (done ++ b ∷ []) bs few' s' tt)
    (runs n text (Inside start (so_far ++ b ∷ [])) (suc p) (done ++ b ∷ []) bs few' s' tt))
runs (suc n) text (Escaped start so_far) p done (b ∷ bs) few s apart =
    runs n text (Inside start (so_far ++ b ∷ [])) (suc p) (done ++ b ∷ []) bs (omega arith) (one_more text p b done bs s) tt

-- each token of a text is a longest run of bytes that may belong to one
pub tokens_are_runs : TokensAreRuns
tokens_are_runs text place letters is =
    All-contains (IsRun text) _ (Token' place letters) (runs (length text) text Between 0 [] text (omega arith) (record { is = refl; at = refl }) refl) is
