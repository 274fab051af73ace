-- In a text without comments and string literals a longest run of bytes that may belong to a token is one.
use Rattle.std.specs.List.{Contains, list_all, prefix_len}
use Rattle.std.proofs.Common.{◌≡◌, ◌⊎◌, ℕ, zero, suc, ◌+◌, ◌-◌, ◌<◌, ◌≤◌, Bool, true, false, ◌&&◌, ◌||◌, ◌==◌, not, List, [], ◌∷◌, ◌++◌, length, get_or, take, drop, reverse, refl, ap, inl, inr, sym, ◌∙◌, arith, append_assoc, length-append, length-drop, ⊎_elim}
use Rattle.std.proofs.Math.Seq.{drop-append_seam, take-append_seam}
use Rattle.std.proofs.lemmas.Bool.{cases_Bool, cases_lt}
use Rattle.std.proofs.lemmas.Bool.Decides.{nat_tests}
use Rattle.std.proofs.lemmas.List.{drop-drop, get_or-drop, get_or-reverse, get_or_append_left, length-reverse}
use Rattle.std.proofs.lemmas.List.Elements.{Contains-append_left, Contains-append_right, Contains-push}
use Rattle.std.proofs.lemmas.List.Sums.{prefix_len_passes}
use Rattle.lisp_reader.specs.Parts.{Between, Part, Opens, Closes, Quotes, Token', begins_with_quote, is_separator, parts_from, is_token_letter}
use Rattle.lisp_reader.specs.Tokens.{IsLongestRun, RunsAreTokens, begins_with_letter, is_plain}
use Rattle.lisp_reader.proofs.Parted.{by_tests, front_token}
use Rattle.lisp_reader.proofs.Runs.{both_hold, sharp_front, some_letter}

-- a text from a run on
from_run : (text : List ℕ) (place : ℕ) (letters : List ℕ) → (r : IsLongestRun text place letters) → drop place text ≡ letters ++ r.after
from_run text place letters r =
    ap (drop place) (r.stands ∙ append_assoc r.before letters r.after) ∙ ap (λ k. drop k (r.before ++ (letters ++ r.after))) (sym r.at)
    ∙ drop-append_seam r.before (letters ++ r.after)

-- some letters begin with a letter
begins : (letters after : List ℕ) → 0 < length letters → list_all is_token_letter letters ≡ true → begins_with_letter (letters ++ after) ≡ true
begins [] after some all = absurd (omega arith)
begins (b ∷ bs) after some all = (both_hold (is_token_letter b) (list_all is_token_letter bs) all).0

-- they are as many as there are before the next byte that is none
run_length : (letters after : List ℕ) → list_all is_token_letter letters ≡ true → begins_with_letter after ≡ false
    → prefix_len is_token_letter (letters ++ after) ≡ length letters
run_length [] [] all none = refl
run_length [] (b ∷ bs) all none = rw none refl
run_length (b ∷ bs) after all none =
    let both = both_hold (is_token_letter b) (list_all is_token_letter bs) all in
    rw both.0 (omega (arith, run_length bs after both.1 none))

-- a run by the bytes at its place
run_is : (text bs : List ℕ) (place : ℕ) (letters : List ℕ) → IsLongestRun text place letters → drop place text ≡ bs
    → letters ≡ take (prefix_len is_token_letter bs) bs
run_is text bs place letters r here =
    let same : bs ≡ letters ++ r.after = sym here ∙ from_run text place letters r in
    sym
    (ap (λ xs. take (prefix_len is_token_letter xs) xs) same ∙ ap (λ k. take k (letters ++ r.after)) (run_length letters r.after r.all r.none_after)
    ∙ take-append_seam letters r.after)

-- a run stands where a letter is
run_begins : (text bs : List ℕ) (place : ℕ) (letters : List ℕ) → IsLongestRun text place letters → drop place text ≡ bs → begins_with_letter bs ≡ true
run_begins text bs place letters r here =
    ap begins_with_letter (sym here ∙ from_run text place letters r) ∙ begins letters r.after r.some r.all

-- the first byte of some
first_byte : (bs : List ℕ) → 0 < length bs → begins_with_letter bs ≡ is_token_letter (get_or bs 0 0)
first_byte [] some = absurd (omega arith)
first_byte (b ∷ bs) some = refl

-- the byte before a run is no letter
byte_before : (text : List ℕ) (q : ℕ) (letters : List ℕ) → IsLongestRun text (suc q) letters → is_token_letter (get_or text q 0) ≡ false
byte_before text q letters r =
    let long : q < length r.before = omega (arith, r.at) in
    let some : 0 < length (reverse r.before) = omega (arith, length-reverse r.before) in
    let last : length r.before - 1 - 0 ≡ q = omega (arith, r.at) in
    let byte : get_or text q 0 ≡ get_or (reverse r.before) 0 0 =
    ap (λ xs. get_or xs q 0) (r.stands ∙ append_assoc r.before letters r.after) ∙ get_or_append_left r.before (letters ++ r.after) 0 q long
    ∙ ap (λ k. get_or r.before k 0) (sym last) ∙ sym (get_or-reverse r.before 0 0 (omega arith)) in
    ap is_token_letter byte ∙ sym (first_byte (reverse r.before) some) ∙ r.none_before

-- no run begins within another
no_run_within : (text bs : List ℕ) (p place : ℕ) (letters : List ℕ) → drop p text ≡ bs → IsLongestRun text place letters → p < place
    → place < p + prefix_len is_token_letter bs → ⊥
no_run_within text bs p zero letters here r after within = omega arith
no_run_within text bs p (suc q) letters here r after within =
    let byte : get_or bs (q - p) 0 ≡ get_or text q 0 =
    let sum : p + (q - p) ≡ q = omega arith in
    ap (λ xs. get_or xs (q - p) 0) (sym here) ∙ get_or-drop p text (q - p) 0 ∙ ap (λ k. get_or text k 0) sum in
    let letter : is_token_letter (get_or bs (q - p) 0) ≡ true = prefix_len_passes is_token_letter bs (q - p) 0 (omega arith) in
    let none : is_token_letter (get_or bs (q - p) 0) ≡ false = ap is_token_letter byte ∙ byte_before text q letters r in
    let wrong : true ≡ false = sym letter ∙ none in
    absurd (cc)

-- what is left after some bytes more
further : (text bs : List ℕ) (p k : ℕ) → drop p text ≡ bs → drop (p + k) text ≡ drop k bs
further text bs p k here = sym (drop-drop k p text) ∙ ap (drop k) here

-- after one more
one_further : (text bs : List ℕ) (p b : ℕ) → drop p text ≡ b ∷ bs → drop (suc p) text ≡ bs
one_further text bs p b here =
    let one : suc p ≡ p + 1 = omega arith in
    ap (λ k. drop k text) one ∙ further text (b ∷ bs) p 1 here

-- a text stays plain
plain_later : (k : ℕ) (bs : List ℕ) → list_all is_plain bs ≡ true → list_all is_plain (drop k bs) ≡ true
plain_later zero bs plain = plain
plain_later (suc k) [] plain = refl
plain_later (suc k) (b ∷ bs) plain = plain_later k bs (both_hold (is_plain b) (list_all is_plain bs) plain).1

-- neither of two tests
neither : (v w : Bool) → not (v || w) ≡ true → (v ≡ false) × (w ≡ false)
neither true w h = absurd (cc)
neither false true h = absurd (cc)
neither false false h = (refl, refl)

-- a run is a token among these parts, or the `#` of a quote
abbrev Found : (text : List ℕ) (place : ℕ) (letters : List ℕ) → IsLongestRun text place letters → List Part → Type 0
Found text place letters r ps = Contains ps (Token' place letters) ⊎ ((letters ≡ 35 ∷ []) × (begins_with_quote r.after ≡ true))

-- it is among more parts
found_later : (text : List ℕ) (place : ℕ) (letters : List ℕ) (r : IsLongestRun text place letters) (part : Part) (ps : List Part)
    → Found text place letters r ps → Found text place letters r (part ∷ ps)
found_later text place letters r part ps found =
    ⊎_elim (λ is. inl (Contains-append_right (part ∷ []) ps (Token' place letters) is)) (λ sharp. inr sharp) found

-- it is the first of some parts
found_first : (text : List ℕ) (place : ℕ) (letters : List ℕ) (r : IsLongestRun text place letters) (part : Part) (ps : List Part)
    → part ≡ Token' place letters → Found text place letters r (part ∷ ps)
found_first text place letters r part ps is =
    rw is (inl (Contains-append_left (Token' place letters ∷ []) ps (Token' place letters) (Contains-push [] (Token' place letters))))

-- where a byte is neither a letter nor begins a comment or a literal
found_other : (P : List Part → Type 0) (sep semi text open' close quote : Bool) (s c t o k q other : List Part)
    → not (sep || semi || text || open' || close || quote) ≡ false → semi ≡ false → text ≡ false → P s → P o → P k → P q
    → P (by_tests sep semi text open' close quote s c t o k q other)
found_other P true semi text open' close quote s c t o k q other h no_semi no_text hs ho hk hq = hs
found_other P false true text open' close quote s c t o k q other h no_semi no_text hs ho hk hq = absurd (cc)
found_other P false false true open' close quote s c t o k q other h no_semi no_text hs ho hk hq = absurd (cc)
found_other P false false false true close quote s c t o k q other h no_semi no_text hs ho hk hq = ho
found_other P false false false false true quote s c t o k q other h no_semi no_text hs ho hk hq = hk
found_other P false false false false false true s c t o k q other h no_semi no_text hs ho hk hq = hq
found_other P false false false false false false s c t o k q other h no_semi no_text hs ho hk hq = absurd (cc)

-- what is known of runs in shorter texts
abbrev Known : ℕ → (text : List ℕ) (place : ℕ) (letters : List ℕ) → IsLongestRun text place letters → Type 0
Known n text place letters r =
    (p : ℕ) (bs : List ℕ) → length bs ≤ n → drop p text ≡ bs → list_all is_plain bs ≡ true → p ≤ place
    → Found text place letters r (parts_from Between p bs)

-- at the `#` of a quote
found_sharp : (n : ℕ) (text : List ℕ) (place : ℕ) (letters : List ℕ) (r : IsLongestRun text place letters) → Known n text place letters r
    → (p b : ℕ) (bs : List ℕ) → length bs ≤ n → drop p text ≡ b ∷ bs → list_all is_plain bs ≡ true → p ≤ place → is_token_letter b ≡ true → b ≡ 35
    → begins_with_quote bs ≡ true → Found text place letters r (parts_from Between p (b ∷ bs))
found_sharp n text place letters r known p b [] few here plain on letter same quote = absurd (cc)
found_sharp n text place letters r known p b (c ∷ cs) few here plain on letter same quote =
    let quote' : c ≡ 39 = grind (arith, nat_tests) in
    let none : is_token_letter c ≡ false = ap is_token_letter quote' in
    let one_here : drop (suc p) text ≡ c ∷ cs = one_further text (c ∷ cs) p b here in
    let here_now : place ≡ p → Found text place letters r (parts_from Between p (b ∷ c ∷ cs)) =
    λ at.
    let bytes : drop place text ≡ b ∷ c ∷ cs = ap (λ k. drop k text) at ∙ here in
    let one : prefix_len is_token_letter (b ∷ c ∷ cs) ≡ 1 = rw (letter, none) refl in
    let is : letters ≡ b ∷ [] = run_is text (b ∷ c ∷ cs) place letters r bytes ∙ ap (λ k. take k (b ∷ c ∷ cs)) one in
    let all : b ∷ c ∷ cs ≡ (b ∷ []) ++ r.after = sym bytes ∙ from_run text place letters r ∙ ap (λ xs. xs ++ r.after) is in
    let rest : r.after ≡ c ∷ cs = cc in
    inr (is ∙ ap (λ x. x ∷ []) same, ap begins_with_quote rest ∙ quote) in
    let later : p < place → Found text place letters r (parts_from Between p (b ∷ c ∷ cs)) =
    λ after.
    let apart : ¬ (place ≡ suc p) =
    λ at.
    let wrong : is_token_letter c ≡ true = run_begins text (c ∷ cs) place letters r (ap (λ k. drop k text) at ∙ one_here) in
    let both : true ≡ false = sym wrong ∙ none in absurd (cc) in
    let shorter : length cs ≤ n = omega arith in
    let beyond : suc (suc p) ≤ place = omega (arith, apart) in
    let found = known (suc (suc p)) cs shorter (one_further text cs (suc p) c one_here) (plain_later 1 (c ∷ cs) plain) beyond in
    rw (sharp_front p b (c ∷ cs) same quote) (found_later text place letters r (Quotes true p) (parts_from Between (suc (suc p)) cs) found) in
    ⊎_elim later (λ before. here_now (omega arith)) (cases_lt p place)

-- at a token
found_token : (n : ℕ) (text : List ℕ) (place : ℕ) (letters : List ℕ) (r : IsLongestRun text place letters) → Known n text place letters r
    → (p b : ℕ) (bs : List ℕ) → length bs ≤ n → drop p text ≡ b ∷ bs → list_all is_plain (b ∷ bs) ≡ true → p ≤ place → is_token_letter b ≡ true
    → ((b == 35) && begins_with_quote bs) ≡ false → Found text place letters r (parts_from Between p (b ∷ bs))
found_token n text place letters r known p b bs few here plain on letter no_sharp =
    let k : ℕ = prefix_len is_token_letter (b ∷ bs) in
    let here_now : place ≡ p → Found text place letters r (parts_from Between p (b ∷ bs)) =
    λ at.
    let is : letters ≡ take k (b ∷ bs) = run_is text (b ∷ bs) place letters r (ap (λ j. drop j text) at ∙ here) in
    rw (front_token p b bs letter no_sharp) (found_first text place letters r (Token' p (take k (b ∷ bs))) (parts_from Between (p + k) (drop k (b ∷ bs))) (rw (at, is) refl)) in
    let later : p < place → Found text place letters r (parts_from Between p (b ∷ bs)) =
    λ after.
    let beyond : p + k ≤ place = ⊎_elim (λ within. absurd (no_run_within text (b ∷ bs) p place letters here r after within)) (λ beyond. beyond) (cases_lt place (p + k)) in
    let shorter : length (drop k (b ∷ bs)) ≤ n = omega (arith, length-drop k (b ∷ bs), some_letter b bs letter) in
    let found = known (p + k) (drop k (b ∷ bs)) shorter (further text (b ∷ bs) p k here) (plain_later k (b ∷ bs) plain) beyond in
    rw (front_token p b bs letter no_sharp) (found_later text place letters r (Token' p (take k (b ∷ bs))) (parts_from Between (p + k) (drop k (b ∷ bs))) found) in
    ⊎_elim later (λ before. here_now (omega arith)) (cases_lt p place)

-- at a byte that may not belong to a token
found_none : (n : ℕ) (text : List ℕ) (place : ℕ) (letters : List ℕ) (r : IsLongestRun text place letters) → Known n text place letters r
    → (p b : ℕ) (bs : List ℕ) → length bs ≤ n → drop p text ≡ b ∷ bs → list_all is_plain (b ∷ bs) ≡ true → p ≤ place → is_token_letter b ≡ false
    → Found text place letters r (parts_from Between p (b ∷ bs))
found_none n text place letters r known p b bs few here plain on none =
    let both = both_hold (is_plain b) (list_all is_plain bs) plain in
    let no = neither (b == 59) (b == 34) both.0 in
    let apart : ¬ (place ≡ p) =
    λ at.
    let letter : is_token_letter b ≡ true = run_begins text (b ∷ bs) place letters r (ap (λ k. drop k text) at ∙ here) in
    let wrong : true ≡ false = sym letter ∙ none in absurd (cc) in
    let beyond : suc p ≤ place = omega (arith, apart) in
    let found : Found text place letters r (parts_from Between (suc p) bs) = known (suc p) bs few (one_further text bs p b here) both.1 beyond in
    found_other (Found text place letters r) (is_separator b) (b == 59) (b == 34) (b == 40) (b == 41) (b == 39) _ _ _ _ _ _ _ none no.0 no.1 found
    (found_later text place letters r (Opens p) _ found) (found_later text place letters r (Closes p) _ found)
    (found_later text place letters r (Quotes false p) _ found)

-- a run that is still to come is found
found : (n : ℕ) (text : List ℕ) (place : ℕ) (letters : List ℕ) (r : IsLongestRun text place letters) → Known n text place letters r
found n text place letters r p [] few here plain on =
    absurd
    (omega (arith, ap length here, length-drop p text, length-drop place text, ap length (from_run text place letters r), length-append letters r.after, r.some))
found zero text place letters r p (b ∷ bs) few here plain on = absurd (omega arith)
found (suc n) text place letters r p (b ∷ bs) few here plain on =
    let known : Known n text place letters r = found n text place letters r in
    let few' : length bs ≤ n = omega arith in
    let rest : list_all is_plain bs ≡ true = plain_later 1 (b ∷ bs) plain in
    ⊎_elim
    (λ letter.
    ⊎_elim
    (λ sharp.
    let is = both_hold (b == 35) (begins_with_quote bs) sharp in
    let same : b ≡ 35 = grind (arith, nat_tests) in
    found_sharp n text place letters r known p b bs few' here rest on letter same is.1)
    (λ no_sharp. found_token n text place letters r known p b bs few' here plain on letter no_sharp)
    (cases_Bool ((b == 35) && begins_with_quote bs)))
    (λ none. found_none n text place letters r known p b bs few' here plain on none)
    (cases_Bool (is_token_letter b))

-- in a plain text each run is a token, or the `#` of a quote
pub runs_are_tokens : RunsAreTokens
runs_are_tokens text place letters plain r = found (length text) text place letters r 0 text (omega arith) refl plain (omega arith)
