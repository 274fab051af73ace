-- How a token falls out of a text.
use Rattle.std.specs.List.{prefix_len}
use Rattle.std.proofs.Common.{◌≡◌, ℕ, suc, ◌+◌, ◌<◌, ◌≤◌, Bool, true, false, not, ◌&&◌, ◌||◌, cond, ◌==◌, List, [], ◌∷◌, length, get_or, take, drop, refl, ap, subst, arith, sym, ◌∙◌, length-drop}
use Rattle.std.proofs.lemmas.Bool.Decides.{nat_tests}
use Rattle.std.proofs.lemmas.List.{drop_more, drop-drop}
use Rattle.std.proofs.lemmas.List.Sums.{prefix_len-le-length}
use Rattle.lisp_reader.specs.Parts.{Where', Between, Within, Sharp, Comment, Inside, Escaped, Part, Opens, Closes, Quotes, Literal, OpenLiteral, Token', begins_with_quote, parts_from, with_token_letter, is_token_letter}
use Rattle.lisp_reader.specs.Parts.{is_separator}

-- the part by the tests of a byte, one after the other
abbrev pub by_tests : (sep semi text open' close quote : Bool) → (s c t o k q other : List Part) → List Part
by_tests sep semi text open' close quote s c t o k q other =
    cond sep s (cond semi c (cond text t (cond open' o (cond close k (cond quote q other)))))

-- a byte that fails all tests
other_case : (sep semi text open' close quote : Bool) (s c t o k q other : List Part)
    → not (sep || semi || text || open' || close || quote) ≡ true
    → by_tests sep semi text open' close quote s c t o k q other ≡ other
other_case true semi text open' close quote s c t o k q other h = cc
other_case false true text open' close quote s c t o k q other h = cc
other_case false false true open' close quote s c t o k q other h = cc
other_case false false false true close quote s c t o k q other h = cc
other_case false false false false true quote s c t o k q other h = cc
other_case false false false false false true s c t o k q other h = cc
other_case false false false false false false s c t o k q other h = refl

-- where a byte passes a test, what is else does not matter
pub same_case : (sep semi text open' close quote : Bool) (s c t o k q other other' : List Part)
    → not (sep || semi || text || open' || close || quote) ≡ false
    → by_tests sep semi text open' close quote s c t o k q other ≡ by_tests sep semi text open' close quote s c t o k q other'
same_case true semi text open' close quote s c t o k q other other' h = refl
same_case false true text open' close quote s c t o k q other other' h = refl
same_case false false true open' close quote s c t o k q other other' h = refl
same_case false false false true close quote s c t o k q other other' h = refl
same_case false false false false true quote s c t o k q other other' h = refl
same_case false false false false false true s c t o k q other other' h = refl
same_case false false false false false false s c t o k q other other' h = cc

-- no token in front begins before this place
abbrev Starts : ℕ → List Part → Type 0
Starts q [] = Unit {0}
Starts q (Token' p letters ∷ ps) = q ≤ p
Starts q (other ∷ ps) = Unit {0}

-- what begins after the next place begins after this one
starts_earlier : (q : ℕ) (ps : List Part) → Starts (suc q) ps → Starts q ps
starts_earlier q [] h = tt
starts_earlier q (Token' p letters ∷ ps) h = omega arith
starts_earlier q (Opens p ∷ ps) h = tt
starts_earlier q (Closes p ∷ ps) h = tt
starts_earlier q (Quotes f p ∷ ps) h = tt
starts_earlier q (Literal p cs ∷ ps) h = tt
starts_earlier q (OpenLiteral p ∷ ps) h = tt

-- so for one of two
starts_cond : (q : ℕ) (v : Bool) (xs ys : List Part) → Starts q xs → Starts q ys → Starts q (cond v xs ys)
starts_cond q true xs ys h i = h
starts_cond q false xs ys h i = i

-- a letter begins at its own place
starts_letter : (q b : ℕ) (ps : List Part) → Starts q (with_token_letter q b ps)
starts_letter q b [] = omega arith
starts_letter q b (Token' p letters ∷ ps) = starts_cond q (p == suc q) _ _ (omega arith) (omega arith)
starts_letter q b (Opens p ∷ ps) = omega arith
starts_letter q b (Closes p ∷ ps) = omega arith
starts_letter q b (Quotes f p ∷ ps) = omega arith
starts_letter q b (Literal p cs ∷ ps) = omega arith
starts_letter q b (OpenLiteral p ∷ ps) = omega arith

-- what begins where a byte passes a test
starts_tests : (r : ℕ) (sep semi text open' close quote : Bool) (s c t o k q other : List Part)
    → Starts r s → Starts r c → Starts r t → Starts r o → Starts r k → Starts r q → Starts r other
    → Starts r (by_tests sep semi text open' close quote s c t o k q other)
starts_tests r sep semi text open' close quote s c t o k q other hs hc ht ho hk hq h =
    starts_cond r sep _ _ hs (starts_cond r semi _ _ hc (starts_cond r text _ _ ht (starts_cond r open' _ _ ho (starts_cond r close _ _ hk (starts_cond r quote _ _ hq h)))))

-- no token of a text begins before the text
starts : (w : Where') (q : ℕ) (bs : List ℕ) → Starts q (parts_from w q bs)
starts Between q [] = tt
starts Within q [] = tt
starts Sharp q [] = tt
starts Comment q [] = tt
starts (Inside start so_far) q [] = tt
starts (Escaped start so_far) q [] = tt
starts Between q (b ∷ bs) =
    starts_tests q (is_separator b) (b == 59) (b == 34) (b == 40) (b == 41) (b == 39) _ _ _ _ _ _ _
    (starts_earlier q _ (starts Between (suc q) bs)) (starts_earlier q _ (starts Comment (suc q) bs)) (starts_earlier q _ (starts (Inside q []) (suc q) bs)) tt tt tt
    (starts_cond q ((b == 35) && begins_with_quote bs) _ _ tt (starts_letter q b _))
starts Within q (b ∷ bs) =
    starts_tests q (is_separator b) (b == 59) (b == 34) (b == 40) (b == 41) (b == 39) _ _ _ _ _ _ _
    (starts_earlier q _ (starts Between (suc q) bs)) (starts_earlier q _ (starts Comment (suc q) bs)) (starts_earlier q _ (starts (Inside q []) (suc q) bs)) tt tt tt
    (starts_letter q b _)
starts Sharp q (b ∷ bs) = starts_earlier q _ (starts Between (suc q) bs)
starts Comment q (b ∷ bs) =
    starts_cond q (b == 10) _ _ (starts_earlier q _ (starts Between (suc q) bs)) (starts_earlier q _ (starts Comment (suc q) bs))
starts (Inside start so_far) q (b ∷ bs) =
    starts_cond q (b == 34) _ _ tt
    (starts_cond q (b == 92) _ _ (starts_earlier q _ (starts (Escaped start so_far) (suc q) bs)) (starts_earlier q _ (starts (Inside start _) (suc q) bs)))
starts (Escaped start so_far) q (b ∷ bs) = starts_earlier q _ (starts (Inside start _) (suc q) bs)

-- behind a token no letter is left: it is as between parts
no_letter : (p b : ℕ) (bs : List ℕ) → is_token_letter b ≡ false → parts_from Within p (b ∷ bs) ≡ parts_from Between p (b ∷ bs)
no_letter p b bs h = same_case (is_separator b) (b == 59) (b == 34) (b == 40) (b == 41) (b == 39) _ _ _ _ _ _ _ _ h

-- a letter goes on a token
a_letter : (p b : ℕ) (bs : List ℕ) → is_token_letter b ≡ true → parts_from Within p (b ∷ bs) ≡ with_token_letter p b (parts_from Within (suc p) bs)
a_letter p b bs h = other_case (is_separator b) (b == 59) (b == 34) (b == 40) (b == 41) (b == 39) _ _ _ _ _ _ _ h

-- a letter that is no `#` of a quote begins one
first_letter : (p b : ℕ) (bs : List ℕ) → is_token_letter b ≡ true → ((b == 35) && begins_with_quote bs) ≡ false
    → parts_from Between p (b ∷ bs) ≡ with_token_letter p b (parts_from Within (suc p) bs)
first_letter p b bs h no_quote =
    other_case (is_separator b) (b == 59) (b == 34) (b == 40) (b == 41) (b == 39) _ _ _ _ _ _ _ h
    ∙ ap (λ v. cond v (Quotes true p ∷ parts_from Sharp (suc p) bs) (with_token_letter p b (parts_from Within (suc p) bs))) no_quote

-- a byte that is no letter begins no token
starts_other : (r : ℕ) (sep semi text open' close quote : Bool) (s c t o k q other : List Part)
    → not (sep || semi || text || open' || close || quote) ≡ false
    → Starts r s → Starts r c → Starts r t → Starts r o → Starts r k → Starts r q
    → Starts r (by_tests sep semi text open' close quote s c t o k q other)
starts_other r sep semi text open' close quote s c t o k q other h hs hc ht ho hk hq =
    subst (Starts r) (same_case sep semi text open' close quote s c t o k q [] other h) (starts_tests r sep semi text open' close quote s c t o k q [] hs hc ht ho hk hq tt)

-- so what is behind a token begins later
starts_behind : (p b : ℕ) (bs : List ℕ) → is_token_letter b ≡ false → Starts (suc p) (parts_from Within p (b ∷ bs))
starts_behind p b bs h =
    starts_other (suc p) (is_separator b) (b == 59) (b == 34) (b == 40) (b == 41) (b == 39) _ _ _ _ _ _ _ h
    (starts Between (suc p) bs) (starts Comment (suc p) bs) (starts (Inside p []) (suc p) bs) tt tt tt

-- a letter goes in front of what begins later
letter_alone : (p b : ℕ) (ps : List Part) → Starts (suc (suc p)) ps → with_token_letter p b ps ≡ Token' p (b ∷ []) ∷ ps
letter_alone p b [] h = refl
letter_alone p b (Token' q letters ∷ ps) h =
    let other : (q == suc p) ≡ false = grind (arith, nat_tests) in
    rw other refl
letter_alone p b (Opens q ∷ ps) h = refl
letter_alone p b (Closes q ∷ ps) h = refl
letter_alone p b (Quotes f q ∷ ps) h = refl
letter_alone p b (Literal q cs ∷ ps) h = refl
letter_alone p b (OpenLiteral q ∷ ps) h = refl

-- a letter goes in front of the token that begins right behind it
letter_joins : (p b : ℕ) (letters : List ℕ) (ps : List Part)
    → with_token_letter p b (Token' (suc p) letters ∷ ps) ≡ Token' p (b ∷ letters) ∷ ps
letter_joins p b letters ps =
    let same : (suc p == suc p) ≡ true = grind (arith, nat_tests) in
    rw same refl

-- the token of a letter and so many that follow it, and the parts behind it
abbrev with_token : ℕ → ℕ → ℕ → List ℕ → List Part
with_token p b n bs = Token' p (b ∷ take n bs) ∷ parts_from Between (suc p + n) (drop n bs)

-- a token by what the next byte is
token_goes_on : (p b c : ℕ) (cs : List ℕ) (v : Bool) → is_token_letter c ≡ v
    → with_token_letter (suc p) c (parts_from Within (suc (suc p)) cs) ≡ with_token (suc p) c (prefix_len is_token_letter cs) cs
    → with_token_letter p b (parts_from Within (suc p) (c ∷ cs)) ≡ with_token p b (cond v (1 + prefix_len is_token_letter cs) 0) (c ∷ cs)
token_goes_on p b c cs false other later =
    let next : suc p + 0 ≡ suc p = omega arith in
    rw (next, letter_alone p b (parts_from Within (suc p) (c ∷ cs)) (starts_behind (suc p) c cs other)) (ap (λ ps. Token' p (b ∷ []) ∷ ps) (no_letter (suc p) c cs other))
token_goes_on p b c cs true letter later =
    let one : 1 + prefix_len is_token_letter cs ≡ suc (prefix_len is_token_letter cs) = omega arith in
    let next : suc p + suc (prefix_len is_token_letter cs) ≡ suc (suc p) + prefix_len is_token_letter cs = omega arith in
    rw (one, next) (ap (with_token_letter p b) (a_letter (suc p) c cs letter ∙ later) ∙ letter_joins p b _ _)

-- a token is the letters with which a text goes on
token_in_front : (p b : ℕ) (bs : List ℕ)
    → with_token_letter p b (parts_from Within (suc p) bs) ≡ with_token p b (prefix_len is_token_letter bs) bs
token_in_front p b [] = refl
token_in_front p b (c ∷ cs) = token_goes_on p b c cs (is_token_letter c) refl (token_in_front (suc p) c cs)

-- a token at the front of a text
pub front_token : (p b : ℕ) (bs : List ℕ) → is_token_letter b ≡ true → ((b == 35) && begins_with_quote bs) ≡ false
    → parts_from Between p (b ∷ bs)
    ≡ Token' p (take (prefix_len is_token_letter (b ∷ bs)) (b ∷ bs))
    ∷ parts_from Between (p + prefix_len is_token_letter (b ∷ bs)) (drop (prefix_len is_token_letter (b ∷ bs)) (b ∷ bs))
front_token p b bs h no_quote =
    let one : 1 + prefix_len is_token_letter bs ≡ suc (prefix_len is_token_letter bs) = omega arith in
    let next : p + suc (prefix_len is_token_letter bs) ≡ suc p + prefix_len is_token_letter bs = omega arith in
    rw (h, one, next) (first_letter p b bs h no_quote ∙ token_in_front p b bs)

-- what a text is from a place on: a token there
pub token_at : (text : List ℕ) (at n : ℕ) → at < length text → is_token_letter (get_or text at 0) ≡ true
    → ((get_or text at 0 == 35) && begins_with_quote (drop (at + 1) text)) ≡ false → n ≡ prefix_len is_token_letter (drop at text)
    → parts_from Between at (drop at text) ≡ Token' at (take n (drop at text)) ∷ parts_from Between (at + n) (drop (at + n) text)
token_at text at n inside h no_quote is =
    let here = drop_more text at 0 inside in
    rw (is, ← drop-drop)
    (subst (λ (bs : List ℕ). parts_from Between at bs ≡ Token' at (take (prefix_len is_token_letter bs) bs) ∷ parts_from Between (at + prefix_len is_token_letter bs) (drop (prefix_len is_token_letter bs) bs))
    (sym here) (front_token at (get_or text at 0) (drop (at + 1) text) h no_quote))

-- a token ends within the text
pub token_within : (text : List ℕ) (at : ℕ) → at ≤ length text → at + prefix_len is_token_letter (drop at text) ≤ length text
token_within text at inside = omega (arith, prefix_len-le-length is_token_letter (drop at text), length-drop at text)

-- a token has a letter
pub token_length : (text : List ℕ) (at : ℕ) → at < length text → is_token_letter (get_or text at 0) ≡ true
    → 0 < prefix_len is_token_letter (drop at text)
token_length text at inside h = rw (drop_more text at 0 inside, h) (omega arith)
