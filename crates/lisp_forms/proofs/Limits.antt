-- The places of functions, and the limit of how many there may be.
use Rattle.std.proofs.Common.{◌≡◌, ◌≢◌, ℕ, suc, ◌+◌, ◌<◌, ◌≤◌, List, [], ◌∷◌, ◌++◌, Bool, true, false, Option, Some, None, ◌==◌, if◌then◌else◌, nat_lt, length, get_or, drop, refl, ap, sym, ◌∙◌, arith, append_assoc, append-nil, add-one, drop-cons, length-append}
use Rattle.std.proofs.lemmas.Bool.Decides.{nat_tests}
use Rattle.std.proofs.Math.ListN.{drop_of_length-le}
use Rattle.lisp_base.specs.Forest.{NoTrees, Tree}
use Rattle.lisp_base.specs.declared.refusal.Refused.{Refused}
use Rattle.form_shapes.proofs.Chosen.{other_of}
use Rattle.form_shapes.specs.declared.expanded.ExpandedNode.{ExpandedNode}
use Rattle.lisp_forms.specs.inside.Flat.{flat}
use Rattle.lisp_forms.specs.Program.{before, earlier, first_refusal, function_places, most_functions, past_limit, refusal_of}
use Rattle.lisp_forms.specs.Blocks.{is_function}
use Rattle.lisp_forms.specs.Trees.{Expansion}
use Rattle.lisp_forms.specs.inside.Written.{one_before, place_here}

-- the first refusal of these nodes and that one
abbrev pub first_in : Option Refused → List ExpandedNode → Option Refused
first_in found [] = found
first_in found (n ∷ ns) = first_in (earlier found (refusal_of n.kind n.place)) ns

-- of nodes one after the other
first_in-append : (found : Option Refused) (xs ys : List ExpandedNode) → first_in found (xs ++ ys) ≡ first_in (first_in found xs) ys
first_in-append found [] ys = refl
first_in-append found (x ∷ xs) ys = first_in-append (earlier found (refusal_of x.kind x.place)) xs ys

-- the first of the nodes is the first of the forms
pub first_in-flat : (found : Option Refused) (e : Expansion) → first_in found (flat e) ≡ first_refusal found e
first_in-flat found NoTrees = refl
first_in-flat found (Tree kind p under beside) =
    let now : Option Refused = earlier found (refusal_of kind p) in
    first_in-append now (flat under) (flat beside) ∙ ap (λ r. first_in r (flat beside)) (first_in-flat now under)
    ∙ first_in-flat (first_refusal now under) beside

-- none is left
pub first_end : (found : Option Refused) (i : ℕ) (ns : List ExpandedNode) (e : Expansion) → length ns ≤ i → first_in found (drop i ns) ≡ first_in None ns → ns ≡ flat e
    → found ≡ first_refusal None e
first_end found i ns e h so_far is =
    sym (ap (first_in found) (drop_of_length-le ns {i = i} h)) ∙ so_far ∙ ap (first_in None) is ∙ first_in-flat None e

-- the places of the functions among nodes
abbrev pub places_in : List ExpandedNode → List ℕ
places_in [] = []
places_in (n ∷ ns) = place_here n ++ places_in ns

places_in-append : (xs ys : List ExpandedNode) → places_in (xs ++ ys) ≡ places_in xs ++ places_in ys
places_in-append [] ys = refl
places_in-append (x ∷ xs) ys = ap (λ ps. place_here x ++ ps) (places_in-append xs ys) ∙ sym (append_assoc (place_here x) (places_in xs) (places_in ys))

-- the first place in front of others
place-first : (t : Bool) (p : ℕ) (ps : List ℕ) → (if t then p ∷ [] else []) ++ ps ≡ (if t then p ∷ ps else ps)
place-first true p ps = refl
place-first false p ps = refl

pub places_in-flat : (e : Expansion) → places_in (flat e) ≡ function_places e
places_in-flat NoTrees = refl
places_in-flat (Tree kind p under beside) =
    place-first (is_function kind) p (places_in (flat under ++ flat beside))
    ∙ ap (λ ps. if is_function kind then p ∷ ps else ps)
    (places_in-append (flat under) (flat beside) ∙ ap (λ ps. ps ++ places_in (flat beside)) (places_in-flat under)
    ∙ ap (λ ps. function_places under ++ ps) (places_in-flat beside))

pub places_end : (ps : List ℕ) (i : ℕ) (ns : List ExpandedNode) (e : Expansion) → length ns ≤ i → ps ++ places_in (drop i ns) ≡ places_in ns → ns ≡ flat e → ps ≡ function_places e
places_end ps i ns e h so_far is =
    sym (append-nil ps) ∙ sym (ap (λ ms. ps ++ places_in ms) (drop_of_length-le ns {i = i} h)) ∙ so_far ∙ ap places_in is ∙ places_in-flat e

-- one place more or not
pub before-first : (q p : ℕ) (ps : List ℕ) → before q (p ∷ ps) ≡ one_before q p + before q ps
before-first q p ps = by (nat_lt p q)
  where
    by : (t : Bool) → (if t then suc (before q ps) else before q ps) ≡ (if t then 1 else 0) + before q ps
    by true = omega arith
    by false = omega arith

one_before-few : (q p : ℕ) → one_before q p ≤ 1
one_before-few q p = by (nat_lt p q)
  where
    by : (t : Bool) → (if t then 1 else 0) ≤ 1
    by true = omega arith
    by false = omega arith

-- no more come before it than there are
before-few : (q : ℕ) (ps : List ℕ) → before q ps ≤ length ps
before-few q [] = omega arith
before-few q (p ∷ ps) = omega (arith, before-first q p ps, one_before-few q p, before-few q ps)

-- of places one after the other
before-append : (q : ℕ) (xs ys : List ℕ) → before q (xs ++ ys) ≡ before q xs + before q ys
before-append q [] ys = omega arith
before-append q (x ∷ xs) ys = omega (arith, before-first q x (xs ++ ys), before-first q x xs, before-append q xs ys)

-- none comes before itself
pub not_before : (q : ℕ) → one_before q q ≡ 0
not_before q = by (nat_lt q q) refl
  where
    by : (t : Bool) → nat_lt q q ≡ t → ◌≡◌ {A = ℕ} (if t then 1 else 0) 0
    by true h = absurd (grind (arith, nat_tests))
    by false h = refl

before-less : (q : ℕ) (xs ys : List ℕ) → before q (xs ++ (q ∷ ys)) < length (xs ++ (q ∷ ys))
before-less q xs ys =
    omega (arith, before-append q xs (q ∷ ys), before-first q q ys, not_before q, before-few q xs, before-few q ys, length-append xs (q ∷ ys))

-- where there are no more places than there may be, none is past the limit
no_limit : (xs ys : List ℕ) → length (xs ++ ys) ≤ most_functions → past_limit (xs ++ ys) ys ≡ None
no_limit xs [] h = refl
no_limit xs (y ∷ ys) h =
    let less : before y (xs ++ (y ∷ ys)) < length (xs ++ (y ∷ ys)) = before-less y xs ys in
    let not_many : before y (xs ++ (y ∷ ys)) ≢ most_functions = omega (arith, less, h) in
    let test : (before y (xs ++ (y ∷ ys)) == most_functions) ≡ false = grind (arith, nat_tests) in
    let split : xs ++ (y ∷ ys) ≡ (xs ++ (y ∷ [])) ++ ys = sym (append_assoc xs (y ∷ []) ys) in
    let few : length ((xs ++ (y ∷ [])) ++ ys) ≤ most_functions = omega (arith, h, ap length split) in
    other_of (before y (xs ++ (y ∷ ys)) == most_functions) (Some y) (past_limit (xs ++ (y ∷ ys)) ys) test
    ∙ ap (λ zs. past_limit zs ys) split
    ∙ no_limit (xs ++ (y ∷ [])) ys few

pub within_limit : (ps : List ℕ) → length ps ≤ most_functions → None ≡ past_limit ps ps
within_limit ps h = sym (no_limit [] ps h)

-- one more is looked at
pub before_next : (q : ℕ) (ps : List ℕ) (i p n : ℕ) (all : ℕ) → i < length ps → p ≡ get_or ps i p → n + before q (drop i ps) ≡ all → n + one_before q p + before q (drop (i + 1) ps) ≡ all
before_next q ps i p n all h is so_far =
    let split : drop i ps ≡ p ∷ drop (i + 1) ps = drop-cons ps i p h ∙ ap (λ r. r ∷ drop (suc i) ps) (sym is) ∙ ap (λ k. p ∷ drop k ps) (sym (add-one i)) in
    omega (arith, so_far, ap (before q) split, before-first q p (drop (i + 1) ps))
