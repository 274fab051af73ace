-- The refusal that is told is one of those of the expansion, and none of them comes before it.
use Rattle.std.proofs.Common.{◌≡◌, ◌⊎◌, inl, inr, ℕ, ◌<◌, ◌≤◌, List, [], ◌∷◌, Bool, true, false, Option, Some, None, ◌==◌, if◌then◌else◌, nat_lt, refl, ap, sym, subst, ◌∙◌, arith}
use Rattle.std.specs.List.{Contains}
use Rattle.std.proofs.lemmas.Bool.Decides.{nat_tests}
use Rattle.std.proofs.lemmas.List.Elements.{Contains-append_left, Contains-append_right, Contains-append_cases, Contains-push, Contains-push_cases}
use Rattle.lisp_base.specs.Forest.{NoTrees, Tree}
use Rattle.lisp_base.specs.declared.refusal.Refusal.{Refusal}
use Rattle.lisp_base.specs.declared.refusal.Refusal.TheVariants.{TooMany}
use Rattle.lisp_base.specs.declared.refusal.Refused.{Refused}
use Rattle.lisp_forms.specs.Laws.{FirstIsTold, IsRefusalIn, IsFormRefusal, IsLimitRefusal, IsTold}
use Rattle.lisp_forms.specs.Program.{before, comes_before, earlier, first_refusal, function_places, limit_refusal, most_functions, past_limit, program_refusal, refusal_of}
use Rattle.lisp_forms.specs.Trees.{Expansion}
use Rattle.lisp_forms.proofs.Limits.{before-first, not_before}
use Rattle.lisp_forms.specs.inside.Written.{one_before}

-- no refusal of the second comes before the first, where there is one
abbrev AtMost : Option Refused → Option Refused → Type 0
AtMost t None = Unit {0}
AtMost None (Some r) = ⊥
AtMost (Some t) (Some r) = comes_before r t ≡ false

-- none comes before itself
not_itself : (r : Refused) → comes_before r r ≡ false
not_itself r = grind (arith, nat_tests)

-- where the second comes before the first, the first does not come before the second
not_both : (a b : Refused) → comes_before b a ≡ true → comes_before a b ≡ false
not_both a b h = grind (arith, nat_tests)

-- what does not come before does not, one after the other
at_most_on : (a b c : Refused) → comes_before b a ≡ false → comes_before c b ≡ false → comes_before c a ≡ false
at_most_on a b c h k = grind (arith, nat_tests)

at_most_trans : (a b c : Option Refused) → AtMost a b → AtMost b c → AtMost a c
at_most_trans a b None h k = tt
at_most_trans a None (Some r) h k = absurd k
at_most_trans None (Some s) (Some r) h k = absurd h
at_most_trans (Some t) (Some s) (Some r) h k = at_most_on t s r h k

at_most_self : (a : Option Refused) → AtMost a a
at_most_self None = tt
at_most_self (Some r) = not_itself r

-- the earlier of two is at most both
earlier-left : (a b : Option Refused) → AtMost (earlier a b) a
earlier-left None b = tt
earlier-left (Some a) None = not_itself a
earlier-left (Some a) (Some b) = by (comes_before b a) refl
  where
    by : (t : Bool) → comes_before b a ≡ t → AtMost (if t then Some b else Some a) (Some a)
    by true h = not_both a b h
    by false h = not_itself a

earlier-right : (a b : Option Refused) → AtMost (earlier a b) b
earlier-right None b = at_most_self b
earlier-right (Some a) None = tt
earlier-right (Some a) (Some b) = by (comes_before b a) refl
  where
    by : (t : Bool) → comes_before b a ≡ t → AtMost (if t then Some b else Some a) (Some b)
    by true h = not_itself b
    by false h = h

-- the earlier of two is one of them
earlier-one : (a b : Option Refused) (t : Refused) → earlier a b ≡ Some t → (a ≡ Some t) ⊎ (b ≡ Some t)
earlier-one None b t e = inr e
earlier-one (Some a) None t e = inl e
earlier-one (Some a) (Some b) t e = by (comes_before b a) e
  where
    by : (c : Bool) → (if c then Some b else Some a) ≡ Some t → ◌≡◌ {A = Option Refused} (Some a) (Some t) ⊎ ◌≡◌ {A = Option Refused} (Some b) (Some t)
    by true h = inr h
    by false h = inl h

-- the first is at most what was found before
first-found : (found : Option Refused) (e : Expansion) → AtMost (first_refusal found e) found
first-found found NoTrees = at_most_self found
first-found found (Tree kind p under beside) =
    let now : Option Refused = earlier found (refusal_of kind p) in
    let deep : Option Refused = first_refusal now under in
    at_most_trans (first_refusal deep beside) deep found (first-found deep beside)
    (at_most_trans deep now found (first-found now under) (earlier-left found (refusal_of kind p)))

-- the first is at most each
first-each : (found : Option Refused) (e : Expansion) (r : Refused) → IsFormRefusal r e → AtMost (first_refusal found e) (Some r)
first-each found NoTrees r h = absurd h
first-each found (Tree kind p under beside) r (inl e) =
    let now : Option Refused = earlier found (refusal_of kind p) in
    let deep : Option Refused = first_refusal now under in
    let here : AtMost now (Some r) = subst (AtMost now) e (earlier-right found (refusal_of kind p)) in
    at_most_trans (first_refusal deep beside) deep (Some r) (first-found deep beside)
    (at_most_trans deep now (Some r) (first-found now under) here)
first-each found (Tree kind p under beside) r (inr (inl h)) =
    let now : Option Refused = earlier found (refusal_of kind p) in
    let deep : Option Refused = first_refusal now under in
    at_most_trans (first_refusal deep beside) deep (Some r) (first-found deep beside) (first-each now under r h)
first-each found (Tree kind p under beside) r (inr (inr h)) =
    first-each (first_refusal (earlier found (refusal_of kind p)) under) beside r h

-- the first is one of them
first-one : (found : Option Refused) (e : Expansion) (t : Refused) → first_refusal found e ≡ Some t → (found ≡ Some t) ⊎ IsFormRefusal t e
first-one found NoTrees t e = inl e
first-one found (Tree kind p under beside) t e =
    let now : Option Refused = earlier found (refusal_of kind p) in
    elim (first-one (first_refusal now under) beside t e) [
      | inr h ↦ inr (inr (inr h))
      | inl h ↦ elim (first-one now under t h) [
        | inr k ↦ inr (inr (inl k))
        | inl k ↦ elim (earlier-one found (refusal_of kind p) t k) [
          | inl l ↦ inl l
          | inr l ↦ inr (inl l)
        ]
      ]
    ]

-- a place among others
here : (p : ℕ) (ps : List ℕ) → Contains (p ∷ ps) p
here p ps = Contains-append_left (p ∷ []) ps p (Contains-push [] p)

later : (p : ℕ) (ps : List ℕ) (q : ℕ) → Contains ps q → Contains (p ∷ ps) q
later p ps q h = Contains-append_right (p ∷ []) ps q h

nothing_in : (q : ℕ) → Contains [] q → ⊥
nothing_in q h = omega (arith, h.1)

where_in : (p : ℕ) (ps : List ℕ) (q : ℕ) → Contains (p ∷ ps) q → (p ≡ q) ⊎ Contains ps q
where_in p ps q h =
    elim (Contains-append_cases (p ∷ []) ps q h) [
      | inr k ↦ inr k
      | inl k ↦ elim (Contains-push_cases [] p q k) [
        | inl l ↦ absurd (nothing_in q l)
        | inr l ↦ inl l
      ]
    ]

-- as many come before a later place, or more
one-more : (p q r : ℕ) → p ≤ q → one_before p r ≤ one_before q r
one-more p q r h = by (nat_lt r p) (nat_lt r q) refl refl
  where
    by : (t u : Bool) → nat_lt r p ≡ t → nat_lt r q ≡ u → (if t then 1 else 0) ≤ (if u then 1 else 0)
    by true true a b = omega arith
    by true false a b = absurd (grind (arith, nat_tests))
    by false true a b = omega arith
    by false false a b = omega arith

before-more : (p q : ℕ) (ps : List ℕ) → p ≤ q → before p ps ≤ before q ps
before-more p q [] h = omega arith
before-more p q (r ∷ ps) h = omega (arith, before-first p r ps, before-first q r ps, one-more p q r h, before-more p q ps h)

one-here : (p q : ℕ) → p < q → one_before q p ≡ 1
one-here p q h = by (nat_lt p q) refl
  where
    by : (t : Bool) → nat_lt p q ≡ t → ◌≡◌ {A = ℕ} (if t then 1 else 0) 1
    by true a = refl
    by false a = absurd (grind (arith, nat_tests))

-- more come before a later place
before-later : (p q : ℕ) (ps : List ℕ) → p < q → Contains ps p → before p ps < before q ps
before-later p q [] h k = absurd (nothing_in p k)
before-later p q (r ∷ ps) h k =
    elim (where_in r ps p k) [
      | inl e ↦ subst (λ x. before p (x ∷ ps) < before q (x ∷ ps)) (sym e)
          (omega (arith, before-first p p ps, before-first q p ps, not_before p, one-here p q h, before-more p q ps (omega (arith, h))))
      | inr l ↦ omega (arith, before-first p r ps, before-first q r ps, one-more p q r (omega (arith, h)), before-later p q ps h l)
    ]

-- the place that is past the limit is one of them, and so many come before it
past-one : (all ps : List ℕ) (q : ℕ) → past_limit all ps ≡ Some q → Contains ps q × (before q all ≡ most_functions)
past-one all [] q e = absurd (cc)
past-one all (p ∷ ps) q e = by (before p all == most_functions) refl e (past-one all ps q)
  where
    by : (t : Bool) → (before p all == most_functions) ≡ t → (if t then Some p else past_limit all ps) ≡ Some q
        → (past_limit all ps ≡ Some q → Contains ps q × (before q all ≡ most_functions)) → Contains (p ∷ ps) q × (before q all ≡ most_functions)
    by true h f rest =
        let same : p ≡ q = cc in
        (subst (Contains (p ∷ ps)) same (here p ps), sym (ap (λ x. before x all) same) ∙ grind (arith, nat_tests))
    by false h f rest = let l : Contains ps q × (before q all ≡ most_functions) = rest f in (later p ps q l.0, l.1)

-- where none is past the limit, so many come before none
past-none : (all ps : List ℕ) (q : ℕ) → past_limit all ps ≡ None → Contains ps q → before q all ≡ most_functions → ⊥
past-none all [] q e h k = nothing_in q h
past-none all (p ∷ ps) q e h k = by (before p all == most_functions) refl e (past-none all ps q)
  where
    by : (t : Bool) → (before p all == most_functions) ≡ t → (if t then Some p else past_limit all ps) ≡ None
        → (past_limit all ps ≡ None → Contains ps q → before q all ≡ most_functions → ⊥) → ⊥
    by true a f rest = cc
    by false a f rest =
        elim (where_in p ps q h) [
          | inl same ↦ grind (arith, nat_tests, a, ap (λ x. before x all) same, k)
          | inr l ↦ rest f l k
        ]

-- the refusal of the limit is at most each that is one
limit-each : (e : Expansion) (r : Refused) → IsLimitRefusal r e → AtMost (limit_refusal (past_limit (function_places e) (function_places e))) (Some r)
limit-each e r h = by (past_limit (function_places e) (function_places e)) refl
  where
    by : (o : Option ℕ) → past_limit (function_places e) (function_places e) ≡ o → AtMost (limit_refusal o) (Some r)
    by None a = past-none (function_places e) (function_places e) r.place a h.1 h.2
    by (Some q) a =
        let l : Contains (function_places e) q × (before q (function_places e) ≡ most_functions) = past-one (function_places e) (function_places e) q a in
        let later : ¬ (r.place < q) = λ less. omega (arith, before-later r.place q (function_places e) less h.1, h.2, l.1) in
        grind (arith, nat_tests, later, h.0)

-- what a refusal is, and its place; where there is none they do not matter
told_refusal : Option Refused → Refusal
told_refusal None = TooMany
told_refusal (Some r) = r.refusal

told_place : Option Refused → ℕ
told_place None = 0
told_place (Some r) = r.place

-- the refusal of the limit is one
limit-one : (e : Expansion) (t : Refused) → limit_refusal (past_limit (function_places e) (function_places e)) ≡ Some t → IsLimitRefusal t e
unfolding told_refusal told_place
limit-one e t h = by (past_limit (function_places e) (function_places e)) refl h
  where
    by : (o : Option ℕ) → past_limit (function_places e) (function_places e) ≡ o → limit_refusal o ≡ Some t → IsLimitRefusal t e
    by None a b = absurd (cc)
    by (Some q) a b =
        let l : Contains (function_places e) q × (before q (function_places e) ≡ most_functions) = past-one (function_places e) (function_places e) q a in
        let place : q ≡ t.place = ap told_place b in
        (sym (ap told_refusal b), subst (Contains (function_places e)) place l.0, sym (ap (λ x. before x (function_places e)) place) ∙ l.1)

-- what is told is at most each
told-each : (e : Expansion) (r : Refused) → IsRefusalIn r e → AtMost (program_refusal e) (Some r)
told-each e r (inl h) =
    let form : Option Refused = first_refusal None e in
    let limit : Option Refused = limit_refusal (past_limit (function_places e) (function_places e)) in
    at_most_trans (earlier form limit) form (Some r) (earlier-left form limit) (first-each None e r h)
told-each e r (inr h) =
    let form : Option Refused = first_refusal None e in
    let limit : Option Refused = limit_refusal (past_limit (function_places e) (function_places e)) in
    at_most_trans (earlier form limit) limit (Some r) (earlier-right form limit) (limit-each e r h)

-- what is told is one of them
told-one : (e : Expansion) (t : Refused) → program_refusal e ≡ Some t → IsRefusalIn t e
told-one e t h =
    elim (earlier-one (first_refusal None e) (limit_refusal (past_limit (function_places e) (function_places e))) t h) [
      | inr k ↦ inr (limit-one e t k)
      | inl k ↦ elim (first-one None e t k) [
        | inl l ↦ absurd (cc)
        | inr l ↦ inl l
      ]
    ]

-- the first is told
pub first_is_told : FirstIsTold
first_is_told e = by (program_refusal e) refl
  where
    by : (o : Option Refused) → program_refusal e ≡ o → IsTold o e
    by None h = λ r k. subst (λ t. AtMost t (Some r)) h (told-each e r k)
    by (Some t) h = (told-one e t h, λ r k. subst (λ u. AtMost u (Some r)) h (told-each e r k))
