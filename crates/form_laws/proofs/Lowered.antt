-- What is left where some implicit blocks are not made names what is open round it.
use Rattle.std.proofs.Common.{◌≡◌, inl, inr, ℕ, suc, ◌+◌, ◌-◌, ◌<◌, ◌≤◌, List, [], ◌∷◌, Bool, true, false, ◌||◌, if◌then◌else◌, nat_lt, length, replicate, refl, ap, sym, subst, ◌∙◌, arith}
use Rattle.std.proofs.lemmas.Bool.Decides.{nat_tests}
use Rattle.lisp_base.specs.Forest.{NoTrees, Tree}
use Rattle.lisp_program.specs.declared.form.CoreKind.{CoreKind}
use Rattle.lisp_program.specs.declared.form.CoreKind.TheVariants as k
use Rattle.form_shapes.specs.declared.expanded.Expanded.{Expanded}
use Rattle.form_shapes.specs.declared.expanded.Expanded.TheVariants.{Form, InBlock, Lambda, Defun, Refused, RefusedFunction}
use Rattle.form_shapes.specs.declared.expanded.Turning.{Turning}
use Rattle.form_shapes.specs.declared.expanded.Turning.TheVariants.{While, Let}
use Rattle.lisp_forms.specs.Blocks.{is_function, is_made, is_return_to, less, lowered, lowered_core, lowered_kind, not_made_round, not_made_under, returns_to, turning_kind}
use Rattle.lisp_forms.specs.Trees.{Expansion}
use Rattle.form_laws.specs.Scoping.{Opening, Variable, Entry, Flag, Naming, NamesNone, Uses, Opens, IsNamedIn, IsOpen, naming_of, opened_by}
use Rattle.form_laws.specs.inside.Openings.{IsRound, naming_in, opened_under}
use Rattle.form_laws.specs.inside.Marks.{AreUnused, Gone, Mark, Stays, all_of, gone_of, left_of}

-- as much is open as there are marks
length-all : (ms : List Mark) → length (all_of ms) ≡ length ms
length-all [] = refl
length-all (Stays o ∷ ms) = ap suc (length-all ms)
length-all (Gone ∷ ms) = ap suc (length-all ms)

-- each of them stays or is not made
length-parts : (ms : List Mark) → length ms ≡ length (gone_of ms) + length (left_of ms)
length-parts [] = omega arith
length-parts (Stays o ∷ ms) = omega (arith, length-parts ms)
length-parts (Gone ∷ ms) = omega (arith, length-parts ms)

-- these numbers are all less than that one
abbrev AreLess : List ℕ → ℕ → Type 0
AreLess [] x = Unit {0}
AreLess (n ∷ ns) x = (n < x) × AreLess ns x

less-on : (ns : List ℕ) (x y : ℕ) → x ≤ y → AreLess ns x → AreLess ns y
less-on [] x y h l = tt
less-on (n ∷ ns) x y h l = (omega (arith, h, l.0), less-on ns x y h l.1)

gone-less : (ms : List Mark) → AreLess (gone_of ms) (length ms)
gone-less [] = tt
gone-less (Stays o ∷ ms) = less-on (gone_of ms) (length ms) (suc (length ms)) (omega arith) (gone-less ms)
gone-less (Gone ∷ ms) = (omega arith, less-on (gone_of ms) (length ms) (suc (length ms)) (omega arith) (gone-less ms))

-- what is less is so by the test
is-less : (n x : ℕ) → n < x → nat_lt n x ≡ true
is-less n x h = by (nat_lt n x) refl
  where
    by : (t : Bool) → nat_lt n x ≡ t → nat_lt n x ≡ true
    by true e = e
    by false e = absurd (grind (arith, nat_tests))

is-not-less : (n x : ℕ) → x ≤ n → nat_lt n x ≡ false
is-not-less n x h = by (nat_lt n x) refl
  where
    by : (t : Bool) → nat_lt n x ≡ t → nat_lt n x ≡ false
    by true e = absurd (grind (arith, nat_tests))
    by false e = e

-- all blocks that are not made stand round what has a greater number
all-round : (ns : List ℕ) (x : ℕ) → AreLess ns x → not_made_round ns x ≡ length ns
all-round [] x l = refl
all-round (n ∷ ns) x l = ap (λ t. if t then length (n ∷ ns) else not_made_round ns x) (is-less n x l.0)

-- the next number is as many as are left
next-number : (ms : List Mark) (x : ℕ) → x ≡ length (all_of ms) → less (gone_of ms) x ≡ length (left_of ms)
next-number ms x h =
    let here : x ≡ length ms = h ∙ length-all ms in
    ap (less (gone_of ms)) here
    ∙ ap (λ m. length ms - m) (all-round (gone_of ms) (length ms) (gone-less ms))
    ∙ omega (arith, length-parts ms)

-- what is open has a number
open-less : (o : Opening) (os : List Opening) (n : ℕ) → IsOpen o os n → n < length os
open-less o [] n h = absurd h
open-less o (x ∷ xs) n (inl e) = omega (arith, e.1)
open-less o (x ∷ xs) n (inr h) = omega (arith, open-less o xs n h)

-- this number, if it is that of a block, is none of these
abbrev IsApart : Opening → ℕ → List ℕ → Type 0
IsApart o x [] = Unit {0}
IsApart o x (n ∷ ns) = (Entry ≡ o → x ≡ n → ⊥) × IsApart o x ns

-- what is open stays open where it is used
open-left : (ms : List Mark) (o : Opening) (x : ℕ) → IsOpen o (all_of ms) x → IsApart o x (gone_of ms) → IsOpen o (left_of ms) (less (gone_of ms) x)
open-left [] o x h a = absurd h
open-left (Stays q ∷ ms) o x (inl e) a = inl (e.0, next-number ms x e.1)
open-left (Stays q ∷ ms) o x (inr h) a = inr (open-left ms o x h a)
open-left (Gone ∷ ms) o x (inl e) a = absurd (a.0 e.0 (e.1 ∙ length-all ms))
open-left (Gone ∷ ms) o x (inr h) a =
    let below : x ≤ length ms = omega (arith, open-less o (all_of ms) x h, length-all ms) in
    let same : not_made_round (length ms ∷ gone_of ms) x ≡ not_made_round (gone_of ms) x =
    ap (λ t. if t then length (length ms ∷ gone_of ms) else not_made_round (gone_of ms) x) (is-not-less (length ms) x below) in
    subst (IsOpen o (left_of ms)) (ap (λ m. x - m) (sym same)) (open-left ms o x h a.1)

-- what does not return to any of these blocks
abbrev ReturnsToNone : List ℕ → Expanded → Type 0
ReturnsToNone [] kind = Unit {0}
ReturnsToNone (n ∷ ns) kind = (is_return_to n kind ≡ false) × ReturnsToNone ns kind

-- what is no entry is apart from all
apart-variable : (ns : List ℕ) (x : ℕ) → IsApart Variable x ns
apart-variable [] x = tt
apart-variable (n ∷ ns) x = (λ e h. cc, apart-variable ns x)

apart-flag : (ns : List ℕ) (x : ℕ) → IsApart Flag x ns
apart-flag [] x = tt
apart-flag (n ∷ ns) x = (λ e h. cc, apart-flag ns x)

apart-entry : (ns : List ℕ) (x : ℕ) → ReturnsToNone ns (Form (k.ReturnFrom x)) → IsApart Entry x ns
apart-entry [] x h = tt
apart-entry (n ∷ ns) x h = (λ e same. grind (arith, nat_tests, h.0, same), apart-entry ns x h.1)

-- a form where some blocks are not made
named-core : (ms : List Mark) (kind : CoreKind) → IsNamedIn (all_of ms) (naming_of kind) → ReturnsToNone (gone_of ms) (Form kind)
    → IsNamedIn (left_of ms) (naming_of (lowered_core (gone_of ms) kind))
named-core ms (k.Local x) h r = open-left ms Variable x h (apart-variable (gone_of ms) x)
named-core ms (k.SetLocal x) h r = open-left ms Variable x h (apart-variable (gone_of ms) x)
named-core ms (k.ReturnFrom x) h r = open-left ms Entry x h (apart-entry (gone_of ms) x r)
named-core ms (k.AllowWithInterrupts x) h r = open-left ms Flag x h (apart-flag (gone_of ms) x)
named-core ms (k.BindLocal x above) h r = next-number ms x h
named-core ms (k.ClauseWith class x) h r = next-number ms x h
named-core ms (k.Block x) h r = next-number ms x h
named-core ms (k.WithoutInterrupts x) h r = next-number ms x h
named-core ms _ h r = tt

-- it opens what it opened
opens-same : (os : List Opening) (gone : List ℕ) (kind : CoreKind) → opened_by os (naming_of (lowered_core gone kind)) ≡ opened_by os (naming_of kind)
opens-same os gone (k.Local x) = refl
opens-same os gone (k.SetLocal x) = refl
opens-same os gone (k.ReturnFrom x) = refl
opens-same os gone (k.AllowWithInterrupts x) = refl
opens-same os gone (k.BindLocal x above) = refl
opens-same os gone (k.ClauseWith class x) = refl
opens-same os gone (k.Block x) = refl
opens-same os gone (k.WithoutInterrupts x) = refl
opens-same os gone _ = refl

-- where these name what is open, what is left of them names what is left
abbrev IsLeft : Expansion → Type 0
IsLeft e = (ms : List Mark) → IsRound (all_of ms) e → AreUnused (gone_of ms) e → IsRound (left_of ms) (lowered (gone_of ms) e)

-- under a form that names an opening so
left-under : (under : Expansion) → IsLeft under → (ms : List Mark) (naming : Naming) → IsRound (opened_by (all_of ms) naming) under
    → AreUnused (gone_of ms) under → IsRound (opened_by (left_of ms) naming) (lowered (gone_of ms) under)
left-under under rec ms NamesNone h u = rec ms h u
left-under under rec ms (Uses o n) h u = rec ms h u
left-under under rec ms (Opens o n) h u = rec (Stays o ∷ ms) h u

-- all of these stay
abbrev stays : List Opening → List Mark
stays [] = []
stays (o ∷ os) = Stays o ∷ stays os

all-stays : (os : List Opening) → all_of (stays os) ≡ os
all-stays [] = refl
all-stays (o ∷ os) = ap (λ xs. o ∷ xs) (all-stays os)

left-stays : (os : List Opening) → left_of (stays os) ≡ os
left-stays [] = refl
left-stays (o ∷ os) = ap (λ xs. o ∷ xs) (left-stays os)

gone-stays : (os : List Opening) → gone_of (stays os) ≡ []
gone-stays [] = refl
gone-stays (o ∷ os) = gone-stays os

-- where all stay
left-all : (e : Expansion) → IsLeft e → (os : List Opening) → IsRound os e → IsRound os (lowered [] e)
left-all e rec os h =
    let unused : AreUnused (gone_of (stays os)) e = subst (λ ns. AreUnused ns e) (sym (gone-stays os)) tt in
    let left : IsRound (left_of (stays os)) (lowered (gone_of (stays os)) e) = rec (stays os) (subst (λ xs. IsRound xs e) (sym (all-stays os)) h) unused in
    subst (λ xs. IsRound xs (lowered [] e)) (left-stays os) (subst (λ ns. IsRound (left_of (stays os)) (lowered ns e)) (gone-stays os) left)

-- none of three
none_of_three : (a b c : Bool) → (a || b || c) ≡ false → (a ≡ false) × (b ≡ false) × (c ≡ false)
none_of_three false false false h = (refl, refl, refl)
none_of_three false false true h = absurd (cc)
none_of_three false true c h = absurd (cc)
none_of_three true b c h = absurd (cc)

-- what is not used in all is not used in the parts
unused-parts : (n : ℕ) (kind : Expanded) (p : ℕ) (under beside : Expansion) → returns_to n (Tree kind p under beside) ≡ false
    → (is_return_to n kind ≡ false) × ((if is_function kind then false else returns_to n under) ≡ false) × (returns_to n beside ≡ false)
unused-parts n kind p under beside h =
    none_of_three (is_return_to n kind) (if is_function kind then false else returns_to n under) (returns_to n beside) h

returns-none : (ns : List ℕ) (kind : Expanded) (p : ℕ) (under beside : Expansion) → AreUnused ns (Tree kind p under beside) → ReturnsToNone ns kind
returns-none [] kind p under beside u = tt
returns-none (n ∷ ns) kind p under beside u = ((unused-parts n kind p under beside u.0).0, returns-none ns kind p under beside u.1)

unused-under : (ns : List ℕ) (kind : Expanded) (p : ℕ) (under beside : Expansion) → is_function kind ≡ false → AreUnused ns (Tree kind p under beside)
    → AreUnused ns under
unused-under [] kind p under beside f u = tt
unused-under (n ∷ ns) kind p under beside f u =
    (sym (ap (λ t. if t then false else returns_to n under) f) ∙ (unused-parts n kind p under beside u.0).1, unused-under ns kind p under beside f u.1)

unused-beside : (ns : List ℕ) (kind : Expanded) (p : ℕ) (under beside : Expansion) → AreUnused ns (Tree kind p under beside) → AreUnused ns beside
unused-beside [] kind p under beside u = tt
unused-beside (n ∷ ns) kind p under beside u = ((unused-parts n kind p under beside u.0).2, unused-beside ns kind p under beside u.1)

-- a `while` and a `let` name nothing
named-turning : (os : List Opening) (turning : Turning) → IsNamedIn os (naming_of (turning_kind turning))
named-turning os While = tt
named-turning os Let = tt

under-turning : (os : List Opening) (turning : Turning) (e : Expansion) → IsRound os e → IsRound (opened_by os (naming_of (turning_kind turning))) e
under-turning os While e h = h
under-turning os Let e h = h

-- a form and what is under it
left-one : (kind : Expanded) (p : ℕ) (under beside : Expansion) (made : Bool) → is_made kind under ≡ made → IsLeft under → (ms : List Mark)
    → IsNamedIn (all_of ms) (naming_in kind) → IsRound (opened_under (all_of ms) kind) under → AreUnused (gone_of ms) (Tree kind p under beside)
    → IsNamedIn (left_of ms) (naming_in (lowered_kind (gone_of ms) kind made))
    × IsRound (opened_under (left_of ms) (lowered_kind (gone_of ms) kind made)) (lowered (not_made_under (gone_of ms) kind made) under)
left-one (Form kind) p under beside made is rec ms n h u = (
  named-core ms kind n (returns-none (gone_of ms) (Form kind) p under beside u),
  subst (λ os. IsRound os (lowered (gone_of ms) under)) (sym (opens-same (left_of ms) (gone_of ms) kind))
      (left-under under rec ms (naming_of kind) h (unused-under (gone_of ms) (Form kind) p under beside refl u)),
)
left-one (InBlock x turning) p under beside true is rec ms n h u =
    (next-number ms x n, rec (Stays Entry ∷ ms) h (unused-under (gone_of ms) (InBlock x turning) p under beside refl u))
left-one (InBlock x turning) p under beside false is rec ms n h u =
    let number : x ≡ length ms = n ∙ length-all ms in
    let unused : AreUnused (length ms ∷ gone_of ms) under =
    (sym (ap (λ m. returns_to m under) number) ∙ is, unused-under (gone_of ms) (InBlock x turning) p under beside refl u) in (
      named-turning (left_of ms) turning,
      under-turning (left_of ms) turning (lowered (x ∷ gone_of ms) under)
          (subst (λ m. IsRound (left_of ms) (lowered (m ∷ gone_of ms) under)) (sym number) (rec (Gone ∷ ms) h unused)),
    )
left-one (Lambda parameters) p under beside made is rec ms n h u = (tt, left-all under rec (replicate parameters Variable) h)
left-one (Defun f parameters) p under beside made is rec ms n h u = (tt, left-all under rec (replicate parameters Variable) h)
left-one (Refused refusal) p under beside made is rec ms n h u =
    (tt, rec ms h (unused-under (gone_of ms) (Refused refusal) p under beside refl u))
left-one (RefusedFunction refusal) p under beside made is rec ms n h u = (tt, left-all under rec [] h)

-- what is left of these
left-round : (e : Expansion) → IsLeft e
left-round NoTrees ms h u = tt
left-round (Tree kind p under beside) ms h u =
    let one : IsNamedIn (left_of ms) (naming_in (lowered_kind (gone_of ms) kind (is_made kind under)))
    × IsRound (opened_under (left_of ms) (lowered_kind (gone_of ms) kind (is_made kind under))) (lowered (not_made_under (gone_of ms) kind (is_made kind under)) under) =
    left-one kind p under beside (is_made kind under) refl (left-round under) ms h.0 h.1 u in
    (one.0, one.1, left-round beside ms h.2 (unused-beside (gone_of ms) kind p under beside u))

-- where all blocks that are not made are in these
pub lowered-round : (os : List Opening) (e : Expansion) → IsRound os e → IsRound os (lowered [] e)
lowered-round os e h = left-all e (left-round e) os h

-- where a block round these is not made
pub unblocked-round : (os : List Opening) (n : ℕ) (e : Expansion) → n ≡ length os → returns_to n e ≡ false → IsRound (Entry ∷ os) e → IsRound os (lowered (n ∷ []) e)
unblocked-round os n e number none h =
    let long : length (stays os) ≡ length os = sym (length-all (stays os)) ∙ ap length (all-stays os) in
    let same : n ≡ length (stays os) = number ∙ sym long in
    let unused : AreUnused (length (stays os) ∷ gone_of (stays os)) e =
    (sym (ap (λ m. returns_to m e) same) ∙ none, subst (λ ns. AreUnused ns e) (sym (gone-stays os)) tt) in
    let left : IsRound (left_of (stays os)) (lowered (length (stays os) ∷ gone_of (stays os)) e) =
    left-round e (Gone ∷ stays os) (subst (λ xs. IsRound (Entry ∷ xs) e) (sym (all-stays os)) h) unused in
    subst (λ xs. IsRound xs (lowered (n ∷ []) e)) (left-stays os)
    (subst (λ m. IsRound (left_of (stays os)) (lowered (m ∷ []) e)) (sym same)
    (subst (λ ns. IsRound (left_of (stays os)) (lowered (length (stays os) ∷ ns) e)) (gone-stays os) left))
