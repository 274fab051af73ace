-- Interning a name: whether there is room for it, its number, and the names then.
use Rattle.std.specs.List.{list_any}
use Rattle.std.specs.Str.{bytes_eq}
use Rattle.std.proofs.Common.{◌≡◌, ℕ, ◌<◌, inl, inr, true, false, Some, Ok, Err, List, [], ◌∷◌, ◌++◌, nat_lt, length, get_or, slice_get, Contains, refl, ap, sym, ◌∙◌, arith}
use Rattle.std.proofs.lemmas.Bool.{false_from_ne_true}
use Rattle.std.proofs.lemmas.Bool.Decides.{nat_tests}
use Rattle.std.proofs.lemmas.Cmp.{nat_list_eq_equiv}
use Rattle.std.proofs.lemmas.List.{get_or_push, length_push}
use Rattle.std.proofs.lemmas.List.Sums.{position_or_len_is}
use Rattle.std.proofs.lemmas.Map.Views.{Contains-from_any, list_any-from_Contains}
use Rattle.std.proofs.lemmas.Option.{slice_get-get_or, slice_get_within, get_or_from_slice_get}
use Rattle.std.proofs.lemmas.Slice.Eq.{bytes_eq-Decides}
use Rattle.lisp_base.specs.declared.refusal.Refusal.{Refusal}
use Rattle.lisp_base.specs.declared.refusal.Rejection.{Rejection}
use Rattle.lisp_base.specs.declared.refusal.Rejection.TheVariants.{Refused}
use Rattle.symbol_table.specs.Names.{AreDifferent, Interns, IsAdded, IsKnown, IsTable}
use Rattle.symbol_table.specs.declared.TheConstants.{NAMES}
use Rattle.symbol_table.specs.declared.error.InternError.{InternError}
use Rattle.symbol_table.specs.declared.error.InternError.TheVariants.{TooMany, Memory}
use Rattle.lisp_reader.specs.inside.Marking.{IsInterned, IsNotInterned}
use Rattle.lisp_reader.specs.Tables.{has_room, number_in}

-- a name that has a number is found
known_found : (names : List (List ℕ)) (name : List ℕ) (id : ℕ) → slice_get names id ≡ Some name → list_any (bytes_eq name) names ≡ true
known_found names name id found =
    list_any-from_Contains nat_list_eq_equiv name names (id, slice_get_within names id name found, get_or_from_slice_get names id name name found)

-- one that is not there is not found
absent_lost : (names : List (List ℕ)) (name : List ℕ) → (Contains names name → ⊥) → list_any (bytes_eq name) names ≡ false
absent_lost names name absent =
    false_from_ne_true _ (λ h. absent (Contains-from_any (λ x y. (bytes_eq-Decides x y).0) name names h))

-- before the place of a name, no name is the same
others_differ : (names : List (List ℕ)) (name : List ℕ) (id k : ℕ) → AreDifferent names → slice_get names id ≡ Some name → k < id
    → bytes_eq name (get_or names k []) ≡ false
others_differ names name id k different found before =
    let inside = slice_get_within names id name found in
    false_from_ne_true _ (λ h.
    let same : name ≡ get_or names k [] = (bytes_eq-Decides name (get_or names k [])).0 h in
    let at_both : slice_get names k ≡ Some name = slice_get-get_or names k [] (omega arith) ∙ ap Some (sym same) in
    let one : k ≡ id = different k id name at_both found in
    absurd (omega arith))

-- in a table without two equal names, the place of a name is its number
pub number_of : (names : List (List ℕ)) (name : List ℕ) (id : ℕ) → AreDifferent names → slice_get names id ≡ Some name → id ≡ number_in names name
number_of names name id different found =
    let inside = slice_get_within names id name found in
    sym (position_or_len_is (bytes_eq name) names id [] (omega arith) (λ k before. others_differ names name id k different found before)
    (λ _. (bytes_eq-Decides name (get_or names id [])).1 (sym (get_or_from_slice_get names id name [] found))))

-- a name that was known is interned
known_interned : (old new : List (List ℕ)) (name : List ℕ) (id : ℕ) → AreDifferent new → IsKnown old new name id → IsInterned old new name id
known_interned old new name id different k =
    let found : list_any (bytes_eq name) old ≡ true = known_found old name id k.found in
    record {
      room = rw found refl;
      number = number_of new name id different (ap (λ names. slice_get names id) k.same ∙ k.found);
      names = rw found k.same;
    }

-- the last name has the last place
last_found : (names : List (List ℕ)) (name : List ℕ) (id : ℕ) → id ≡ length names → slice_get (names ++ name ∷ []) id ≡ Some name
last_found names name id is =
    slice_get-get_or (names ++ name ∷ []) id [] (omega (arith, length_push names name)) ∙ ap Some (get_or_push names name [] id (sym is))

-- a name that was added is interned
added_interned : (old new : List (List ℕ)) (name : List ℕ) (id : ℕ) → AreDifferent new → IsAdded old new name id → IsInterned old new name id
added_interned old new name id different a =
    let lost : list_any (bytes_eq name) old ≡ false = absent_lost old name a.unknown in
    let fits : nat_lt (length old) NAMES ≡ true = grind (arith, nat_tests, a.room) in
    record {
      room = rw lost fits;
      number = number_of new name id different (ap (λ names. slice_get names id) a.added ∙ last_found old name id a.next);
      names = rw lost a.added;
    }

-- what an answer with a number says
pub interned : (old new : List (List ℕ)) (name : List ℕ) (id : ℕ) → IsTable new → Interns old new name (Ok id) → IsInterned old new name id
interned old new name id table (inl k) = known_interned old new name id table.different k
interned old new name id table (inr a) = added_interned old new name id table.different a

-- what it says that there are too many
pub no_room : (old new : List (List ℕ)) (name : List ℕ) (e : InternError) → e ≡ TooMany → Interns old new name (Err e)
    → (has_room old name ≡ false) × (new ≡ old)
no_room old new name TooMany is full =
    let lost : list_any (bytes_eq name) old ≡ false = absent_lost old name full.unknown in
    let many : nat_lt (length old) NAMES ≡ false = grind (arith, nat_tests, full.full) in (rw (lost, many) refl, full.same)
no_room old new name Memory is short = cc

-- a name that has no room is refused
pub not_interned : (refusal : Refusal) (at : ℕ) (old new : List (List ℕ)) (name : List ℕ) (r : Rejection) → r ≡ Refused refusal at
    → (has_room old name ≡ false) × (new ≡ old) → IsNotInterned refusal at old new name r
not_interned refusal at old new name r is h = rw is (h.0, refl, refl, h.1)
