-- What the keys of a set of texts say of their bytes.
use Rattle.std.proofs.Common.{◌≡◌, ℕ, ◌+◌, ◌<◌, Bool, true, false, true≢false, not, if◌then◌else◌, suc, zero, cond, ◌||◌, ◌⊎◌, inl, inr, List, [], ◌∷◌, ◌++◌, length, map, get_or, slice_get, Contains, Some, position, refl, sym, ap, subst, ◌∙◌, arith, length-append}
use Rattle.std.specs.Str.{bytes_eq}
use Rattle.std.specs.List.{list_any, prefix_len}
use Rattle.std.specs.String.{string_bytes, string_eq}
use Rattle.indexmap.specs.IndexSet.{insert_key}
use Rattle.indexmap.proofs.CallerLemmas.{Contains-list_any}
use Rattle.std.specs.declared.string.String.{String}
use Rattle.std.proofs.lemmas.List.{length-map, map-append}
use Rattle.std.proofs.lemmas.List.Quantifiers.{position-Some}
use Rattle.std.proofs.lemmas.Map.Views.{list_any-from_Contains}
use Rattle.std.proofs.lemmas.Option.{slice_get-get_or, slice_get_within, get_or_from_slice_get}
use Rattle.std.proofs.lemmas.Slice.Eq.{bytes_eq-Decides}
use Rattle.std.proofs.lemmas.Cmp.{nat_list_eq_equiv}
use Rattle.symbol_table.specs.Names.{AreDifferent, IsTable}
use Rattle.symbol_table.specs.declared.TheConstants.{NAMES}

module _ {X Y : Type 0} (p : Y → Bool) (f : X → Y) where
  pub list_any-map : (xs : List X) → list_any p (map f xs) ≡ list_any (λ x. p (f x)) xs
  list_any-map [] = refl
  list_any-map (x ∷ xs) = ap (λ b. p (f x) || b) (list_any-map xs)

  pub prefix_len-map : (q : Y → Bool) (xs : List X) → prefix_len q (map f xs) ≡ prefix_len (λ x. q (f x)) xs
  prefix_len-map q [] = refl
  prefix_len-map q (x ∷ xs) = ap (λ n. cond (q (f x)) (1 + n) 0) (prefix_len-map q xs)

-- where a name has a number, it is there
pub there : (names : List (List ℕ)) (i : ℕ) (name : List ℕ) → slice_get names i ≡ Some name → Contains names name
there names i name e = (i, slice_get_within names i name e, get_or_from_slice_get names i name name e)

-- with one more name, each number has its name of before, or is the last
pub known_or_last : (names : List (List ℕ)) (name x : List ℕ) (i : ℕ) → slice_get (names ++ name ∷ []) i ≡ Some x
    → (slice_get names i ≡ Some x) ⊎ ((i ≡ length names) × (x ≡ name))
known_or_last [] name x zero e = inr (refl, (cc))
known_or_last [] name x (suc i) e = cc
known_or_last (y ∷ ys) name x zero e = inl e
known_or_last (y ∷ ys) name x (suc i) e = elim (known_or_last ys name x i e) [ inl h ↦ inl h | inr h ↦ inr (ap suc h.0, h.1) ]

-- a new name leaves the names different
pub different_pushed : (names : List (List ℕ)) (name : List ℕ) → AreDifferent names → (Contains names name → ⊥) → AreDifferent (names ++ name ∷ [])
different_pushed names name d a i j x p q =
    elim (known_or_last names name x i p) [
      | inl h ↦ elim (known_or_last names name x j q) [
        | inl k ↦ d i j x h k
        | inr k ↦ absurd (a (there names i name (h ∙ ap Some k.1)))
      ]
      | inr h ↦ elim (known_or_last names name x j q) [
        | inl k ↦ absurd (a (there names j name (k ∙ ap Some h.1)))
        | inr k ↦ h.0 ∙ sym k.0
      ]
    ]

-- a new name leaves a table
pub table_pushed : (names : List (List ℕ)) (name : List ℕ) → IsTable names → (Contains names name → ⊥) → length names < NAMES → IsTable (names ++ name ∷ [])
table_pushed names name t a h = record { few = rw length-append (omega arith); different = different_pushed names name t.different a }

-- names are the bytes of the keys
module _ {Z : Type 0} (name : List ℕ) (keys : List (String Z)) (names : List (List ℕ)) (view : map string_bytes keys ≡ names) where
  -- a name that is not found is not there
  pub absent : false ≡ list_any (λ k. bytes_eq name (string_bytes k)) keys → Contains names name → ⊥
  absent e c =
      let is_there : list_any (bytes_eq name) names ≡ true = list_any-from_Contains nat_list_eq_equiv name names c in
      true≢false (sym is_there ∙ ap (list_any (bytes_eq name)) (sym view) ∙ list_any-map (bytes_eq name) string_bytes keys ∙ sym e)

  -- a name that is found is there
  pub found : (i : ℕ) → Some i ≡ position (λ k. bytes_eq name (string_bytes k)) keys → slice_get names i ≡ Some name
  found i e =
      let at : position (bytes_eq name) (map string_bytes keys) ≡ Some i = rw (prefix_len-map (bytes_eq name) string_bytes (λ x. not (bytes_eq name x)) keys, length-map keys string_bytes) (sym e) in
      let h = position-Some (bytes_eq name) names i [] (subst (λ ns. position (bytes_eq name) ns ≡ Some i) view at) in
      let same : name ≡ get_or names i [] = (bytes_eq-Decides name (get_or names i [])).0 h.1 in
      slice_get-get_or names i [] h.0 ∙ ap Some (sym same)

  -- a name that is not there goes behind the others
  pub pushed : (owned : String Z) (new : List (String Z)) → string_bytes owned ≡ name → new ≡ insert_key string_eq keys owned
      → (Contains names name → ⊥) → map string_bytes new ≡ names ++ name ∷ []
  pushed owned new e k a = by (list_any (string_eq owned) keys) refl
    where
      by : (b : Bool) → list_any (string_eq owned) keys ≡ b → map string_bytes new ≡ names ++ name ∷ []
      by true h =
          let is_there : list_any (bytes_eq name) names ≡ true = ap (list_any (bytes_eq name)) (sym view) ∙ list_any-map (bytes_eq name) string_bytes keys ∙ subst (λ n. list_any (λ k. bytes_eq n (string_bytes k)) keys ≡ true) e h in
          absurd (a (Contains-list_any bytes_eq (λ x y. (bytes_eq-Decides x y).0) names name is_there))
      by false h = ap (map string_bytes) (k ∙ ap (λ b. if b then keys else keys ++ owned ∷ []) h)
          ∙ map-append string_bytes keys (owned ∷ []) ∙ ap (λ ns. ns ++ string_bytes owned ∷ []) view ∙ ap (λ x. names ++ x ∷ []) e

  -- and leaves a table
  pub pushed_table : (owned : String Z) (new : List (String Z)) → string_bytes owned ≡ name → new ≡ insert_key string_eq keys owned
      → (Contains names name → ⊥) → IsTable names → length names < NAMES → IsTable (map string_bytes new)
  pushed_table owned new e k a t h = rw (pushed owned new e k a) (table_pushed names name t a h)
