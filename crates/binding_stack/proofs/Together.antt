-- The stack goes together with the map and the store: each binding has the word that its place holds, and the
-- places fall from the innermost binding on.
use Rattle.std.proofs.Common.{◌≡◌, ℕ, zero, suc, ◌<◌, ◌≤◌, nat_lt, Bool, true, false, List, [], ◌∷◌, ◌++◌, length, slice_set, Option, Some, None, refl, sym, subst, ◌∙◌, arith, length-append, if◌then◌else◌, ◌==◌}
use Rattle.std.specs.List.{slice_get}
use Rattle.std.proofs.lemmas.List.{length-set}
use Rattle.std.proofs.lemmas.Option.{slice_get_within}
use Rattle.environment_semantics.specs.Environment.{Binding, place_of, held_at, value_of, bound, stored, written, outer}
use Rattle.binding_stack.specs.declared.bindings.TheConstants.{BINDINGS}
use Rattle.binding_stack.specs.Stack.{Bound, with_binding, word_of, with_word, kept}
use Rattle.binding_stack.specs.Calls.{Call, Bind, Set, UnbindTo, stack_after, stack_after_all, environment_after, environment_after_all, GetIsMapAndStore}

-- the bindings have the symbols of the map and the words of the store, and the places fall from below a limit
abbrev Agrees : List ℕ → ℕ → List Bound → List Binding → Type 0
Agrees store limit [] [] = Unit {0}
Agrees store limit [] (m ∷ map) = ⊥
Agrees store limit (b ∷ bs) [] = ⊥
Agrees store limit (b ∷ bs) (m ∷ map) =
    (b.symbol ≡ m.symbol) × (slice_get store m.place ≡ Some b.word) × (m.place < limit) × Agrees store m.place bs map

-- the bindings agree with all of the map and the store
pub record Together (bs : List Bound) (e : List Binding × List ℕ) : Type 0 where
  pub agrees : Agrees e.1 (length e.1) bs e.0

-- places and the store

get_append : (store : List ℕ) (v p w : ℕ) → slice_get store p ≡ Some w → slice_get (store ++ v ∷ []) p ≡ Some w
get_append [] v p w h = cc
get_append (x ∷ store) v zero w h = h
get_append (x ∷ store) v (suc p) w h = get_append store v p w h

get_pushed : (store : List ℕ) (v : ℕ) → slice_get (store ++ v ∷ []) (length store) ≡ Some v
get_pushed [] v = refl
get_pushed (x ∷ store) v = get_pushed store v

get_set : (store : List ℕ) (p v : ℕ) → p < length store → slice_get (slice_set store p v) p ≡ Some v
get_set [] p v h = absurd (omega arith)
get_set (x ∷ store) zero v h = refl
get_set (x ∷ store) (suc p) v h = get_set store p v (omega arith)

get_set_other : (store : List ℕ) (p q v : ℕ) → q < p → slice_get (slice_set store q v) p ≡ slice_get store p
get_set_other [] p q v h = refl
get_set_other (x ∷ store) zero q v h = absurd (omega arith)
get_set_other (x ∷ store) (suc p) zero v h = refl
get_set_other (x ∷ store) (suc p) (suc q) v h = get_set_other store p q v (omega arith)

get_set_above : (store : List ℕ) (p q v : ℕ) → p < q → slice_get (slice_set store q v) p ≡ slice_get store p
get_set_above [] p q v h = refl
get_set_above (x ∷ store) p zero v h = absurd (omega arith)
get_set_above (x ∷ store) zero (suc q) v h = refl
get_set_above (x ∷ store) (suc p) (suc q) v h = get_set_above store p q v (omega arith)

-- what agrees

lengths : (store : List ℕ) (limit : ℕ) (bs : List Bound) (map : List Binding) → Agrees store limit bs map → length bs ≡ length map
lengths store limit [] [] h = refl
lengths store limit [] (m ∷ map) h = absurd h
lengths store limit (b ∷ bs) [] h = absurd h
lengths store limit (b ∷ bs) (m ∷ map) h =
    let behind : length bs ≡ length map = lengths store m.place bs map h.3 in omega (arith, behind)

raised : (store : List ℕ) (limit limit' : ℕ) (bs : List Bound) (map : List Binding) → limit ≤ limit' → Agrees store limit bs map → Agrees store limit' bs map
raised store limit limit' [] [] le h = tt
raised store limit limit' [] (m ∷ map) le h = h
raised store limit limit' (b ∷ bs) [] le h = h
raised store limit limit' (b ∷ bs) (m ∷ map) le h = (h.0, h.1, (omega arith), h.3)

-- the same word, and the same place for it

words_by : (t : Bool) (store : List ℕ) (place w : ℕ) (word place' : Option ℕ) → slice_get store place ≡ Some w → word ≡ held_at place' store
    → (if t then Some w else word) ≡ held_at (if t then Some place else place') store
words_by true store place w word place' here behind = sym here
words_by false store place w word place' here behind = behind

words : (symbol : ℕ) (store : List ℕ) (limit : ℕ) (bs : List Bound) (map : List Binding) → Agrees store limit bs map → word_of symbol bs ≡ value_of symbol map store
words symbol store limit [] [] h = refl
words symbol store limit [] (m ∷ map) h = absurd h
words symbol store limit (b ∷ bs) [] h = absurd h
words symbol store limit (b ∷ bs) (m ∷ map) h =
    rw h.0 (words_by (m.symbol == symbol) store m.place b.word _ _ h.1 (words symbol store m.place bs map h.3))

-- a binding

pushed : (v : ℕ) (store : List ℕ) (limit : ℕ) (bs : List Bound) (map : List Binding) → Agrees store limit bs map → Agrees (store ++ v ∷ []) limit bs map
pushed v store limit [] [] h = tt
pushed v store limit [] (m ∷ map) h = h
pushed v store limit (b ∷ bs) [] h = h
pushed v store limit (b ∷ bs) (m ∷ map) h = (h.0, get_append store v m.place b.word h.1, h.2, pushed v store m.place bs map h.3)

bind_agrees : (symbol v : ℕ) (bs : List Bound) (map : List Binding) (store : List ℕ) → Together bs (map, store) → Together (with_binding symbol v bs) (bound symbol v map store)
bind_agrees symbol v bs map store h =
    record { agrees = (refl, get_pushed store v, (omega (arith, length-append store (v ∷ []))), pushed v store (length store) bs map h.agrees) }

-- leaving bindings

outer_by : (t : Bool) (store : List ℕ) (limit : ℕ) (bs bs' : List Bound) (map map' : List Binding) → Agrees store limit bs map → Agrees store limit bs' map'
    → Agrees store limit (if t then bs else bs') (if t then map else map')
outer_by true store limit bs bs' map map' here behind = here
outer_by false store limit bs bs' map map' here behind = behind

outer_agrees : (height : ℕ) (store : List ℕ) (limit : ℕ) (bs : List Bound) (map : List Binding) → Agrees store limit bs map → Agrees store limit (kept height bs) (outer height map)
outer_agrees height store limit [] [] h = tt
outer_agrees height store limit [] (m ∷ map) h = absurd h
outer_agrees height store limit (b ∷ bs) [] h = absurd h
outer_agrees height store limit (b ∷ bs) (m ∷ map) h =
    let same : length bs ≡ length map = lengths store m.place bs map h.3 in
    let behind : Agrees store m.place (kept height bs) (outer height map) = outer_agrees height store m.place bs map h.3 in
    rw same (outer_by (nat_lt (length map) height) store limit (b ∷ bs) _ (m ∷ map) _ h (raised store m.place limit _ _ (omega arith) behind))

-- a write

unwritten : (q v : ℕ) (store : List ℕ) (limit : ℕ) (bs : List Bound) (map : List Binding) → limit ≤ q → Agrees store limit bs map → Agrees (slice_set store q v) limit bs map
unwritten q v store limit [] [] le h = tt
unwritten q v store limit [] (m ∷ map) le h = h
unwritten q v store limit (b ∷ bs) [] le h = h
unwritten q v store limit (b ∷ bs) (m ∷ map) le h =
    (h.0, get_set_above store m.place q v (omega arith) ∙ h.1, h.2, unwritten q v store m.place bs map (omega arith) h.3)

place_by : (t : Bool) (place limit q : ℕ) (place' : Option ℕ) → (if t then Some place else place') ≡ Some q → place < limit → (place' ≡ Some q → q < place) → q < limit
place_by true place limit q place' is below behind = let same : place ≡ q = cc in omega arith
place_by false place limit q place' is below behind = let less : q < place = behind is in omega arith

-- the place that a symbol names is below the limit
place_below : (symbol : ℕ) (store : List ℕ) (limit : ℕ) (bs : List Bound) (map : List Binding) (q : ℕ) → Agrees store limit bs map → place_of symbol map ≡ Some q → q < limit
place_below symbol store limit bs [] q h is = absurd (cc)
place_below symbol store limit [] (m ∷ map) q h is = absurd h
place_below symbol store limit (b ∷ bs) (m ∷ map) q h is =
    place_by (m.symbol == symbol) m.place limit q (place_of symbol map) is h.2 (place_below symbol store m.place bs map q h.3)

get_stored : (place : Option ℕ) (v p : ℕ) (store : List ℕ) → ((q : ℕ) → place ≡ Some q → q < p) → slice_get (stored place v store) p ≡ slice_get store p
get_stored None v p store below = refl
get_stored (Some q) v p store below = get_set_other store p q v (below q refl)

set_by : (t : Bool) (v : ℕ) (store : List ℕ) (limit : ℕ) (b : Bound) (bs bs' : List Bound) (m : Binding) (map : List Binding) (place : Option ℕ)
    → Agrees store limit (b ∷ bs) (m ∷ map) → ((q : ℕ) → place ≡ Some q → q < m.place) → Agrees (stored place v store) m.place bs' map
    → Agrees (stored (if t then Some m.place else place) v store) limit (if t then record b { word = v } ∷ bs else b ∷ bs') (m ∷ map)
set_by true v store limit b bs bs' m map place h below behind =
    let inside : m.place < length store = slice_get_within store m.place b.word h.1 in
    (h.0, get_set store m.place v inside, h.2, unwritten m.place v store m.place bs map (omega arith) h.3)
set_by false v store limit b bs bs' m map place h below behind = (h.0, get_stored place v m.place store below ∙ h.1, h.2, behind)

set_agrees : (symbol v : ℕ) (store : List ℕ) (limit : ℕ) (bs : List Bound) (map : List Binding) → Agrees store limit bs map
    → Agrees (written symbol v map store) limit (with_word symbol v bs) map
set_agrees symbol v store limit [] [] h = tt
set_agrees symbol v store limit [] (m ∷ map) h = h
set_agrees symbol v store limit (b ∷ bs) [] h = absurd h
set_agrees symbol v store limit (b ∷ bs) (m ∷ map) h =
    let written_at : ℕ → Option ℕ = λ n. if n == symbol then Some m.place else place_of symbol map in
    let P : ℕ → Type 0 = λ n. Agrees (stored (written_at n) v store) limit (with_word symbol v (b ∷ bs)) (m ∷ map) in
    subst P h.0 (set_by (b.symbol == symbol) v store limit b bs (with_word symbol v bs) m map (place_of symbol map) h
    (λ q. place_below symbol store m.place bs map q h.3) (set_agrees symbol v store m.place bs map h.3))

length_stored : (place : Option ℕ) (v : ℕ) (store : List ℕ) → length (stored place v store) ≡ length store
length_stored None v store = refl
length_stored (Some place) v store = length-set store place v

-- calls

bind_by : (t : Bool) (bs bs' : List Bound) (e e' : List Binding × List ℕ) → Together bs e → Together bs' e' → Together (if t then bs else bs') (if t then e else e')
bind_by true bs bs' e e' here other = here
bind_by false bs bs' e e' here other = other

call_agrees : (c : Call) (bs : List Bound) (e : List Binding × List ℕ) → Together bs e → Together (stack_after c bs) (environment_after c e)
call_agrees (Bind symbol v) bs e h =
    let same : length bs ≡ length e.0 = lengths e.1 (length e.1) bs e.0 h.agrees in
    rw same (bind_by (nat_lt (length e.0) BINDINGS) _ bs _ e (bind_agrees symbol v bs e.0 e.1 h) h)
call_agrees (Set symbol v) bs e h =
    record { agrees = rw (length_stored (place_of symbol e.0) v e.1) (set_agrees symbol v e.1 (length e.1) bs e.0 h.agrees) }
call_agrees (UnbindTo height) bs e h = record { agrees = outer_agrees height e.1 (length e.1) bs e.0 h.agrees }

calls_agree : (calls : List Call) (bs : List Bound) (e : List Binding × List ℕ) → Together bs e → Together (stack_after_all calls bs) (environment_after_all calls e)
calls_agree [] bs e h = h
calls_agree (c ∷ calls) bs e h = calls_agree calls _ _ (call_agrees c bs e h)

pub same_words : GetIsMapAndStore
same_words calls symbol = words symbol _ _ _ _ (calls_agree calls [] ([], []) (record { agrees = tt })).agrees
