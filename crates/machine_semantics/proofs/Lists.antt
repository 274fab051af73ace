-- Operands that lie on others, and variables that come after others.
use Rattle.std.proofs.Common.{◌≡◌, ℕ, zero, suc, ◌+◌, ◌-◌, ◌<◌, ◌≤◌, List, [], ◌∷◌, ◌++◌, length, take, drop, get_or, set, refl, ap, sym, ◌∙◌, append_assoc, length-append, arith}
use Rattle.std.proofs.lemmas.List.{drop_at, take-append-le, drop-append-le, get_or-append-add, take_at, length-drop, length-take-le}
use Rattle.lisp_base.specs.declared.word.Operand.{Operand}
use Rattle.lisp_code.specs.Validity.{replaced}
use Rattle.thread_semantics.specs.Acts.{nil_operand, put, top, without}
use Rattle.machine_semantics.specs.Links.{lowered, padded}

-- down to the lower operands
pub lowered_at : (ws low : List Operand) → lowered (length low) (ws ++ low) ≡ low
lowered_at ws low = drop_at ws low _ (let e : length (ws ++ low) ≡ length ws + length low = length-append ws low in omega (arith, e))

pub lowered_by : (h : ℕ) (ws low : List Operand) → h ≡ length low → lowered h (ws ++ low) ≡ low
lowered_by h ws low e = rw e (lowered_at ws low)

-- the first operand
pub top_of : (vs low : List Operand) → 1 ≤ length vs → top (vs ++ low) ≡ top vs
top_of [] low h = absurd (omega arith)
top_of (v ∷ vs) low h = refl

-- the first operands, and those after them
pub front_of : (n : ℕ) (vs low : List Operand) → n ≤ length vs → take n (vs ++ low) ≡ take n vs
front_of n vs low h = take-append-le n vs low h

pub rest_of : (n : ℕ) (vs low : List Operand) → n ≤ length vs → drop n (vs ++ low) ≡ drop n vs ++ low
rest_of n vs low h = drop-append-le n vs low h

-- the operand that has so many before it
pub behind_of : (n : ℕ) (vs low : List Operand) → n < length vs → top (drop n (vs ++ low)) ≡ top (drop n vs)
behind_of n vs low h = ap top (rest_of n vs low (omega (arith, h))) ∙ top_of (drop n vs) low (rw (length-drop n vs) (omega (arith, h)))

-- all but the operand that has so many before it
pub without_of : (n : ℕ) (vs low : List Operand) → n < length vs → without n (vs ++ low) ≡ without n vs ++ low
without_of n vs low h = rw (front_of n vs low (omega (arith, h)), rest_of (suc n) vs low (omega (arith, h))) (sym (append_assoc (take n vs) (drop (suc n) vs) low))

-- a variable that has room is read and written
pub get_padded : (room x : ℕ) (vs : List Operand) → x < room → get_or (padded room vs) x nil_operand ≡ get_or vs x nil_operand
get_padded zero x vs h = absurd (omega (arith, h))
get_padded (suc n) zero [] h = refl
get_padded (suc n) zero (v ∷ vs) h = refl
get_padded (suc n) (suc x) [] h = get_padded n x [] (omega (arith, h))
get_padded (suc n) (suc x) (v ∷ vs) h = get_padded n x vs (omega (arith, h))

pub set_padded : (room x : ℕ) (v : Operand) (vs : List Operand) → x < room → set (padded room vs) x v ≡ padded room (put x v vs)
set_padded zero x v vs h = absurd (omega (arith, h))
set_padded (suc n) zero v [] h = refl
set_padded (suc n) zero v (y ∷ vs) h = refl
set_padded (suc n) (suc x) v [] h = ap (λ l. nil_operand ∷ l) (set_padded n x v [] (omega (arith, h)))
set_padded (suc n) (suc x) v (y ∷ vs) h = ap (λ l. y ∷ l) (set_padded n x v vs (omega (arith, h)))

-- a variable after others
pub get_low : (low xs : List Operand) (x : ℕ) → get_or (low ++ xs) (length low + x) nil_operand ≡ get_or xs x nil_operand
get_low low xs x = get_or-append-add low xs x nil_operand

-- sums with nothing, and with one more
zero_add : (x : ℕ) → 0 + x ≡ x
zero_add x = omega arith

suc_add : (n x : ℕ) → suc n + x ≡ suc (n + x)
suc_add n x = omega arith

-- a variable after others is written
pub set_low : (low xs : List Operand) (x : ℕ) (y : Operand) → set (low ++ xs) (length low + x) y ≡ low ++ set xs x y
set_low [] xs x y = rw (zero_add x) refl
set_low (l ∷ low) xs x y = rw (suc_add (length low) x) (ap (λ k. l ∷ k) (set_low low xs x y))

-- the variables that lie before others
pub take_low : (low xs : List Operand) → take (length low) (low ++ xs) ≡ low
take_low low xs = take_at low xs (length low) refl

-- how many operands are left without one of them
pub without_count : (above : ℕ) (vs : List Operand) → suc above ≤ length vs → replaced (suc above) above (length vs) ≡ length (without above vs)
without_count above vs t =
    let whole : length (without above vs) ≡ length (take above vs) + length (drop (suc above) vs) = length-append (take above vs) (drop (suc above) vs) in
    let front : length (take above vs) ≡ above = length-take-le above vs (omega (arith, t)) in
    let behind : length (drop (suc above) vs) ≡ length vs - suc above = length-drop (suc above) vs in
    omega (arith, whole, front, behind)

-- nothing is taken away
pub less_none : (n : ℕ) → n - 0 ≡ n
less_none n = omega arith
