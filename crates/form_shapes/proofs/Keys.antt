-- A level is the one that is sought where its key is, so the number of the innermost one is found by keys.
use Rattle.std.proofs.Common.{◌≡◌, ◌≢◌, ℕ, zero, suc, ◌+◌, ◌-◌, ◌<◌, ◌==◌, nat_lt, List, [], ◌∷◌, ◌++◌, length, slice_index_or, Bool, true, false, Some, None, if◌then◌else◌, refl, ap, sym, ◌∙◌, arith}
use Rattle.std.proofs.lemmas.Bool.Decides.{nat_tests}
use Rattle.form_shapes.proofs.Chosen.{first_of, other_of}
use Rattle.form_shapes.specs.declared.levels.Level.{Level}
use Rattle.form_shapes.specs.declared.levels.Level.TheVariants.{Variable, Block, Region}
use Rattle.form_shapes.specs.declared.levels.Numbered.{Numbered}
use Rattle.form_shapes.specs.declared.levels.TheConstants.{BLOCKS, REGION}
use Rattle.form_shapes.specs.Levels.{is_level, is_variable, is_block, is_region, number_of}
use Rattle.form_shapes.specs.inside.Keys.{level_of, levels_of, IsKey, NoneFrom, IsLast}

-- each level has its key

variable_by : (x k : ℕ) (below region : Bool) → nat_lt k BLOCKS ≡ below → x < BLOCKS
    → is_variable x (if below then Variable k else if region then Region else Block (k - BLOCKS)) ≡ (k == x)
variable_by x k true region b h = grind (arith, nat_tests)
variable_by x k false true b h = grind (arith, nat_tests)
variable_by x k false false b h = grind (arith, nat_tests)

block_by : (x k : ℕ) (below region : Bool) → nat_lt k BLOCKS ≡ below → (k == REGION) ≡ region → BLOCKS + x ≢ REGION
    → is_block x (if below then Variable k else if region then Region else Block (k - BLOCKS)) ≡ (k == BLOCKS + x)
block_by x k true region b r h = grind (arith, nat_tests)
block_by x k false true b r h = grind (arith, nat_tests)
block_by x k false false b r h = grind (arith, nat_tests)

last_block_by : (x k : ℕ) (below region : Bool) → nat_lt k BLOCKS ≡ below → (k == REGION) ≡ region → BLOCKS + x ≡ REGION
    → is_block x (if below then Variable k else if region then Region else Block (k - BLOCKS)) ≡ false
last_block_by x k true region b r h = refl
last_block_by x k false true b r h = refl
last_block_by x k false false b r h = grind (arith, nat_tests)

region_by : (k : ℕ) (below region : Bool) → nat_lt k BLOCKS ≡ below → (k == REGION) ≡ region
    → is_region (if below then Variable k else if region then Region else Block (k - BLOCKS)) ≡ (k == REGION)
region_by k true region b r = grind (arith, nat_tests)
region_by k false true b r = sym r
region_by k false false b r = sym r

level_of_block : (x : ℕ) (below region : Bool) → nat_lt (BLOCKS + x) BLOCKS ≡ below → ((BLOCKS + x) == REGION) ≡ region → BLOCKS + x ≢ REGION
    → (if below then Variable (BLOCKS + x) else if region then Region else Block ((BLOCKS + x) - BLOCKS)) ≡ Block x
level_of_block x true region b r h = absurd (grind (arith, nat_tests))
level_of_block x false true b r h = absurd (grind (arith, nat_tests))
level_of_block x false false b r h = ap Block (omega arith)

pub variable_key : (x : ℕ) → x < BLOCKS → IsKey (Variable x) (Some x)
variable_key x h = (first_of (nat_lt x BLOCKS) (Variable x) _ (grind (arith, nat_tests)), λ k. variable_by x k (nat_lt k BLOCKS) (k == REGION) refl h)

pub block_key : (x : ℕ) → BLOCKS + x ≢ REGION → IsKey (Block x) (Some (BLOCKS + x))
block_key x h = (level_of_block x (nat_lt (BLOCKS + x) BLOCKS) ((BLOCKS + x) == REGION) refl refl h, λ k. block_by x k (nat_lt k BLOCKS) (k == REGION) refl refl h)

pub block_without : (x : ℕ) → BLOCKS + x ≡ REGION → IsKey (Block x) None
block_without x h k = last_block_by x k (nat_lt k BLOCKS) (k == REGION) refl refl h

pub region_key : IsKey Region (Some REGION)
region_key = (refl, λ k. region_by k (nat_lt k BLOCKS) (k == REGION) refl refl)

pub ruleset keys = (variable_key, block_key, block_without, region_key)

-- one more key and number are one more level

pub levels_pushed : (level : Level) (ls : List Numbered) (ks ns : List ℕ) (k n : ℕ) → length ks ≡ length ns → level_of k ≡ level
    → levels_of ls (ks ++ k ∷ []) (ns ++ n ∷ []) ≡ record { level = level; number = n } ∷ levels_of ls ks ns
levels_pushed level ls [] [] k n e is = ap (λ l. record { level = l; number = n } ∷ ls) is
levels_pushed level ls [] (m ∷ ns) k n e is = absurd (omega (arith, e))
levels_pushed level ls (j ∷ ks) [] k n e is = absurd (omega (arith, e))
levels_pushed level ls (j ∷ ks) (m ∷ ns) k n e is = levels_pushed level (record { level = level_of j; number = m } ∷ ls) ks ns k n (omega (arith, e)) is

-- the innermost level that is sought

-- there is none that could be
pub number_absent : (sought : Level) (ls : List Numbered) (ks ns : List ℕ) → IsKey sought None
    → number_of sought (levels_of ls ks ns) ≡ number_of sought ls
number_absent sought ls [] ns h = refl
number_absent sought ls (k ∷ ks) [] h = refl
number_absent sought ls (k ∷ ks) (n ∷ ns) h =
    number_absent sought (record { level = level_of k; number = n } ∷ ls) ks ns h
    ∙ other_of (is_level sought (level_of k)) (Some n) (number_of sought ls) (h k)

none_after : (key k : ℕ) (ks : List ℕ) → NoneFrom key 0 (k ∷ ks) → NoneFrom key 0 ks
none_after key k ks none i d from below = none (suc i) d (omega arith) (omega arith)

none_behind : (key from k : ℕ) (ks : List ℕ) → NoneFrom key (suc from) (k ∷ ks) → NoneFrom key from ks
none_behind key from k ks none i d h below = none (suc i) d (omega arith) (omega arith)

none_here : (key k : ℕ) (ks : List ℕ) → NoneFrom key 0 (k ∷ ks) → k ≢ key
none_here key k ks none = none 0 k (omega arith) (omega arith)

differs : (k key : ℕ) → k ≢ key → (k == key) ≡ false
differs k key h = grind (arith, nat_tests)

agrees : (k key : ℕ) → k ≡ key → (k == key) ≡ true
agrees k key h = grind (arith, nat_tests)

-- there is none
pub number_none : (sought : Level) (key : ℕ) (ls : List Numbered) (ks ns : List ℕ) → IsKey sought (Some key) → NoneFrom key 0 ks
    → number_of sought (levels_of ls ks ns) ≡ number_of sought ls
number_none sought key ls [] ns h none = refl
number_none sought key ls (k ∷ ks) [] h none = refl
number_none sought key ls (k ∷ ks) (n ∷ ns) h none =
    number_none sought key (record { level = level_of k; number = n } ∷ ls) ks ns h (none_after key k ks none)
    ∙ other_of (is_level sought (level_of k)) (Some n) (number_of sought ls) (h.1 k ∙ differs k key (none_here key k ks none))

-- it has this place
pub number_last : (sought : Level) (key at d : ℕ) (ls : List Numbered) (ks ns : List ℕ) → IsKey sought (Some key) → IsLast key ks (Some at) → length ks ≡ length ns
    → number_of sought (levels_of ls ks ns) ≡ Some (slice_index_or ns at d)
number_last sought key at d ls [] ns h (below, is, none) e = absurd (omega arith)
number_last sought key at d ls (k ∷ ks) [] h last e = absurd (omega (arith, e))
number_last sought key zero d ls (k ∷ ks) (n ∷ ns) h (below, is, none) e =
    number_none sought key (record { level = level_of k; number = n } ∷ ls) ks ns h (none_behind key 0 k ks none)
    ∙ first_of (is_level sought (level_of k)) (Some n) (number_of sought ls) (h.1 k ∙ agrees k key (is 0))
number_last sought key (suc at) d ls (k ∷ ks) (n ∷ ns) h (below, is, none) e =
    number_last sought key at d (record { level = level_of k; number = n } ∷ ls) ks ns h ((omega arith), is, none_behind key (suc at) k ks none) (omega (arith, e))

pub ruleset found = (number_absent, number_none, number_last)
