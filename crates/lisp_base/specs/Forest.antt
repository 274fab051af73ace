-- Trees beside one another, as they stand in a text.
use Rattle.std.specs.Prelude.{ℕ, zero, suc}

-- no trees, or a first tree with the trees under it and the trees beside it
pub data Forest (K : Type 0) : Type 0 where
  NoTrees : Forest K
  Tree : (kind : K) (place : ℕ) (under beside : Forest K) → Forest K

-- how many trees stand beside one another
abbrev pub count_of : {K : Type 0} → Forest K → ℕ
count_of NoTrees = 0
count_of (Tree k p under beside) = suc (count_of beside)

-- the trees of both, one after the other
abbrev pub append : {K : Type 0} → Forest K → Forest K → Forest K
append NoTrees g = g
append (Tree k p under beside) g = Tree k p under (append beside g)

-- the first n trees
abbrev pub front : {K : Type 0} → ℕ → Forest K → Forest K
front zero f = NoTrees
front (suc n) NoTrees = NoTrees
front (suc n) (Tree k p under beside) = Tree k p under (front n beside)

-- the trees after the first n
abbrev pub behind : {K : Type 0} → ℕ → Forest K → Forest K
behind zero f = f
behind (suc n) NoTrees = NoTrees
behind (suc n) (Tree k p under beside) = behind n beside
