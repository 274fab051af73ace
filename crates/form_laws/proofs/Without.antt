-- What is open where a block is open, and the same without the block.
use Rattle.std.proofs.Common.{◌≡◌, ◌⊎◌, inr, ℕ, suc, ◌≤◌, List, ◌∷◌, Bool, true, false, Option, Some, None, if◌then◌else◌, refl, ap, ◌∙◌, arith}
use Rattle.form_shapes.specs.declared.levels.Level.{Level}
use Rattle.form_shapes.specs.declared.levels.Level.TheVariants.{Variable, Block, Region}
use Rattle.form_shapes.specs.declared.levels.Numbered.{Numbered}
use Rattle.form_shapes.specs.declared.scope.Target.{Target}
use Rattle.form_shapes.specs.declared.scope.Target.TheVariants.{Local, Special}
use Rattle.form_shapes.specs.Levels.{is_level, number_of}
use Rattle.form_shapes.specs.Scopes.{Scope, as_local, has, target_in, target_of, with_open}
use Rattle.form_laws.proofs.Related.{above, shift, shifted_number}

-- What is open inside a block with this number: what can be named, the same without the block, and how much is open without it.
pub record Without (n : ℕ) : Type 0 where
  pub levels : List Numbered
  pub others : List Numbered
  pub depth : ℕ
  pub is_inside : n ≤ depth
  pub variables : (x : ℕ) → number_of (Variable x) others ≡ shifted_number n (number_of (Variable x) levels)
  pub blocks : (b : ℕ) → (number_of (Block b) levels ≡ Some n) ⊎ (number_of (Block b) others ≡ shifted_number n (number_of (Block b) levels))
  pub regions : number_of Region others ≡ shifted_number n (number_of Region levels)

-- a scope with the block, and one without it
abbrev pub outer : (n : ℕ) → Scope → Without n → Scope
outer n s w = with_open s w.levels (suc w.depth)

abbrev pub bare : (n : ℕ) → Scope → Without n → Scope
bare n s w = with_open s w.others w.depth

-- a level with its number
abbrev pub numbered : Level → ℕ → Numbered
numbered level m = record { level = level; number = m }

-- what is sought is the innermost level, or one round it
pub level-number : (n m : ℕ) (sought level : Level) (o o' : Option ℕ) → n ≤ m → (t : Bool) → o' ≡ shifted_number n o
    → (if t then Some m else o') ≡ shifted_number n (if t then Some (suc m) else o)
level-number n m sought level o o' h true e = ap Some (above n m h)
level-number n m sought level o o' h false e = e

pub level-block : (n m : ℕ) (o o' : Option ℕ) → n ≤ m → (t : Bool) → (o ≡ Some n) ⊎ (o' ≡ shifted_number n o)
    → ((if t then Some (suc m) else o) ≡ Some n) ⊎ ((if t then Some m else o') ≡ shifted_number n (if t then Some (suc m) else o))
level-block n m o o' h true e = inr (ap Some (above n m h))
level-block n m o o' h false e = e

-- one more is open that no program can name
abbrev pub deeper_in : (n : ℕ) → Without n → Without n
deeper_in n w =
    record {
      levels = w.levels;
      others = w.others;
      depth = suc w.depth;
      is_inside = omega (arith, w.is_inside);
      variables = w.variables;
      blocks = w.blocks;
      regions = w.regions;
    }

-- one more is open
abbrev pub inside_in : (n : ℕ) → Level → Without n → Without n
inside_in n level w =
    record {
      levels = numbered level (suc w.depth) ∷ w.levels;
      others = numbered level w.depth ∷ w.others;
      depth = suc w.depth;
      is_inside = omega (arith, w.is_inside);
      variables = λ x. level-number n w.depth (Variable x) level (number_of (Variable x) w.levels) (number_of (Variable x) w.others) w.is_inside (is_level (Variable x) level) (w.variables x);
      blocks = λ b. level-block n w.depth (number_of (Block b) w.levels) (number_of (Block b) w.others) w.is_inside (is_level (Block b) level) (w.blocks b);
      regions = level-number n w.depth Region level (number_of Region w.levels) (number_of Region w.others) w.is_inside (is_level Region level) w.regions;
    }

-- a variable without the block
abbrev pub shifted_target : ℕ → Target → Target
shifted_target n (Local x) = Local (shift n x)
shifted_target n (Special x) = Special x

abbrev pub shifted_targets : ℕ → Option Target → Option Target
shifted_targets n None = None
shifted_targets n (Some target) = Some (shifted_target n target)

local-shifted : (n : ℕ) (o : Option ℕ) → as_local (shifted_number n o) ≡ shifted_targets n (as_local o)
local-shifted n None = refl
local-shifted n (Some x) = refl

pub target-shifted : (n : ℕ) (s : Scope) (w : Without n) (x : ℕ) → target_of (bare n s w) x ≡ shifted_targets n (target_of (outer n s w) x)
target-shifted n s w x = by (has s.specials x)
  where
    by : (t : Bool) → (if t then Some (Special x) else as_local (number_of (Variable x) w.others))
        ≡ shifted_targets n (if t then Some (Special x) else as_local (number_of (Variable x) w.levels))
    by true = refl
    by false = ap as_local (w.variables x) ∙ local-shifted n (number_of (Variable x) w.levels)

pub target_in-shifted : (n : ℕ) (s : Scope) (w : Without n) (x : Option ℕ) → target_in (bare n s w) x ≡ shifted_targets n (target_in (outer n s w) x)
target_in-shifted n s w None = refl
target_in-shifted n s w (Some x) = target-shifted n s w x
