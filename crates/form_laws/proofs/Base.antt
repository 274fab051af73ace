-- A block in which data stand changes nothing, where nothing returns to it.
use Rattle.std.proofs.Common.{◌≡◌, ◌⊎◌, inl, inr, ℕ, suc, ◌-◌, ◌<◌, ◌≤◌, nat_lt, List, [], ◌∷◌, length, Bool, true, false, true≢false, ◌==◌, Option, Some, if◌then◌else◌, refl, ap, subst, sym, ◌∙◌, arith}
use Rattle.std.specs.List.{All}
use Rattle.std.proofs.lemmas.Bool.Decides.{nat_tests}
use Rattle.std.proofs.lemmas.List.Elements.{All-head, All-tail}
use Rattle.form_shapes.specs.declared.levels.Level.{Level}
use Rattle.form_shapes.specs.declared.levels.Level.TheVariants.{Variable, Block, Region}
use Rattle.form_shapes.specs.declared.levels.Numbered.{Numbered}
use Rattle.lisp_data.specs.Data.{Data, behind}
use Rattle.form_shapes.specs.Bindings.{function_body_of}
use Rattle.form_shapes.specs.Levels.{is_level, number_of}
use Rattle.form_shapes.specs.Scopes.{Scope, inside}
use Rattle.lisp_forms.specs.Blocks.{less, not_made_round}
use Rattle.lisp_forms.specs.Expansion.{body_in, forms_in, function_body_in, within_first}
use Rattle.lisp_forms.specs.Trees.{Expansion}
use Rattle.lisp_forms.proofs.Lambdas.{function-forms}
use Rattle.form_laws.specs.Unused.{IsNumbered, IsUnchanged, UnusedBlockChangesNothing, in_turns}
use Rattle.form_laws.proofs.Related.{Related, below, shifted_number}
use Rattle.form_laws.proofs.Shifted.{IsGone, lowered-same}
use Rattle.form_laws.proofs.Without.{Without, bare, deeper_in, numbered, outer}
use Rattle.form_laws.proofs.Induction.{related-body, related-forms, related-within}
use Rattle.form_laws.proofs.Rowed.{opened_by-all}

-- the levels round the block keep their numbers
levels-stay : (n : ℕ) (sought : Level) (ls : List Numbered) → All (λ l. l.number < n) ls → number_of sought ls ≡ shifted_number n (number_of sought ls)
levels-stay n sought [] h = refl
levels-stay n sought (l ∷ ls) h =
    by (is_level sought l.level) (All-head (λ m. m.number < n) l ls h) (levels-stay n sought ls (All-tail (λ m. m.number < n) l ls h))
  where
    by : (t : Bool) → l.number < n → number_of sought ls ≡ shifted_number n (number_of sought ls)
        → (if t then Some l.number else number_of sought ls) ≡ shifted_number n (if t then Some l.number else number_of sought ls)
    by true less_than i = ap Some (below n l.number (omega (arith, less_than)))
    by false less_than i = i

-- a block that is sought is this one, or one round it
block-found : (n : ℕ) (t : Bool) (o : Option ℕ) → o ≡ shifted_number n o → ((if t then Some n else o) ≡ Some n) ⊎ (o ≡ shifted_number n (if t then Some n else o))
block-found n true o h = inl refl
block-found n false o h = inr h

-- what is open just inside the block
abbrev just-inside : (s : Scope) (b : ℕ) → IsNumbered s → Without s.depth
just-inside s b h =
    record {
      levels = numbered (Block b) s.depth ∷ s.levels;
      others = s.levels;
      depth = s.depth;
      is_inside = omega arith;
      variables = λ x. levels-stay s.depth (Variable x) s.levels h;
      blocks = λ c. block-found s.depth (c == b) (number_of (Block c) s.levels) (levels-stay s.depth (Block c) s.levels h);
      regions = levels-stay s.depth Region s.levels h;
    }

-- all blocks that are not made stand round a level inside them
not-made-all : (n y : ℕ) (gone : List ℕ) → All (λ m. m < n) gone → n ≤ y → not_made_round gone y ≡ length gone
not-made-all n y [] h i = refl
not-made-all n y (m ∷ ms) h i = by (nat_lt m y) refl (All-head (λ x. x < n) m ms h)
  where
    by : (t : Bool) → nat_lt m y ≡ t → m < n → (if t then length (m ∷ ms) else not_made_round ms y) ≡ length (m ∷ ms)
    by true e j = refl
    by false e j = absurd (true≢false (sym (grind (arith, nat_tests)) ∙ e))

-- the block is one of those that are not made
just-gone : (n : ℕ) (gone : List ℕ) → All (λ m. m < n) gone → IsGone n (n ∷ gone) gone
just-gone n gone h = record { many = refl; each = λ x. by x (nat_lt n x) refl }
  where
    by : (x : ℕ) (t : Bool) → nat_lt n x ≡ t → x - (if t then suc (length gone) else not_made_round gone x) ≡ less gone (if t then x - 1 else x)
    by x true e = let all : not_made_round gone (x - 1) ≡ length gone = not-made-all n (x - 1) gone h (grind (arith, nat_tests)) in omega (arith, all)
    by x false e = refl

-- what is read so is related with the block and without it
abbrev AreRelated : (Scope → Expansion) → Type 0
AreRelated read = (n : ℕ) (s : Scope) (w : Without n) → Related n (read (outer n s w)) (read (bare n s w))

-- then it is unchanged
unchanged : (read : Scope → Expansion) → AreRelated read → IsUnchanged read
unchanged read related s b gone h i a none =
    lowered-same s.depth (read (inside s (Block b))) (read s) (related s.depth s (just-inside s b h)) a none (s.depth ∷ gone) gone (just-gone s.depth gone i)

-- the body of a function
related-function : (m : ℕ) (d : Data) → AreRelated (λ s. function_body_in s m d)
related-function m d n s w =
    let body : Data = function_body_of s.names (behind m d) in
    subst (λ e. Related n e (function_body_in (bare n s w) m d)) (sym (function-forms (outer n s w) m d))
    (subst (λ e. Related n (forms_in (outer n s w) body) e) (sym (function-forms (bare n s w) m d)) (related-forms n s body w))

-- what is read where the variable of a `dotimes` is open
related-turned : (f : Scope → Expansion) → AreRelated f → (x : ℕ) → AreRelated (λ s. f (in_turns x s))
related-turned f related x n s w = opened_by-all n s (λ u v. Related n (f u) (f v)) (λ z. related n s z) x (deeper_in n (deeper_in n w))

-- an implicit block to which nothing returns changes nothing
pub unused : UnusedBlockChangesNothing
unused =
    record {
      loops = λ m d. unchanged (λ s. body_in s m d) (λ n s w. related-body n s m d w);
      counts = λ roles d. unchanged (λ s. within_first s roles d) (λ n s w. related-within n s roles d w);
      turns = λ x m d. unchanged (λ s. body_in (in_turns x s) m d) (related-turned (λ s. body_in s m d) (λ n s w. related-body n s m d w) x);
      results = λ x roles d.
          unchanged (λ s. within_first (in_turns x s) roles d) (related-turned (λ s. within_first s roles d) (λ n s w. related-within n s roles d w) x);
      functions = λ m d. unchanged (λ s. function_body_in s m d) (related-function m d);
    }
