-- The value of a special variable is that at its first place.
use Rattle.std.proofs.Common.{◌≡◌, ◌≢◌, ◌==◌, ℕ, zero, suc, List, [], ◌∷◌, true, false, cond, Some, None, length, get_or, set, refl, ap, ◌∙◌, arith}
use Rattle.std.proofs.lemmas.Bool.Decides.{nat_tests}
use Rattle.lisp_base.specs.declared.value.Node.{Node}
use Rattle.world_semantics.specs.declared.global.Global.{Global}
use Rattle.world_semantics.specs.World.{global_of, with_global}
use Rattle.shared_world.specs.inside.Globals.{NoneBefore, IsFirst}

same : (m n : ℕ) → m ≡ n → (m == n) ≡ true
same m n e = grind (arith, nat_tests)

other : (m n : ℕ) → m ≢ n → (m == n) ≡ false
other m n e = grind (arith, nat_tests)

later : (symbol to : ℕ) (g : Global) (gs : List Global) → NoneBefore symbol (suc to) (g ∷ gs) → NoneBefore symbol to gs
later symbol to g gs h k d b w = h (suc k) d (omega arith) (omega arith)

pub value_none : (symbol : ℕ) (gs : List Global) → IsFirst symbol gs None → global_of symbol gs ≡ None
value_none symbol [] h = refl
value_none symbol (g ∷ gs) h =
    ap (λ t. cond t g.value (global_of symbol gs)) (other g.symbol symbol (h 0 g (omega arith) (omega arith)))
    ∙ value_none symbol gs (later symbol (length gs) g gs h)

pub value_first : (symbol at : ℕ) (gs : List Global) (d : Global) → IsFirst symbol gs (Some at) → global_of symbol gs ≡ (get_or gs at d).value
value_first symbol at [] d h = absurd (omega (arith, h.0))
value_first symbol zero (g ∷ gs) d h = ap (λ t. cond t g.value (global_of symbol gs)) (same g.symbol symbol (h.1 d))
value_first symbol (suc n) (g ∷ gs) d h =
    ap (λ t. cond t g.value (global_of symbol gs)) (other g.symbol symbol (h.2 0 g (omega arith) (omega arith)))
    ∙ value_first symbol n gs d (omega (arith, h.0), h.1, later symbol n g gs h.2)

pub written_none : (symbol : ℕ) (v : Node) (gs : List Global) → IsFirst symbol gs None → with_global symbol v gs ≡ gs
written_none symbol v [] h = refl
written_none symbol v (g ∷ gs) h =
    ap (λ t. cond t (record g { value = Some v } ∷ gs) (g ∷ with_global symbol v gs)) (other g.symbol symbol (h 0 g (omega arith) (omega arith)))
    ∙ ap (λ xs. g ∷ xs) (written_none symbol v gs (later symbol (length gs) g gs h))

pub written_first : (symbol at : ℕ) (v : Node) (gs : List Global) → IsFirst symbol gs (Some at)
    → with_global symbol v gs ≡ set gs at (record { symbol = symbol; value = Some v })
written_first symbol at v [] h = absurd (omega (arith, h.0))
written_first symbol zero v (g ∷ gs) h =
    ap (λ t. cond t (record g { value = Some v } ∷ gs) (g ∷ with_global symbol v gs)) (same g.symbol symbol (h.1 g))
    ∙ ap (λ s. (record { symbol = s; value = Some v }) ∷ gs) (h.1 g)
written_first symbol (suc n) v (g ∷ gs) h =
    ap (λ t. cond t (record g { value = Some v } ∷ gs) (g ∷ with_global symbol v gs)) (other g.symbol symbol (h.2 0 g (omega arith) (omega arith)))
    ∙ ap (λ xs. g ∷ xs) (written_first symbol n v gs (omega (arith, h.0), h.1, later symbol n g gs h.2))
