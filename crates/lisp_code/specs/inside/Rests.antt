-- Where one rests from a position is told by the instruction there.
use Rattle.std.proofs.Common.{◌≡◌, ◌<◌, ◌≤◌, ◌+◌, ℕ, zero, suc, Bool, true, false, List, [], ◌∷◌, get_or, refl, sym, ◌∙◌, arith}
use Rattle.std.specs.Prelude.{if◌then◌else◌, nat_lt}
use Rattle.std.proofs.lemmas.Bool.Decides.{nat_tests}
use Rattle.lisp_code.specs.Validity.{IsNoJump}
use Rattle.lisp_code.specs.Resting.{rested, resting_from, resting_of}
use Rattle.lisp_code.specs.declared.instr.Instr.{Instr}
use Rattle.lisp_code.specs.declared.instr.Instr.TheVariants.{Jump, Leave}

-- only what comes later counts
pub rested_alike : (at : ℕ) (i : Instr) (f g : ℕ → ℕ) → ((to : ℕ) → at < to → f to ≡ g to) → rested at i f ≡ rested at i g
rested_alike at (Jump to) f g same = further (nat_lt at to) (λ t. same to (grind (arith, nat_tests)))
  where
    further : (b : Bool) → (b ≡ true → f to ≡ g to) → (if b then f to else to) ≡ (if b then g to else to)
    further true e = e refl
    further false e = refl
rested_alike at i f g same = refl

-- the first position
pub first_rests : (begin x : ℕ) (i : Instr) (is : List Instr) → x ≡ begin → resting_from begin (i ∷ is) x ≡ rested begin i (resting_from (suc begin) is)
first_rests begin x i is e = grind (arith, nat_tests)

-- a later one
pub later_rests : (begin x : ℕ) (i : Instr) (is : List Instr) → begin < x → resting_from begin (i ∷ is) x ≡ resting_from (suc begin) is x
later_rests begin x i is e = grind (arith, nat_tests)

-- the instruction that is k positions on
pub rests_on : (is : List Instr) (begin k x : ℕ) → x ≡ k + begin → resting_from begin is x ≡ rested x (get_or is k Leave) (resting_from begin is)
rests_on [] begin k x e = refl
rests_on (i ∷ is) begin zero x e =
    let here : x ≡ begin = omega arith in
    first_rests begin x i is here ∙ (rw here (rested_alike begin i (resting_from (suc begin) is) (resting_from begin (i ∷ is)) (λ to later. sym (later_rests begin to i is later))))
rests_on (i ∷ is) begin (suc k) x e =
    let next : begin < x = omega arith in
    let on : resting_from (suc begin) is x ≡ rested x (get_or is k Leave) (resting_from (suc begin) is) = rests_on is (suc begin) k x (omega arith) in
    later_rests begin x i is next ∙ (on ∙ rested_alike x (get_or is k Leave) (resting_from (suc begin) is) (resting_from begin (i ∷ is)) (λ to later. sym (later_rests begin to i is (omega arith))))

-- where one rests from a position
pub rests_at : (is : List Instr) (x : ℕ) → resting_of is x ≡ rested x (get_or is x Leave) (resting_of is)
rests_at is x = rests_on is 0 x x (omega arith)

-- from an instruction that is no jump one rests there
pub no_jump_rests : (is : List Instr) (x : ℕ) (i : Instr) → i ≡ get_or is x Leave → IsNoJump i → resting_of is x ≡ x
no_jump_rests is x i e none = rests_at is x ∙ (rw (← e) (stays x i (resting_of is) none))
  where
    stays : (at : ℕ) (j : Instr) (later : ℕ → ℕ) → IsNoJump j → rested at j later ≡ at
    stays at (Jump to) later never = absurd never
    stays at j later any = refl

-- from a jump that goes back one rests where it lands
pub back_rests : (is : List Instr) (x to : ℕ) → Jump to ≡ get_or is x Leave → to ≤ x → resting_of is x ≡ to
back_rests is x to e back = rests_at is x ∙ (rw (← e) (grind (arith, nat_tests)))

-- from a jump that goes on one rests where its target does
pub on_rests : (is : List Instr) (x to : ℕ) → Jump to ≡ get_or is x Leave → x < to → resting_of is x ≡ resting_of is to
on_rests is x to e on = rests_at is x ∙ (rw (← e) (grind (arith, nat_tests)))

-- what is not equal to a jump is none
pub is_no_jump : (i : Instr) → ((to : ℕ) → i ≡ Jump to → ⊥) → IsNoJump i
is_no_jump (Jump to) never = never to refl
is_no_jump i never = tt
