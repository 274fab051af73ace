-- Stretches of points that lie in code.
use Rattle.std.proofs.Common.{◌≡◌, ℕ, zero, suc, List, [], ◌∷◌, ◌++◌, length, refl, ap, subst, ◌∙◌, nat_lt, cond, true, false, arith}
use Rattle.std.proofs.lemmas.Bool.Decides.{nat_tests}
use Rattle.lisp_base.specs.declared.word.Operand.{Operand}
use Rattle.environment_semantics.specs.Environment.{Binding, outer}
use Rattle.form_points.specs.Points.{Points, Done, Do, Ask, Test, Choose, Loop, Turn, Enter, Protect, Handle, When, joined, settled}
use Rattle.thread_semantics.specs.State.{at}
use Rattle.machine_semantics.specs.Machine.{Code, Running}
use Rattle.machine_semantics.specs.Relation.{Controls, IsBegun, Jumped, Lies, Runs, asks, chooses, does, done, enters, handles, here, jump, loops, protects, running, tests, turns}

-- jumps come first
pub jumped_both : {code : Code} {p q r : ℕ} → Jumped code p q → Jumped code q r → Jumped code p r
jumped_both here k = k
jumped_both (jump pl h j) k = jump pl h (jumped_both j k)

pub comes : {code : Code} {room n p q n' e : ℕ} {ps : Points} → Jumped code p q → Lies code room n q ps n' e → Lies code room n p ps n' e
comes j (done k) = done (jumped_both j k)
comes j (does k h t i l) = does (jumped_both j k) h t i l
comes j (asks k h t l) = asks (jumped_both j k) h t l
comes j (tests k h t i a b) = tests (jumped_both j k) h t i a b
comes j (chooses k h e a b c) = chooses (jumped_both j k) h e a b c
comes j (loops e t l) = loops e (comes j t) l
comes j (turns k h e a b r d s c) = turns (jumped_both j k) h e a b r d s c
comes j (enters k h t i b r v l) = enters (jumped_both j k) h t i b r v l
comes j (protects k h b r v c r' v' l) = protects (jumped_both j k) h b r v c r' v' l
comes j (handles k h b r v c l) = handles (jumped_both j k) h b r v c l

-- points after points
pub joins : {code : Code} {room n p m mid n' e : ℕ} {ps after : Points} → Lies code room n p ps m mid → Lies code room m mid after n' e → Lies code room n p (joined ps after) n' e
joins (done j) k = comes j k
joins (does j h t i l) k = does j h t i (joins l k)
joins (asks j h t l) k = asks j h t (joins l k)
joins (tests j h t i a b) k = tests j h t i a (joins b k)
joins (chooses j h e a b c) k = chooses j h e a b (joins c k)
joins (loops e t l) k = loops e t (joins l k)
joins (turns j h e a b r d s c) k = turns j h e a b r d s (joins c k)
joins (enters j h t i b r v l) k = enters j h t i b r v (joins l k)
joins (protects j h b r v c r' v' l) k = protects j h b r v c r' v' (joins l k)
joins (handles j h b r v c l) k = handles j h b r v c (joins l k)

-- a loop begun
pub settles : {code : Code} {room n p n' e : ℕ} {ps : Points} → Lies code room n p ps n' e → Lies code room n p (settled ps) n' e
settles (done j) = done j
settles (does j h t i l) = does j h t i l
settles (asks j h t l) = asks j h t l
settles (tests j h t i a b) = tests j h t i a b
settles (chooses j h e a b c) = chooses j h e a b c
settles (loops e t l) = joins (settles t) l
settles (turns j h e a b r d s c) = turns j h e a b r d s c
settles (enters j h t i b r v l) = enters j h t i b r v l
settles (protects j h b r v c r' v' l) = protects j h b r v c r' v' l
settles (handles j h b r v c l) = handles j h b r v c l

-- no loop comes first in points that are joined, or settled
joined_begun : (ps after : Points) → IsBegun ps → IsBegun after → IsBegun (joined ps after)
joined_begun Done after h k = k
joined_begun (Do a p rest) after h k = tt
joined_begun (Ask q p rest) after h k = tt
joined_begun (Test q p more rest) after h k = tt
joined_begun (Choose p x y rest) after h k = tt
joined_begun (Loop p test body rest) after h k = h
joined_begun (Turn p test body rest) after h k = tt
joined_begun (Enter o p body rest) after h k = tt
joined_begun (Protect p body cleanup rest) after h k = tt
joined_begun (Handle p body clauses rest) after h k = tt
joined_begun (When class is_given chosen others) after h k = tt

pub settled_begun : (ps : Points) → IsBegun (settled ps)
settled_begun Done = tt
settled_begun (Do a p rest) = tt
settled_begun (Ask q p rest) = tt
settled_begun (Test q p more rest) = tt
settled_begun (Choose p x y rest) = tt
settled_begun (Loop p test body rest) = joined_begun (settled test) (Turn p test body rest) (settled_begun test) tt
settled_begun (Turn p test body rest) = tt
settled_begun (Enter o p body rest) = tt
settled_begun (Protect p body cleanup rest) = tt
settled_begun (Handle p body clauses rest) = tt
settled_begun (When class is_given chosen others) = tt

-- the same with another number of values
pub with_count : {code : Code} {room n m p n' e : ℕ} {ps : Points} → n ≡ m → Lies code room n p ps n' e → Lies code room m p ps n' e
with_count {code = code} {room = room} {p = p} {n' = n'} {e = e} {ps = ps} q l = subst (λ k. Lies code room k p ps n' e) q l

pub runs_with : {code : Code} {room n k p end : ℕ} {ps : Points} → n ≡ k → Runs code room n p ps end → Runs code room k p ps end
runs_with e r = record { to = r.to; lies = with_count e r.lies; ends = r.ends }

pub run_of : {code : Code} {room k n q one to end : ℕ} {ps : Points} → k ≡ n → one ≡ 1 → Lies code room k q ps one to → Jumped code to end → Runs code room n q ps end
run_of {code = code} {room = room} {n = n} {q = q} {one = one} {to = to} {ps = ps} h o l z = record { to = to; lies = subst (λ x. Lies code room n q ps x to) o (with_count h l); ends = z }

-- a stretch that goes on
pub runs_on : {code : Code} {room n p end : ℕ} {ps : Points} {below ws vs : List Operand} → Runs code room n p ps end → n ≡ length vs → ws ≡ vs ++ below
    → Controls code room below end (at ps vs) (Running p) ws
runs_on {ps = ps} r e w = running (settled_begun ps) (record { to = r.to; lies = with_count e (settles r.lies); ends = r.ends }) w

-- bindings at the entry of a frame
below_suc : (n m : ℕ) → n ≡ m → nat_lt m (suc n) ≡ true
below_suc n m e = grind (arith, nat_tests)

not_below : (n : ℕ) → nat_lt n n ≡ false
not_below n = grind (arith, nat_tests)

outer_inner : (n : ℕ) (bs : List Binding) → n ≡ length bs → outer n bs ≡ bs
outer_inner n [] e = refl
outer_inner zero (b ∷ bs) e = absurd (omega (arith, e))
outer_inner (suc n) (b ∷ bs) e = ap (λ t. cond t (b ∷ bs) (outer (suc n) bs)) (below_suc n (length bs) (omega (arith, e)))

pub outer_of : (b : Binding) (bs : List Binding) → outer (length bs) (b ∷ bs) ≡ bs
outer_of b bs = ap (λ t. cond t (b ∷ bs) (outer (length bs) bs)) (not_below (length bs)) ∙ outer_inner (length bs) bs refl
