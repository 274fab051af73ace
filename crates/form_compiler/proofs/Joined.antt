-- What is held after points that come after points, and their lines.
use Rattle.std.proofs.Common.{◌≡◌, ℕ, zero, suc, pred, List, ◌∷◌, refl, ap}
use Rattle.lisp_base.specs.declared.id.FunctionName.{FunctionName}
use Rattle.form_points.specs.Points.{Points, Done, Do, Ask, Test, Choose, Loop, Turn, Enter, Protect, Handle, When, joined}
use Rattle.form_points.specs.declared.act.Act.TheVariants.{Discard}
use Rattle.lisp_code.specs.Held.{Holding, after_act, after_question, fewer, held_at, held_by, held_in, inside, one_more, outside, rise, total, without}
use Rattle.lisp_code.specs.Lines.{Does, Asks, Tests, Branches, LoopTests, JumpsTo, Enters, EntersProtect, EntersHandler, Leaves, LeavesProtect, LeavesCleanup, LeavesHandler, Placed, Way, act_line, clauses_at, given, laid, no_way, past, placed}
use Rattle.form_compiler.specs.inside.Gives.{with_more}

pub rise-joined : (h : Holding) (a b : Points) → rise h (joined a b) ≡ rise (rise h a) b
rise-joined h Done b = refl
rise-joined h (Do act p after) b = rise-joined (after_act act h) after b
rise-joined h (Ask q p after) b = rise-joined (after_question q h) after b
rise-joined h (Test q p more after) b = rise-joined (after_question q h) after b
rise-joined h (Choose p x y after) b = rise-joined (one_more (without 1 h)) after b
rise-joined h (Loop p test body after) b = rise-joined (one_more h) after b
rise-joined h (Turn p test body after) b = rise-joined h after b
rise-joined h (Enter o p body after) b = rise-joined (one_more (outside o h)) after b
rise-joined h (Protect p body cleanup after) b = rise-joined (one_more h) after b
rise-joined h (Handle p body clauses after) b = rise-joined (one_more h) after b
rise-joined h (When class is_given chosen others) b = rise-joined h others b

pub fewer-suc : (k n : ℕ) → pred (fewer k (suc n)) ≡ fewer k n
fewer-suc zero n = refl
fewer-suc (suc k) n = ap pred (fewer-suc k n)

pub fewer-pred : (k n : ℕ) → fewer k (pred n) ≡ pred (fewer k n)
fewer-pred zero n = refl
fewer-pred (suc k) n = ap pred (fewer-pred k n)

-- so many operands more, and so many fewer
pub without-more : (n : ℕ) (h : Holding) → without n (with_more n h) ≡ h
without-more zero h = refl
without-more (suc n) h = ap (λ (g : Holding). without 1 g) (without-more n (one_more h))

pub past-joined : (at : ℕ) (a b : Points) → past at (joined a b) ≡ past (past at a) b
past-joined at Done b = refl
past-joined at (Do act p after) b = past-joined (suc at) after b
past-joined at (Ask q p after) b = past-joined (suc at) after b
past-joined at (Test q p more after) b = past-joined (past (suc at) more) after b
past-joined at (Choose p x y after) b = past-joined (past (suc (past (suc at) x)) y) after b
past-joined at (Loop p test body after) b = past-joined (suc (suc (past (suc (past at test)) body))) after b
past-joined at (Turn p test body after) b = past-joined at after b
past-joined at (Enter o p body after) b = past-joined (suc (past (suc at) body)) after b
past-joined at (Protect p body cleanup after) b = past-joined (suc (past (suc (past (suc at) body)) cleanup)) after b
past-joined at (Handle p body clauses after) b = past-joined (past (suc (past (suc at) body)) clauses) after b
past-joined at (When class is_given chosen others) b = past-joined (suc (past at chosen)) others b

-- lines of points after points
pub laid-joined : (names : List FunctionName) (way : Way) (h : Holding) (at : ℕ) (a b : Points) (next : List Placed)
    → laid names way h at (joined a b) next ≡ laid names way h at a (laid names way (rise h a) (past at a) b next)
laid-joined names way h at Done b next = refl
laid-joined names way h at (Do act p after) b next =
    ap (λ l. placed (act_line names act) p h (held_by act h) ∷ l) (laid-joined names way (after_act act h) (suc at) after b next)
laid-joined names way h at (Ask q p after) b next =
    ap (λ l. placed (Asks q) p h (held_at q h) ∷ l) (laid-joined names way (after_question q h) (suc at) after b next)
laid-joined names way h at (Test q p more after) b next =
    let end : ℕ = past (suc at) more in
    ap (λ l. placed (Tests q end) p h (held_at q h) ∷ laid names no_way h (suc at) more l) (laid-joined names way (after_question q h) end after b next)
laid-joined names way h at (Choose p x y after) b next =
    let low : Holding = without 1 h in
    let jump : ℕ = past (suc at) x in
    let end : ℕ = past (suc jump) y in
    ap (λ l. placed (Branches (suc jump)) p h (total low) ∷ laid names no_way low (suc at) x (placed (JumpsTo end) p (one_more low) (total low) ∷ laid names no_way low (suc jump) y l))
    (laid-joined names way (one_more low) end after b next)
laid-joined names way h at (Loop p test body after) b next =
    let judge : ℕ = past at test in
    let again : ℕ = suc (past (suc judge) body) in
    ap (λ l. laid names no_way h at test (placed (LoopTests (suc again)) p (one_more h) (total (one_more h))
    ∷ laid names no_way h (suc judge) body (placed (Does Discard) p (one_more h) (total h) ∷ (placed (JumpsTo at) p h (total h) ∷ l))))
    (laid-joined names way (one_more h) (suc again) after b next)
laid-joined names way h at (Turn p test body after) b next = laid-joined names way h at after b next
laid-joined names way h at (Enter o p body after) b next =
    let leave : ℕ = past (suc at) body in
    ap (λ l. placed (Enters o (suc leave)) p h (held_in o h) ∷ laid names no_way (inside o h) (suc at) body (placed Leaves p (one_more (outside o h)) (total (outside o h)) ∷ l))
    (laid-joined names way (one_more (outside o h)) (suc leave) after b next)
laid-joined names way h at (Protect p body cleanup after) b next =
    let turn : ℕ = past (suc at) body in
    let leave : ℕ = past (suc turn) cleanup in
    ap (λ l. placed (EntersProtect (suc turn)) p h (total h) ∷ laid names no_way h (suc at) body (placed LeavesProtect p (one_more h) (total h)
    ∷ laid names no_way h (suc turn) cleanup (placed LeavesCleanup p (one_more h) (total h) ∷ l)))
    (laid-joined names way (one_more h) (suc leave) after b next)
laid-joined names way h at (Handle p body clauses after) b next =
    let leave : ℕ = past (suc at) body in
    let end : ℕ = past (suc leave) clauses in
    ap (λ l. placed (EntersHandler (clauses_at (suc leave) clauses)) p h (total h) ∷ laid names no_way h (suc at) body (placed (LeavesHandler end) p (one_more h) (total h)
    ∷ laid names (record { to = end; place = p }) h (suc leave) clauses l))
    (laid-joined names way (one_more h) end after b next)
laid-joined names way h at (When class is_given chosen others) b next =
    ap (λ l. laid names no_way (given is_given h) at chosen (placed (JumpsTo way.to) way.place (one_more h) (total h) ∷ l))
    (laid-joined names way h (suc (past at chosen)) others b next)
