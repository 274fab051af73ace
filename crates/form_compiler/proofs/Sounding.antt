-- Points that fit are laid out as valid code.
use Rattle.std.proofs.Common.{◌≡◌, ◌≤◌, ◌<◌, ◌+◌, ℕ, zero, suc, max, List, [], ◌∷◌, Bool, true, false, Option, Some, None, All, map, length, get_or, drop, arith, refl, sym, ap, subst, ◌∙◌}
use Rattle.std.proofs.lemmas.List.Elements.{All-cons, All-nil}
use Rattle.lisp_base.specs.declared.id.FunctionName.{FunctionName}
use Rattle.form_points.specs.Operands.{act_takes, one_of}
use Rattle.form_points.specs.Points.{Points, Done, Do, Ask, Test, Choose, Loop, Turn, Enter, Protect, Handle, When}
use Rattle.form_points.specs.declared.act.Act.{Act}
use Rattle.form_points.specs.declared.act.Act.TheVariants as act
use Rattle.lisp_code.specs.CodeOf.{most_held}
use Rattle.lisp_code.specs.Held.{Holding, after_act, after_question, fewer, held_by, inside, one_more, outside, rise, total, without}
use Rattle.lisp_code.specs.Lines.{Does, LoopTests, JumpsTo, Leaves, LeavesProtect, LeavesCleanup, LeavesHandler, Placed, Way, act_line, call_line, clauses_at, given, laid, no_way, past, placed, seat_of}
use Rattle.lisp_code.specs.Parts.{Parts, line_of}
use Rattle.lisp_code.specs.Validity.{IsNoJump, Lies, clause_going, most_operands, on}
use Rattle.lisp_code.specs.declared.instr.Instr.{Instr}
use Rattle.lisp_code.specs.declared.instr.Instr.TheVariants as i
use Rattle.form_compiler.specs.inside.Fits.{FitClauses, Fits}
use Rattle.form_compiler.specs.inside.Sound.{AreSound, Begins, BeginsWithNoJump, IsFineLine, IsLaidOut, IsNoJumpLine}
use Rattle.form_compiler.proofs.Fine.{at-most, fine-act, fine-branch, fine-call, fine-cleanup, fine-handled, fine-jump, fine-leave, fine-loop, fine-opening, fine-protect, fine-question, fine-signal, fine-test, fine-turn, none-plus, one-plus}

-- lists of lines
pub drop-suc : (n : ℕ) (xs : List Placed) (y : Placed) (ys : List Placed) → drop n xs ≡ y ∷ ys → drop (suc n) xs ≡ ys
drop-suc zero xs y ys e = ap (λ (zs : List Placed). drop 1 zs) e
drop-suc (suc n) [] y ys e = ap (λ (zs : List Placed). drop 1 zs) e
drop-suc (suc n) (x ∷ xs) y ys e = drop-suc n xs y ys e

none-some : (n : ℕ) → 0 ≡ suc n → ⊥
none-some n e = omega (arith, e)

first-inside : (n : ℕ) → 0 < suc n
first-inside n = omega arith

next-inside : (n m : ℕ) → n < m → suc n < suc m
next-inside n m l = omega (arith, l)

inside-list : (n : ℕ) (xs : List Placed) (y : Placed) (ys : List Placed) → drop n xs ≡ y ∷ ys → n < length xs
inside-list zero [] y ys e = absurd (none-some (length ys) (ap length e))
inside-list (suc n) [] y ys e = absurd (none-some (length ys) (ap length e))
inside-list zero (x ∷ xs) y ys e = first-inside (length xs)
inside-list (suc n) (x ∷ xs) y ys e = next-inside n (length xs) (inside-list n xs y ys e)

-- what a line has at a position, from the lines from there on
got : {B : Type 0} (f : Placed → B) (d : B) (n : ℕ) (xs ls : List Placed) → drop n xs ≡ ls → get_or (map f xs) n d ≡ get_or (map f ls) 0 d
got f d zero xs ls e = ap (λ (zs : List Placed). get_or (map f zs) 0 d) e
got f d (suc n) [] ls e = ap (λ (zs : List Placed). get_or (map f zs) 0 d) e
got f d (suc n) (x ∷ xs) ls e = got f d n xs ls e

same : (n : ℕ) → n ≤ n
same n = omega arith

more-of : (k n m : ℕ) → n ≤ m → n ≤ max k m
more-of k n m l = omega (arith, l)

pub most-of : (n : ℕ) (xs : List Placed) → most_held (drop n xs) ≤ most_held xs
most-of zero xs = same (most_held xs)
most-of (suc n) [] = same 0
most-of (suc n) (x ∷ xs) = more-of x.held (most_held (drop n xs)) (most_held xs) (most-of n xs)

first-most : (n m k : ℕ) → max n m ≤ k → n ≤ k
first-most n m k l = omega (arith, l)

pub length-mapped : {A B : Type 0} (f : A → B) (xs : List A) → length (map f xs) ≡ length xs
length-mapped f [] = refl
length-mapped f (x ∷ xs) = ap suc (length-mapped f xs)

get-mapped : {A B : Type 0} (f : A → B) (xs : List A) (n : ℕ) (d : A) → get_or (map f xs) n (f d) ≡ f (get_or xs n d)
get-mapped f [] n d = refl
get-mapped f (x ∷ xs) zero d = refl
get-mapped f (x ∷ xs) (suc n) d = get-mapped f xs n d

-- positions
before : (n m : ℕ) → suc n ≤ m → n ≤ m
before n m l = omega (arith, l)

further : (n m k : ℕ) → n ≤ m → m ≤ k → n ≤ k
further n m k l u = omega (arith, l, u)

past-grows : (at : ℕ) (points : Points) → at ≤ past at points
past-grows at Done = same at
past-grows at (Do a p after) = before at _ (past-grows (suc at) after)
past-grows at (Ask q p after) = before at _ (past-grows (suc at) after)
past-grows at (Test q p more after) = before at _ (further (suc at) _ _ (past-grows (suc at) more) (past-grows (past (suc at) more) after))
past-grows at (Choose p x y after) =
    let jump : ℕ = past (suc at) x in
    let end : ℕ = past (suc jump) y in
    before at _ (further (suc at) jump _ (past-grows (suc at) x) (before jump _ (further (suc jump) end _ (past-grows (suc jump) y) (past-grows end after))))
past-grows at (Loop p test body after) =
    let judge : ℕ = past at test in
    let again : ℕ = past (suc judge) body in
    further at judge _ (past-grows at test)
    (before judge _ (further (suc judge) again _ (past-grows (suc judge) body) (before again _ (before (suc again) _ (past-grows (suc (suc again)) after)))))
past-grows at (Turn p test body after) = past-grows at after
past-grows at (Enter o p body after) =
    let leave : ℕ = past (suc at) body in
    before at _ (further (suc at) leave _ (past-grows (suc at) body) (before leave _ (past-grows (suc leave) after)))
past-grows at (Protect p body cleanup after) =
    let turn : ℕ = past (suc at) body in
    let leave : ℕ = past (suc turn) cleanup in
    before at _ (further (suc at) turn _ (past-grows (suc at) body)
    (before turn _ (further (suc turn) leave _ (past-grows (suc turn) cleanup) (before leave _ (past-grows (suc leave) after)))))
past-grows at (Handle p body clauses after) =
    let leave : ℕ = past (suc at) body in
    let end : ℕ = past (suc leave) clauses in
    before at _ (further (suc at) leave _ (past-grows (suc at) body) (before leave _ (further (suc leave) end _ (past-grows (suc leave) clauses) (past-grows end after))))
past-grows at (When class is_given chosen others) =
    further at (past at chosen) _ (past-grows at chosen) (before (past at chosen) _ (past-grows (suc (past at chosen)) others))

-- the lines after these points are where these points end
pub drop-laid : (names : List FunctionName) (way : Way) (ls : List Placed) (h : Holding) (at : ℕ) (points : Points) (next : List Placed)
    → drop at ls ≡ laid names way h at points next → drop (past at points) ls ≡ next
drop-laid names way ls h at Done next e = e
drop-laid names way ls h at (Do a p after) next e = drop-laid names way ls (after_act a h) (suc at) after next (drop-suc at ls _ _ e)
drop-laid names way ls h at (Ask q p after) next e = drop-laid names way ls (after_question q h) (suc at) after next (drop-suc at ls _ _ e)
drop-laid names way ls h at (Test q p more after) next e =
    drop-laid names way ls (after_question q h) (past (suc at) more) after next (drop-laid names no_way ls h (suc at) more _ (drop-suc at ls _ _ e))
drop-laid names way ls h at (Choose p x y after) next e =
    let low : Holding = without 1 h in
    let jump : ℕ = past (suc at) x in
    drop-laid names way ls (one_more low) (past (suc jump) y) after next
    (drop-laid names no_way ls low (suc jump) y _ (drop-suc jump ls _ _ (drop-laid names no_way ls low (suc at) x _ (drop-suc at ls _ _ e))))
drop-laid names way ls h at (Loop p test body after) next e =
    let judge : ℕ = past at test in
    let again : ℕ = past (suc judge) body in
    drop-laid names way ls (one_more h) (suc (suc again)) after next
    (drop-suc (suc again) ls _ _ (drop-suc again ls _ _
    (drop-laid names no_way ls h (suc judge) body _ (drop-suc judge ls _ _ (drop-laid names no_way ls h at test _ e)))))
drop-laid names way ls h at (Turn p test body after) next e = drop-laid names way ls h at after next e
drop-laid names way ls h at (Enter o p body after) next e =
    let leave : ℕ = past (suc at) body in
    drop-laid names way ls (one_more (outside o h)) (suc leave) after next
    (drop-suc leave ls _ _ (drop-laid names no_way ls (inside o h) (suc at) body _ (drop-suc at ls _ _ e)))
drop-laid names way ls h at (Protect p body cleanup after) next e =
    let turn : ℕ = past (suc at) body in
    let leave : ℕ = past (suc turn) cleanup in
    drop-laid names way ls (one_more h) (suc leave) after next
    (drop-suc leave ls _ _ (drop-laid names no_way ls h (suc turn) cleanup _
    (drop-suc turn ls _ _ (drop-laid names no_way ls h (suc at) body _ (drop-suc at ls _ _ e)))))
drop-laid names way ls h at (Handle p body clauses after) next e =
    let leave : ℕ = past (suc at) body in
    let end : ℕ = past (suc leave) clauses in
    drop-laid names way ls (one_more h) end after next
    (drop-laid names (record { to = end; place = p }) ls h (suc leave) clauses _ (drop-suc leave ls _ _ (drop-laid names no_way ls h (suc at) body _ (drop-suc at ls _ _ e))))
drop-laid names way ls h at (When class is_given chosen others) next e =
    drop-laid names way ls h (suc (past at chosen)) others next
    (drop-suc (past at chosen) ls _ _ (drop-laid names no_way ls (given is_given h) at chosen _ e))

-- what points begin with
begins-as : (g k : ℕ) (ls : List Placed) → g ≡ k → Begins k ls → Begins g ls
begins-as g k ls e b = subst (λ n. Begins n ls) (sym e) b

pub begins : (names : List FunctionName) (way : Way) (ss : List ℕ) (h : Holding) (at : ℕ) (points : Points) (next : List Placed)
    → Fits ss h points → Begins (rise h points).height next → Begins h.height (laid names way h at points next)
begins names way ss h at Done next f b = b
begins names way ss h at (Do a p after) next f b = refl
begins names way ss h at (Ask q p after) next f b = refl
begins names way ss h at (Test q p more after) next f b = refl
begins names way ss h at (Choose p x y after) next f b = refl
begins names way ss h at (Loop p test body after) next f b = begins names no_way ss h at test _ f.0.0 f.0.1
begins names way ss h at (Turn p test body after) next f b = absurd f
begins names way ss h at (Enter o p body after) next f b = refl
begins names way ss h at (Protect p body cleanup after) next f b = refl
begins names way ss h at (Handle p body clauses after) next f b = refl
begins names way ss h at (When class is_given chosen others) next f b = absurd f

call-no-jump : (seat : Option ℕ) (count : ℕ) → IsNoJumpLine (call_line seat count)
call-no-jump None count = tt
call-no-jump (Some n) count = tt

act-no-jump : (names : List FunctionName) (a : Act) → IsNoJumpLine (act_line names a)
act-no-jump names (act.Push v) = tt
act-no-jump names (act.PushFunction name) = tt
act-no-jump names act.PushThread = tt
act-no-jump names (act.ReadLocal x) = tt
act-no-jump names (act.WriteLocal x) = tt
act-no-jump names (act.BindLocal x above) = tt
act-no-jump names act.ForgetLocal = tt
act-no-jump names act.Discard = tt
act-no-jump names (act.Apply f) = tt
act-no-jump names (act.Call f count) = call-no-jump (seat_of f names) count
act-no-jump names (act.ReturnFrom b) = tt
act-no-jump names act.Throw = tt
act-no-jump names (act.Signal condition) = tt
act-no-jump names act.AbortThread = tt
act-no-jump names act.ReturnFromThread = tt

no-jump : (names : List FunctionName) (way : Way) (ss : List ℕ) (h : Holding) (at : ℕ) (points : Points) (next : List Placed)
    → Fits ss h points → BeginsWithNoJump next → BeginsWithNoJump (laid names way h at points next)
no-jump names way ss h at Done next f b = b
no-jump names way ss h at (Do a p after) next f b = act-no-jump names a
no-jump names way ss h at (Ask q p after) next f b = tt
no-jump names way ss h at (Test q p more after) next f b = tt
no-jump names way ss h at (Choose p x y after) next f b = tt
no-jump names way ss h at (Loop p test body after) next f b = no-jump names no_way ss h at test _ f.0.0 tt
no-jump names way ss h at (Turn p test body after) next f b = absurd f
no-jump names way ss h at (Enter o p body after) next f b = tt
no-jump names way ss h at (Protect p body cleanup after) next f b = tt
no-jump names way ss h at (Handle p body clauses after) next f b = tt
no-jump names way ss h at (When class is_given chosen others) next f b = absurd f

no-jump-of : (p : Parts) (instr : Instr) → IsNoJumpLine (line_of p.handlers instr) → IsNoJump instr
no-jump-of p (i.Do a) n = tt
no-jump-of p (i.Call function count) n = tt
no-jump-of p (i.Ask q) n = tt
no-jump-of p (i.Test q to) n = tt
no-jump-of p (i.Branch to) n = tt
no-jump-of p (i.LoopTest to) n = tt
no-jump-of p (i.Jump to) n = n
no-jump-of p (i.Enter o back) n = tt
no-jump-of p (i.EnterProtect cleanup) n = tt
no-jump-of p (i.EnterHandler row) n = tt
no-jump-of p i.Leave n = tt
no-jump-of p i.LeaveProtect n = tt
no-jump-of p i.LeaveCleanup n = tt
no-jump-of p (i.LeaveHandler to) n = tt

part-held : (n m k : ℕ) → n + m ≤ k → m ≤ k
part-held n m k l = omega (arith, l)

not-back : (n m : ℕ) → suc n ≤ m → m ≤ n → ⊥
not-back n m l u = omega (arith, l, u)

one-some : (n : ℕ) → 1 ≤ suc n
one-some n = omega arith

height-held : (h : Holding) → total h ≤ most_operands → h.height ≤ most_operands
height-held h u = part-held h.opened h.height most_operands u

given-height : (is_given : Bool) (h : Holding) → (given is_given h).height ≡ one_of is_given + h.height
given-height true h = one-plus h.height
given-height false h = none-plus h.height

module _ (p : Parts) (names : List FunctionName) (ls : List Placed) (c : IsLaidOut p names ls) where
  pub same-length : length p.instrs ≡ length ls
  same-length = sym (length-mapped (line_of p.handlers) p.instrs) ∙ (ap length c.lines ∙ length-mapped (λ (l : Placed). l.line) ls)

  -- lines that begin with so many operands lie at their position
  pub lies : (n g : ℕ) (ms : List Placed) → drop n ls ≡ ms → Begins g ms → Lies p (on n g)
  lies n g [] e b = absurd b
  lies n g (m ∷ ms) e b = (
    subst (λ k. n < k) (sym same-length) (inside-list n ls m ms e),
    ap (λ hs. get_or hs n 0) c.heights ∙ (got (λ (l : Placed). l.height) 0 n ls (m ∷ ms) e ∙ sym b),
  )

  lands : (n : ℕ) (ms : List Placed) → drop n ls ≡ ms → BeginsWithNoJump ms → IsNoJump (get_or p.instrs n i.Leave)
  lands n ms e b =
      no-jump-of p (get_or p.instrs n i.Leave)
      (subst IsNoJumpLine (sym (sym (get-mapped (line_of p.handlers) p.instrs n i.Leave) ∙ (ap (λ xs. get_or xs n Leaves) c.lines
      ∙ got (λ (l : Placed). l.line) Leaves n ls ms e))) b)

  -- a line holds not too much
  pub held : (n : ℕ) (m : Placed) (ms : List Placed) → drop n ls ≡ m ∷ ms → m.held ≤ most_operands
  held n m ms e =
      first-most m.held (most_held ms) most_operands
      (subst (λ xs. most_held xs ≤ most_operands) e (at-most (most_held (drop n ls)) (most_held ls) most_operands (most-of n ls) c.held))

  -- the line of an act
  call-line : (seat : Option ℕ) (at count : ℕ) (h : Holding) → ((n : ℕ) → seat ≡ Some n → n < length p.functions) → count ≤ h.height
      → total (one_more (without count h)) ≤ most_operands → Lies p (on (suc at) (suc (fewer count h.height))) → IsFineLine p at h.height (call_line seat count)
  call-line None at count h r t u l = fine-signal p at h.height _
  call-line (Some n) at count h r t u l = fine-call p at n count h t u (r n refl) l

  act-fine : (at : ℕ) (a : Act) (h : Holding) → act_takes a ≤ h.height → held_by a h ≤ most_operands → Lies p (on (suc at) (after_act a h).height)
      → IsFineLine p at h.height (act_line names a)
  act-fine at (act.Push v) h t u l = fine-act p at (act.Push v) h t u l
  act-fine at (act.PushFunction name) h t u l = fine-act p at (act.PushFunction name) h t u l
  act-fine at act.PushThread h t u l = fine-act p at act.PushThread h t u l
  act-fine at (act.ReadLocal x) h t u l = fine-act p at (act.ReadLocal x) h t u l
  act-fine at (act.WriteLocal x) h t u l = fine-act p at (act.WriteLocal x) h t u l
  act-fine at (act.BindLocal x above) h t u l = fine-act p at (act.BindLocal x above) h t u l
  act-fine at act.ForgetLocal h t u l = fine-act p at act.ForgetLocal h t u l
  act-fine at act.Discard h t u l = fine-act p at act.Discard h t u l
  act-fine at (act.Apply f) h t u l = fine-act p at (act.Apply f) h t u l
  act-fine at (act.Call f count) h t u l = call-line (seat_of f names) at count h (c.seats f) t u l
  act-fine at (act.ReturnFrom b) h t u l = fine-act p at (act.ReturnFrom b) h t u l
  act-fine at act.Throw h t u l = fine-act p at act.Throw h t u l
  act-fine at (act.Signal condition) h t u l = fine-act p at (act.Signal condition) h t u l
  act-fine at act.AbortThread h t u l = fine-act p at act.AbortThread h t u l
  act-fine at act.ReturnFromThread h t u l = fine-act p at act.ReturnFromThread h t u l

  -- a handler goes on at each of its clauses
  clauses-lie : (way : Way) (h : Holding) (at : ℕ) (points : Points) (next : List Placed) → FitClauses p.specials h points
      → drop at ls ≡ laid names way h at points next → All (Lies p) (map (clause_going h.height) (clauses_at at points))
  clauses-lie way h at Done next f e = All-nil (Lies p)
  clauses-lie way h at (Do a q after) next f e = absurd f
  clauses-lie way h at (Ask q r after) next f e = absurd f
  clauses-lie way h at (Test q r more after) next f e = absurd f
  clauses-lie way h at (Choose q x y after) next f e = absurd f
  clauses-lie way h at (Loop q test body after) next f e = absurd f
  clauses-lie way h at (Turn q test body after) next f e = absurd f
  clauses-lie way h at (Enter o q body after) next f e = absurd f
  clauses-lie way h at (Protect q body cleanup after) next f e = absurd f
  clauses-lie way h at (Handle q body clauses after) next f e = absurd f
  clauses-lie way h at (When class is_given chosen others) next f e =
      All-cons (Lies p) (clause_going h.height (record { class = class; is_given = is_given; start = at })) _
      (subst (λ n. Lies p (on at n)) (given-height is_given h)
      (lies at (given is_given h).height _ e (begins names no_way p.specials (given is_given h) at chosen _ f.0.0 f.0.1)))
      (clauses-lie way h (suc (past at chosen)) others next f.1
      (drop-suc (past at chosen) ls _ _ (drop-laid names no_way ls (given is_given h) at chosen _ e)))

  mutual
    pub laid-sound : (way : Way) (h : Holding) (at : ℕ) (points : Points) (next : List Placed) → Fits p.specials h points
        → drop at ls ≡ laid names way h at points next → Begins (rise h points).height next → AreSound p (past at points) next
        → AreSound p at (laid names way h at points next)
    laid-sound way h at Done next f e b s = s
    laid-sound way h at (Do a q after) next f e b s =
        let rest : List Placed = laid names way (after_act a h) (suc at) after next in
        let e1 : drop (suc at) ls ≡ rest = drop-suc at ls _ _ e in
        let b1 : Begins (after_act a h).height rest = begins names way p.specials (after_act a h) (suc at) after next f.1 b in
        (act-fine at a h f.0 (held at _ _ e) (lies (suc at) (after_act a h).height rest e1 b1), laid-sound way (after_act a h) (suc at) after next f.1 e1 b s)
    laid-sound way h at (Ask q r after) next f e b s =
        let rest : List Placed = laid names way (after_question q h) (suc at) after next in
        let e1 : drop (suc at) ls ≡ rest = drop-suc at ls _ _ e in
        let b1 : Begins (after_question q h).height rest = begins names way p.specials (after_question q h) (suc at) after next f.1.1 b in (
          fine-question p at q h f.0 (held at _ _ e) f.1.0 (lies (suc at) (after_question q h).height rest e1 b1),
          laid-sound way (after_question q h) (suc at) after next f.1.1 e1 b s,
        )
    laid-sound way h at (Test q r more after) next f e b s =
        let end : ℕ = past (suc at) more in
        let rest : List Placed = laid names way (after_question q h) end after next in
        let e1 : drop (suc at) ls ≡ laid names no_way h (suc at) more rest = drop-suc at ls _ _ e in
        let e2 : drop end ls ≡ rest = drop-laid names no_way ls h (suc at) more rest e1 in
        let b2 : Begins (after_question q h).height rest = begins names way p.specials (after_question q h) end after next f.1.1.1 b in
        let s2 : AreSound p end rest = laid-sound way (after_question q h) end after next f.1.1.1 e2 b s in
        let b' : Begins (rise h more).height rest = begins-as (rise h more).height (after_question q h).height rest f.1.1.0.1 b2 in
        let b1 : Begins h.height (laid names no_way h (suc at) more rest) = begins names no_way p.specials h (suc at) more rest f.1.1.0.0 b' in (
          fine-test p at end q h f.0 (held at _ _ e) f.1.0 (lies (suc at) h.height _ e1 b1) (lies end (after_question q h).height rest e2 b2),
          laid-sound no_way h (suc at) more rest f.1.1.0.0 e1 b' s2,
        )
    laid-sound way h at (Choose q x y after) next f e b s =
        let low : Holding = without 1 h in
        let jump : ℕ = past (suc at) x in
        let end : ℕ = past (suc jump) y in
        let rest : List Placed = laid names way (one_more low) end after next in
        let second : List Placed = laid names no_way low (suc jump) y rest in
        let turn : Placed = placed (JumpsTo end) q (one_more low) (total low) in
        let e1 : drop (suc at) ls ≡ laid names no_way low (suc at) x (turn ∷ second) = drop-suc at ls _ _ e in
        let e2 : drop jump ls ≡ turn ∷ second = drop-laid names no_way ls low (suc at) x (turn ∷ second) e1 in
        let e3 : drop (suc jump) ls ≡ second = drop-suc jump ls turn second e2 in
        let e4 : drop end ls ≡ rest = drop-laid names no_way ls low (suc jump) y rest e3 in
        let b4 : Begins (suc low.height) rest = begins names way p.specials (one_more low) end after next f.1.1.1 b in
        let s4 : AreSound p end rest = laid-sound way (one_more low) end after next f.1.1.1 e4 b s in
        let by : Begins (rise low y).height rest = begins-as (rise low y).height (suc low.height) rest f.1.1.0.1 b4 in
        let b3 : Begins low.height second = begins names no_way p.specials low (suc jump) y rest f.1.1.0.0 by in
        let s3 : AreSound p (suc jump) second = laid-sound no_way low (suc jump) y rest f.1.1.0.0 e3 by s4 in
        let s2 : AreSound p jump (turn ∷ second) =
        (fine-jump p jump end (suc low.height) (lies end (suc low.height) rest e4 b4) (λ l. absurd (not-back jump end (past-grows (suc jump) y) l)), s3) in
        let b1 : Begins low.height (laid names no_way low (suc at) x (turn ∷ second)) = begins names no_way p.specials low (suc at) x (turn ∷ second) f.1.0.0 f.1.0.1 in (
          fine-branch p at (suc jump) h.height f.0 (lies (suc at) low.height _ e1 b1) (lies (suc jump) low.height second e3 b3),
          laid-sound no_way low (suc at) x (turn ∷ second) f.1.0.0 e1 f.1.0.1 s2,
        )
    laid-sound way h at (Loop q test body after) next f e b s =
        let judge : ℕ = past at test in
        let forget : ℕ = past (suc judge) body in
        let rest : List Placed = laid names way (one_more h) (suc (suc forget)) after next in
        let back : Placed = placed (JumpsTo at) q h (total h) in
        let drops : Placed = placed (Does act.Discard) q (one_more h) (total h) in
        let round : List Placed = laid names no_way h (suc judge) body (drops ∷ (back ∷ rest)) in
        let tests : Placed = placed (LoopTests (suc (suc forget))) q (one_more h) (total (one_more h)) in
        let e1 : drop judge ls ≡ tests ∷ round = drop-laid names no_way ls h at test (tests ∷ round) e in
        let e2 : drop (suc judge) ls ≡ round = drop-suc judge ls tests round e1 in
        let e3 : drop forget ls ≡ drops ∷ (back ∷ rest) = drop-laid names no_way ls h (suc judge) body (drops ∷ (back ∷ rest)) e2 in
        let e4 : drop (suc forget) ls ≡ back ∷ rest = drop-suc forget ls drops (back ∷ rest) e3 in
        let e5 : drop (suc (suc forget)) ls ≡ rest = drop-suc (suc forget) ls back rest e4 in
        let b5 : Begins (suc h.height) rest = begins names way p.specials (one_more h) (suc (suc forget)) after next f.1.1 b in
        let s5 : AreSound p (suc (suc forget)) rest = laid-sound way (one_more h) (suc (suc forget)) after next f.1.1 e5 b s in
        let b0 : Begins h.height (laid names no_way h at test (tests ∷ round)) = begins names no_way p.specials h at test (tests ∷ round) f.0.0 f.0.1 in
        let s4 : AreSound p (suc forget) (back ∷ rest) =
        (fine-jump p (suc forget) at h.height (lies at h.height _ e b0) (λ l. lands at _ e (no-jump names no_way p.specials h at test (tests ∷ round) f.0.0 tt)), s5) in
        let s3 : AreSound p forget (drops ∷ (back ∷ rest)) =
        (fine-act p forget act.Discard (one_more h) (one-some h.height) (held forget drops (back ∷ rest) e3) (lies (suc forget) h.height (back ∷ rest) e4 refl), s4) in
        let b2 : Begins h.height round = begins names no_way p.specials h (suc judge) body (drops ∷ (back ∷ rest)) f.1.0.0 f.1.0.1 in
        let s2 : AreSound p (suc judge) round = laid-sound no_way h (suc judge) body (drops ∷ (back ∷ rest)) f.1.0.0 e2 f.1.0.1 s3 in
        let s1 : AreSound p judge (tests ∷ round) = (
          fine-loop p judge (suc (suc forget)) h.height (height-held (one_more h) (held judge tests round e1)) (lies (suc judge) h.height round e2 b2)
              (lies (suc (suc forget)) (suc h.height) rest e5 b5),
          s2,
        ) in
        laid-sound no_way h at test (tests ∷ round) f.0.0 e f.0.1 s1
    laid-sound way h at (Turn q test body after) next f e b s = absurd f
    laid-sound way h at (Enter o q body after) next f e b s =
        let leave : ℕ = past (suc at) body in
        let rest : List Placed = laid names way (one_more (outside o h)) (suc leave) after next in
        let ends : Placed = placed Leaves q (one_more (outside o h)) (total (outside o h)) in
        let e1 : drop (suc at) ls ≡ laid names no_way (inside o h) (suc at) body (ends ∷ rest) = drop-suc at ls _ _ e in
        let e2 : drop leave ls ≡ ends ∷ rest = drop-laid names no_way ls (inside o h) (suc at) body (ends ∷ rest) e1 in
        let e3 : drop (suc leave) ls ≡ rest = drop-suc leave ls ends rest e2 in
        let b3 : Begins (suc (outside o h).height) rest = begins names way p.specials (one_more (outside o h)) (suc leave) after next f.1.1.1 b in
        let s3 : AreSound p (suc leave) rest = laid-sound way (one_more (outside o h)) (suc leave) after next f.1.1.1 e3 b s in
        let s2 : AreSound p leave (ends ∷ rest) = (fine-leave p leave (outside o h).height, s3) in
        let b1 : Begins (inside o h).height (laid names no_way (inside o h) (suc at) body (ends ∷ rest)) =
        begins names no_way p.specials (inside o h) (suc at) body (ends ∷ rest) f.1.1.0.0 f.1.1.0.1 in (
          fine-opening p at (suc leave) o h f.0 (held at _ _ e) f.1.0 (lies (suc at) (inside o h).height _ e1 b1) (lies (suc leave) (suc (outside o h).height) rest e3 b3),
          laid-sound no_way (inside o h) (suc at) body (ends ∷ rest) f.1.1.0.0 e1 f.1.1.0.1 s2,
        )
    laid-sound way h at (Protect q body cleanup after) next f e b s =
        let turn : ℕ = past (suc at) body in
        let leave : ℕ = past (suc turn) cleanup in
        let rest : List Placed = laid names way (one_more h) (suc leave) after next in
        let ends : Placed = placed LeavesCleanup q (one_more h) (total h) in
        let cleans : List Placed = laid names no_way h (suc turn) cleanup (ends ∷ rest) in
        let turns : Placed = placed LeavesProtect q (one_more h) (total h) in
        let e1 : drop (suc at) ls ≡ laid names no_way h (suc at) body (turns ∷ cleans) = drop-suc at ls _ _ e in
        let e2 : drop turn ls ≡ turns ∷ cleans = drop-laid names no_way ls h (suc at) body (turns ∷ cleans) e1 in
        let e3 : drop (suc turn) ls ≡ cleans = drop-suc turn ls turns cleans e2 in
        let e4 : drop leave ls ≡ ends ∷ rest = drop-laid names no_way ls h (suc turn) cleanup (ends ∷ rest) e3 in
        let e5 : drop (suc leave) ls ≡ rest = drop-suc leave ls ends rest e4 in
        let b5 : Begins (suc h.height) rest = begins names way p.specials (one_more h) (suc leave) after next f.1.1 b in
        let s5 : AreSound p (suc leave) rest = laid-sound way (one_more h) (suc leave) after next f.1.1 e5 b s in
        let s4 : AreSound p leave (ends ∷ rest) = (fine-cleanup p leave h.height (lies (suc leave) (suc h.height) rest e5 b5), s5) in
        let b3 : Begins h.height cleans = begins names no_way p.specials h (suc turn) cleanup (ends ∷ rest) f.1.0.0 f.1.0.1 in
        let s3 : AreSound p (suc turn) cleans = laid-sound no_way h (suc turn) cleanup (ends ∷ rest) f.1.0.0 e3 f.1.0.1 s4 in
        let s2 : AreSound p turn (turns ∷ cleans) = (fine-turn p turn h.height, s3) in
        let b1 : Begins h.height (laid names no_way h (suc at) body (turns ∷ cleans)) = begins names no_way p.specials h (suc at) body (turns ∷ cleans) f.0.0 f.0.1 in (
          fine-protect p at (suc turn) h.height (lies (suc at) h.height _ e1 b1) (lies (suc turn) h.height cleans e3 b3),
          laid-sound no_way h (suc at) body (turns ∷ cleans) f.0.0 e1 f.0.1 s2,
        )
    laid-sound way h at (Handle q body clauses after) next f e b s =
        let leave : ℕ = past (suc at) body in
        let end : ℕ = past (suc leave) clauses in
        let on_way : Way = record { to = end; place = q } in
        let rest : List Placed = laid names way (one_more h) end after next in
        let handles : List Placed = laid names on_way h (suc leave) clauses rest in
        let ends : Placed = placed (LeavesHandler end) q (one_more h) (total h) in
        let e1 : drop (suc at) ls ≡ laid names no_way h (suc at) body (ends ∷ handles) = drop-suc at ls _ _ e in
        let e2 : drop leave ls ≡ ends ∷ handles = drop-laid names no_way ls h (suc at) body (ends ∷ handles) e1 in
        let e3 : drop (suc leave) ls ≡ handles = drop-suc leave ls ends handles e2 in
        let e4 : drop end ls ≡ rest = drop-laid names on_way ls h (suc leave) clauses rest e3 in
        let b4 : Begins (suc h.height) rest = begins names way p.specials (one_more h) end after next f.1.1 b in
        let s4 : AreSound p end rest = laid-sound way (one_more h) end after next f.1.1 e4 b s in
        let lie : Lies p (on end (suc h.height)) = lies end (suc h.height) rest e4 b4 in
        let s3 : AreSound p (suc leave) handles = clauses-sound on_way h (suc leave) clauses rest f.1.0 e3 (same end) lie s4 in
        let s2 : AreSound p leave (ends ∷ handles) = (fine-handled p leave end h.height lie, s3) in
        let b1 : Begins h.height (laid names no_way h (suc at) body (ends ∷ handles)) = begins names no_way p.specials h (suc at) body (ends ∷ handles) f.0.0 f.0.1 in (
          All-cons (Lies p) (on (suc at) h.height) (map (clause_going h.height) (clauses_at (suc leave) clauses)) (lies (suc at) h.height _ e1 b1)
              (clauses-lie on_way h (suc leave) clauses rest f.1.0 e3),
          laid-sound no_way h (suc at) body (ends ∷ handles) f.0.0 e1 f.0.1 s2,
        )
    laid-sound way h at (When class is_given chosen others) next f e b s = absurd f

    clauses-sound : (way : Way) (h : Holding) (at : ℕ) (points : Points) (next : List Placed) → FitClauses p.specials h points
        → drop at ls ≡ laid names way h at points next → past at points ≤ way.to → Lies p (on way.to (suc h.height)) → AreSound p (past at points) next
        → AreSound p at (laid names way h at points next)
    clauses-sound way h at Done next f e l lie s = s
    clauses-sound way h at (Do a q after) next f e l lie s = absurd f
    clauses-sound way h at (Ask q r after) next f e l lie s = absurd f
    clauses-sound way h at (Test q r more after) next f e l lie s = absurd f
    clauses-sound way h at (Choose q x y after) next f e l lie s = absurd f
    clauses-sound way h at (Loop q test body after) next f e l lie s = absurd f
    clauses-sound way h at (Turn q test body after) next f e l lie s = absurd f
    clauses-sound way h at (Enter o q body after) next f e l lie s = absurd f
    clauses-sound way h at (Protect q body cleanup after) next f e l lie s = absurd f
    clauses-sound way h at (Handle q body clauses after) next f e l lie s = absurd f
    clauses-sound way h at (When class is_given chosen others) next f e l lie s =
        let jump : ℕ = past at chosen in
        let rest : List Placed = laid names way h (suc jump) others next in
        let turn : Placed = placed (JumpsTo way.to) way.place (one_more h) (total h) in
        let e1 : drop jump ls ≡ turn ∷ rest = drop-laid names no_way ls (given is_given h) at chosen (turn ∷ rest) e in
        let e2 : drop (suc jump) ls ≡ rest = drop-suc jump ls turn rest e1 in
        let s2 : AreSound p (suc jump) rest = clauses-sound way h (suc jump) others next f.1 e2 l lie s in
        let ahead : suc jump ≤ way.to = further (suc jump) (past (suc jump) others) way.to (past-grows (suc jump) others) l in
        let s1 : AreSound p jump (turn ∷ rest) = (fine-jump p jump way.to (suc h.height) lie (λ k. absurd (not-back jump way.to ahead k)), s2) in
        laid-sound no_way (given is_given h) at chosen (turn ∷ rest) f.0.0 e f.0.1 s1
