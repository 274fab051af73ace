-- Each line that finds its operands, holds not too much and goes on where lines are is valid code.
use Rattle.std.proofs.Common.{◌≡◌, ◌≤◌, ◌<◌, ◌-◌, ◌+◌, ℕ, zero, suc, pred, max, List, [], ◌∷◌, Bool, true, false, All, length, get_or, arith, refl, ap, subst, ◌∙◌, true≢false}
use Rattle.std.proofs.lemmas.List.Elements.{All-cons, All-nil}
use Rattle.lisp_base.specs.declared.condition.Condition.{Condition}
use Rattle.form_points.specs.Operands.{act_leaves, act_takes, operands_of, opening_leaves, opening_takes, printed_of, question_leaves, question_takes, served_of, written}
use Rattle.form_points.specs.declared.act.Act.{Act}
use Rattle.form_points.specs.declared.act.Act.TheVariants as act
use Rattle.form_points.specs.declared.act.Opening.{Opening}
use Rattle.form_points.specs.declared.act.Opening.TheVariants as opening
use Rattle.form_points.specs.declared.act.Question.{Question}
use Rattle.form_points.specs.declared.act.Question.TheVariants as question
use Rattle.form_points.specs.declared.act.Step.TheVariants as step
use Rattle.lisp_code.specs.Held.{Holding, after_act, after_question, fewer, held_at, held_by, held_in, inside, one_more, outside, total, without}
use Rattle.lisp_code.specs.Parts.{Parts}
use Rattle.lisp_code.specs.Validity.{Going, IsActNumbered, IsFine, IsKnown, IsNoJump, IsOpeningNamed, Lies, act_goings, is_exit, left_by_act, left_by_question, most_operands, on, question_goings, replaced}
use Rattle.lisp_code.specs.declared.instr.Instr.TheVariants as i
use Rattle.form_compiler.specs.inside.Fits.{IsOpened}

-- numbers of operands
pred-minus : (n : ℕ) → pred n ≡ n - 1
pred-minus zero = omega arith
pred-minus (suc n) = omega arith

minus-one : (n k : ℕ) → (n - k) - 1 ≡ n - suc k
minus-one n k = omega arith

minus-none : (n : ℕ) → n ≡ n - 0
minus-none n = omega arith

pub fewer-minus : (k n : ℕ) → fewer k n ≡ n - k
fewer-minus zero n = minus-none n
fewer-minus (suc k) n = ap pred (fewer-minus k n) ∙ (pred-minus (n - k) ∙ minus-one n k)

pub one-plus : (n : ℕ) → suc n ≡ 1 + n
one-plus n = omega arith

pub none-plus : (n : ℕ) → n ≡ 0 + n
none-plus n = omega arith

pub replaced-one : (k n : ℕ) → suc (fewer k n) ≡ replaced k 1 n
replaced-one k n = ap suc (fewer-minus k n) ∙ one-plus (n - k)

pub replaced-none : (k n : ℕ) → fewer k n ≡ replaced k 0 n
replaced-none k n = fewer-minus k n ∙ none-plus (n - k)

bound-left : (above n : ℕ) → suc above ≤ n → pred n ≡ replaced (suc above) above n
bound-left above zero l = omega (arith, l)
bound-left above (suc n) l = omega (arith, l)

kept : (k n : ℕ) → k ≤ n → n ≡ replaced k k n
kept k n l = omega (arith, l)

pub few : 0 ≤ most_operands
few = omega arith

-- a part of what is held
part : (n m : ℕ) → m ≤ n + m
part n m = omega arith

part-named : (x n m : ℕ) → m ≤ max (suc x) (n + m)
part-named x n m = omega arith

named-below : (x n k : ℕ) → max (suc x) n ≤ k → x < k
named-below x n k l = omega (arith, l)

pub at-most : (n m k : ℕ) → n ≤ m → m ≤ k → n ≤ k
at-most n m k l u = omega (arith, l, u)

-- acts
act-after : (a : Act) (h : Holding) → act_takes a ≤ h.height → (after_act a h).height ≡ replaced (act_takes a) (act_leaves a) h.height
act-after (act.Push v) h t = replaced-one 0 h.height
act-after (act.PushFunction name) h t = replaced-one 0 h.height
act-after act.PushThread h t = replaced-one 0 h.height
act-after (act.ReadLocal x) h t = replaced-one 0 h.height
act-after (act.WriteLocal x) h t = replaced-one 1 h.height
act-after (act.BindLocal x above) h t = bound-left above h.height t
act-after act.ForgetLocal h t = replaced-none 0 h.height
act-after act.Discard h t = replaced-none 1 h.height
act-after (act.Apply f) h t = replaced-one (operands_of f) h.height
act-after (act.Call f count) h t = replaced-one count h.height
act-after (act.ReturnFrom b) h t = replaced-one 1 h.height
act-after act.Throw h t = replaced-one 2 h.height
act-after (act.Signal condition) h t = replaced-one 0 h.height
act-after act.AbortThread h t = replaced-one 0 h.height
act-after act.ReturnFromThread h t = replaced-one 1 h.height

act-held : (a : Act) (h : Holding) → is_exit a ≡ false → (after_act a h).height ≤ held_by a h
act-held (act.Push v) h e = part h.opened (suc h.height)
act-held (act.PushFunction name) h e = part h.opened (suc h.height)
act-held act.PushThread h e = part h.opened (suc h.height)
act-held (act.ReadLocal x) h e = part-named x h.opened (suc h.height)
act-held (act.WriteLocal x) h e = part-named x h.opened (suc (fewer 1 h.height))
act-held (act.BindLocal x above) h e = part-named x (suc h.opened) (pred h.height)
act-held act.ForgetLocal h e = part (pred h.opened) h.height
act-held act.Discard h e = part h.opened (fewer 1 h.height)
act-held (act.Apply f) h e = part h.opened (suc (fewer (operands_of f) h.height))
act-held (act.Call f count) h e = part h.opened (suc (fewer count h.height))
act-held (act.ReturnFrom b) h e = absurd (true≢false e)
act-held act.Throw h e = absurd (true≢false e)
act-held (act.Signal condition) h e = absurd (true≢false e)
act-held act.AbortThread h e = absurd (true≢false e)
act-held act.ReturnFromThread h e = absurd (true≢false e)

act-named : (a : Act) (h : Holding) → held_by a h ≤ most_operands → IsActNumbered most_operands a
act-named (act.Push v) h u = tt
act-named (act.PushFunction name) h u = tt
act-named act.PushThread h u = tt
act-named (act.ReadLocal x) h u = named-below x (total (one_more h)) most_operands u
act-named (act.WriteLocal x) h u = named-below x (total (one_more (without 1 h))) most_operands u
act-named (act.BindLocal x above) h u = named-below x (suc h.opened + pred h.height) most_operands u
act-named act.ForgetLocal h u = tt
act-named act.Discard h u = tt
act-named (act.Apply f) h u = tt
act-named (act.Call f count) h u = tt
act-named (act.ReturnFrom b) h u = named-below b (total (without 1 h)) most_operands u
act-named act.Throw h u = tt
act-named (act.Signal condition) h u = tt
act-named act.AbortThread h u = tt
act-named act.ReturnFromThread h u = tt

left-act : (x : Bool) (a : Act) (n : ℕ) → (x ≡ false → replaced (act_takes a) (act_leaves a) n ≤ most_operands) → left_by_act x a n ≤ most_operands
left-act true a n f = few
left-act false a n f = f refl

goes-act : (p : Parts) (x : Bool) (a : Act) (at n : ℕ) → Lies p (on (suc at) (replaced (act_takes a) (act_leaves a) n)) → All (Lies p) (act_goings x a at n)
goes-act p true a at n l = All-nil (Lies p)
goes-act p false a at n l = All-cons (Lies p) (on (suc at) (replaced (act_takes a) (act_leaves a) n)) [] l (All-nil (Lies p))

pub fine-act : (p : Parts) (at : ℕ) (a : Act) (h : Holding) → act_takes a ≤ h.height → held_by a h ≤ most_operands
    → Lies p (on (suc at) (after_act a h).height) → IsFine p at h.height (i.Do a)
fine-act p at a h t u l =
    let same : (after_act a h).height ≡ replaced (act_takes a) (act_leaves a) h.height = act-after a h t in
    record {
      finds = t;
      leaves = left-act (is_exit a) a h.height (λ e. subst (λ n. n ≤ most_operands) same (at-most (after_act a h).height (held_by a h) most_operands (act-held a h e) u));
      goes_on = goes-act p (is_exit a) a at h.height (subst (λ n. Lies p (on (suc at) n)) same l);
      in_range = act-named a h u;
      lands = tt;
    }

-- a call of a function that is there
pub fine-call : (p : Parts) (at function count : ℕ) (h : Holding) → count ≤ h.height → total (one_more (without count h)) ≤ most_operands → function < length p.functions
    → Lies p (on (suc at) (suc (fewer count h.height))) → IsFine p at h.height (i.Call function count)
fine-call p at function count h t u r l =
    let same : suc (fewer count h.height) ≡ replaced count 1 h.height = replaced-one count h.height in
    record {
      finds = t;
      leaves = subst (λ n. n ≤ most_operands) same (at-most (suc (fewer count h.height)) (total (one_more (without count h))) most_operands (part h.opened (suc (fewer count h.height))) u);
      goes_on = All-cons (Lies p) (on (suc at) (replaced count 1 h.height)) [] (subst (λ n. Lies p (on (suc at) n)) same l) (All-nil (Lies p));
      in_range = r;
      lands = tt;
    }

-- questions
question-after : (q : Question) (h : Holding) → question_takes q ≤ h.height → (after_question q h).height ≡ replaced (question_takes q) (question_leaves q) h.height
question-after (question.Print printing) h t = replaced-one (printed_of printing) h.height
question-after (question.Read s) h t = replaced-one 0 h.height
question-after (question.Write s) h t = replaced-one 1 h.height
question-after (question.IsBound s) h t = replaced-one 0 h.height
question-after (question.Define s) h t = replaced-one 1 h.height
question-after (question.CompareAndSwap s) h t = replaced-one 2 h.height
question-after (question.Serve service step.Clock) h t = kept (served_of service) h.height t
question-after (question.Serve service step.Main) h t = replaced-one (served_of service) h.height
question-after (question.Serve service step.Try) h t = replaced-one (served_of service) h.height
question-after (question.Serve service step.Begin) h t = kept (served_of service) h.height t
question-after (question.Serve service step.Wake) h t = replaced-one (served_of service) h.height
question-after (question.Serve service step.Regrab) h t = replaced-one (served_of service) h.height
question-after question.EndThread h t = replaced-one 1 h.height

-- what a question leaves is held
left-one : (k : ℕ) (h : Holding) → replaced k 1 h.height ≤ total (one_more (without k h))
left-one k h = subst (λ n. n ≤ total (one_more (without k h))) (replaced-one k h.height) (part h.opened (suc (fewer k h.height)))

least-held : (n : ℕ) → 0 ≤ n
least-held n = omega arith

question-left : (q : Question) (h : Holding) → left_by_question q h.height ≤ held_at q h
question-left (question.Print printing) h = left-one (printed_of printing) h
question-left (question.Read s) h = left-one 0 h
question-left (question.Write s) h = left-one 1 h
question-left (question.IsBound s) h = left-one 0 h
question-left (question.Define s) h = left-one 1 h
question-left (question.CompareAndSwap s) h = left-one 2 h
question-left (question.Serve service step.Clock) h = least-held (held_at (question.Serve service step.Clock) h)
question-left (question.Serve service step.Main) h = left-one (served_of service) h
question-left (question.Serve service step.Try) h = left-one (served_of service) h
question-left (question.Serve service step.Begin) h = least-held (held_at (question.Serve service step.Begin) h)
question-left (question.Serve service step.Wake) h = left-one (served_of service) h
question-left (question.Serve service step.Regrab) h = left-one (served_of service) h
question-left question.EndThread h = left-one 1 h

one-going : (p : Parts) (g : Going) → Lies p g → All (Lies p) (g ∷ [])
one-going p g l = All-cons (Lies p) g [] l (All-nil (Lies p))

goes-question : (p : Parts) (q : Question) (at n : ℕ) → Lies p (on (suc at) (replaced (question_takes q) (question_leaves q) n)) → All (Lies p) (question_goings q at n)
goes-question p (question.Print printing) at n l = one-going p _ l
goes-question p (question.Read s) at n l = one-going p _ l
goes-question p (question.Write s) at n l = one-going p _ l
goes-question p (question.IsBound s) at n l = one-going p _ l
goes-question p (question.Define s) at n l = one-going p _ l
goes-question p (question.CompareAndSwap s) at n l = one-going p _ l
goes-question p (question.Serve service t) at n l = one-going p _ l
goes-question p question.EndThread at n l = All-nil (Lies p)

pub fine-question : (p : Parts) (at : ℕ) (q : Question) (h : Holding) → question_takes q ≤ h.height → held_at q h ≤ most_operands → IsKnown p.specials q
    → Lies p (on (suc at) (after_question q h).height) → IsFine p at h.height (i.Ask q)
fine-question p at q h t u known l = record {
  finds = t;
  leaves = at-most (left_by_question q h.height) (held_at q h) most_operands (question-left q h) u;
  goes_on = goes-question p q at h.height (subst (λ n. Lies p (on (suc at) n)) (question-after q h t) l);
  in_range = known;
  lands = tt;
}

pub two-goings : (p : Parts) (g k : Going) → Lies p g → Lies p k → All (Lies p) (g ∷ (k ∷ []))
two-goings p g k l m = All-cons (Lies p) g (k ∷ []) l (one-going p k m)

pub fine-test : (p : Parts) (at to : ℕ) (q : Question) (h : Holding) → question_takes q ≤ h.height → held_at q h ≤ most_operands → IsKnown p.specials q
    → Lies p (on (suc at) h.height) → Lies p (on to (after_question q h).height) → IsFine p at h.height (i.Test q to)
fine-test p at to q h t u known l m = record {
  finds = t;
  leaves = at-most (left_by_question q h.height) (held_at q h) most_operands (question-left q h) u;
  goes_on = two-goings p (on (suc at) h.height) (on to (replaced (question_takes q) (question_leaves q) h.height)) l
      (subst (λ n. Lies p (on to n)) (question-after q h t) m);
  in_range = known;
  lands = tt;
}

-- points that open a frame
opening-inside : (o : Opening) (h : Holding) → opening_takes o ≤ h.height → (inside o h).height ≡ replaced (opening_takes o) (opening_leaves o) h.height
opening-inside (opening.Bind s above) h t = bound-left above h.height t
opening-inside (opening.Block b) h t = replaced-none 0 h.height
opening-inside opening.Catch h t = replaced-none 1 h.height
opening-inside (opening.WithoutInterrupts r) h t = replaced-none 0 h.height
opening-inside (opening.AllowWithInterrupts r) h t = replaced-none 0 h.height
opening-inside opening.WithInterrupts h t = replaced-none 0 h.height
opening-inside (opening.Deadline seconds replaces) h t = replaced-none (written seconds replaces) h.height

opening-held : (o : Opening) (h : Holding) → (inside o h).height ≤ held_in o h
opening-held (opening.Bind s above) h = part (suc h.opened) (pred h.height)
opening-held (opening.Block b) h = part-named b (suc h.opened) h.height
opening-held opening.Catch h = part h.opened (fewer 1 h.height)
opening-held (opening.WithoutInterrupts r) h = part-named r (suc h.opened) h.height
opening-held (opening.AllowWithInterrupts r) h = part-named r h.opened h.height
opening-held opening.WithInterrupts h = part h.opened h.height
opening-held (opening.Deadline seconds replaces) h = part h.opened (fewer (written seconds replaces) h.height)

opening-named : (ss : List ℕ) (o : Opening) (h : Holding) → held_in o h ≤ most_operands → IsOpened ss o → IsOpeningNamed most_operands ss o
opening-named ss (opening.Bind s above) h u i = i
opening-named ss (opening.Block b) h u i = named-below b (suc h.opened + h.height) most_operands u
opening-named ss opening.Catch h u i = tt
opening-named ss (opening.WithoutInterrupts r) h u i = named-below r (suc h.opened + h.height) most_operands u
opening-named ss (opening.AllowWithInterrupts r) h u i = named-below r (total h) most_operands u
opening-named ss opening.WithInterrupts h u i = tt
opening-named ss (opening.Deadline seconds replaces) h u i = tt

pub fine-opening : (p : Parts) (at back : ℕ) (o : Opening) (h : Holding) → opening_takes o ≤ h.height → held_in o h ≤ most_operands → IsOpened p.specials o
    → Lies p (on (suc at) (inside o h).height) → Lies p (on back (suc (outside o h).height)) → IsFine p at h.height (i.Enter o back)
fine-opening p at back o h t u known l m =
    let same : (inside o h).height ≡ replaced (opening_takes o) (opening_leaves o) h.height = opening-inside o h t in
    record {
      finds = t;
      leaves = subst (λ n. n ≤ most_operands) same (at-most (inside o h).height (held_in o h) most_operands (opening-held o h) u);
      goes_on = two-goings p (on (suc at) (replaced (opening_takes o) (opening_leaves o) h.height)) (on back (replaced (opening_takes o) 1 h.height))
          (subst (λ n. Lies p (on (suc at) n)) same l) (subst (λ n. Lies p (on back n)) (replaced-one (opening_takes o) h.height) m);
      in_range = opening-named p.specials o h u known;
      lands = tt;
    }

-- jumps and branches
low-minus : (n : ℕ) → fewer 1 n ≡ n - 1
low-minus n = fewer-minus 1 n

pub fine-branch : (p : Parts) (at to n : ℕ) → 1 ≤ n → Lies p (on (suc at) (fewer 1 n)) → Lies p (on to (fewer 1 n)) → IsFine p at n (i.Branch to)
fine-branch p at to n t l m = record {
  finds = t;
  leaves = few;
  goes_on = two-goings p (on (suc at) (n - 1)) (on to (n - 1)) (subst (λ k. Lies p (on (suc at) k)) (low-minus n) l) (subst (λ k. Lies p (on to k)) (low-minus n) m);
  in_range = tt;
  lands = tt;
}

some-one : (n : ℕ) → 1 ≤ suc n
some-one n = omega arith

suc-minus : (n : ℕ) → n ≡ suc n - 1
suc-minus n = omega arith

pub fine-loop : (p : Parts) (at to n : ℕ) → suc n ≤ most_operands → Lies p (on (suc at) n) → Lies p (on to (suc n)) → IsFine p at (suc n) (i.LoopTest to)
fine-loop p at to n u l m = record {
  finds = some-one n;
  leaves = u;
  goes_on = two-goings p (on (suc at) (suc n - 1)) (on to (suc n)) (subst (λ k. Lies p (on (suc at) k)) (suc-minus n) l) m;
  in_range = tt;
  lands = tt;
}

pub fine-jump : (p : Parts) (at to n : ℕ) → Lies p (on to n) → (to ≤ at → IsNoJump (get_or p.instrs to i.Leave)) → IsFine p at n (i.Jump to)
fine-jump p at to n l f = record { finds = least-held n; leaves = few; goes_on = one-going p (on to n) l; in_range = tt; lands = f }

pub fine-protect : (p : Parts) (at cleanup n : ℕ) → Lies p (on (suc at) n) → Lies p (on cleanup n) → IsFine p at n (i.EnterProtect cleanup)
fine-protect p at cleanup n l m =
    record { finds = least-held n; leaves = few; goes_on = two-goings p (on (suc at) n) (on cleanup n) l m; in_range = tt; lands = tt }

-- ends of frames
pub fine-leave : (p : Parts) (at n : ℕ) → IsFine p at (suc n) i.Leave
fine-leave p at n = record { finds = some-one n; leaves = few; goes_on = All-nil (Lies p); in_range = tt; lands = tt }

pub fine-turn : (p : Parts) (at n : ℕ) → IsFine p at (suc n) i.LeaveProtect
fine-turn p at n = record { finds = some-one n; leaves = few; goes_on = All-nil (Lies p); in_range = tt; lands = tt }

pub fine-cleanup : (p : Parts) (at n : ℕ) → Lies p (on (suc at) (suc n)) → IsFine p at (suc n) i.LeaveCleanup
fine-cleanup p at n l =
    record { finds = some-one n; leaves = few; goes_on = one-going p (on (suc at) (suc n)) l; in_range = tt; lands = tt }

pub fine-handled : (p : Parts) (at to n : ℕ) → Lies p (on to (suc n)) → IsFine p at (suc n) (i.LeaveHandler to)
fine-handled p at to n l =
    record { finds = some-one n; leaves = few; goes_on = one-going p (on to (suc n)) l; in_range = tt; lands = tt }

-- a call of a function that is not there
pub fine-signal : (p : Parts) (at n : ℕ) (condition : Condition) → IsFine p at n (i.Do (act.Signal condition))
fine-signal p at n condition = record { finds = least-held n; leaves = few; goes_on = All-nil (Lies p); in_range = tt; lands = tt }

-- the end of a thread
pub fine-end : (p : Parts) (at : ℕ) (h : Holding) → 1 ≤ h.height → held_at question.EndThread h ≤ most_operands → IsFine p at h.height (i.Ask question.EndThread)
fine-end p at h t u = record {
  finds = t;
  leaves = at-most (left_by_question question.EndThread h.height) (held_at question.EndThread h) most_operands (question-left question.EndThread h) u;
  goes_on = All-nil (Lies p);
  in_range = tt;
  lands = tt;
}
