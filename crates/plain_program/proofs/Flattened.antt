-- What is written of forms so far.
use Rattle.std.proofs.Common.{◌≡◌, ℕ, zero, suc, ◌+◌, ◌<◌, ◌≤◌, ◌≢◌, ◌⊎◌, inl, inr, List, [], ◌∷◌, ◌++◌, Bool, true, false, length, take, drop, get_or, refl, ap, sym, ◌∙◌, arith, append_assoc, add-one, drop-cons}
use Rattle.lisp_base.specs.Forest.{Forest, NoTrees, Tree, count_of, front, behind}
use Rattle.lisp_base.specs.Value.{nil}
use Rattle.plain_program.specs.declared.act.Question.TheVariants.{EndThread}
use Rattle.plain_program.specs.declared.act.Act.TheVariants.{Push, Discard}
use Rattle.plain_program.specs.declared.form.PlainKind.{PlainKind}
use Rattle.plain_program.specs.declared.form.PlainNode.{PlainNode}
use Rattle.plain_program.specs.Forms.{PlainForms, forms_of, node_in_front}
use Rattle.plain_program.specs.Points.{Points, Done, Do, Ask, joined, body_of, operands, points_of, table}
use Rattle.plain_program.specs.declared.steps.Step.{Step}
use Rattle.plain_program.specs.declared.steps.Step.TheVariants.{Act, Ask as AskStep}
use Rattle.plain_program.specs.inside.Steps.{steps_of}
use Rattle.plain_program.specs.inside.Flatten.{strung, Writes, between, body_steps, operand_steps, under_steps, opening_steps, closing_steps}
use Rattle.plain_program.proofs.Closed.{append-nil, closed_steps}
use Rattle.plain_program.proofs.Joined.{steps_of-joined}

-- the steps so far, and those of the `left` forms still to come, are all that is to be written
pub record Writing (nodes : List PlainNode) (from count : ℕ) (body : Bool) (old now : List Step) (at left : ℕ) : Type 0 where
  pub after : from ≤ at
  pub within : at ≤ length nodes
  pub steps : now ++ strung body (points_of (front left (forms_of (drop at nodes)))) ≡ old ++ strung body (points_of (front count (forms_of (drop from nodes))))
  pub rest : behind left (forms_of (drop at nodes)) ≡ behind count (forms_of (drop from nodes))

-- a gap where more forms are wanted and there
pub between_there : (left : ℕ) (nodes : List PlainNode) (at : ℕ) → 0 < left → at < length nodes → between true left (drop at nodes) ≡ Act Discard ∷ []
between_there zero nodes at h k = absurd (omega arith)
between_there (suc n) [] at h k = absurd (omega arith)
between_there (suc n) (x ∷ xs) zero h k = refl
between_there (suc n) (x ∷ xs) (suc at) h k = between_there (suc n) xs at h (omega arith)

-- no gap elsewhere
pub between_outside : (body : Bool) (left : ℕ) (nodes : List PlainNode) (at : ℕ) → length nodes ≤ at → between body left (drop at nodes) ≡ []
between_outside body zero nodes at k = refl
between_outside body (suc n) [] zero k = refl
between_outside body (suc n) [] (suc at) k = refl
between_outside body (suc n) (x ∷ xs) zero k = absurd (omega arith)
between_outside body (suc n) (x ∷ xs) (suc at) k = between_outside body (suc n) xs at (omega arith)

pub between_no_body : (left : ℕ) (ns : List PlainNode) → between false left ns ≡ []
between_no_body zero ns = refl
between_no_body (suc n) [] = refl
between_no_body (suc n) (x ∷ xs) = refl

-- the node at a place, and those behind it
drop-at : (nodes : List PlainNode) (at : ℕ) (n : PlainNode) → at < length nodes → n ≡ get_or nodes at n → drop at nodes ≡ n ∷ drop (at + 1) nodes
drop-at nodes at n h is = let e : drop at nodes ≡ get_or nodes at n ∷ drop (suc at) nodes = drop-cons nodes at n h in rw (add-one, is) e

-- the form at a node is written once it is opened, the forms under it are written, and it is closed
pub form_written : (nodes : List PlainNode) (at next : ℕ) (n : PlainNode) (old opened mid new : List Step) → at < length nodes → n ≡ get_or nodes at n
    → opened ≡ old ++ opening_steps n.kind n.place → Writes nodes (at + 1) n.parts (under_steps n.kind) opened mid next
    → new ≡ closing_steps n.kind (length old) mid → Writes nodes at 1 (strung false) old new next
form_written nodes at next n old opened mid new h is o w e =
    let under : PlainForms = front n.parts (forms_of (drop (at + 1) nodes)) in
    let here : forms_of (drop at nodes) ≡ node_in_front n (forms_of (drop (at + 1) nodes)) = ap forms_of (drop-at nodes at n h is) in
    let behind' : mid ≡ (old ++ opening_steps n.kind n.place) ++ under_steps n.kind (points_of under) =
    w.steps ∙ ap (λ s. s ++ under_steps n.kind (points_of under)) o in
    let written : new ≡ old ++ (steps_of (table n.kind n.place (points_of under)) ++ []) =
    e ∙ ap (closing_steps n.kind (length old)) behind' ∙ closed_steps n.kind n.place (points_of under) old in
    record { after = omega (arith, w.after); within = w.within; steps = rw here written; rest = rw here w.rest }

drop_all : (nodes : List PlainNode) (at : ℕ) → length nodes ≤ at → drop at nodes ≡ []
drop_all [] zero h = refl
drop_all [] (suc at) h = refl
drop_all (n ∷ ns) zero h = absurd (omega arith)
drop_all (n ∷ ns) (suc at) h = drop_all ns at (omega arith)

front_nothing : (left : ℕ) → front {K = PlainKind} left NoTrees ≡ NoTrees
front_nothing zero = refl
front_nothing (suc n) = refl

behind_nothing : (left : ℕ) → behind {K = PlainKind} left NoTrees ≡ NoTrees
behind_nothing zero = refl
behind_nothing (suc n) = refl

-- where no node is left, all is written
pub all_written : (nodes : List PlainNode) (from count : ℕ) (body : Bool) (old now : List Step) (at left : ℕ)
    → Writing nodes from count body old now at left → length nodes ≤ at → Writes nodes from count (strung body) old now at
all_written nodes from count body old now at left w h =
    let nothing : drop at nodes ≡ [] = drop_all nodes at h in
    let steps' : now ++ [] ≡ old ++ strung body (points_of (front count (forms_of (drop from nodes)))) = rw (nothing, front_nothing) at w.steps in
    let rest' : NoTrees ≡ behind count (forms_of (drop from nodes)) = rw (nothing, behind_nothing) at w.rest in
    record { after = w.after; within = w.within; steps = sym (append-nil now) ∙ steps'; rest = rw nothing rest' }

-- the steps of a first form and of those after it
strung-cons : (body : Bool) (left : ℕ) (ns : List PlainNode) (p : Points)
    → strung body (p ∷ points_of (front left (forms_of ns))) ≡ steps_of p ++ (between body left ns ++ strung body (points_of (front left (forms_of ns))))
strung-cons false left ns p = rw (between_no_body left ns) refl
strung-cons true zero ns p = sym (append-nil (steps_of p))
strung-cons true (suc n) [] p = sym (append-nil (steps_of p))
strung-cons true (suc n) (m ∷ ns) p = refl

-- one form more is written
more_by : (f : PlainForms) (nodes ns : List PlainNode) (body : Bool) (now mid total : List Step) (left : ℕ) → f ≢ NoTrees
    → now ++ strung body (points_of (front (suc left) f)) ≡ total → mid ≡ now ++ strung false (points_of (front 1 f)) → forms_of ns ≡ behind 1 f
    → (mid ++ between body left ns) ++ strung body (points_of (front left (forms_of ns))) ≡ total
more_by NoTrees nodes ns body now mid total left some e m r = absurd (some refl)
more_by (Tree k p under beside) nodes ns body now mid total left some e m r =
    let form : Points = table k p (points_of under) in
    let later : List Step = strung body (points_of (front left (forms_of ns))) in
    let split : now ++ (steps_of form ++ (between body left ns ++ later)) ≡ total =
    ap (λ s. now ++ s) (sym (strung-cons body left ns form)) ∙ rw r e in
    let shorter : mid ≡ now ++ steps_of form = m ∙ ap (λ s. now ++ s) (append-nil (steps_of form)) in
    rw (shorter, append_assoc (now ++ steps_of form) (between body left ns) later, append_assoc now (steps_of form) (between body left ns ++ later)) split

-- a node is a form
some_form : (nodes : List PlainNode) (at : ℕ) → at < length nodes → forms_of (drop at nodes) ≢ NoTrees
some_form [] at h e = absurd (omega arith)
some_form (n ∷ ns) zero h e = cc
some_form (n ∷ ns) (suc at) h e = some_form ns at (omega arith) e

behind-next : {K : Type 0} (left : ℕ) (f : Forest K) → behind (suc left) f ≡ behind left (behind 1 f)
behind-next zero NoTrees = refl
behind-next (suc n) NoTrees = refl
behind-next left (Tree k p under beside) = refl

-- one form more is written, and then the gap before the next
pub form_more : (nodes : List PlainNode) (from count : ℕ) (body : Bool) (old now mid new : List Step) (at next left later : ℕ)
    → Writing nodes from count body old now at left → left ≡ suc later → at < length nodes → Writes nodes at 1 (strung false) now mid next → at < next
    → new ≡ mid ++ between body later (drop next nodes) → Writing nodes from count body old new next later
form_more nodes from count body old now mid new at next left later w l h f on e =
    let all : now ++ strung body (points_of (front (suc later) (forms_of (drop at nodes)))) ≡ old ++ strung body (points_of (front count (forms_of (drop from nodes)))) =
    rw l at w.steps in
    let before : behind (suc later) (forms_of (drop at nodes)) ≡ behind count (forms_of (drop from nodes)) = rw l at w.rest in
    record {
      after = omega (arith, w.after);
      within = f.within;
      steps = rw e (more_by (forms_of (drop at nodes)) nodes (drop next nodes) body now mid _ later (some_form nodes at h) all f.steps f.rest);
      rest = rw f.rest (sym (behind-next later (forms_of (drop at nodes))) ∙ before);
    }

-- forms that were taken as a whole
count-behind : {K : Type 0} (n : ℕ) (f : Forest K) → count_of (behind n f) ≤ count_of f
count-behind zero f = omega arith
count-behind (suc n) NoTrees = omega arith
count-behind (suc n) (Tree k p under beside) = omega (arith, count-behind n beside)

count-forms_of : (ns : List PlainNode) → count_of (forms_of ns) ≤ length ns
count-forms_of [] = omega arith
count-forms_of (n ∷ ns) = omega (arith, count-forms_of ns, count-behind n.parts (forms_of ns))

front-all : {K : Type 0} (n : ℕ) (f : Forest K) → count_of f ≤ n → front n f ≡ f
front-all zero NoTrees h = refl
front-all zero (Tree k p under beside) h = absurd (omega arith)
front-all (suc n) NoTrees h = refl
front-all (suc n) (Tree k p under beside) h = ap (λ b. Tree k p under b) (front-all n beside (omega arith))

-- the steps of a body that has a form
strung_body : (p : ℕ) (f : Points) (fs : List Points) → strung true (f ∷ fs) ≡ steps_of (body_of p (f ∷ fs))
strung_body p f [] = refl
strung_body p f (g ∷ fs) =
    ap (λ s. steps_of f ++ (Act Discard ∷ s)) (strung_body p g fs) ∙ sym (steps_of-joined f (Do Discard p (body_of p (g ∷ fs))))

-- what stands behind a front that is kept is taken away
take-front : {T : Type 0} (xs ys : List T) → take (length xs) (xs ++ ys) ≡ xs
take-front [] ys = refl
take-front (x ∷ xs) ys = ap (λ zs. x ∷ zs) (take-front xs ys)

-- no form is wanted, or there
nothing_at : (nodes : List PlainNode) (from count : ℕ) → (count ≡ 0) ⊎ (length nodes ≤ from) → front count (forms_of (drop from nodes)) ≡ NoTrees
nothing_at nodes from count (inl e) = rw e refl
nothing_at nodes from count (inr h) = rw (drop_all nodes from h) (front_nothing count)

behind_at : (nodes : List PlainNode) (from count : ℕ) → (count ≡ 0) ⊎ (length nodes ≤ from) → behind count (forms_of (drop from nodes)) ≡ forms_of (drop from nodes)
behind_at nodes from count (inl e) = rw e refl
behind_at nodes from count (inr h) = rw (drop_all nodes from h) (behind_nothing count)

-- a body without a form is NIL
pub nil_written : (nodes : List PlainNode) (from count : ℕ) (old new : List Step) → from ≤ length nodes → (count ≡ 0) ⊎ (length nodes ≤ from)
    → new ≡ old ++ Act (Push nil) ∷ [] → Writes nodes from count body_steps old new from
nil_written nodes from count old new within none e =
    let empty : front count (forms_of (drop from nodes)) ≡ NoTrees = nothing_at nodes from count none in
    record { after = omega arith; within = within; steps = rw empty e; rest = sym (behind_at nodes from count none) }

pub none_wanted : (nodes : List PlainNode) (from count : ℕ) (old new : List Step) → from ≤ length nodes → count ≡ 0
    → new ≡ old ++ Act (Push nil) ∷ [] → Writes nodes from count body_steps old new from
none_wanted nodes from count old new within none e = nil_written nodes from count old new within (inl none) e

pub none_there : (nodes : List PlainNode) (from count : ℕ) (old new : List Step) → from ≤ length nodes → from ≡ length nodes
    → new ≡ old ++ Act (Push nil) ∷ [] → Writes nodes from count body_steps old new from
none_there nodes from count old new within none e = nil_written nodes from count old new within (inr (omega arith)) e

strung_forms : (n : ℕ) (f : PlainForms) → f ≢ NoTrees → strung true (points_of (front (suc n) f)) ≡ body_steps (points_of (front (suc n) f))
strung_forms n NoTrees some = absurd (some refl)
strung_forms n (Tree k p under beside) some = strung_body 0 (table k p (points_of under)) (points_of (front n beside))

-- a body with a form is its forms in turn
pub body_written : (nodes : List PlainNode) (from count : ℕ) (old new : List Step) (next : ℕ) → 0 < count → from < length nodes
    → Writes nodes from count (strung true) old new next → Writes nodes from count body_steps old new next
body_written nodes from zero old new next some h w = absurd (omega arith)
body_written nodes from (suc n) old new next some h w =
    record {
      after = w.after;
      within = w.within;
      steps = w.steps ∙ ap (λ s. old ++ s) (strung_forms n (forms_of (drop from nodes)) (some_form nodes from h));
      rest = w.rest;
    }

-- one NIL more stands behind the others
nils_more : (n : ℕ) → operand_steps (suc n) [] ≡ operand_steps n [] ++ Act (Push nil) ∷ []
nils_more zero = refl
nils_more (suc n) = ap (λ s. Act (Push nil) ∷ s) (nils_more n)

-- one NIL more is written
pub nil_more : (n : ℕ) (old now new : List Step) → now ≡ old ++ operand_steps n [] → new ≡ now ++ Act (Push nil) ∷ []
    → new ≡ old ++ operand_steps (n + 1) []
nil_more n old now new is e =
    let longer : new ≡ (old ++ operand_steps n []) ++ Act (Push nil) ∷ [] = rw is at e in
    rw (add-one n, nils_more n, ← append_assoc) longer

-- what was written of forms is taken away again
pub passed_over : (nodes : List PlainNode) (from count : ℕ) (old mid new : List Step) (next : ℕ) → Writes nodes from count (strung false) old mid next
    → new ≡ take (length old) mid → Writes nodes from count (operand_steps 0) old new next
passed_over nodes from count old mid new next w e =
    record { after = w.after; within = w.within; steps = e ∙ ap (take (length old)) w.steps ∙ take-front old _ ∙ sym (append-nil old); rest = w.rest }

-- of the operands that are wanted no form is there
pub operands_missing : (nodes : List PlainNode) (from count n : ℕ) (old new : List Step) → from ≤ length nodes → (count ≡ 0) ⊎ (length nodes ≤ from)
    → new ≡ old ++ operand_steps n [] → Writes nodes from count (operand_steps n) old new from
operands_missing nodes from count n old new within none e =
    let empty : front count (forms_of (drop from nodes)) ≡ NoTrees = nothing_at nodes from count none in
    record { after = omega arith; within = within; steps = rw empty e; rest = sym (behind_at nodes from count none) }

-- a first form, and those behind it, as operands
operands_by : (f beside : PlainForms) (old mid new : List Step) (n later : ℕ) → f ≢ NoTrees → mid ≡ old ++ strung false (points_of (front 1 f))
    → new ≡ mid ++ operand_steps n (points_of (front later beside)) → beside ≡ behind 1 f
    → new ≡ old ++ operand_steps (suc n) (points_of (front (suc later) f))
operands_by NoTrees beside old mid new n later some m e r = absurd (some refl)
operands_by (Tree k p under others) beside old mid new n later some m e r =
    let form : Points = table k p (points_of under) in
    let next : List Step = operand_steps n (points_of (front later others)) in
    let shorter : mid ≡ old ++ steps_of form = m ∙ ap (λ s. old ++ s) (append-nil (steps_of form)) in
    let all : new ≡ (old ++ steps_of form) ++ next = rw (r, shorter) at e in
    all ∙ append_assoc old (steps_of form) next ∙ ap (λ s. old ++ s) (sym (steps_of-joined form (operands n 0 (points_of (front later others)))))

-- one operand is written, and then the others
pub operands_written : (nodes : List PlainNode) (from count n : ℕ) (old mid new : List Step) (at next later fewer : ℕ)
    → count ≡ suc later → n ≡ suc fewer → from < length nodes → Writes nodes from 1 (strung false) old mid at
    → Writes nodes at later (operand_steps fewer) mid new next → Writes nodes from count (operand_steps n) old new next
operands_written nodes from count n old mid new at next later fewer c k h f w =
    let before : behind later (forms_of (drop at nodes)) ≡ behind (suc later) (forms_of (drop from nodes)) =
    rw f.rest (sym (behind-next later (forms_of (drop from nodes)))) in
    record {
      after = omega (arith, f.after, w.after);
      within = w.within;
      steps = rw (c, k) (operands_by (forms_of (drop from nodes)) (forms_of (drop at nodes)) old mid new fewer later (some_form nodes from h) f.steps w.steps f.rest);
      rest = rw c (w.rest ∙ before);
    }

-- all forms of main are written, and its end
pub main_written : (nodes : List PlainNode) (now new : List Step) (next : ℕ) → Writes nodes 0 (length nodes) body_steps [] now next
    → new ≡ now ++ AskStep EndThread ∷ [] → new ≡ steps_of (joined (body_of 0 (points_of (forms_of nodes))) (Ask EndThread 0 Done))
main_written nodes now new next w e =
    let whole : now ≡ body_steps (points_of (forms_of nodes)) =
    w.steps ∙ ap (λ f. body_steps (points_of f)) (front-all (length nodes) (forms_of nodes) (count-forms_of nodes)) in
    e ∙ ap (λ s. s ++ AskStep EndThread ∷ []) whole ∙ sym (steps_of-joined (body_of 0 (points_of (forms_of nodes))) (Ask EndThread 0 Done))
