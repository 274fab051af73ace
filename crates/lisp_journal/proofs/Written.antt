-- Lines of a report that are written.
use Rattle.std.proofs.Common.{◌≡◌, ℕ, suc, ◌+◌, ◌<◌, List, [], ◌∷◌, ◌++◌, Bool, true, Option, length, length-append, append_assoc, add-one, refl, ap, sym, subst, ◌∙◌, arith}
use Rattle.lisp_base.specs.Writing.{Wrote}
use Rattle.plain_runs.specs.declared.report.OpenForm.{OpenForm}
use Rattle.plain_runs.specs.declared.report.ThreadLine.{ThreadLine}
use Rattle.world_semantics.specs.declared.global.Global.{Global}
use Rattle.lisp_journal.specs.Lines.{WroteLine}
use Rattle.lisp_journal.specs.Report.{line_text, lines_left, report_left}

-- a list of no items
pub empty : {A : Type 0} (xs : List A) → length xs ≡ 0 → xs ≡ []
empty [] e = refl
empty (x ∷ xs) e = absurd (omega arith)

regrouped : (l f t g : List ℕ) → ((l ++ f) ++ t) ++ g ≡ l ++ (f ++ (t ++ g))
regrouped l f t g = simp append_assoc

-- the line of a thread was written, and its open forms are left before all else
line_wrote : (l f t g left : List ℕ) (text text' : Option (List ℕ)) → left ≡ ((l ++ f) ++ t) ++ g → 0 < length l → Wrote text text' l
    → WroteLine left (f ++ (t ++ g)) text text'
line_wrote l f t g left text text' e some wrote =
    let is : left ≡ l ++ (f ++ (t ++ g)) = rw e (regrouped l f t g) in
    record { line = l; is = is; shorter = omega (arith, ap length is, length-append l (f ++ (t ++ g))); wrote = wrote }

pub thread_wrote : (symbols literals : List (List ℕ)) (begun done : Bool) (none forms : List OpenForm) (number next : ℕ) (threads rest : List ThreadLine)
    (line : ThreadLine) (globals : List Global) (status : ℕ) (now : List ℕ) (text text' : Option (List ℕ))
    → report_left begun done symbols literals none number threads globals status ≡ now → begun ≡ true → none ≡ [] → threads ≡ line ∷ rest
    → forms ≡ line.machine.frames → next ≡ number + 1 → Wrote text text' (line_text symbols literals number line)
    → WroteLine now (report_left begun done symbols literals forms next rest globals status) text text'
thread_wrote symbols literals begun done none forms number next threads rest line globals status now text text' is b n t f m wrote =
    let of_threads : now ≡ report_left begun done symbols literals none number (line ∷ rest) globals status =
    subst (λ (x : List ThreadLine). now ≡ report_left begun done symbols literals none number x globals status) t (sym is) in
    let of_forms : now ≡ report_left begun done symbols literals [] number (line ∷ rest) globals status =
    subst (λ (x : List OpenForm). now ≡ report_left begun done symbols literals x number (line ∷ rest) globals status) n of_threads in
    let told : now ≡ report_left true done symbols literals [] number (line ∷ rest) globals status =
    subst (λ (x : Bool). now ≡ report_left x done symbols literals [] number (line ∷ rest) globals status) b of_forms in
    let some : 0 < length (line_text symbols literals number line) = omega (arith, length-append {A = ℕ}) in
    let counted : next ≡ suc number = m ∙ add-one number in
    subst (λ (x : Bool). WroteLine now (report_left x done symbols literals forms next rest globals status) text text') (sym b)
    (subst (λ (x : List OpenForm). WroteLine now (lines_left done symbols literals x next rest globals status) text text') (sym f)
    (subst (λ (x : ℕ). WroteLine now (lines_left done symbols literals line.machine.frames x rest globals status) text text') (sym counted)
    (line_wrote (line_text symbols literals number line) _ _ _ now text text' told some wrote)))
