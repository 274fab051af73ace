-- The code of a well-made program that holds not too much is valid.
use Rattle.std.proofs.Common.{◌≡◌, ◌≤◌, ◌<◌, ◌+◌, ℕ, zero, suc, max, List, [], ◌∷◌, ◌++◌, Bool, true, false, if◌then◌else◌, Option, Some, None, All, map, length, get_or, drop, arith, refl, sym, ap, subst, ◌∙◌, true≢false, is_some}
use Rattle.std.proofs.lemmas.List.Elements.{All-cons, All-nil}
use Rattle.lisp_base.specs.Forest.{NoTrees}
use Rattle.lisp_base.specs.declared.id.FunctionName.{FunctionName}
use Rattle.lisp_program.specs.Forms.{Forms}
use Rattle.lisp_program.specs.Program.{Function, Program}
use Rattle.lisp_program.specs.declared.form.CoreKind.TheVariants as k
use Rattle.lisp_program.specs.WellMade.{AreMade, BodiesAreMade, Each, IsWellMade}
use Rattle.form_points.specs.Points.{Points, Done, Do, Ask, Test, Choose, Loop, Turn, Enter, Protect, Handle, When, body_of}
use Rattle.form_points.specs.Table.{main_points, points_of}
use Rattle.form_points.specs.declared.act.Question.TheVariants as question
use Rattle.lisp_code.specs.CodeOf.{IsCodeOf, Stretch, aborting, begun, functions_from, height_of, lines_from, most_held, names_of, program_lines, stretch_of, stretches_of}
use Rattle.lisp_code.specs.Held.{Holding, after_act, after_question, held_at, inside, one_more, outside, rise, total, without}
use Rattle.lisp_code.specs.Lines.{Asks, Leaves, Placed, Way, given, is_named, laid, no_way, one_later, past, placed, seat_of}
use Rattle.lisp_code.specs.Parts.{Parts, line_of}
use Rattle.lisp_code.specs.Validity.{AreFine, IsFine, IsFunction, IsValid, Lies, most_operands, on}
use Rattle.lisp_code.specs.declared.instr.Instr.{Instr}
use Rattle.lisp_code.specs.declared.instr.Instr.TheVariants as i
use Rattle.form_compiler.specs.inside.Fits.{AreFit, Fits, Lifts}
use Rattle.form_compiler.specs.inside.Gives.{AreGiving}
use Rattle.form_compiler.specs.inside.Marks.{HasRow}
use Rattle.form_compiler.specs.inside.Reaches.{AllReach, Reaches}
use Rattle.form_compiler.specs.inside.Sound.{AreRowsThere, AreSound, IsFineLine, IsLaidOut, RowsAreThere}
use Rattle.form_compiler.proofs.Fine.{at-most, few, fine-end, fine-leave}
use Rattle.form_compiler.proofs.Fitting.{kind-fits, made-fit}
use Rattle.form_compiler.proofs.Gives.{kind-gives, made-gives}
use Rattle.form_compiler.proofs.Joined.{laid-joined, past-joined}
use Rattle.form_compiler.proofs.Reaches.{kind-reaches, made-reaches}
use Rattle.form_compiler.proofs.Sounding.{begins, drop-laid, drop-suc, held, laid-sound, length-mapped, lies, most-of, same-length}

-- instructions that are sound lines
none-taken : (n : ℕ) → 0 ≤ n
none-taken n = omega arith

fine-of : (p : Parts) (at h : ℕ) (instr : Instr) → IsFineLine p at h (line_of p.handlers instr) → HasRow (length p.handlers) instr → IsFine p at h instr
fine-of p at h (i.Do a) f r = f
fine-of p at h (i.Call function count) f r = f
fine-of p at h (i.Ask q) f r = f
fine-of p at h (i.Test q to) f r = f
fine-of p at h (i.Branch to) f r = f
fine-of p at h (i.LoopTest to) f r = f
fine-of p at h (i.Jump to) f r = f
fine-of p at h (i.Enter o back) f r = f
fine-of p at h (i.EnterProtect cleanup) f r = f
fine-of p at h (i.EnterHandler row) f r = record { finds = none-taken h; leaves = few; goes_on = f; in_range = r; lands = tt }
fine-of p at h i.Leave f r = f
fine-of p at h i.LeaveProtect f r = f
fine-of p at h i.LeaveCleanup f r = f
fine-of p at h (i.LeaveHandler to) f r = f

some-none : (n : ℕ) → suc n ≡ 0 → ⊥
some-none n e = omega (arith, e)

are-fine : (p : Parts) (at : ℕ) (instrs : List Instr) (ls : List Placed) → map (line_of p.handlers) instrs ≡ map (λ (l : Placed). l.line) ls
    → AreSound p at ls → AreRowsThere p.handlers instrs → AreFine p at (map (λ (l : Placed). l.height) ls) instrs
are-fine p at [] ls e s r = tt
are-fine p at (instr ∷ instrs) [] e s r = absurd (some-none (length (map (line_of p.handlers) instrs)) (ap length e))
are-fine p at (instr ∷ instrs) (l ∷ ls) e s r = (
  fine-of p at l.height instr (subst (λ m. IsFineLine p at l.height m) (sym (ap (λ ms. get_or ms 0 Leaves) e)) s.0) r.0,
  are-fine p (suc at) instrs ls (ap (λ ms. drop 1 ms) e) s.1 r.1,
)

-- the number of a function is one of theirs
number_of : Option ℕ → ℕ
number_of None = 0
number_of (Some n) = n

first-below : (n m : ℕ) → 0 ≡ n → n < suc m
first-below n m e = omega (arith, e)

later-below : (n k m : ℕ) → suc k ≡ n → k < m → n < suc m
later-below n k m e l = omega (arith, e, l)

seat-step : (b : Bool) (seat : Option ℕ) (n m : ℕ) → ((k : ℕ) → seat ≡ Some k → k < m) → (if b then Some zero else one_later seat) ≡ Some n → n < suc m
unfolding number_of
seat-step true seat n m f e = first-below n m (ap number_of e)
seat-step false None n m f e = absurd (true≢false (sym (ap is_some e)))
seat-step false (Some k) n m f e = later-below n k m (ap number_of e) (f k refl)

seat-below : (s : ℕ) (names : List FunctionName) (n : ℕ) → seat_of s names ≡ Some n → n < length names
seat-below s [] n e = absurd (true≢false (sym (ap is_some e)))
seat-below s (name ∷ names) n e = seat-step (is_named s name) (seat_of s names) n (length names) (λ k d. seat-below s names k d) e

functions-length : (names : List FunctionName) (at : ℕ) (ss : List Stretch) → length (functions_from names at ss) ≡ length ss
functions-length names at [] = refl
functions-length names at (s ∷ ss) = ap suc (functions-length names (suc (past at s.points)) ss)

-- What lines hold does not depend on their positions, on the way, or on what comes after them.
more-held : (k n m : ℕ) → n ≤ m → max k n ≤ max k m
more-held k n m l = omega (arith, l)

pub held-same : (names : List FunctionName) (way way' : Way) (h : Holding) (at at' : ℕ) (points : Points) (next next' : List Placed)
    → most_held next ≤ most_held next' → most_held (laid names way h at points next) ≤ most_held (laid names way' h at' points next')
held-same names way way' h at at' Done next next' l = l
held-same names way way' h at at' (Do a p after) next next' l =
    more-held _ _ _ (held-same names way way' (after_act a h) (suc at) (suc at') after next next' l)
held-same names way way' h at at' (Ask q p after) next next' l =
    more-held _ _ _ (held-same names way way' (after_question q h) (suc at) (suc at') after next next' l)
held-same names way way' h at at' (Test q p more after) next next' l =
    more-held _ _ _ (held-same names no_way no_way h (suc at) (suc at') more _ _
    (held-same names way way' (after_question q h) (past (suc at) more) (past (suc at') more) after next next' l))
held-same names way way' h at at' (Choose p x y after) next next' l =
    more-held _ _ _ (held-same names no_way no_way (without 1 h) (suc at) (suc at') x _ _ (more-held _ _ _
    (held-same names no_way no_way (without 1 h) (suc (past (suc at) x)) (suc (past (suc at') x)) y _ _
    (held-same names way way' (one_more (without 1 h)) (past (suc (past (suc at) x)) y) (past (suc (past (suc at') x)) y) after next next' l))))
held-same names way way' h at at' (Loop p test body after) next next' l =
    held-same names no_way no_way h at at' test _ _ (more-held _ _ _
    (held-same names no_way no_way h (suc (past at test)) (suc (past at' test)) body _ _ (more-held _ _ _ (more-held _ _ _
    (held-same names way way' (one_more h) (suc (suc (past (suc (past at test)) body))) (suc (suc (past (suc (past at' test)) body))) after next next' l)))))
held-same names way way' h at at' (Turn p test body after) next next' l = held-same names way way' h at at' after next next' l
held-same names way way' h at at' (Enter o p body after) next next' l =
    more-held _ _ _ (held-same names no_way no_way (inside o h) (suc at) (suc at') body _ _ (more-held _ _ _
    (held-same names way way' (one_more (outside o h)) (suc (past (suc at) body)) (suc (past (suc at') body)) after next next' l)))
held-same names way way' h at at' (Protect p body cleanup after) next next' l =
    more-held _ _ _ (held-same names no_way no_way h (suc at) (suc at') body _ _ (more-held _ _ _
    (held-same names no_way no_way h (suc (past (suc at) body)) (suc (past (suc at') body)) cleanup _ _ (more-held _ _ _
    (held-same names way way' (one_more h) (suc (past (suc (past (suc at) body)) cleanup)) (suc (past (suc (past (suc at') body)) cleanup)) after next next' l)))))
held-same names way way' h at at' (Handle p body clauses after) next next' l =
    more-held _ _ _ (held-same names no_way no_way h (suc at) (suc at') body _ _ (more-held _ _ _
    (held-same names _ _ h (suc (past (suc at) body)) (suc (past (suc at') body)) clauses _ _
    (held-same names way way' (one_more h) (past (suc (past (suc at) body)) clauses) (past (suc (past (suc at') body)) clauses) after next next' l))))
held-same names way way' h at at' (When class is_given chosen others) next next' l =
    held-same names no_way no_way (given is_given h) at at' chosen _ _ (more-held _ _ _
    (held-same names way way' h (suc (past at chosen)) (suc (past at' chosen)) others next next' l))

-- what is known of the points of a function
abbrev AreGood : List ℕ → List Stretch → Type 0
AreGood specials [] = Unit {0}
AreGood specials (s ∷ ss) = (Fits specials (begun s.params) s.points × (Lifts (begun s.params) s.points × Reaches s.points)) × AreGood specials ss

body-good : (pr : Program) (p : ℕ) (u : Forms) (h : Holding) → AreMade pr Each u
    → Fits pr.specials h (body_of p (points_of u)) × (Lifts h (body_of p (points_of u)) × Reaches (body_of p (points_of u)))
body-good pr p u h m =
    let giving : AreGiving Each u = made-gives pr Each u m in
    let fit : AreFit pr.specials u = made-fit pr Each u m in
    let reach : AllReach u = made-reaches pr Each u m in
    (kind-fits pr k.Progn p u tt giving fit h, (ap (λ (g : Holding). g.height) (kind-gives k.Progn p u giving h), kind-reaches k.Progn p u giving reach))

stretches-good : (pr : Program) (fs : List Function) → BodiesAreMade pr fs → AreGood pr.specials (map stretch_of fs ++ (aborting ∷ []))
stretches-good pr [] m = (((none-taken 0, tt), (refl, kind-reaches k.AbortThread 0 NoTrees tt tt)), tt)
stretches-good pr (f ∷ fs) m = (body-good pr f.place f.body (begun f.params) m.0, stretches-good pr fs m.1)

arguments-held : (n m : ℕ) → n + 0 ≤ m → n ≤ m
arguments-held n m l = omega (arith, l)

module _ (p : Parts) (names : List FunctionName) (ls : List Placed) (c : IsLaidOut p names ls) where
  -- the lines of functions
  stretches-sound : (at : ℕ) (ss : List Stretch) → drop at ls ≡ lines_from names at ss → AreGood p.specials ss → AreSound p at (lines_from names at ss)
  stretches-sound at [] e g = tt
  stretches-sound at (s ∷ ss) e g =
      let end : ℕ = past at s.points in
      let rest : List Placed = lines_from names (suc end) ss in
      let last : Placed = placed Leaves s.place (one_more (begun s.params)) (total (begun s.params)) in
      let e1 : drop end ls ≡ last ∷ rest = drop-laid names no_way ls (begun s.params) at s.points (last ∷ rest) e in
      let e2 : drop (suc end) ls ≡ rest = drop-suc end ls last rest e1 in
      let s1 : AreSound p end (last ∷ rest) = (fine-leave p end 0, stretches-sound (suc end) ss e2 g.1) in
      laid-sound p names ls c no_way (begun s.params) at s.points (last ∷ rest) g.0.0 e g.0.1.0 s1

  pub functions-are : (at : ℕ) (ss : List Stretch) → drop at ls ≡ lines_from names at ss → AreGood p.specials ss → All (IsFunction p) (functions_from names at ss)
  functions-are at [] e g = All-nil (IsFunction p)
  functions-are at (s ∷ ss) e g =
      let end : ℕ = past at s.points in
      let rest : List Placed = lines_from names (suc end) ss in
      let last : Placed = placed Leaves s.place (one_more (begun s.params)) (total (begun s.params)) in
      let e1 : drop end ls ≡ last ∷ rest = drop-laid names no_way ls (begun s.params) at s.points (last ∷ rest) e in
      let e2 : drop (suc end) ls ≡ rest = drop-suc end ls last rest e1 in
      let most : most_held (laid names no_way (begun s.params) at s.points (last ∷ rest)) ≤ most_operands =
      subst (λ xs. most_held xs ≤ most_operands) e (at-most (most_held (drop at ls)) (most_held ls) most_operands (most-of at ls) c.held) in
      let less : height_of names s ≤ most_held (laid names no_way (begun s.params) at s.points (last ∷ rest)) =
      held-same names no_way no_way (begun s.params) 0 at s.points (last ∷ []) (last ∷ rest) (more-held last.held 0 (most_held rest) (none-taken (most_held rest))) in
      All-cons (IsFunction p) (record { name = s.name; place = s.place; entry = at; params = s.params; height = height_of names s })
      (functions_from names (suc end) ss)
      (record {
        entry = lies p names ls c at 0 _ e (begins names no_way p.specials (begun s.params) at s.points (last ∷ rest) g.0.0 g.0.1.0);
        arguments = arguments-held s.params (height_of names s) (g.0.1.1 names no_way (begun s.params) 0 (last ∷ []));
        height = at-most (height_of names s) (most_held (laid names no_way (begun s.params) at s.points (last ∷ rest))) most_operands less most;
      })
      (functions-are (suc end) ss e2 g.1)

-- a program and its code
seats-there : (pr : Program) (p : Parts) → IsCodeOf pr p → (f n : ℕ) → seat_of f (names_of (stretches_of pr)) ≡ Some n → n < length p.functions
seats-there pr p code f n e =
    let names : List FunctionName = names_of (stretches_of pr) in
    let as_many : length names ≡ length p.functions =
    length-mapped (λ (s : Stretch). s.name) (stretches_of pr)
    ∙ sym (ap length code.functions ∙ functions-length names (past 0 (main_points pr.forms)) (stretches_of pr)) in
    subst (λ m. n < m) as_many (seat-below f names n e)

laid-out : (pr : Program) (p : Parts) → IsCodeOf pr p → most_held (program_lines pr) ≤ most_operands → IsLaidOut p (names_of (stretches_of pr)) (program_lines pr)
laid-out pr p code u = record { lines = code.lines; heights = code.heights; held = u; seats = seats-there pr p code }

-- the lines after those of main's forms: the end of the thread, and then the functions
abbrev ends_of : Program → Placed
ends_of pr = placed (Asks question.EndThread) 0 (rise (begun 0) (body_of 0 (points_of pr.forms))) (held_at question.EndThread (rise (begun 0) (body_of 0 (points_of pr.forms))))

abbrev functions_of : Program → List Placed
functions_of pr = lines_from (names_of (stretches_of pr)) (past 0 (main_points pr.forms)) (stretches_of pr)

main-laid : (pr : Program) → program_lines pr
    ≡ laid (names_of (stretches_of pr)) no_way (begun 0) 0 (body_of 0 (points_of pr.forms)) (ends_of pr ∷ functions_of pr)
main-laid pr =
    laid-joined (names_of (stretches_of pr)) no_way (begun 0) 0 (body_of 0 (points_of pr.forms)) (Ask question.EndThread 0 Done) (functions_of pr)

functions-begin : (pr : Program) → drop (past 0 (main_points pr.forms)) (program_lines pr) ≡ functions_of pr
functions-begin pr = drop-laid (names_of (stretches_of pr)) no_way (program_lines pr) (begun 0) 0 (main_points pr.forms) (functions_of pr) refl

one-there : (n : ℕ) → n ≡ 1 → 1 ≤ n
one-there n e = omega (arith, e)

program-sound : (pr : Program) (p : Parts) → IsLaidOut p (names_of (stretches_of pr)) (program_lines pr)
    → Fits p.specials (begun 0) (body_of 0 (points_of pr.forms)) → Lifts (begun 0) (body_of 0 (points_of pr.forms)) → AreGood p.specials (stretches_of pr)
    → AreSound p 0 (program_lines pr)
program-sound pr p c fit lift good =
    let names : List FunctionName = names_of (stretches_of pr) in
    let body : Points = body_of 0 (points_of pr.forms) in
    let end : ℕ = past 0 body in
    let here : drop end (program_lines pr) ≡ ends_of pr ∷ functions_of pr =
    drop-laid names no_way (program_lines pr) (begun 0) 0 body (ends_of pr ∷ functions_of pr) (main-laid pr) in
    let others : AreSound p (past 0 (main_points pr.forms)) (functions_of pr) =
    stretches-sound p names (program_lines pr) c (past 0 (main_points pr.forms)) (stretches_of pr) (functions-begin pr) good in
    let next : AreSound p (suc end) (functions_of pr) =
    subst (λ n. AreSound p n (functions_of pr)) (past-joined 0 body (Ask question.EndThread 0 Done)) others in
    let last : AreSound p end (ends_of pr ∷ functions_of pr) = (
      fine-end p end (rise (begun 0) body) (one-there (rise (begun 0) body).height lift) (held p names (program_lines pr) c end (ends_of pr) (functions_of pr) here),
      next,
    ) in
    subst (λ xs. AreSound p 0 xs) (sym (main-laid pr))
    (laid-sound p names (program_lines pr) c no_way (begun 0) 0 body (ends_of pr ∷ functions_of pr) fit (main-laid pr) refl last)

program-begins : (pr : Program) (p : Parts) → IsLaidOut p (names_of (stretches_of pr)) (program_lines pr)
    → Fits p.specials (begun 0) (body_of 0 (points_of pr.forms)) → Lies p (on 0 0)
program-begins pr p c fit =
    let names : List FunctionName = names_of (stretches_of pr) in
    let body : Points = body_of 0 (points_of pr.forms) in
    lies p names (program_lines pr) c 0 0 (laid names no_way (begun 0) 0 body (ends_of pr ∷ functions_of pr)) (main-laid pr)
    (begins names no_way p.specials (begun 0) 0 body (ends_of pr ∷ functions_of pr) fit refl)

pub code-valid : (pr : Program) (p : Parts) → IsCodeOf pr p → IsWellMade pr → RowsAreThere p → most_held (program_lines pr) ≤ most_operands → IsValid p
code-valid pr p code made rows u =
    let names : List FunctionName = names_of (stretches_of pr) in
    let c : IsLaidOut p names (program_lines pr) = laid-out pr p code u in
    let main : Fits pr.specials (begun 0) (body_of 0 (points_of pr.forms)) × (Lifts (begun 0) (body_of 0 (points_of pr.forms)) × Reaches (body_of 0 (points_of pr.forms))) =
    body-good pr 0 pr.forms (begun 0) made.forms in
    let fit : Fits p.specials (begun 0) (body_of 0 (points_of pr.forms)) =
    subst (λ ss. Fits ss (begun 0) (body_of 0 (points_of pr.forms))) (sym code.specials) main.0 in
    let good : AreGood p.specials (stretches_of pr) =
    subst (λ ss. AreGood ss (stretches_of pr)) (sym code.specials) (stretches-good pr pr.functions made.functions) in
    let many : length p.instrs ≡ length (program_lines pr) = same-length p names (program_lines pr) c in
    let entry : ℕ = past 0 (main_points pr.forms) in
    record {
      begins = program-begins pr p c fit;
      places = ap length code.places ∙ (length-mapped (λ (l : Placed). l.place) (program_lines pr) ∙ sym many);
      heights = ap length code.heights ∙ (length-mapped (λ (l : Placed). l.height) (program_lines pr) ∙ sym many);
      instructions = subst (λ hs. AreFine p 0 hs p.instrs) (sym code.heights)
          (are-fine p 0 p.instrs (program_lines pr) code.lines (program-sound pr p c fit main.1.0 good) rows);
      functions = subst (λ fs. All (IsFunction p) fs) (sym code.functions)
          (functions-are p names (program_lines pr) c entry (stretches_of pr) (functions-begin pr) good);
    }
