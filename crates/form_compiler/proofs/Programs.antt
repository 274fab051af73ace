-- The lines of programs, one function after the other.
use Rattle.std.proofs.Common.{◌≡◌, ◌≤◌, ◌<◌, ℕ, suc, ◌+◌, max, List, [], ◌∷◌, ◌++◌, true, false, if◌then◌else◌, nat_lt, Some, None, map, length, drop, refl, ap, sym, subst, ◌∙◌, arith, append_assoc, length-append, drop-cons, add-one, get_or, Result, Ok, Err, IfErr, IsErrAnd}
use Rattle.std.proofs.lemmas.Bool.Decides.{nat_tests}
use Rattle.std.proofs.Math.Seq.{drop-append_seam}
use Rattle.lisp_base.specs.declared.id.FunctionName.{FunctionName}
use Rattle.lisp_base.specs.declared.refusal.Refusal.TheVariants.{HeightTooLarge}
use Rattle.lisp_base.specs.declared.refusal.Rejection.{Rejection}
use Rattle.lisp_program.specs.Forms.{Forms, forms_of}
use Rattle.lisp_program.specs.Program.{FlatFunction, FlatProgram, Program, function_of, program_of}
use Rattle.lisp_program.specs.WellMade.{AreMade, BodiesAreMade, Each}
use Rattle.lisp_program.specs.declared.form.CoreKind.TheVariants as k
use Rattle.form_points.specs.Points.{Points, Done, Do, Ask, Test, Choose, Loop, Turn, Enter, Protect, Handle, When, body_of}
use Rattle.form_points.specs.Table.{main_points, points_of}
use Rattle.form_points.specs.declared.act.Question.TheVariants as question
use Rattle.lisp_code.specs.CodeOf.{Stretch, begun, functions_from, height_of, lines_from, main_lines, most_held, names_of, program_lines, stretch_lines, stretches_of}
use Rattle.lisp_code.specs.Held.{Holding, after_act, after_question, held_at, held_by, held_in, inside, one_more, outside, total, without}
use Rattle.form_points.specs.declared.act.Act.TheVariants.{Discard}
use Rattle.lisp_code.specs.Lines.{Does, Asks, Tests, Branches, LoopTests, JumpsTo, Enters, EntersProtect, EntersHandler, Leaves, LeavesProtect, LeavesCleanup, LeavesHandler, Placed, Way, act_line, clauses_at, given, laid, no_way, past, placed, size}
use Rattle.lisp_code.specs.declared.code.FunctionCode.{FunctionCode}
use Rattle.lisp_program.specs.declared.form.FormNode.{FormNode}
use Rattle.form_compiler.specs.declared.mark.Mark.{Mark}
use Rattle.form_compiler.specs.Refusals.{IsRefusalOf, at, most_values, refused_at, too_high}
use Rattle.form_compiler.specs.inside.Marks.{ask_mark, placed_of}
use Rattle.form_compiler.specs.inside.Programs.{Added, AreLayable, BodiesAreLayable, Laying, functions_refusal}
use Rattle.form_compiler.specs.inside.Steps.{most_lines}
use Rattle.form_compiler.proofs.Gives.{kind-gives, made-gives}
use Rattle.form_compiler.proofs.Joined.{laid-joined}
use Rattle.form_compiler.proofs.Longs.{laid_long, size_joined}
use Rattle.form_compiler.proofs.Steps.{made-ready, past-size}
use Rattle.form_compiler.proofs.Whole.{held-same}

-- lines before those that come after points
pub laid-before : (x : Points) (names : List FunctionName) (w : Way) (h : Holding) (at : ℕ) (xs ys : List Placed)
    → laid names w h at x (xs ++ ys) ≡ laid names w h at x xs ++ ys
laid-before Done names w h at xs ys = refl
laid-before (Do a p x) names w h at xs ys = ap (λ l. placed (act_line names a) p h (held_by a h) ∷ l) (laid-before x names w (after_act a h) (suc at) xs ys)
laid-before (Ask q p x) names w h at xs ys = ap (λ l. placed (Asks q) p h (held_at q h) ∷ l) (laid-before x names w (after_question q h) (suc at) xs ys)
laid-before (Test q p more x) names w h at xs ys =
    let end : ℕ = past (suc at) more in
    ap (λ l. placed (Tests q end) p h (held_at q h) ∷ l)
    (ap (λ l. laid names no_way h (suc at) more l) (laid-before x names w (after_question q h) end xs ys)
    ∙ laid-before more names no_way h (suc at) (laid names w (after_question q h) end x xs) ys)
laid-before (Choose p x y z) names w h at xs ys =
    let low : Holding = without 1 h in
    let jump : ℕ = past (suc at) x in
    let end : ℕ = past (suc jump) y in
    let ended : Placed = placed (JumpsTo end) p (one_more low) (total low) in
    let third : List Placed = laid names w (one_more low) end z xs in
    ap (λ l. placed (Branches (suc jump)) p h (total low) ∷ l)
    (ap (λ l. laid names no_way low (suc at) x (ended ∷ l))
    (ap (λ l. laid names no_way low (suc jump) y l) (laid-before z names w (one_more low) end xs ys) ∙ laid-before y names no_way low (suc jump) third ys)
    ∙ laid-before x names no_way low (suc at) (ended ∷ laid names no_way low (suc jump) y third) ys)
laid-before (Loop p x y z) names w h at xs ys =
    let judge : ℕ = past at x in
    let again : ℕ = suc (past (suc judge) y) in
    let judged : Placed = placed (LoopTests (suc again)) p (one_more h) (total (one_more h)) in
    let dropped : Placed = placed (Does Discard) p (one_more h) (total h) in
    let back : Placed = placed (JumpsTo at) p h (total h) in
    let third : List Placed = laid names w (one_more h) (suc again) z xs in
    ap (λ l. laid names no_way h at x (judged ∷ l))
    (ap (λ l. laid names no_way h (suc judge) y (dropped ∷ (back ∷ l))) (laid-before z names w (one_more h) (suc again) xs ys)
    ∙ laid-before y names no_way h (suc judge) (dropped ∷ (back ∷ third)) ys)
    ∙ laid-before x names no_way h at (judged ∷ laid names no_way h (suc judge) y (dropped ∷ (back ∷ third))) ys
laid-before (Turn p x y z) names w h at xs ys = laid-before z names w h at xs ys
laid-before (Enter o p x y) names w h at xs ys =
    let leave : ℕ = past (suc at) x in
    let left : Placed = placed Leaves p (one_more (outside o h)) (total (outside o h)) in
    ap (λ l. placed (Enters o (suc leave)) p h (held_in o h) ∷ l)
    (ap (λ l. laid names no_way (inside o h) (suc at) x (left ∷ l)) (laid-before y names w (one_more (outside o h)) (suc leave) xs ys)
    ∙ laid-before x names no_way (inside o h) (suc at) (left ∷ laid names w (one_more (outside o h)) (suc leave) y xs) ys)
laid-before (Protect p x y z) names w h at xs ys =
    let turn : ℕ = past (suc at) x in
    let leave : ℕ = past (suc turn) y in
    let turned : Placed = placed LeavesProtect p (one_more h) (total h) in
    let cleaned : Placed = placed LeavesCleanup p (one_more h) (total h) in
    let third : List Placed = laid names w (one_more h) (suc leave) z xs in
    ap (λ l. placed (EntersProtect (suc turn)) p h (total h) ∷ l)
    (ap (λ l. laid names no_way h (suc at) x (turned ∷ l))
    (ap (λ l. laid names no_way h (suc turn) y (cleaned ∷ l)) (laid-before z names w (one_more h) (suc leave) xs ys)
    ∙ laid-before y names no_way h (suc turn) (cleaned ∷ third) ys)
    ∙ laid-before x names no_way h (suc at) (turned ∷ laid names no_way h (suc turn) y (cleaned ∷ third)) ys)
laid-before (Handle p x y z) names w h at xs ys =
    let leave : ℕ = past (suc at) x in
    let end : ℕ = past (suc leave) y in
    let way : Way = record { to = end; place = p } in
    let left : Placed = placed (LeavesHandler end) p (one_more h) (total h) in
    let third : List Placed = laid names w (one_more h) end z xs in
    ap (λ l. placed (EntersHandler (clauses_at (suc leave) y)) p h (total h) ∷ l)
    (ap (λ l. laid names no_way h (suc at) x (left ∷ l))
    (ap (λ l. laid names way h (suc leave) y l) (laid-before z names w (one_more h) end xs ys) ∙ laid-before y names way h (suc leave) third ys)
    ∙ laid-before x names no_way h (suc at) (left ∷ laid names way h (suc leave) y third) ys)
laid-before (When c g x y) names w h at xs ys =
    let done : Placed = placed (JumpsTo w.to) w.place (one_more h) (total h) in
    ap (λ l. laid names no_way (given g h) at x (done ∷ l)) (laid-before y names w h (suc (past at x)) xs ys)
    ∙ laid-before x names no_way (given g h) at (done ∷ laid names w h (suc (past at x)) y xs) ys

-- the lines of a function, and those after it
stretch-before : (names : List FunctionName) (at : ℕ) (s : Stretch) (next : List Placed) → stretch_lines names at s next ≡ stretch_lines names at s [] ++ next
stretch-before names at s next =
    laid-before s.points names no_way (begun s.params) at (placed Leaves s.place (one_more (begun s.params)) (total (begun s.params)) ∷ []) next

added-size : {n : ℕ} (k l : ℕ) → n ≡ k + suc l → n ≡ suc (k + l)
added-size k l e = omega (arith, e)

stretch-long : (names : List FunctionName) (at : ℕ) (s : Stretch) (next : List Placed) → length (stretch_lines names at s next) ≡ suc (size s.points + length next)
stretch-long names at s next =
    added-size (size s.points) (length next) (laid_long s.points names no_way (begun s.params) at (placed Leaves s.place (one_more (begun s.params)) (total (begun s.params)) ∷ next))

-- the most that one of these lines and those holds
max-of-three : (k n m : ℕ) → max k (max n m) ≡ max (max k n) m
max-of-three k n m = omega arith

max-of-none : (n : ℕ) → n ≡ max 0 n
max-of-none n = omega arith

pub most-both : (xs ys : List Placed) → most_held (xs ++ ys) ≡ max (most_held xs) (most_held ys)
most-both [] ys = max-of-none (most_held ys)
most-both (x ∷ xs) ys = ap (max x.held) (most-both xs ys) ∙ max-of-three x.held (most_held xs) (most_held ys)

same-number : (n m : ℕ) → n ≤ m → m ≤ n → n ≡ m
same-number n m l g = omega (arith, l, g)

no-more : (n : ℕ) → n ≤ n
no-more n = omega arith

-- what a function holds, wherever it stands
pub height-here : (names : List FunctionName) (at : ℕ) (s : Stretch) → most_held (stretch_lines names at s []) ≡ height_of names s
height-here names at s =
    let last : List Placed = placed Leaves s.place (one_more (begun s.params)) (total (begun s.params)) ∷ [] in
    same-number (most_held (stretch_lines names at s [])) (height_of names s)
    (held-same names no_way no_way (begun s.params) at 0 s.points last last (no-more (most_held last)))
    (held-same names no_way no_way (begun s.params) 0 at s.points last last (no-more (most_held last)))

-- a test that says no, and one that says yes
pub not-below : (n m : ℕ) → m ≤ n → nat_lt n m ≡ false
not-below n m l = grind (arith, nat_tests)

pub below : (n m : ℕ) → n < m → nat_lt n m ≡ true
below n m l = grind (arith, nat_tests)

-- where the lines after those of a function begin
after : (at n q : ℕ) → q ≡ at + n → at + suc (n + 0) ≡ suc q
after at n q e = omega (arith, e)

-- both parts of lines hold not too much
both-few : {a : ℕ} (n m k : ℕ) → a ≡ max n m → n ≤ k → m ≤ k → a ≤ k
both-few n m k e f g = omega (arith, e, f, g)

-- what is left after a function that is added
pub one-added : (p : Program) (s : Stretch) (ss : List Stretch) (lines lines' : List Placed) (codes : List FunctionCode) (is : FunctionCode)
    → Laying p (s ∷ ss) lines codes → Added (names_of (stretches_of p)) s lines lines' is → Laying p ss lines' (codes ++ is ∷ [])
one-added p s ss lines lines' codes is l a =
    let names : List FunctionName = names_of (stretches_of p) in
    let at : ℕ = length lines in
    let next : ℕ = suc (past at s.points) in
    let here : length lines' ≡ next =
    ap length a.lines ∙ length-append lines (stretch_lines names at s []) ∙ ap (λ n. at + n) (stretch-long names at s [])
    ∙ after at (size s.points) (past at s.points) (past-size s.points at) in
    record {
      lines = ap (λ ls. ls ++ lines_from names (length lines') ss) a.lines
          ∙ ap (λ n. (lines ++ stretch_lines names at s []) ++ lines_from names n ss) here
          ∙ append_assoc lines (stretch_lines names at s []) (lines_from names next ss)
          ∙ ap (λ ls. lines ++ ls) (sym (stretch-before names at s (lines_from names next ss)))
          ∙ l.lines;
      codes = ap (λ n. (codes ++ is ∷ []) ++ functions_from names n ss) here
          ∙ append_assoc codes (is ∷ []) (functions_from names next ss)
          ∙ ap (λ c. codes ++ c ∷ functions_from names next ss) a.code
          ∙ l.codes;
      refused = sym (ap (λ t. if t then Some s.place else too_high names ss) (not-below most_values (height_of names s) a.few)) ∙ l.refused;
      few = both-few (most_held lines) (height_of names s) most_values
          (ap most_held a.lines ∙ most-both lines (stretch_lines names at s []) ∙ ap (max (most_held lines)) (height-here names at s)) l.few a.few;
    }

-- what is left after main
begins-at : {n q : ℕ} (m : ℕ) → n ≡ m + 0 → q ≡ 0 + m → n ≡ q
begins-at m e f = omega (arith, e, f)

pub main-added : (p : Program) (lines : List Placed) → lines ≡ main_lines (names_of (stretches_of p)) p [] → most_held lines ≤ most_values
    → Laying p (stretches_of p) lines []
main-added p lines e few =
    let names : List FunctionName = names_of (stretches_of p) in
    let ss : List Stretch = stretches_of p in
    let main : Points = main_points p.forms in
    let here : length lines ≡ past 0 main =
    begins-at (size main) (ap length e ∙ laid_long main names no_way (begun 0) 0 []) (past-size main 0) in
    record {
      lines = ap (λ ls. ls ++ lines_from names (length lines) ss) e
          ∙ ap (λ n. main_lines names p [] ++ lines_from names n ss) here
          ∙ sym (laid-before main names no_way (begun 0) 0 [] (lines_from names (past 0 main) ss));
      codes = ap (λ n. functions_from names n ss) here;
      refused = refl;
      few = few;
    }

-- there is room for the next function
room-left : {a b : ℕ} (n m k most : ℕ) → a ≡ n + b → b ≡ suc (m + k) → a ≤ most → n + m < most
room-left n m k most e f g = omega (arith, e, f, g)

pub next-fits : (p : Program) (s : Stretch) (ss : List Stretch) (lines : List Placed) (codes : List FunctionCode)
    → Laying p (s ∷ ss) lines codes → length (program_lines p) ≤ most_lines → length lines + size s.points < most_lines
next-fits p s ss lines codes l few =
    let names : List FunctionName = names_of (stretches_of p) in
    let rest : List Placed = lines_from names (suc (past (length lines) s.points)) ss in
    room-left (length lines) (size s.points) (length rest) most_lines
    (sym (ap length l.lines) ∙ length-append lines (stretch_lines names (length lines) s rest)) (stretch-long names (length lines) s rest) few

-- the forms of well-made programs can be laid out
pub forms-layable : (pr : Program) (u : Forms) → AreMade pr Each u → AreLayable u
forms-layable pr u m = record { giving = made-gives pr Each u m; ready = made-ready pr Each u m }

pub bodies-layable : (pr : Program) (fs : List FlatFunction) → BodiesAreMade pr (map function_of fs) → BodiesAreLayable fs
bodies-layable pr [] m = tt
bodies-layable pr (f ∷ fs) m = (forms-layable pr (forms_of f.body) m.0, bodies-layable pr fs m.1)

-- there is room for main
main-room : {a b : ℕ} (n k most : ℕ) → a ≡ b + k → b ≡ n + 1 → a ≤ most → 0 + n < most
main-room n k most e f g = omega (arith, e, f, g)

pub main-fits : (p : FlatProgram) (lines : List Placed) (nodes : List FormNode) → lines ≡ [] → nodes ≡ p.main
    → length (program_lines (program_of p)) ≤ most_lines → length lines + size (body_of 0 (points_of (forms_of nodes))) < most_lines
main-fits p lines nodes e f few =
    let names : List FunctionName = names_of (stretches_of (program_of p)) in
    let body : Points = body_of 0 (points_of (forms_of p.main)) in
    let rest : List Placed = lines_from names (past 0 (main_points (forms_of p.main))) (stretches_of (program_of p)) in
    rw (e, f)
    (main-room (size body) (length rest) most_lines (laid_long (main_points (forms_of p.main)) names no_way (begun 0) 0 rest)
    (size_joined body (Ask question.EndThread 0 Done)) few)

-- main is laid out
pub main-laid-out : (p : FlatProgram) (names : List FunctionName) (old new : List Placed) (nodes : List FormNode) (h : Holding) (last : Mark)
    → AreLayable (forms_of p.main) → old ≡ [] → nodes ≡ p.main → h ≡ begun 0 → last ≡ ask_mark question.EndThread 0 (one_more h)
    → new ≡ old ++ laid names no_way h (length old) (body_of 0 (points_of (forms_of nodes))) (placed_of [] last ∷ [])
    → new ≡ main_lines names (program_of p) []
main-laid-out p names old new nodes h last made e f g m w =
    let body : Points = body_of 0 (points_of (forms_of p.main)) in
    let lines : Holding → Placed = λ (i : Holding). placed (Asks question.EndThread) 0 i (held_at question.EndThread i) in
    w
    ∙ ap (λ ls. ls ++ laid names no_way h (length ls) (body_of 0 (points_of (forms_of nodes))) (placed_of [] last ∷ [])) e
    ∙ ap (λ ns. laid names no_way h 0 (body_of 0 (points_of (forms_of ns))) (placed_of [] last ∷ [])) f
    ∙ ap (λ l. laid names no_way h 0 body (placed_of [] l ∷ [])) m
    ∙ ap (λ i. laid names no_way i 0 body (lines (one_more i) ∷ [])) g
    ∙ ap (λ i. laid names no_way (begun 0) 0 body (lines i ∷ [])) (sym (kind-gives k.Progn 0 (forms_of p.main) made.giving (begun 0)))
    ∙ sym (laid-joined names no_way (begun 0) 0 body (Ask question.EndThread 0 Done) [])

-- what a function holds that was laid out
pub height-laid : (names : List FunctionName) (s : Stretch) (old new : List Placed) (at : ℕ) → at ≡ length old
    → new ≡ old ++ stretch_lines names (length old) s [] → most_held (drop at new) ≡ height_of names s
height-laid names s old new at e w =
    ap (λ n. most_held (drop n new)) e ∙ ap (λ ls. most_held (drop (length old) ls)) w
    ∙ ap most_held (drop-append_seam old (stretch_lines names (length old) s [])) ∙ height-here names (length old) s

-- the first function that holds too much is refused
pub first-refused : (names : List FunctionName) (s : Stretch) (left : List Stretch) (r : Rejection) → r ≡ at HeightTooLarge s.place
    → most_values < height_of names s → IsRefusalOf (functions_refusal names (s ∷ left)) r
first-refused names s left r e l =
    subst (IsRefusalOf (functions_refusal names (s ∷ left))) (sym e)
    (ap (λ t. refused_at HeightTooLarge (if t then Some s.place else too_high names left) None) (below most_values (height_of names s) l))

-- an error that is handed on
pub passed-on : {T : Type 0} (result : Result T Rejection) (r : Rejection) (P : Rejection → Type 0) → IsErrAnd result (λ e. e ≡ r) → P r → IfErr result P
passed-on (Ok v) r P m h = tt
passed-on (Err e) r P m h = subst P (sym m) h

-- a function is added
pub function-added : (names : List FunctionName) (s : Stretch) (old new : List Placed) (name : FunctionName) (place entry params height : ℕ)
    → name ≡ s.name → place ≡ s.place → entry ≡ length old → params ≡ s.params → height ≡ most_held (drop entry new) → height ≤ most_values
    → new ≡ old ++ stretch_lines names (length old) s []
    → Added names s old new (record { name = name; place = place; entry = entry; params = params; height = height })
function-added names s old new name place entry params height n p e q h few w =
    let here : height ≡ height_of names s = h ∙ height-laid names s old new entry e w in
    record {
      lines = w;
      code = rw (n, p, e, q, here) refl;
      few = subst (λ m. m ≤ most_values) here few;
    }

-- the next function and those after it
pub next-left : (fs : List FlatFunction) (at : ℕ) (d f : FlatFunction) → at < length fs → f ≡ get_or fs at d → drop at fs ≡ f ∷ drop (at + 1) fs
next-left fs at d f h is = let e : drop at fs ≡ get_or fs at d ∷ drop (suc at) fs = drop-cons fs at d h in rw (add-one, is) e
