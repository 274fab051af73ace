-- A task is taken up.
use Rattle.std.proofs.Common.{◌≡◌, ◌≤◌, ◌<◌, ◌^◌, ℕ, zero, suc, ◌+◌, min, List, [], ◌∷◌, ◌++◌, length, drop, get_or, refl, ap, sym, subst, ◌∙◌, arith, drop-cons, append-nil, append_assoc, length-append}
use Rattle.std.proofs.lemmas.List.{drop-drop, length-drop}
use Rattle.lisp_base.specs.Forest.{NoTrees, Tree, behind, count_of, front}
use Rattle.lisp_base.specs.declared.id.FunctionName.{FunctionName}
use Rattle.lisp_program.specs.Forms.{Forms, forms_of}
use Rattle.lisp_program.specs.Program.{Program}
use Rattle.lisp_program.specs.WellMade.{AreMade, Misplaced, Seat, Stand, Standing, Stands, role_of, standing}
use Rattle.lisp_program.specs.declared.form.FormNode.{FormNode}
use Rattle.form_points.specs.Points.{Points, Done, Do, Ask, Test, Choose, Loop, Turn, Enter, Protect, Handle, When}
use Rattle.form_points.specs.Table.{points_of, table}
use Rattle.lisp_code.specs.Held.{Holding}
use Rattle.lisp_code.specs.Lines.{Placed, Way, laid, no_way, past, size}
use Rattle.form_compiler.specs.declared.extent.Extent.{Extent}
use Rattle.form_compiler.specs.declared.mark.Mark.{Mark}
use Rattle.form_compiler.specs.declared.task.Task.{Task}
use Rattle.form_compiler.specs.declared.task.Task.TheVariants as task
use Rattle.form_compiler.specs.inside.Extents.{MOST, extent_of, extents_of, nodes_in, under_of}
use Rattle.form_compiler.specs.inside.Gives.{seat_under}
use Rattle.form_compiler.specs.inside.Steps.{AreReady, Going, Stepped, most_lines, to_come}
use Rattle.form_compiler.specs.inside.Marks.{placed_of}
use Rattle.form_compiler.specs.inside.Tasks.{IsLight, IsSecond, Site, all_tasks, beside_of, body_tasks, clause_tasks, first, first_way, operand_tasks, others, part_tasks, run, schedule, way_for, weight}
use Rattle.form_compiler.proofs.Gives.{made-gives, under-made}
use Rattle.form_compiler.proofs.Longs.{laid_long}
use Rattle.form_compiler.proofs.Known.{known_from, node_at, same_length}
use Rattle.form_compiler.proofs.Tasked.{scheduled}
use Rattle.form_compiler.proofs.Unfolded.{all_lighter, all_unfolded, behind-others, body_lighter, body_unfolded, clauses_lighter, clauses_unfolded, operands_lighter, operands_unfolded, part_lighter, part_unfolded}
use Rattle.form_compiler.proofs.Walk.{FirstOf, first_at, first_passed, passed, within}

-- the position after points is so many lines later
pub past-size : (x : Points) (at : ℕ) → past at x ≡ at + size x
past-size Done at = omega arith
past-size (Do a p x) at = omega (arith, past-size x (suc at))
past-size (Ask q p x) at = omega (arith, past-size x (suc at))
past-size (Test q p more x) at = omega (arith, past-size more (suc at), past-size x (past (suc at) more))
past-size (Choose p x y z) at =
    omega (arith, past-size x (suc at), past-size y (suc (past (suc at) x)), past-size z (past (suc (past (suc at) x)) y))
past-size (Loop p x y z) at =
    omega (arith, past-size x at, past-size y (suc (past at x)), past-size z (suc (suc (past (suc (past at x)) y))))
past-size (Turn p x y z) at = past-size z at
past-size (Enter o p x y) at = omega (arith, past-size x (suc at), past-size y (suc (past (suc at) x)))
past-size (Protect p x y z) at =
    omega (arith, past-size x (suc at), past-size y (suc (past (suc at) x)), past-size z (suc (past (suc (past (suc at) x)) y)))
past-size (Handle p x y z) at =
    omega (arith, past-size x (suc at), past-size y (suc (past (suc at) x)), past-size z (past (suc (past (suc at) x)) y))
past-size (When c g x y) at = omega (arith, past-size x at, past-size y (suc (past at x)))

-- what holds beside a form, wherever it is
beside-so : (st : Standing) (under beside : Seat → Type 0) (C : Type 0) → ((s : Seat) → beside s → C) → Stand st under beside → C
beside-so Misplaced under beside C f m = absurd m
beside-so (Stands u b) under beside C f m = f b m.1

-- well-made forms are ready
pub made-ready : (program : Program) (seat : Seat) (f : Forms) → AreMade program seat f → AreReady f
made-ready program seat NoTrees m = tt
made-ready program seat (Tree kind p u b) m =
    let under : AreMade program (seat_under (role_of kind)) u = under-made program seat (role_of kind) u (λ s. AreMade program s b) m.1 in (
      made-gives program (seat_under (role_of kind)) u under,
      made-ready program (seat_under (role_of kind)) u under,
      beside-so (standing seat (role_of kind)) (λ s. AreMade program s u) (λ s. AreMade program s b) (AreReady b) (λ s m'. made-ready program s b m') m.1,
    )

-- the extent at a node
pub first_here : (nodes : List FormNode) (extents : List Extent) (at : ℕ) (d : Extent) → extents ≡ extents_of nodes → at < length nodes
    → FirstOf (get_or extents at d) (forms_of (drop at nodes))
first_here nodes extents at d e h = first_at nodes extents at d (get_or extents at d) (known_from nodes extents at e) (omega (arith, same_length nodes extents e)) refl

pub first_lines : (e : Extent) (f : Forms) → FirstOf e f → e.lines ≡ min (size (first f)) MOST
first_lines e NoTrees h = absurd (omega (arith, h.some))
first_lines e (Tree k p u b) h = omega (arith, h.lines)

pub first_others : (nodes : List FormNode) (at : ℕ) (e : Extent) → FirstOf e (forms_of (drop at nodes))
    → forms_of (drop (at + e.nodes) nodes) ≡ others (forms_of (drop at nodes))
first_others nodes at e h = first_passed nodes at e h ∙ behind-others zero (forms_of (drop at nodes))

-- other tasks in place of a task
pub retasked : (names : List FunctionName) (nodes : List FormNode) (task : Task) (ts ts' : List Task) (at : ℕ) (lines : List Placed) → at ≤ length nodes
    → run names (length lines) ts' (forms_of (drop at nodes)) ≡ run names (length lines) (task ∷ ts) (forms_of (drop at nodes)) → weight ts' < weight (task ∷ ts)
    → Stepped names nodes task ts at lines ts' lines at
retasked names nodes task ts ts' at lines h e w =
    record { within = h; ready = λ m. m; same = ap (λ l. lines ++ l) e; less_left = omega (arith, w) }

ready-behind : (n : ℕ) (f : Forms) → AreReady f → AreReady (behind n f)
ready-behind zero f m = m
ready-behind (suc n) NoTrees m = m
ready-behind (suc n) (Tree k p u b) m = ready-behind n b m.2

ready-beside : (u b : Forms) → AreReady u → AreReady b → AreReady (beside_of u b)
ready-beside NoTrees b m n = n
ready-beside (Tree k p u more) b m n = (m.0, m.1, ready-beside more b m.2 n)

-- forms are passed over
pub passed_over : (names : List FunctionName) (nodes : List FormNode) (n : ℕ) (e : Extent) (at : ℕ) → at ≤ length nodes → e ≡ under_of 0 n (forms_of (drop at nodes))
    → (ts : List Task) (lines : List Placed) → Stepped names nodes (task.Skip n) ts at lines ts lines (at + e.nodes)
passed_over names nodes n e at h is ts lines =
    let count : e.nodes ≡ nodes_in (front n (forms_of (drop at nodes))) = rw is refl in
    let left : forms_of (drop (at + e.nodes) nodes) ≡ behind n (forms_of (drop at nodes)) =
    rw (← drop-drop e.nodes at nodes, count) (passed n (drop at nodes)) in
    record {
      within = omega (arith, count, within n (drop at nodes), length-drop at nodes);
      ready = λ m. subst AreReady (sym left) (ready-behind n (forms_of (drop at nodes)) m);
      same = rw left refl;
      less_left = omega arith;
    }

pub front-behind : (n : ℕ) (f : Forms) → beside_of (front n f) (behind n f) ≡ f
front-behind zero f = refl
front-behind (suc n) NoTrees = refl
front-behind (suc n) (Tree k p u b) = ap (λ g. Tree k p u g) (front-behind n b)

extent_is : (n : FormNode) (ns : List FormNode) (e : Extent) (es : List Extent) → e ∷ es ≡ extents_of (n ∷ ns) → e ≡ extent_of n (forms_of ns)
extent_is n ns e es h = cc

pub extent_here : (nodes : List FormNode) (extents : List Extent) (at : ℕ) (d : FormNode) (d' : Extent) (n : FormNode) (e : Extent) → extents ≡ extents_of nodes
    → at < length nodes → n ≡ get_or nodes at d → e ≡ get_or extents at d' → e ≡ extent_of n (forms_of (drop (at + 1) nodes))
extent_here nodes extents at d d' n e known h is is' =
    let there : drop at extents ≡ get_or extents at d' ∷ drop (suc at) extents = drop-cons extents at d' (omega (arith, same_length nodes extents known)) in
    let all : e ∷ drop (suc at) extents ≡ extents_of (n ∷ drop (at + 1) nodes) =
    rw is' (sym there ∙ known_from nodes extents at known ∙ ap extents_of (node_at nodes at d n h is)) in
    extent_is n (drop (at + 1) nodes) e (drop (suc at) extents) all

-- a task weighs something
heavier : (t : Task) (ts : List Task) → weight ts ≤ weight (t ∷ ts)
heavier (task.Form h) ts = omega arith
heavier (task.Clause h to pl) ts = omega arith
heavier (task.Part n pl h) ts = omega arith
heavier (task.Body n pl h) ts = omega arith
heavier (task.All n h) ts = omega arith
heavier (task.Operands n m pl h) ts = omega arith
heavier (task.Clauses n to pl h) ts = omega arith
heavier (task.Skip n) ts = omega arith
heavier (task.Write m) ts = omega arith

-- the next form, where its tasks write its lines
pub form_stepped : (names : List FunctionName) (nodes : List FormNode) (at : ℕ) (d n : FormNode) (task : Task) (ts ts' : List Task) (old lines : List Placed)
    → at < length nodes → n ≡ get_or nodes at d → AreReady (forms_of (drop at nodes))
    → lines ++ run names (length lines) ts' (beside_of (front n.parts (forms_of (drop (at + 1) nodes))) (behind n.parts (forms_of (drop (at + 1) nodes))))
    ≡ old ++ run names (length old) (task ∷ ts) (Tree n.kind n.place (front n.parts (forms_of (drop (at + 1) nodes))) (behind n.parts (forms_of (drop (at + 1) nodes))))
    → weight ts' ≤ weight ts + 2 ^ 79 → Stepped names nodes task ts at old ts' lines (at + 1)
form_stepped names nodes at d n task ts ts' old lines h is m e light =
    let f : Forms = forms_of (drop (at + 1) nodes) in
    let u : Forms = front n.parts f in
    let b : Forms = behind n.parts f in
    let whole : beside_of u b ≡ f = front-behind n.parts f in
    let here : forms_of (drop at nodes) ≡ Tree n.kind n.place u b = ap forms_of (node_at nodes at d n h is) in
    let ready : AreReady (Tree n.kind n.place u b) = subst AreReady here m in
    record {
      within = omega arith;
      ready = λ m'. subst AreReady whole (ready-beside u b ready.1 ready.2);
      same = ap (λ g. lines ++ run names (length lines) ts' g) (sym whole) ∙ e ∙ ap (λ g. old ++ run names (length old) (task ∷ ts) g) (sym here);
      less_left = omega (arith, light, heavier task ts);
    }

-- a form of a kind that has no line with clauses before its tasks
pub light_taken : (names : List FunctionName) (nodes : List FormNode) (at : ℕ) (d n : FormNode) (e : Extent) (t : Task) (way : Way) (s : Site) (ts ts' : List Task) (lines : List Placed)
    → at < length nodes → n ≡ get_or nodes at d → e ≡ extent_of n (forms_of (drop (at + 1) nodes)) → AreReady (forms_of (drop at nodes))
    → IsLight n.kind → s.way ≡ way_for n.kind way → s.at ≡ length lines → s.place ≡ n.place → s.forms ≡ e.forms → s.end ≡ length lines + e.lines
    → IsSecond n.kind s (forms_of (drop (at + 1) nodes)) → length lines + size (first (forms_of (drop at nodes))) ≤ most_lines
    → ((f : Forms) → run names (length lines) (t ∷ ts) (Tree n.kind n.place (front n.parts (forms_of (drop (at + 1) nodes))) f)
    ≡ laid names s.way s.holding (length lines) (table n.kind n.place (points_of (front n.parts (forms_of (drop (at + 1) nodes))))) (run names (past (length lines) (table n.kind n.place (points_of (front n.parts (forms_of (drop (at + 1) nodes)))))) ts f))
    → ts' ≡ schedule names n.kind s ts → weight ts' ≤ weight ts + 2 ^ 79 → Stepped names nodes t ts at lines ts' lines (at + 1)
light_taken names nodes at d n e t way s ts ts' lines h is is' m l w at' pl forms end q room same tasks light =
    let f : Forms = forms_of (drop (at + 1) nodes) in
    let u : Forms = front n.parts f in
    let b : Forms = behind n.parts f in
    let c : Points = table n.kind n.place (points_of u) in
    let whole : beside_of u b ≡ f = front-behind n.parts f in
    let here : forms_of (drop at nodes) ≡ Tree n.kind n.place u b = ap forms_of (node_at nodes at d n h is) in
    let ready : AreReady (Tree n.kind n.place u b) = subst AreReady here m in
    let counted : e.lines ≡ min (size c) MOST = rw is' refl in
    let small : length lines + size c ≤ most_lines = rw here at room in
    let lines' : e.lines ≡ size c = omega (arith, counted, small) in
    let end' : s.end ≡ past s.at c = omega (arith, end, at', lines', past-size c s.at) in
    let forms' : s.forms ≡ count_of u = forms ∙ ap (λ (x : Extent). x.forms) is' in
    let q' : IsSecond n.kind s (beside_of u b) = rw whole q in
    let written : run names s.at (schedule names n.kind s ts) (beside_of u b) ≡ laid names s.way s.holding s.at (table n.kind s.place (points_of u)) (run names (past s.at (table n.kind s.place (points_of u))) ts b) =
    scheduled names n.kind way s u b ts l ready.0 w forms' (rw pl end') q' in
    let us : List Points = points_of u in
    let begun : run names (length lines) ts' (beside_of u b) ≡ laid names s.way s.holding s.at (table n.kind s.place us) (run names (past s.at (table n.kind s.place us)) ts b) =
    ap (λ a. run names a ts' (beside_of u b)) (sym at') ∙ ap (λ x. run names s.at x (beside_of u b)) tasks ∙ written in
    let moved : laid names s.way s.holding s.at (table n.kind s.place us) (run names (past s.at (table n.kind s.place us)) ts b)
    ≡ laid names s.way s.holding (length lines) (table n.kind n.place us) (run names (past (length lines) (table n.kind n.place us)) ts b) =
    ap (λ a. laid names s.way s.holding a (table n.kind s.place us) (run names (past a (table n.kind s.place us)) ts b)) at'
    ∙ ap (λ q. laid names s.way s.holding (length lines) (table n.kind q us) (run names (past (length lines) (table n.kind q us)) ts b)) pl in
    form_stepped names nodes at d n t ts ts' lines lines h is m (ap (λ r. lines ++ r) (begun ∙ moved ∙ sym (same b))) light

-- the other tasks, each by those that come in its place
module _ (names : List FunctionName) (nodes : List FormNode) (ts ts' : List Task) (at : ℕ) (lines : List Placed) where
  pub part_taken : (there pl : ℕ) (h : Holding) → ts' ≡ part_tasks names there pl h ts → at ≤ length nodes → Stepped names nodes (task.Part there pl h) ts at lines ts' lines at
  part_taken there pl h e inside =
      retasked names nodes (task.Part there pl h) ts ts' at lines inside
      (rw e (part_unfolded names (length lines) there pl h ts (forms_of (drop at nodes)))) (rw e (part_lighter names there pl h ts))

  pub body_taken : (n pl : ℕ) (h : Holding) → ts' ≡ body_tasks names n pl h ts → at ≤ length nodes → Stepped names nodes (task.Body n pl h) ts at lines ts' lines at
  body_taken n pl h e inside =
      retasked names nodes (task.Body n pl h) ts ts' at lines inside
      (rw e (body_unfolded names (length lines) n pl h ts (forms_of (drop at nodes)))) (rw e (body_lighter names n pl h ts))

  pub all_taken : (n : ℕ) (h : Holding) → ts' ≡ all_tasks n h ts → at ≤ length nodes → Stepped names nodes (task.All n h) ts at lines ts' lines at
  all_taken n h e inside =
      retasked names nodes (task.All n h) ts ts' at lines inside
      (rw e (all_unfolded names (length lines) n h ts (forms_of (drop at nodes)))) (rw e (all_lighter n h ts))

  pub operands_taken : (n there pl : ℕ) (h : Holding) → ts' ≡ operand_tasks n there pl h ts → at ≤ length nodes
      → Stepped names nodes (task.Operands n there pl h) ts at lines ts' lines at
  operands_taken n there pl h e inside =
      retasked names nodes (task.Operands n there pl h) ts ts' at lines inside
      (rw e (operands_unfolded names (length lines) n there pl h ts (forms_of (drop at nodes)))) (rw e (operands_lighter n there pl h ts))

  pub clauses_taken : (n to pl : ℕ) (h : Holding) → ts' ≡ clause_tasks n to pl h ts → at ≤ length nodes
      → Stepped names nodes (task.Clauses n to pl h) ts at lines ts' lines at
  clauses_taken n to pl h e inside =
      retasked names nodes (task.Clauses n to pl h) ts ts' at lines inside
      (rw e (clauses_unfolded names (length lines) n to pl h ts (forms_of (drop at nodes)))) (rw e (clauses_lighter n to pl h ts))

-- a line is written
pub line_taken : (names : List FunctionName) (nodes : List FormNode) (ts : List Task) (at : ℕ) (m : Mark) (lines lines' : List Placed) → at ≤ length nodes
    → lines' ≡ lines ++ (placed_of [] m ∷ []) → Stepped names nodes (task.Write m) ts at lines ts lines' at
line_taken names nodes ts at m lines lines' inside new =
    let longer : length lines' ≡ suc (length lines) = ap length new ∙ omega (arith, length-append lines (placed_of [] m ∷ [])) in
    record {
      within = inside;
      ready = λ r. r;
      same = ap (λ a. lines' ++ run names a ts (forms_of (drop at nodes))) longer
          ∙ ap (λ l. l ++ run names (suc (length lines)) ts (forms_of (drop at nodes))) new
          ∙ append_assoc lines (placed_of [] m ∷ []) (run names (suc (length lines)) ts (forms_of (drop at nodes)));
      less_left = omega arith;
    }

-- where no form is left, none is taken
pub none_taken : (names : List FunctionName) (nodes : List FormNode) (ts : List Task) (at : ℕ) (h : Holding) (lines : List Placed) → at ≤ length nodes
    → forms_of (drop at nodes) ≡ NoTrees → Stepped names nodes (task.Form h) ts at lines ts lines at
none_taken names nodes ts at h lines inside none =
    record { within = inside; ready = λ r. r; same = rw none refl; less_left = omega arith }

pub no_clause_taken : (names : List FunctionName) (nodes : List FormNode) (ts : List Task) (at to pl : ℕ) (h : Holding) (lines : List Placed) → at ≤ length nodes
    → forms_of (drop at nodes) ≡ NoTrees → Stepped names nodes (task.Clause h to pl) ts at lines ts lines at
no_clause_taken names nodes ts at to pl h lines inside none =
    record { within = inside; ready = λ r. r; same = rw none refl; less_left = omega arith }

-- what is going on goes on
pub going_on : (names : List FunctionName) (nodes : List FormNode) (at at' : ℕ) (ts later ts' : List Task) (t : Task) (lines lines' every : List Placed)
    → Going names nodes at ts lines every → ts ≡ t ∷ later → Stepped names nodes t later at lines ts' lines' at' → Going names nodes at' ts' lines' every
going_on names nodes at at' ts later ts' t lines lines' every g e s =
    let all : to_come names nodes at (t ∷ later) lines ≡ every = rw e at g.all in
    record { inside = s.within; all = s.same ∙ all; few = g.few; ready = s.ready g.ready }

-- what is written when nothing is left to do is all
pub gone : (names : List FunctionName) (nodes : List FormNode) (at : ℕ) (ts : List Task) (lines every : List Placed)
    → Going names nodes at ts lines every → ts ≡ [] → lines ≡ every
gone names nodes at ts lines every g e =
    let all : lines ++ [] ≡ every = rw e at g.all in
    sym (append-nil lines) ∙ all

-- the next form has room
pub form_room : (names : List FunctionName) (nodes : List FormNode) (at : ℕ) (later : List Task) (h : Holding) (lines every : List Placed)
    → Going names nodes at (task.Form h ∷ later) lines every → length lines + size (first (forms_of (drop at nodes))) ≤ most_lines
form_room names nodes at later h lines every g =
    let f : Forms = forms_of (drop at nodes) in
    omega (
      arith,
      g.few,
      ap length g.all,
      length-append lines (run names (length lines) (task.Form h ∷ later) f),
      laid_long (first f) names (first_way f no_way) h (length lines) (run names (past (length lines) (first f)) later (others f)),
    )
