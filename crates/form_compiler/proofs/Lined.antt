-- Lines that are written, and the rows of clauses that they name.
use Rattle.std.proofs.Common.{◌≡◌, ◌<◌, ℕ, zero, suc, ◌+◌, List, [], ◌∷◌, ◌++◌, length, map, drop, max, refl, ap, sym, subst, append-nil, ◌≤◌, ◌∙◌, arith}
use Rattle.std.proofs.lemmas.List.{drop_all, get_or_append_left, get_or_at, length-map, map-append}
use Rattle.std.specs.Global.{Vec}
use Rattle.lisp_code.specs.CodeOf.{most_held}
use Rattle.lisp_code.specs.Lines.{EntersHandler, Line, Placed}
use Rattle.lisp_code.specs.Parts.{line_of, row_of, rows_of}
use Rattle.lisp_code.specs.declared.instr.Clause.{Clause}
use Rattle.lisp_code.specs.declared.instr.Instr.{Instr}
use Rattle.lisp_code.specs.declared.instr.Instr.TheVariants as i
use Rattle.form_compiler.specs.declared.mark.Mark.{Mark}
use Rattle.form_compiler.specs.inside.Marks.{HasNoClauses, HasRow, placed_of}
use Rattle.form_compiler.specs.inside.Sheets.{HaveRows, most_marked}
use Rattle.form_compiler.specs.inside.Sound.{AreRowsThere}

-- a line without clauses is the same with any rows
light_line : (rows : List (List Clause)) (instr : Instr) → HasNoClauses instr → line_of rows instr ≡ line_of [] instr
light_line rows (i.Do a) h = refl
light_line rows (i.Call function count) h = refl
light_line rows (i.Ask q) h = refl
light_line rows (i.Test q to) h = refl
light_line rows (i.Branch to) h = refl
light_line rows (i.LoopTest to) h = refl
light_line rows (i.Jump to) h = refl
light_line rows (i.Enter o back) h = refl
light_line rows (i.EnterProtect cleanup) h = refl
light_line rows (i.EnterHandler row) h = elim h [ ]
light_line rows i.Leave h = refl
light_line rows i.LeaveProtect h = refl
light_line rows i.LeaveCleanup h = refl
light_line rows (i.LeaveHandler to) h = refl

-- and has a row among any number of them, as it has none
light_row : (rows : ℕ) (instr : Instr) → HasNoClauses instr → HasRow rows instr
light_row rows (i.Do a) h = tt
light_row rows (i.Call function count) h = tt
light_row rows (i.Ask q) h = tt
light_row rows (i.Test q to) h = tt
light_row rows (i.Branch to) h = tt
light_row rows (i.LoopTest to) h = tt
light_row rows (i.Jump to) h = tt
light_row rows (i.Enter o back) h = tt
light_row rows (i.EnterProtect cleanup) h = tt
light_row rows (i.EnterHandler row) h = elim h [ ]
light_row rows i.Leave h = tt
light_row rows i.LeaveProtect h = tt
light_row rows i.LeaveCleanup h = tt
light_row rows (i.LeaveHandler to) h = tt

-- a line is the same with more rows after those that it needs
kept_line : (rows more : List (List Clause)) (instr : Instr) → HasRow (length rows) instr → line_of (rows ++ more) instr ≡ line_of rows instr
kept_line rows more (i.Do a) h = refl
kept_line rows more (i.Call function count) h = refl
kept_line rows more (i.Ask q) h = refl
kept_line rows more (i.Test q to) h = refl
kept_line rows more (i.Branch to) h = refl
kept_line rows more (i.LoopTest to) h = refl
kept_line rows more (i.Jump to) h = refl
kept_line rows more (i.Enter o back) h = refl
kept_line rows more (i.EnterProtect cleanup) h = refl
kept_line rows more (i.EnterHandler row) h = ap EntersHandler (get_or_append_left rows more [] row h)
kept_line rows more i.Leave h = refl
kept_line rows more i.LeaveProtect h = refl
kept_line rows more i.LeaveCleanup h = refl
kept_line rows more (i.LeaveHandler to) h = refl

-- a line in place of that of a mark
abbrev placed_as : Mark → Line → Placed
placed_as m line = record { line = line; place = m.place; height = m.height; held = m.held }

kept : (rows more : List (List Clause)) (ms : List Mark) → HaveRows (length rows) ms → map (placed_of (rows ++ more)) ms ≡ map (placed_of rows) ms
kept rows more [] h = refl
kept rows more (m ∷ ms) h =
    ap (λ line. placed_as m line ∷ map (placed_of (rows ++ more)) ms) (kept_line rows more m.instr h.0) ∙ ap (λ ls. placed_of rows m ∷ ls) (kept rows more ms h.1)

below : (rows row : ℕ) → row < rows → row < rows + 1
below rows row h = omega (arith, h)

-- the row of a line is one of more
more_row : (rows : ℕ) (instr : Instr) → HasRow rows instr → HasRow (rows + 1) instr
more_row rows (i.Do a) h = tt
more_row rows (i.Call function count) h = tt
more_row rows (i.Ask q) h = tt
more_row rows (i.Test q to) h = tt
more_row rows (i.Branch to) h = tt
more_row rows (i.LoopTest to) h = tt
more_row rows (i.Jump to) h = tt
more_row rows (i.Enter o back) h = tt
more_row rows (i.EnterProtect cleanup) h = tt
more_row rows (i.EnterHandler row) h = below rows row h
more_row rows i.Leave h = tt
more_row rows i.LeaveProtect h = tt
more_row rows i.LeaveCleanup h = tt
more_row rows (i.LeaveHandler to) h = tt

pub more_rows : (rows : ℕ) (ms : List Mark) → HaveRows rows ms → HaveRows (rows + 1) ms
more_rows rows [] h = tt
more_rows rows (m ∷ ms) h = (more_row rows m.instr h.0, more_rows rows ms h.1)

-- a line after these whose row is there
one_more : (rows : ℕ) (ms : List Mark) (m : Mark) → HaveRows rows ms → HasRow rows m.instr → HaveRows rows (ms ++ m ∷ [])
one_more rows [] m h r = (r, tt)
one_more rows (n ∷ ms) m h r = (h.0, one_more rows ms m h.1 r)

-- a line without clauses is written
pub light_written : (rows : List (Vec Clause)) (ms : List Mark) (m : Mark) → HasNoClauses m.instr
    → map (placed_of (rows_of rows)) (ms ++ m ∷ []) ≡ map (placed_of (rows_of rows)) ms ++ placed_of [] m ∷ []
light_written rows ms m h =
    map-append (placed_of (rows_of rows)) ms (m ∷ [])
    ∙ ap (λ line. map (placed_of (rows_of rows)) ms ++ placed_as m line ∷ []) (light_line (rows_of rows) m.instr h)

pub light_rows : (rows : ℕ) (ms : List Mark) (m : Mark) → HaveRows rows ms → HasNoClauses m.instr → HaveRows rows (ms ++ m ∷ [])
light_rows rows ms m h l = one_more rows ms m h (light_row rows m.instr l)

-- a handler is opened, with its clauses as the last row
handler_written : (rows : List (Vec Clause)) (clauses : Vec Clause) (ms : List Mark) (place height held : ℕ) → HaveRows (length rows) ms
    → map (placed_of (rows_of (rows ++ clauses ∷ []))) (ms ++ record { instr = i.EnterHandler (length rows); place = place; height = height; held = held } ∷ [])
    ≡ map (placed_of (rows_of rows)) ms ++ record { line = EntersHandler clauses.items; place = place; height = height; held = held } ∷ []
handler_written rows clauses ms place height held h =
    let row : Mark = record { instr = i.EnterHandler (length rows); place = place; height = height; held = held } in
    let count : length (rows_of rows) ≡ length rows = length-map rows (λ (v : Vec Clause). v.items) in
    let all : rows_of (rows ++ clauses ∷ []) ≡ rows_of rows ++ clauses.items ∷ [] = map-append (λ (v : Vec Clause). v.items) rows (clauses ∷ []) in
    let before : map (placed_of (rows_of rows ++ clauses.items ∷ [])) ms ≡ map (placed_of (rows_of rows)) ms =
    kept (rows_of rows) (clauses.items ∷ []) ms (subst (λ n. HaveRows n ms) (sym count) h) in
    let last : row_of (rows_of rows ++ clauses.items ∷ []) (length rows) ≡ clauses.items = get_or_at (rows_of rows) clauses.items [] [] (length rows) count in
    ap (λ rs. map (placed_of rs) (ms ++ row ∷ [])) all
    ∙ map-append (placed_of (rows_of rows ++ clauses.items ∷ [])) ms (row ∷ [])
    ∙ ap (λ ls. ls ++ placed_of (rows_of rows ++ clauses.items ∷ []) row ∷ []) before
    ∙ ap (λ cs. map (placed_of (rows_of rows)) ms ++ placed_as row (EntersHandler cs) ∷ []) last

-- the same where the parts of the lines are known by equations
pub handler_opened : (rows rows' : List (Vec Clause)) (clauses : Vec Clause) (ms ns ns' : List Mark) (row place height held : ℕ) (before : List Placed) → HaveRows (length rows) ms
    → row ≡ length rows → rows' ≡ rows ++ clauses ∷ [] → ns ≡ ms → ns' ≡ ns ++ record { instr = i.EnterHandler row; place = place; height = height; held = held } ∷ []
    → map (placed_of (rows_of rows)) ms ≡ before
    → map (placed_of (rows_of rows')) ns' ≡ before ++ record { line = EntersHandler clauses.items; place = place; height = height; held = held } ∷ []
handler_opened rows rows' clauses ms ns ns' row place height held before h at all same last was =
    let marked : ℕ → Mark = λ r. record { instr = i.EnterHandler r; place = place; height = height; held = held } in
    ap (λ rs. map (placed_of (rows_of rs)) ns') all
    ∙ ap (map (placed_of (rows_of (rows ++ clauses ∷ [])))) (last ∙ ap (λ ls. ls ++ marked row ∷ []) same ∙ ap (λ r. ms ++ marked r ∷ []) at)
    ∙ handler_written rows clauses ms place height held h
    ∙ ap (λ ls. ls ++ record { line = EntersHandler clauses.items; place = place; height = height; held = held } ∷ []) was

last_below : (rows : ℕ) → rows < rows + 1
last_below rows = omega arith

pub handler_rows : (rows : ℕ) (ms : List Mark) (place height held : ℕ) → HaveRows rows ms
    → HaveRows (rows + 1) (ms ++ record { instr = i.EnterHandler rows; place = place; height = height; held = held } ∷ [])
handler_rows rows ms place height held h =
    one_more (rows + 1) ms (record { instr = i.EnterHandler rows; place = place; height = height; held = held }) (more_rows rows ms h) (last_below rows)

-- the most that one of the lines from a position on holds
most_all : (rows : List (List Clause)) (ms : List Mark) → most_held (map (placed_of rows) ms) ≡ most_marked ms
most_all rows [] = refl
most_all rows (m ∷ ms) = ap (max m.held) (most_all rows ms)

pub most_placed : (rows : List (List Clause)) (at : ℕ) (ms : List Mark) → most_marked (drop at ms) ≡ most_held (drop at (map (placed_of rows) ms))
most_placed rows zero ms = sym (most_all rows ms)
most_placed rows (suc at) [] = refl
most_placed rows (suc at) (m ∷ ms) = most_placed rows at ms

pub none_left : (rows : List (List Clause)) (at : ℕ) (ms : List Mark) → length ms ≤ at → 0 ≡ most_held (drop at (map (placed_of rows) ms))
none_left rows at ms h = sym (ap most_marked (drop_all at ms h)) ∙ most_placed rows at ms

-- a list of parts is whole where no line is left
pub whole : {A : Type 0} (f : Mark → A) (xs : List A) (ms ns : List Mark) (at : ℕ) → length ms ≤ at → xs ++ map f (drop at ms) ≡ map f ms → ms ≡ ns → xs ≡ map f ns
whole f xs ms ns at h e same =
    sym (append-nil xs) ∙ sym (ap (λ rest. xs ++ map f rest) (drop_all at ms h)) ∙ e ∙ ap (map f) same

-- the parts of these lines
pub their_lines : (rows : List (List Clause)) (ms : List Mark) → map (line_of rows) (map (λ (m : Mark). m.instr) ms) ≡ map (λ (l : Placed). l.line) (map (placed_of rows) ms)
their_lines rows [] = refl
their_lines rows (m ∷ ms) = ap (λ ls. line_of rows m.instr ∷ ls) (their_lines rows ms)

pub their_places : (rows : List (List Clause)) (ms : List Mark) → map (λ (m : Mark). m.place) ms ≡ map (λ (l : Placed). l.place) (map (placed_of rows) ms)
their_places rows [] = refl
their_places rows (m ∷ ms) = ap (λ ps. m.place ∷ ps) (their_places rows ms)

pub their_heights : (rows : List (List Clause)) (ms : List Mark) → map (λ (m : Mark). m.height) ms ≡ map (λ (l : Placed). l.height) (map (placed_of rows) ms)
their_heights rows [] = refl
their_heights rows (m ∷ ms) = ap (λ hs. m.height ∷ hs) (their_heights rows ms)

-- their rows are there
rows_there : (rows : List (List Clause)) (ms : List Mark) → HaveRows (length rows) ms → AreRowsThere rows (map (λ (m : Mark). m.instr) ms)
rows_there rows [] h = tt
rows_there rows (m ∷ ms) h = (h.0, rows_there rows ms h.1)

pub their_rows : (rows : List (Vec Clause)) (ms : List Mark) → HaveRows (length rows) ms → AreRowsThere (rows_of rows) (map (λ (m : Mark). m.instr) ms)
their_rows rows ms h = rows_there (rows_of rows) ms (subst (λ n. HaveRows n ms) (sym (length-map rows (λ (v : Vec Clause). v.items))) h)
