-- How many lines points and programs have.
use Rattle.std.proofs.Common.{arith, ◌≡◌, ℕ, suc, ◌+◌, List, [], ◌∷◌, ◌++◌, map, length, refl, ap, sym, ◌∙◌}
use Rattle.lisp_base.specs.declared.id.FunctionName.{FunctionName}
use Rattle.lisp_program.specs.Forms.{forms_of}
use Rattle.lisp_program.specs.Program.{FlatFunction, FlatProgram, function_of, program_of}
use Rattle.form_points.specs.Points.{Points, Done, Do, Ask, Test, Choose, Loop, Turn, Enter, Protect, Handle, When, body_of, joined}
use Rattle.form_points.specs.Table.{main_points, points_of}
use Rattle.form_points.specs.declared.act.Act.TheVariants.{Discard}
use Rattle.lisp_code.specs.CodeOf.{aborting, lines_from, names_of, program_lines, stretch_of, stretches_of}
use Rattle.lisp_code.specs.Held.{Holding}
use Rattle.lisp_code.specs.Lines.{Placed, Way, laid, size}
use Rattle.form_compiler.specs.inside.Lengths.{body_size, functions_size, program_size}

-- a line before so many
one : {a : ℕ} (m k : ℕ) → a ≡ m + k → suc a ≡ suc m + k
one m k e = omega (arith, e)

-- a line before those of a part, and then those after it
part : {a b : ℕ} (m n k : ℕ) → a ≡ m + b → b ≡ n + k → suc a ≡ suc (m + n) + k
part m n k e f = omega (arith, e, f)

-- the same with a line after the part
closed : {a b : ℕ} (m n k : ℕ) → a ≡ m + suc b → b ≡ n + k → suc a ≡ suc (suc (m + n)) + k
closed m n k e f = omega (arith, e, f)

-- a line before two parts with a line between them
between : {a b c : ℕ} (m n o k : ℕ) → a ≡ m + suc b → b ≡ n + c → c ≡ o + k → suc a ≡ suc (suc (m + n + o)) + k
between m n o k e f g = omega (arith, e, f, g)

-- and with a line after them
enclosed : {a b c : ℕ} (m n o k : ℕ) → a ≡ m + suc b → b ≡ n + suc c → c ≡ o + k → suc a ≡ suc (suc (suc (m + n + o))) + k
enclosed m n o k e f g = omega (arith, e, f, g)

-- two parts with a line after the first and two after the second
turning : {a b c : ℕ} (m n o k : ℕ) → a ≡ m + suc b → b ≡ n + suc (suc c) → c ≡ o + k → a ≡ suc (suc (suc (m + n + o))) + k
turning m n o k e f g = omega (arith, e, f, g)

-- a part, and a line before what comes after it
chosen : {a b : ℕ} (m n k : ℕ) → a ≡ m + suc b → b ≡ n + k → a ≡ suc (m + n) + k
chosen m n k e f = omega (arith, e, f)

-- points are so many lines
pub laid_long : (x : Points) (names : List FunctionName) (w : Way) (h : Holding) (at : ℕ) (next : List Placed)
    → length (laid names w h at x next) ≡ size x + length next
laid_long Done names w h at next = omega arith
laid_long (Do a p x) names w h at next = one (size x) (length next) (laid_long x names w _ _ next)
laid_long (Ask q p x) names w h at next = one (size x) (length next) (laid_long x names w _ _ next)
laid_long (Test q p more x) names w h at next = part (size more) (size x) (length next) (laid_long more names _ h _ _) (laid_long x names w _ _ next)
laid_long (Choose p x y z) names w h at next = between (size x) (size y) (size z) (length next) (laid_long x names _ _ _ _) (laid_long y names _ _ _ _) (laid_long z names w _ _ next)
laid_long (Loop p x y z) names w h at next = turning (size x) (size y) (size z) (length next) (laid_long x names _ _ _ _) (laid_long y names _ _ _ _) (laid_long z names w _ _ next)
laid_long (Turn p x y z) names w h at next = laid_long z names w _ _ next
laid_long (Enter o p x y) names w h at next = closed (size x) (size y) (length next) (laid_long x names _ _ _ _) (laid_long y names w _ _ next)
laid_long (Protect p x y z) names w h at next = enclosed (size x) (size y) (size z) (length next) (laid_long x names _ _ _ _) (laid_long y names _ _ _ _) (laid_long z names w _ _ next)
laid_long (Handle p x y z) names w h at next = between (size x) (size y) (size z) (length next) (laid_long x names _ _ _ _) (laid_long y names _ _ _ _) (laid_long z names w _ _ next)
laid_long (When c g x y) names w h at next = chosen (size x) (size y) (length next) (laid_long x names _ _ _ _) (laid_long y names w _ _ next)

-- points after points
pub size_joined : (x y : Points) → size (joined x y) ≡ size x + size y
size_joined Done y = omega arith
size_joined (Do a p x) y = omega (arith, size_joined x y)
size_joined (Ask q p x) y = omega (arith, size_joined x y)
size_joined (Test q p more x) y = omega (arith, size_joined x y)
size_joined (Choose p a b x) y = omega (arith, size_joined x y)
size_joined (Loop p a b x) y = omega (arith, size_joined x y)
size_joined (Turn p a b x) y = size_joined x y
size_joined (Enter o p a x) y = omega (arith, size_joined x y)
size_joined (Protect p a b x) y = omega (arith, size_joined x y)
size_joined (Handle p a b x) y = omega (arith, size_joined x y)
size_joined (When c g a x) y = omega (arith, size_joined x y)

-- a body is as long at each place
body_at : (p q : ℕ) (fs : List Points) → size (body_of p fs) ≡ size (body_of q fs)
body_at p q [] = refl
body_at p q (f ∷ []) = refl
body_at p q (f ∷ (g ∷ fs)) =
    size_joined f (Do Discard p (body_of p (g ∷ fs)))
    ∙ ap (λ n. size f + suc n) (body_at p q (g ∷ fs))
    ∙ sym (size_joined f (Do Discard q (body_of q (g ∷ fs))))

-- the line after a body, and the lines after it
stretched : {a b m : ℕ} (n k : ℕ) → a ≡ m + suc b → m ≡ n → b ≡ k → a ≡ suc (n + k)
stretched n k e f g = omega (arith, e, f, g)

-- the lines of functions
functions_long : (fs : List FlatFunction) (names : List FunctionName) (at : ℕ)
    → length (lines_from names at (map stretch_of (map function_of fs) ++ (aborting ∷ []))) ≡ functions_size fs
functions_long [] names at = refl
functions_long (f ∷ fs) names at =
    stretched (body_size f.body) (functions_size fs) (laid_long (body_of f.place (points_of (forms_of f.body))) names _ _ at _) (body_at f.place 0 (points_of (forms_of f.body))) (functions_long fs names _)

-- the line at main's end
ended : {a b m : ℕ} (n k : ℕ) → a ≡ m + b → m ≡ n + 1 → b ≡ k → a ≡ suc (n + k)
ended n k e f g = omega (arith, e, f, g)

-- the lines of a program
pub program_long : (p : FlatProgram) → length (program_lines (program_of p)) ≡ program_size p
program_long p =
    let names : List FunctionName = names_of (stretches_of (program_of p)) in
    ended (body_size p.main) (functions_size p.functions) (laid_long (main_points (forms_of p.main)) names _ _ 0 _) (size_joined (body_of 0 (points_of (forms_of p.main))) _) (functions_long p.functions names _)
