-- The code of a program is made of what is laid out.
use Rattle.std.proofs.Common.{◌≡◌, ◌≤◌, ◌<◌, ◌^◌, ℕ, ◌+◌, min, List, [], ◌∷◌, ◌++◌, if◌then◌else◌, Some, None, map, length, drop, get_or, ap, sym, subst, ◌∙◌, arith, append-nil}
use Rattle.std.proofs.lemmas.List.{drop_all}
use Rattle.lisp_base.specs.declared.id.FunctionName.{FunctionName}
use Rattle.lisp_base.specs.declared.refusal.Refusal.TheVariants.{CodeTooLong, HeightTooLarge}
use Rattle.lisp_base.specs.declared.refusal.Rejection.{Rejection}
use Rattle.lisp_program.specs.Program.{FlatFunction, FlatProgram, Program, function_of, program_of}
use Rattle.lisp_program.specs.WellMade.{IsWellMade}
use Rattle.lisp_code.specs.CodeOf.{IsCodeOf, Stretch, aborting, names_of, most_held, program_lines, stretch_of, stretches_of}
use Rattle.lisp_code.specs.Lines.{Placed}
use Rattle.lisp_code.specs.Parts.{Parts, line_of}
use Rattle.lisp_code.specs.Validity.{IsValid}
use Rattle.lisp_code.specs.declared.code.FunctionCode.{FunctionCode}
use Rattle.form_compiler.specs.Refusals.{IsRefusalOf, at, most_instructions, most_values, refused_at, size_refusal}
use Rattle.form_compiler.specs.inside.Extents.{MOST}
use Rattle.form_compiler.specs.inside.Lengths.{functions_size, program_size}
use Rattle.form_compiler.specs.inside.Programs.{Added, BodiesAreLayable, Laying, functions_refusal, height_refusal, stretches_from}
use Rattle.form_compiler.specs.inside.Sound.{RowsAreThere}
use Rattle.form_compiler.specs.inside.Steps.{most_lines}
use Rattle.form_compiler.proofs.Longs.{program_long}
use Rattle.form_compiler.proofs.Programs.{below, next-left, not-below, one-added}
use Rattle.form_compiler.proofs.Whole.{code-valid}

-- the next function is the first of those that are left
pub next_first : (p : FlatProgram) (i : ℕ) (d f : FlatFunction) (lines : List Placed) (codes : List FunctionCode)
    → Laying (program_of p) (stretches_from (drop i p.functions)) lines codes → i < length p.functions → f ≡ get_or p.functions i d
    → Laying (program_of p) (stretch_of (function_of f) ∷ stretches_from (drop (i + 1) p.functions)) lines codes
next_first p i d f lines codes l h is =
    subst (λ fs. Laying (program_of p) (stretches_from fs) lines codes) (next-left p.functions i d f h is) l

-- the bodies after it can be laid out too
pub others_layable : (fs : List FlatFunction) (i : ℕ) (d f : FlatFunction) → BodiesAreLayable (drop i fs) → i < length fs → f ≡ get_or fs i d
    → BodiesAreLayable (drop (i + 1) fs)
others_layable fs i d f m h is =
    let all : BodiesAreLayable (f ∷ drop (i + 1) fs) = subst BodiesAreLayable (next-left fs i d f h is) m in
    all.1

-- what is refused of what is left is refused of all
pub left_refused : (p : Program) (names : List FunctionName) (left : List Stretch) (lines : List Placed) (codes : List FunctionCode) (e : Rejection)
    → names ≡ names_of (stretches_of p) → Laying p left lines codes → IsRefusalOf (functions_refusal names left) e
    → IsRefusalOf (functions_refusal names (stretches_of p)) e
left_refused p names left lines codes e n l r =
    let here : IsRefusalOf (functions_refusal (names_of (stretches_of p)) left) e = subst (λ x. IsRefusalOf (functions_refusal x left) e) n r in
    let all : IsRefusalOf (functions_refusal (names_of (stretches_of p)) (stretches_of p)) e =
    subst (λ x. IsRefusalOf (refused_at HeightTooLarge x None) e) l.refused here in
    subst (λ x. IsRefusalOf (functions_refusal x (stretches_of p)) e) (sym n) all

-- a function is added, and those after it are left
pub added_next : (p : Program) (names : List FunctionName) (s : Stretch) (left : List Stretch) (lines lines' : List Placed) (codes codes' : List FunctionCode) (is : FunctionCode)
    → names ≡ names_of (stretches_of p) → Laying p (s ∷ left) lines codes → Added names s lines lines' is → codes' ≡ codes ++ is ∷ []
    → Laying p left lines' codes'
added_next p names s left lines lines' codes codes' is n l a e =
    subst (Laying p left lines') (sym e) (one-added p s left lines lines' codes is l (subst (λ x. Added x s lines lines' is) n a))

-- where no function is left, that of `terminate-thread` is
pub last_left : (p : FlatProgram) (i : ℕ) (lines : List Placed) (codes : List FunctionCode)
    → Laying (program_of p) (stretches_from (drop i p.functions)) lines codes → length p.functions ≤ i → Laying (program_of p) (aborting ∷ []) lines codes
last_left p i lines codes l h = subst (λ fs. Laying (program_of p) (stretches_from fs) lines codes) (drop_all i p.functions h) l

-- there are no more functions than lines
functions-few : (fs : List FlatFunction) → length fs ≤ functions_size fs
functions-few [] = omega arith
functions-few (f ∷ fs) = omega (arith, functions-few fs)

pub program_small : (p : FlatProgram) → length (program_lines (program_of p)) ≤ most_lines → length p.functions < 2 ^ 31
program_small p few = omega (arith, few, program_long p, functions-few p.functions)

-- all is laid out
pub all_laid : (p : Program) (lines : List Placed) (codes : List FunctionCode) → Laying p [] lines codes → lines ≡ program_lines p
all_laid p lines codes l = sym (append-nil lines) ∙ l.lines

pub is_code : (p : Program) (lines : List Placed) (codes : List FunctionCode) (parts : Parts) → Laying p [] lines codes
    → map (line_of parts.handlers) parts.instrs ≡ map (λ (l : Placed). l.line) lines → parts.places ≡ map (λ (l : Placed). l.place) lines
    → parts.heights ≡ map (λ (l : Placed). l.height) lines → parts.functions ≡ codes → parts.specials ≡ p.specials → IsCodeOf p parts
is_code p lines codes parts l ls ps hs fs ss =
    let all : lines ≡ program_lines p = all_laid p lines codes l in
    record {
      lines = ls ∙ ap (λ x. map (λ (l : Placed). l.line) x) all;
      places = ps ∙ ap (λ x. map (λ (l : Placed). l.place) x) all;
      heights = hs ∙ ap (λ x. map (λ (l : Placed). l.height) x) all;
      functions = fs ∙ sym (append-nil codes) ∙ l.codes;
      specials = ss;
    }

-- such code is valid
pub laid_valid : (p : Program) (lines : List Placed) (codes : List FunctionCode) (parts : Parts) → Laying p [] lines codes → IsCodeOf p parts → IsWellMade p
    → RowsAreThere parts → IsValid parts
laid_valid p lines codes parts l code made rows =
    code-valid p parts code made rows (subst (λ ls. most_held ls ≤ most_values) (all_laid p lines codes l) l.few)

-- a program that is too long, and one that is not
counted-long : (n m size : ℕ) → n ≡ min size MOST → m ≡ size → most_instructions < n → most_instructions < m
counted-long n m size c e l = omega (arith, c, e, l)

counted-short : (n m size : ℕ) → n ≡ min size MOST → m ≡ size → n ≤ most_instructions → m ≤ most_instructions
counted-short n m size c e l = omega (arith, c, e, l)

pub too_long : (p : FlatProgram) (n : ℕ) → n ≡ min (program_size p) MOST → most_instructions < n → size_refusal (program_of p) ≡ Some (at CodeTooLong 0)
too_long p n c l =
    let long : most_instructions < length (program_lines (program_of p)) = counted-long n (length (program_lines (program_of p))) (program_size p) c (program_long p) l in
    ap (λ t. if t then Some (at CodeTooLong 0) else height_refusal (program_of p)) (below most_instructions (length (program_lines (program_of p))) long)

pub short_enough : (p : FlatProgram) (n : ℕ) → n ≡ min (program_size p) MOST → n ≤ most_instructions → length (program_lines (program_of p)) ≤ most_lines
short_enough p n c l = counted-short n (length (program_lines (program_of p))) (program_size p) c (program_long p) l

pub by_height : (p : FlatProgram) → length (program_lines (program_of p)) ≤ most_lines → size_refusal (program_of p) ≡ height_refusal (program_of p)
by_height p few =
    ap (λ t. if t then Some (at CodeTooLong 0) else height_refusal (program_of p)) (not-below most_instructions (length (program_lines (program_of p))) few)
