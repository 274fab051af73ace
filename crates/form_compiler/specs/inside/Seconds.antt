-- Where the second part of a form begins, by the lines before it.
use Rattle.std.specs.Prelude.{◌≡◌, ℕ, ◌+◌, min, Bool, true, false}
use Rattle.lisp_program.specs.Forms.{Forms}
use Rattle.lisp_program.specs.declared.form.CoreKind.{CoreKind}
use Rattle.lisp_program.specs.declared.form.CoreKind.TheVariants as k
use Rattle.lisp_program.specs.declared.form.FormNode.{FormNode}
use Rattle.lisp_code.specs.Held.{Holding}
use Rattle.lisp_code.specs.Lines.{Way, no_way, size}
use Rattle.form_compiler.specs.declared.extent.Extent.{Extent}
use Rattle.form_compiler.specs.inside.Extents.{MOST}
use Rattle.form_compiler.specs.inside.Tasks.{Site, less, part, part_left}

-- the lines before the second branch of an `if`, as far as they are counted: those of the test and of the first branch, and two
abbrev pub branch_lines : ℕ → Forms → ℕ
branch_lines m f = min (size (part m 0 f)) MOST + min (size (part (less m) 0 (part_left m f))) MOST + 2

-- the lines before the cleanup of an `unwind-protect`: those of the protected form, and two
abbrev pub protected_lines : ℕ → Forms → ℕ
protected_lines m f = min (size (part m 0 f)) MOST + 2

-- the second part of a form that begins at a position begins at another
abbrev pub BeginsAt : CoreKind → (start second forms : ℕ) → Forms → Type 0
BeginsAt k.If start second m f = second ≡ start + branch_lines m f
BeginsAt k.UnwindProtect start second m f = second ≡ start + protected_lines m f
BeginsAt kind start second m f = Unit {0}

-- a form of this kind is a clause
abbrev pub clause_of : CoreKind → Bool
clause_of (k.Clause class) = true
clause_of (k.ClauseWith class x) = true
clause_of kind = false

-- this way for a clause, and none for another form
abbrev pub way_by : Bool → Way → Way
way_by true way = way
way_by false way = no_way

-- a node that stands for one that is not there
abbrev pub nowhere : FormNode
nowhere = record { kind = k.Progn; place = 0; parts = 0 }

-- the site of a node with this extent
abbrev pub site : FormNode → Extent → (start second : ℕ) → Holding → Way → Site
site n e start second h way =
    record { place = n.place; holding = h; at = start; end = start + e.lines; second = second; forms = e.forms; way = way_by (clause_of n.kind) way }
