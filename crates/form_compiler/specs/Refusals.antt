-- When a program is not compiled, and why.
use Rattle.std.specs.Prelude.{◌≡◌, ℕ, List, [], ◌∷◌, Bool, true, false, Option, Some, None, if◌then◌else◌, nat_lt, length, min}
use Rattle.lisp_base.specs.Forest.{NoTrees, Tree}
use Rattle.lisp_base.specs.declared.refusal.Refusal.{Refusal}
use Rattle.lisp_base.specs.declared.refusal.Refusal.TheVariants.{NotBuilt, CodeTooLong, HeightTooLarge}
use Rattle.lisp_base.specs.declared.refusal.Rejection.{Rejection}
use Rattle.lisp_base.specs.declared.refusal.Rejection.TheVariants.{Refused, Memory}
use Rattle.lisp_program.specs.Forms.{Forms}
use Rattle.lisp_program.specs.Program.{Function, Program}
use Rattle.lisp_program.specs.declared.form.CoreKind.{CoreKind}
use Rattle.lisp_program.specs.declared.form.CoreKind.TheVariants as k
use Rattle.lisp_program.specs.declared.function.Primitive.{Primitive}
use Rattle.lisp_program.specs.declared.function.Primitive.TheVariants as f
use Rattle.lisp_base.specs.declared.id.FunctionName.{FunctionName}
use Rattle.lisp_code.specs.CodeOf.{Stretch, height_of, main_lines, most_held, names_of, program_lines, stretches_of}

-- Which functions with local points are run. What other threads are comes later.
abbrev pub is_run : Primitive → Bool
is_run f.MainThread = false
is_run f.ThreadYield = false
is_run _ = true

-- which kinds of forms are run
abbrev pub is_built : CoreKind → Bool
is_built (k.Apply f) = is_run f
is_built (k.Function name) = false
is_built (k.CompareAndSwap s) = false
is_built (k.Serve service) = false
is_built (k.Block b) = false
is_built (k.ReturnFrom b) = false
is_built k.Catch = false
is_built k.Throw = false
is_built k.UnwindProtect = false
is_built (k.WithoutInterrupts r) = false
is_built (k.AllowWithInterrupts r) = false
is_built k.WithInterrupts = false
is_built k.HandlerCase = false
is_built (k.Clause class) = false
is_built (k.ClauseWith class x) = false
is_built (k.Signal condition) = false
is_built (k.WithDeadline seconds replaces) = false
is_built _ = true

-- the least of two places, of those that there are
abbrev pub least : Option ℕ → Option ℕ → Option ℕ
least None b = b
least (Some a) None = Some a
least (Some a) (Some b) = Some (min a b)

-- the place of a form, where its kind is not run
abbrev pub unbuilt_at : CoreKind → ℕ → Option ℕ
unbuilt_at kind p = if is_built kind then None else Some p

-- the least place of a form that is not run, among these and those under them
abbrev pub unbuilt_in : Forms → Option ℕ
unbuilt_in NoTrees = None
unbuilt_in (Tree kind p under beside) = least (unbuilt_at kind p) (least (unbuilt_in under) (unbuilt_in beside))

-- the least place of a form that is not run in the bodies of functions
abbrev pub unbuilt_in_bodies : List Function → Option ℕ
unbuilt_in_bodies [] = None
unbuilt_in_bodies (f ∷ fs) = least (unbuilt_in f.body) (unbuilt_in_bodies fs)

-- the least place of a form of a program that is not run
abbrev pub unbuilt_of : Program → Option ℕ
unbuilt_of p = least (unbuilt_in p.forms) (unbuilt_in_bodies p.functions)

-- no code has more instructions
abbrev pub most_instructions : ℕ
most_instructions = 65536

-- no call holds more values at once
abbrev pub most_values : ℕ
most_values = 128

-- the place of the first of these functions of which a call holds too many values at once
abbrev pub too_high : List FunctionName → List Stretch → Option ℕ
too_high names [] = None
too_high names (s ∷ ss) = if nat_lt most_values (height_of names s) then Some s.place else too_high names ss

-- the place of what holds too many values at once: 0 for main, else that of the first such function
abbrev pub height_refused : Program → Option ℕ
height_refused p =
    let names : List FunctionName = names_of (stretches_of p) in
    if nat_lt most_values (most_held (main_lines names p [])) then Some 0 else too_high names (stretches_of p)

-- this refusal at this place
abbrev pub at : Refusal → ℕ → Rejection
at refusal p = Refused refusal p

-- the refusal at a place, where there is one, and else another
abbrev pub refused_at : Refusal → Option ℕ → Option Rejection → Option Rejection
refused_at refusal (Some p) other = Some (at refusal p)
refused_at refusal None other = other

-- The refusal of a program for its size, where there is one: its code is too long, or else a call would hold too many values at once.
abbrev pub size_refusal : Program → Option Rejection
size_refusal p =
    if nat_lt most_instructions (length (program_lines p)) then Some (at CodeTooLong 0) else refused_at HeightTooLarge (height_refused p) None

-- The refusal of a program, where there is one: a form of it is not run, or else it is refused for its size.
abbrev pub compile_refusal : Program → Option Rejection
compile_refusal p = refused_at NotBuilt (unbuilt_of p) (size_refusal p)

-- what is said of a program that is not compiled is that refusal; nothing is said where memory runs out
abbrev pub IsRefusalOf : Option Rejection → Rejection → Type 0
IsRefusalOf refusal Memory = Unit {0}
IsRefusalOf refusal r = refusal ≡ Some r
