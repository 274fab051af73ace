-- The names of functions in order.
use Rattle.std.proofs.Common.{◌≡◌, ℕ, List, [], ◌∷◌, ◌++◌, ◌≤◌, length, map, take, refl, ap, ◌∙◌}
use Rattle.std.proofs.lemmas.List.{take_all}
use Rattle.lisp_base.specs.declared.id.FunctionName.{FunctionName}
use Rattle.lisp_base.specs.declared.id.FunctionName.TheVariants.{AbortThread}
use Rattle.lisp_program.specs.Program.{FlatFunction, FlatProgram, function_of, program_of}
use Rattle.lisp_code.specs.CodeOf.{aborting, names_of, stretch_of, stretches_of}

-- the names of flat functions
names_from : (fs : List FlatFunction) → map (λ (f : FlatFunction). f.name) fs ++ (AbortThread ∷ []) ≡ names_of (map stretch_of (map function_of fs) ++ (aborting ∷ []))
names_from [] = refl
names_from (f ∷ fs) = ap (λ ns. f.name ∷ ns) (names_from fs)

-- with that of `terminate-thread` after all of them they are those of the program
pub names_written : (p : FlatProgram) (names : List FunctionName) (at : ℕ) → length p.functions ≤ at → names ≡ map (λ (f : FlatFunction). f.name) (take at p.functions)
    → names ++ (AbortThread ∷ []) ≡ names_of (stretches_of (program_of p))
names_written p names at end is =
    ap (λ ns. ns ++ (AbortThread ∷ [])) (is ∙ ap (map (λ (f : FlatFunction). f.name)) (take_all at p.functions end)) ∙ names_from p.functions
