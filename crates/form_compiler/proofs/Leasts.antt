-- The least place of a form that is not run, of forms written flat.
use Rattle.std.proofs.Common.{arith, ◌≡◌, ℕ, zero, suc, List, [], ◌∷◌, Option, Some, None, map, min, length, drop, ◌≤◌, refl, ap, sym, ◌∙◌}
use Rattle.std.proofs.Math.ListN.{drop_of_length-le}
use Rattle.lisp_base.specs.Forest.{NoTrees, Tree, behind, front}
use Rattle.lisp_program.specs.Forms.{Forms, forms_of}
use Rattle.lisp_program.specs.Program.{FlatFunction, function_of}
use Rattle.lisp_program.specs.declared.form.FormNode.{FormNode}
use Rattle.form_compiler.specs.Refusals.{least, unbuilt_at, unbuilt_in, unbuilt_in_bodies}
use Rattle.form_compiler.specs.inside.Unbuilt.{bodies_from, unbuilt_from}

-- the least of three numbers
min-assoc : (a b c : ℕ) → min (min a b) c ≡ min a (min b c)
min-assoc a b c = omega arith

-- the least of three places
least-assoc : (a b c : Option ℕ) → least (least a b) c ≡ least a (least b c)
least-assoc None b c = refl
least-assoc (Some a) None c = refl
least-assoc (Some a) (Some b) None = refl
least-assoc (Some a) (Some b) (Some c) = ap Some (min-assoc a b c)

-- nothing on the right
pub least-none : (a : Option ℕ) → least a None ≡ a
least-none None = refl
least-none (Some a) = refl

-- the least of all is that of the first so many and of those after them
least-parts : (n : ℕ) (f : Forms) → least (unbuilt_in (front n f)) (unbuilt_in (behind n f)) ≡ unbuilt_in f
least-parts zero f = refl
least-parts (suc n) NoTrees = refl
least-parts (suc n) (Tree k p under beside) =
    least-assoc (unbuilt_at k p) (least (unbuilt_in under) (unbuilt_in (front n beside))) (unbuilt_in (behind n beside))
    ∙ ap (least (unbuilt_at k p))
    (least-assoc (unbuilt_in under) (unbuilt_in (front n beside)) (unbuilt_in (behind n beside))
    ∙ ap (least (unbuilt_in under)) (least-parts n beside))

-- the least of nodes, with one from before
least-from : (found : Option ℕ) (ns : List FormNode) → unbuilt_from found ns ≡ least found (unbuilt_in (forms_of ns))
least-from found [] = sym (least-none found)
least-from found (n ∷ ns) =
    least-from (least found (unbuilt_at n.kind n.place)) ns
    ∙ least-assoc found (unbuilt_at n.kind n.place) (unbuilt_in (forms_of ns))
    ∙ ap (λ rest. least found (least (unbuilt_at n.kind n.place) rest)) (sym (least-parts n.parts (forms_of ns)))

-- the least of all nodes is that of their forms
pub found_in : (found before : Option ℕ) (ns : List FormNode) (at : ℕ) → length ns ≤ at → unbuilt_from found (drop at ns) ≡ unbuilt_from before ns
    → found ≡ least before (unbuilt_in (forms_of ns))
found_in found before ns at end is = sym (ap (unbuilt_from found) (drop_of_length-le ns end)) ∙ is ∙ least-from before ns

-- the least in the bodies of functions, with one from before
bodies-from : (found : Option ℕ) (fs : List FlatFunction) → bodies_from found fs ≡ least found (unbuilt_in_bodies (map function_of fs))
bodies-from found [] = sym (least-none found)
bodies-from found (f ∷ fs) =
    bodies-from (least found (unbuilt_in (forms_of f.body))) fs
    ∙ least-assoc found (unbuilt_in (forms_of f.body)) (unbuilt_in_bodies (map function_of fs))

-- the least in all bodies
pub found_in_bodies : (found before : Option ℕ) (fs : List FlatFunction) (at : ℕ) → length fs ≤ at → bodies_from found (drop at fs) ≡ bodies_from before fs
    → found ≡ least before (unbuilt_in_bodies (map function_of fs))
found_in_bodies found before fs at end is = sym (ap (bodies_from found) (drop_of_length-le fs end)) ∙ is ∙ bodies-from before fs
