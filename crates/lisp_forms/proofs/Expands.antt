-- What data stand for, from what each function of the expander says.
use Rattle.std.proofs.Common.{◌≡◌, ℕ, suc, List, [], ◌∷◌, Option, None, length, map, refl, ap, sym, subst, ◌∙◌}
use Rattle.std.specs.List.{All}
use Rattle.std.proofs.lemmas.List.Elements.{All-cons, All-nil}
use Rattle.lisp_base.specs.Forest.{count_of}
use Rattle.lisp_base.specs.declared.refusal.Refused.{Refused}
use Rattle.lisp_program.specs.Forms.{forms_of, preorder}
use Rattle.lisp_program.specs.Program.{AreWhole, FlatFunction, FlatProgram, Function, function_of, program_of}
use Rattle.lisp_program.specs.declared.form.FormNode.{FormNode}
use Rattle.lisp_data.specs.Data.{Data}
use Rattle.form_shapes.specs.declared.expanded.ExpandedNode.{ExpandedNode}
use Rattle.form_shapes.specs.declared.levels.Numbered.{Numbered}
use Rattle.form_shapes.specs.Scopes.{Scope}
use Rattle.lisp_forms.specs.inside.Flat.{flat}
use Rattle.lisp_forms.specs.inside.Functions.{flat_function}
use Rattle.lisp_forms.specs.Program.{Expands, Known, core_forms, expansion_of, functions_from, functions_of, known_behind, nothing_known, program_refusal, top_forms, variables_from}
use Rattle.lisp_forms.specs.Blocks.{lowered}
use Rattle.lisp_forms.specs.Trees.{Expansion}
use Rattle.lisp_forms.proofs.Cores.{forms_back}
use Rattle.lisp_forms.proofs.Skipping.{count-lowered}

-- there are as many forms as data
pub count-top : (s : Scope) (known : Known) (ds : List Data) → count_of (top_forms s known ds) ≡ length ds
count-top s known [] = refl
count-top s known (d ∷ ds) = ap suc (count-top s (known_behind s.names d known) ds)

-- the scope of a program, from what the code has of it
abbrev pub scope_by : (names texts : List (List ℕ)) → (specials functions : List ℕ) → List Numbered → Scope
scope_by names texts specials functions levels =
    record { names = names; texts = texts; specials = specials; functions = functions; levels = levels; depth = 0 }

-- the nodes are those of the expansion
pub expansion-nodes : (names texts : List (List ℕ)) (ds : List Data) (specials functions : List ℕ) (levels : List Numbered) (nodes : List ExpandedNode)
    → specials ≡ variables_from names [] ds → functions ≡ functions_from names [] ds → levels ≡ []
    → nodes ≡ flat (lowered [] (top_forms (scope_by names texts specials functions levels) nothing_known ds)) → nodes ≡ flat (expansion_of names texts ds)
expansion-nodes names texts ds specials functions levels nodes v f none is =
    is ∙ ap (λ xs. flat (lowered [] (top_forms (scope_by names texts xs functions levels) nothing_known ds))) v
    ∙ ap (λ xs. flat (lowered [] (top_forms (scope_by names texts (variables_from names [] ds) xs levels) nothing_known ds))) f
    ∙ ap (λ xs. flat (lowered [] (top_forms (scope_by names texts (variables_from names [] ds) (functions_from names [] ds) xs) nothing_known ds))) none

-- the parts of a program, by its expansion
abbrev pub ArePartsOf : List ExpandedNode → ℕ → List FormNode → List FlatFunction → Type 0
ArePartsOf nodes count main functions =
    (e : Expansion) → nodes ≡ flat e → count ≡ count_of e → (main ≡ preorder (core_forms e)) × (functions ≡ map flat_function (functions_of e))

-- as many forms as the code counts
counted : (names texts : List (List ℕ)) (ds : List Data) → length ds ≡ count_of (expansion_of names texts ds)
counted names texts ds =
    let s : Scope = scope_by names texts (variables_from names [] ds) (functions_from names [] ds) [] in
    sym (count-lowered [] (top_forms s nothing_known ds) ∙ count-top s nothing_known ds)

-- functions read back from their nodes
functions_back : (fs : List Function) → map function_of (map flat_function fs) ≡ fs
functions_back [] = refl
functions_back (f ∷ fs) =
    let same : function_of (flat_function f) ≡ f =
    ap (λ b. record { name = f.name; place = f.place; params = f.params; body = b }) (forms_back f.body) in
    ap (λ g. g ∷ map function_of (map flat_function fs)) same ∙ ap (λ gs. f ∷ gs) (functions_back fs)

-- the data are a program
pub expands : (names texts : List (List ℕ)) (ds : List Data) (nodes : List ExpandedNode) (found : Option Refused) (main : List FormNode) (functions : List FlatFunction) (specials : List ℕ)
    (p : FlatProgram) → nodes ≡ flat (expansion_of names texts ds) → ((e : Expansion) → nodes ≡ flat e → found ≡ program_refusal e) → found ≡ None
    → ArePartsOf nodes (length ds) main functions → specials ≡ variables_from names [] ds
    → p ≡ (record { main = main; functions = functions; specials = specials }) → Expands names texts ds (program_of p)
expands names texts ds nodes found main functions specials p is refused none parts v of =
    let all : Expansion = expansion_of names texts ds in
    record {
      accepted = sym (refused all is) ∙ none;
      forms = ap (λ (q : FlatProgram). forms_of q.main) of ∙ ap forms_of (parts all is (counted names texts ds)).0 ∙ forms_back (core_forms all);
      functions = ap (λ (q : FlatProgram). map function_of q.functions) of ∙ ap (map function_of) (parts all is (counted names texts ds)).1 ∙ functions_back (functions_of all);
      specials = ap (λ (q : FlatProgram). q.specials) of ∙ v;
    }

-- the nodes of its main are those of whole forms
pub main_whole : (names texts : List (List ℕ)) (ds : List Data) (nodes : List ExpandedNode) (main : List FormNode) (functions : List FlatFunction) (specials : List ℕ)
    (p : FlatProgram) → nodes ≡ flat (expansion_of names texts ds) → ArePartsOf nodes (length ds) main functions
    → p ≡ (record { main = main; functions = functions; specials = specials }) → AreWhole p.main
main_whole names texts ds nodes main functions specials p is parts of =
    let all : Expansion = expansion_of names texts ds in
    let same : p.main ≡ preorder (core_forms all) = ap (λ (q : FlatProgram). q.main) of ∙ (parts all is (counted names texts ds)).0 in
    ap (λ ns. preorder (forms_of ns)) same ∙ ap preorder (forms_back (core_forms all)) ∙ sym same

-- the nodes of each function's body are those of whole forms
functions_whole : (fs : List Function) → All (λ (f : FlatFunction). AreWhole f.body) (map flat_function fs)
functions_whole [] = All-nil (λ (f : FlatFunction). AreWhole f.body)
functions_whole (f ∷ fs) =
    All-cons (λ (g : FlatFunction). AreWhole g.body) (flat_function f) (map flat_function fs) (ap preorder (forms_back f.body)) (functions_whole fs)

pub bodies_whole : (names texts : List (List ℕ)) (ds : List Data) (nodes : List ExpandedNode) (main : List FormNode) (functions : List FlatFunction) (specials : List ℕ)
    (p : FlatProgram) → nodes ≡ flat (expansion_of names texts ds) → ArePartsOf nodes (length ds) main functions
    → p ≡ (record { main = main; functions = functions; specials = specials }) → All (λ (f : FlatFunction). AreWhole f.body) p.functions
bodies_whole names texts ds nodes main functions specials p is parts of =
    let all : Expansion = expansion_of names texts ds in
    let same : p.functions ≡ map flat_function (functions_of all) = ap (λ (q : FlatProgram). q.functions) of ∙ (parts all is (counted names texts ds)).1 in
    subst (All (λ (f : FlatFunction). AreWhole f.body)) (sym same) (functions_whole (functions_of all))
