-- The forms and the functions of an expansion, from its nodes.
use Rattle.std.proofs.Common.{◌≡◌, ℕ, suc, ◌+◌, ◌<◌, ◌≤◌, List, [], ◌∷◌, ◌++◌, Bool, true, false, if◌then◌else◌, length, get_or, drop, map, refl, ap, sym, ◌∙◌, arith, append_assoc, append-nil, add-one, drop-cons}
use Rattle.std.proofs.Math.ListN.{drop_of_length-le}
use Rattle.std.proofs.lemmas.List.{map-append}
use Rattle.lisp_base.specs.Forest.{Forest, NoTrees, Tree, behind, count_of, front, append}
use Rattle.lisp_program.specs.Forms.{Forms, forms_of, preorder}
use Rattle.lisp_program.specs.Program.{FlatFunction, Function}
use Rattle.lisp_program.specs.declared.form.CoreKind.{CoreKind}
use Rattle.lisp_program.specs.declared.form.CoreKind.TheVariants.{Block as BlockForm}
use Rattle.lisp_program.specs.declared.form.FormNode.{FormNode}
use Rattle.form_shapes.specs.declared.expanded.Expanded.{Expanded}
use Rattle.form_shapes.specs.declared.expanded.Expanded.TheVariants.{Form, InBlock, Lambda, Defun, Refused, RefusedFunction}
use Rattle.form_shapes.specs.declared.expanded.ExpandedNode.{ExpandedNode}
use Rattle.lisp_forms.specs.inside.Flat.{flat, node}
use Rattle.lisp_forms.specs.inside.Functions.{flat_function, flat_of, function_here}
use Rattle.lisp_forms.specs.Program.{core_forms, core_kind, functions_of, with_block, with_function}
use Rattle.lisp_forms.specs.Blocks.{is_function}
use Rattle.lisp_forms.specs.Trees.{Expansion}
use Rattle.lisp_forms.specs.inside.Written.{block_node, core_here, core_node, cores_in, is_done, left_behind, skipped_behind}

-- the first so many of two forests are the first
front-append : {K : Type 0} (f g : Forest K) → front (count_of f) (append f g) ≡ f
front-append NoTrees g = refl
front-append (Tree k p under beside) g = ap (Tree k p under) (front-append beside g)

-- what is behind them is the second
behind-append : {K : Type 0} (f g : Forest K) → behind (count_of f) (append f g) ≡ g
behind-append NoTrees g = refl
behind-append (Tree k p under beside) g = behind-append beside g

-- nothing behind a forest
append_none : {K : Type 0} (f : Forest K) → append f NoTrees ≡ f
append_none NoTrees = refl
append_none (Tree k p under beside) = ap (Tree k p under) (append_none beside)

-- a forest read back from its preorder
forms_of-preorder : (f : Forms) (ns : List FormNode) → forms_of (preorder f ++ ns) ≡ append f (forms_of ns)
forms_of-preorder NoTrees ns = refl
forms_of-preorder (Tree k p under beside) ns =
    let rest : forms_of ((preorder under ++ preorder beside) ++ ns) ≡ append under (append beside (forms_of ns)) =
    rw append_assoc (forms_of-preorder under (preorder beside ++ ns) ∙ ap (append under) (forms_of-preorder beside ns)) in
    rw (rest, front-append under, behind-append under) refl

-- with nothing behind
pub forms_back : (f : Forms) → forms_of (preorder f) ≡ f
forms_back f = ap forms_of (sym (append-nil (preorder f))) ∙ forms_of-preorder f [] ∙ append_none f

-- a form in its block is one form
count-block : (kind : Expanded) (k : CoreKind) (p : ℕ) (under others : Forms) → count_of (with_block kind k p under others) ≡ suc (count_of others)
count-block (Form kind) k p under others = refl
count-block (InBlock n turning) k p under others = refl
count-block (Lambda parameters) k p under others = refl
count-block (Defun f parameters) k p under others = refl
count-block (Refused number) k p under others = refl
count-block (RefusedFunction number) k p under others = refl

-- the node of its block stands before its own
preorder-block : (kind : Expanded) (k : CoreKind) (p : ℕ) (under others : Forms)
    → preorder (with_block kind k p under others) ≡ block_node kind p ++ ((record { kind = k; place = p; parts = count_of under }) ∷ (preorder under ++ preorder others))
preorder-block (Form kind) k p under others = refl
preorder-block (InBlock n turning) k p under others =
    let own : FormNode = record { kind = k; place = p; parts = count_of under } in
    let block : FormNode = record { kind = BlockForm n; place = p; parts = 1 } in
    ap (λ ns. block ∷ (own ∷ ns) ++ preorder others) (append-nil (preorder under))
preorder-block (Lambda parameters) k p under others = refl
preorder-block (Defun f parameters) k p under others = refl
preorder-block (Refused number) k p under others = refl
preorder-block (RefusedFunction number) k p under others = refl

-- as many forms as trees
count-core : (e : Expansion) → count_of (core_forms e) ≡ count_of e
count-core NoTrees = refl
count-core (Tree kind p under beside) =
    count-block kind (core_kind kind p) p (if is_function kind then NoTrees else core_forms under) (core_forms beside) ∙ ap suc (count-core beside)

-- what belongs to a function is skipped
cores-skipped : (k left : ℕ) (e : Expansion) (rest : List ExpandedNode) → cores_in (count_of e + k) left (flat e ++ rest) ≡ cores_in k left rest
cores-skipped k left NoTrees rest = let none : 0 + k ≡ k = omega arith in ap (λ m. cores_in m left rest) none
cores-skipped k left (Tree kind p under beside) rest =
    let more : suc (count_of beside) + k ≡ suc (count_of beside + k) = omega arith in
    let turned : count_of beside + k + count_of under ≡ count_of under + (count_of beside + k) = omega arith in
    ap (λ m. cores_in m left (node kind p (count_of under) ∷ ((flat under ++ flat beside) ++ rest))) more
    ∙ ap (λ m. cores_in m left ((flat under ++ flat beside) ++ rest)) turned
    ∙ ap (cores_in (count_of under + (count_of beside + k)) left) (append_assoc (flat under) (flat beside) rest)
    ∙ cores-skipped (count_of beside + k) left under (flat beside ++ rest)
    ∙ cores-skipped k left beside rest

-- a form, what is under it, and what is behind
cores-by : (t : Bool) (k : CoreKind) (p c left : ℕ) (core : Forms) (after : List FormNode) (written : ℕ → ℕ → List FormNode) → count_of core ≡ c
    → written c left ≡ after → written 0 (left + c) ≡ preorder core ++ after
    → (record { kind = k; place = p; parts = if t then 0 else c }) ∷ written (if t then c else 0) (if t then left else left + c)
    ≡ (record { kind = k; place = p; parts = count_of (if t then NoTrees else core) }) ∷ (preorder (if t then NoTrees else core) ++ after)
cores-by true k p c left core after written many skipped here = let first : FormNode = record { kind = k; place = p; parts = 0 } in ap (λ ns. first ∷ ns) skipped
cores-by false k p c left core after written many skipped here =
    let first : ℕ → FormNode = λ (n : ℕ). record { kind = k; place = p; parts = n } in
    ap (λ ns. first c ∷ ns) here ∙ ap (λ n. first n ∷ (preorder core ++ after)) (sym many)

-- the first so many forms
cores-all : (left : ℕ) (e : Expansion) (rest : List ExpandedNode) → cores_in 0 (count_of e + left) (flat e ++ rest) ≡ preorder (core_forms e) ++ cores_in 0 left rest
cores-all left NoTrees rest = let none : 0 + left ≡ left = omega arith in ap (λ m. cores_in 0 m rest) none
cores-all left (Tree kind p under beside) rest =
    let rests : List ExpandedNode = flat beside ++ rest in
    let after : List FormNode = preorder (core_forms beside) ++ cores_in 0 left rest in
    let more : suc (count_of beside) + left ≡ suc (count_of beside + left) = omega arith in
    let none : count_of under ≡ count_of under + 0 = omega arith in
    let turned : count_of beside + left + count_of under ≡ count_of under + (count_of beside + left) = omega arith in
    let behind : cores_in 0 (count_of beside + left) rests ≡ after = cores-all left beside rest in
    let core : Forms = if is_function kind then NoTrees else core_forms under in
    let block : List FormNode = block_node kind p in
    let own : FormNode = record { kind = core_kind kind p; place = p; parts = count_of core } in
    ap (λ m. cores_in 0 m (node kind p (count_of under) ∷ ((flat under ++ flat beside) ++ rest))) more
    ∙ append_assoc block (core_node (node kind p (count_of under)) ∷ [])
    (cores_in (if is_function kind then count_of under else 0) (if is_function kind then count_of beside + left else count_of beside + left + count_of under) ((flat under ++ flat beside) ++ rest))
    ∙ ap (λ ns. block ++ ns)
    (ap (λ ns. core_node (node kind p (count_of under)) ∷ cores_in (if is_function kind then count_of under else 0) (if is_function kind then count_of beside + left else count_of beside + left + count_of under) ns)
    (append_assoc (flat under) (flat beside) rest)
    ∙ cores-by (is_function kind) (core_kind kind p) p (count_of under) (count_of beside + left) (core_forms under) after
    (λ s m. cores_in s m (flat under ++ rests)) (count-core under)
    (ap (λ s. cores_in s (count_of beside + left) (flat under ++ rests)) none ∙ cores-skipped 0 (count_of beside + left) under rests ∙ behind)
    (ap (λ m. cores_in 0 m (flat under ++ rests)) turned ∙ cores-all (count_of beside + left) under rests ∙ ap (λ ns. preorder (core_forms under) ++ ns) behind)
    ∙ ap (λ ns. own ∷ ns) (sym (append_assoc (preorder core) (preorder (core_forms beside)) (cores_in 0 left rest))))
    ∙ sym (append_assoc block (own ∷ (preorder core ++ preorder (core_forms beside))) (cores_in 0 left rest))
    ∙ ap (λ ns. ns ++ cores_in 0 left rest) (sym (preorder-block kind (core_kind kind p) p core (core_forms beside)))

-- no form of these
cores-none : (ns : List ExpandedNode) → cores_in 0 0 ns ≡ []
cores-none [] = refl
cores-none (n ∷ ns) = refl

-- so many of a slice that begins with them
pub cores-front : (n : ℕ) (e : Expansion) (ns rest : List ExpandedNode) → ns ≡ flat e ++ rest → n ≡ count_of e → cores_in 0 n ns ≡ preorder (core_forms e)
cores-front n e ns rest h many =
    let all : n ≡ count_of e + 0 = omega (arith, many) in
    ap (λ m. cores_in 0 m ns) all ∙ ap (cores_in 0 (count_of e + 0)) h ∙ cores-all 0 e rest ∙ ap (λ ms. preorder (core_forms e) ++ ms) (cores-none rest)
    ∙ append-nil (preorder (core_forms e))

-- so many of a slice that is them
pub cores-flat : (n : ℕ) (e : Expansion) (ns : List ExpandedNode) → ns ≡ flat e → n ≡ count_of e → cores_in 0 n ns ≡ preorder (core_forms e)
cores-flat n e ns h many = cores-front n e ns [] (h ∙ sym (append-nil (flat e))) many

-- a node with those behind it
from : (ns : List ExpandedNode) (i : ℕ) (n : ExpandedNode) → i < length ns → n ≡ get_or ns i n → drop i ns ≡ n ∷ drop (i + 1) ns
from ns i n h is = drop-cons ns i n h ∙ ap (λ m. m ∷ drop (suc i) ns) (sym is) ∙ ap (λ k. n ∷ drop k ns) (sym (add-one i))

-- all are written
pub cores_done : (skipped left : ℕ) (ns : List ExpandedNode) (i : ℕ) (n : ExpandedNode) (now all : List FormNode) → i < length ns → n ≡ get_or ns i n → is_done skipped left ≡ true
    → now ++ cores_in skipped left (drop i ns) ≡ all → now ≡ all
cores_done skipped left ns i n now all h is t so_far =
    sym (append-nil now)
    ∙ sym (ap (λ ms. now ++ cores_in skipped left ms) (from ns i n h is)
    ∙ ap (λ b. now ++ (if b then [] else core_here skipped n ++ cores_in (skipped_behind skipped n) (left_behind skipped left n) (drop (i + 1) ns))) t)
    ∙ so_far

-- one more is written or skipped
pub cores_next : (skipped left skipped' left' : ℕ) (ns : List ExpandedNode) (i : ℕ) (n : ExpandedNode) (now new all : List FormNode) → i < length ns → n ≡ get_or ns i n
    → is_done skipped left ≡ false → new ≡ now ++ core_here skipped n → left' ≡ left_behind skipped left n → skipped' ≡ skipped_behind skipped n
    → now ++ cores_in skipped left (drop i ns) ≡ all → new ++ cores_in skipped' left' (drop (i + 1) ns) ≡ all
cores_next skipped left skipped' left' ns i n now new all h is t pushed fewer next so_far =
    let rest : List FormNode = cores_in (skipped_behind skipped n) (left_behind skipped left n) (drop (i + 1) ns) in
    ap (λ m. new ++ cores_in skipped' m (drop (i + 1) ns)) fewer
    ∙ ap (λ m. new ++ cores_in m (left_behind skipped left n) (drop (i + 1) ns)) next
    ∙ ap (λ ms. ms ++ rest) pushed
    ∙ append_assoc now (core_here skipped n) rest
    ∙ sym (ap (λ ms. now ++ cores_in skipped left ms) (from ns i n h is) ∙ ap (λ b. now ++ (if b then [] else core_here skipped n ++ rest)) t)
    ∙ so_far

-- none is left
pub cores_end : (skipped left i : ℕ) (ns : List ExpandedNode) (now all : List FormNode) → length ns ≤ i → now ++ cores_in skipped left (drop i ns) ≡ all → now ≡ all
cores_end skipped left i ns now all h so_far = sym (append-nil now) ∙ sym (ap (λ ms. now ++ cores_in skipped left ms) (drop_of_length-le ns {i = i} h)) ∙ so_far

-- the functions among nodes
abbrev pub functions_in : List ExpandedNode → List FlatFunction
functions_in [] = []
functions_in (n ∷ ns) = function_here n ns ++ functions_in ns

-- a function in front of others
function-first : (kind : Expanded) (p : ℕ) (body : Forms) (fs : List Function) (gs : List FlatFunction)
    → flat_of kind p (preorder body) ++ (map flat_function fs ++ gs) ≡ map flat_function (with_function kind p body fs) ++ gs
function-first (Form kind) p body fs gs = refl
function-first (InBlock n turning) p body fs gs = refl
function-first (Lambda parameters) p body fs gs = refl
function-first (Defun f parameters) p body fs gs = refl
function-first (Refused refusal) p body fs gs = refl
function-first (RefusedFunction refusal) p body fs gs = refl

-- the functions of the nodes are those of the forms
functions-all : (e : Expansion) (rest : List ExpandedNode) → functions_in (flat e ++ rest) ≡ map flat_function (functions_of e) ++ functions_in rest
functions-all NoTrees rest = refl
functions-all (Tree kind p under beside) rest =
    let rests : List ExpandedNode = flat beside ++ rest in
    let inner : List FlatFunction = map flat_function (functions_of under) in
    let outer : List FlatFunction = map flat_function (functions_of beside) in
    let others : functions_in (flat under ++ rests) ≡ map flat_function (functions_of under ++ functions_of beside) ++ functions_in rest =
    functions-all under rests ∙ ap (λ fs. inner ++ fs) (functions-all beside rest) ∙ sym (append_assoc inner outer (functions_in rest))
    ∙ ap (λ fs. fs ++ functions_in rest) (sym (map-append flat_function (functions_of under) (functions_of beside))) in
    ap (λ ns. function_here (node kind p (count_of under)) ns ++ functions_in ns) (append_assoc (flat under) (flat beside) rest)
    ∙ ap (λ b. flat_of kind p b ++ functions_in (flat under ++ rests)) (cores-front (count_of under) under (flat under ++ rests) rests refl refl)
    ∙ ap (λ fs. flat_of kind p (preorder (core_forms under)) ++ fs) others
    ∙ function-first kind p (core_forms under) (functions_of under ++ functions_of beside) (functions_in rest)

pub functions-flat : (e : Expansion) (ns : List ExpandedNode) → ns ≡ flat e → functions_in ns ≡ map flat_function (functions_of e)
functions-flat e ns h = ap functions_in (h ∙ sym (append-nil (flat e))) ∙ functions-all e [] ∙ append-nil (map flat_function (functions_of e))

-- one more is written, or none
pub functions_next : (ns behind : List ExpandedNode) (i : ℕ) (n : ExpandedNode) (now new all : List FlatFunction) → i < length ns → n ≡ get_or ns i n → behind ≡ drop (i + 1) ns
    → new ≡ now ++ function_here n behind → now ++ functions_in (drop i ns) ≡ all → new ++ functions_in (drop (i + 1) ns) ≡ all
functions_next ns behind i n now new all h is others pushed so_far =
    let rest : List ExpandedNode = drop (i + 1) ns in
    ap (λ fs. fs ++ functions_in rest) (pushed ∙ ap (λ ms. now ++ function_here n ms) others)
    ∙ append_assoc now (function_here n rest) (functions_in rest)
    ∙ sym (ap (λ ms. now ++ functions_in ms) (from ns i n h is))
    ∙ so_far

-- none is left
pub functions_end : (i : ℕ) (ns : List ExpandedNode) (e : Expansion) (now : List FlatFunction) → length ns ≤ i → now ++ functions_in (drop i ns) ≡ functions_in ns → ns ≡ flat e
    → now ≡ map flat_function (functions_of e)
functions_end i ns e now h so_far is =
    sym (append-nil now) ∙ sym (ap (λ ms. now ++ functions_in ms) (drop_of_length-le ns {i = i} h)) ∙ so_far ∙ functions-flat e ns is
