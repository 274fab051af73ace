-- Forms written flat, of which those in functions are skipped.
use Rattle.std.proofs.Common.{◌≡◌, ℕ, suc, ◌+◌, ◌<◌, ◌≤◌, List, [], ◌∷◌, ◌++◌, Bool, true, false, ◌||◌, if◌then◌else◌, length, get_or, drop, refl, ap, sym, ◌∙◌, arith, append_assoc, append-nil, add-one, drop-cons}
use Rattle.std.proofs.Math.ListN.{drop_of_length-le}
use Rattle.lisp_base.specs.Forest.{NoTrees, Tree, count_of}
use Rattle.lisp_program.specs.declared.form.CoreKind.TheVariants.{Block}
use Rattle.form_shapes.specs.declared.expanded.ExpandedNode.{ExpandedNode}
use Rattle.lisp_forms.specs.inside.Flat.{flat, node}
use Rattle.lisp_forms.specs.Blocks.{is_function, is_return_to, blocked, lowered, returns_to}
use Rattle.lisp_forms.specs.Trees.{Expansion, form, only}
use Rattle.lisp_forms.specs.inside.Written.{leaves_here, skipped_behind}

-- some of these leaves to the block with this number, where so many forms from here on belong to a function
abbrev pub found_in : ℕ → ℕ → List ExpandedNode → Bool
found_in number skipped [] = false
found_in number skipped (n ∷ ns) = if leaves_here number skipped n then true else found_in number (skipped_behind skipped n) ns

-- what is under a form and beside it, in front of others
behind_first : (under beside : Expansion) (rest : List ExpandedNode) → (flat under ++ flat beside) ++ rest ≡ flat under ++ (flat beside ++ rest)
behind_first under beside rest = append_assoc (flat under) (flat beside) rest

-- forms of a function are skipped
pub found-skipped : (number k : ℕ) (e : Expansion) (rest : List ExpandedNode) → found_in number (count_of e + k) (flat e ++ rest) ≡ found_in number k rest
found-skipped number k NoTrees rest = let none : 0 + k ≡ k = omega arith in ap (λ m. found_in number m rest) none
found-skipped number k (Tree kind p under beside) rest =
    let more : suc (count_of beside) + k ≡ suc (count_of beside + k) = omega arith in
    let turned : count_of beside + k + count_of under ≡ count_of under + (count_of beside + k) = omega arith in
    ap (λ m. found_in number m (node kind p (count_of under) ∷ ((flat under ++ flat beside) ++ rest))) more
    ∙ ap (λ m. found_in number m ((flat under ++ flat beside) ++ rest)) turned
    ∙ ap (found_in number (count_of under + (count_of beside + k))) (behind_first under beside rest)
    ∙ found-skipped number (count_of beside + k) under (flat beside ++ rest)
    ∙ found-skipped number k beside rest

-- one of three tests
one_of_three : (a b c : Bool) → a || (b || c) ≡ (a || b) || c
one_of_three true b c = refl
one_of_three false b c = refl

-- a node, what is under it, and what is behind
found-by : (t f u b r : Bool) (found : ℕ → Bool) (m : ℕ) → found m ≡ b || r → found 0 ≡ u || (b || r)
    → (if t then true else found (if f then m else 0)) ≡ (t || (if f then false else u) || b) || r
found-by true f u b r found m skipped here = refl
found-by false true u b r found m skipped here = skipped
found-by false false u b r found m skipped here = here ∙ one_of_three u b r

-- others are looked at
found-all : (number : ℕ) (e : Expansion) (rest : List ExpandedNode) → found_in number 0 (flat e ++ rest) ≡ returns_to number e || found_in number 0 rest
found-all number NoTrees rest = refl
found-all number (Tree kind p under beside) rest =
    let rests : List ExpandedNode = flat beside ++ rest in
    let none : count_of under ≡ count_of under + 0 = omega arith in
    let behind : found_in number 0 rests ≡ returns_to number beside || found_in number 0 rest = found-all number beside rest in
    ap (λ ns. if is_return_to number kind then true else found_in number (if is_function kind then count_of under else 0) ns) (behind_first under beside rest)
    ∙ found-by (is_return_to number kind) (is_function kind) (returns_to number under) (returns_to number beside) (found_in number 0 rest)
    (λ m. found_in number m (flat under ++ rests)) (count_of under)
    (ap (λ m. found_in number m (flat under ++ rests)) none ∙ found-skipped number 0 under rests ∙ behind)
    (found-all number under rests ∙ ap (λ t. returns_to number under || t) behind)

-- what a slice of forms holds
pub found-flat : (number : ℕ) (e : Expansion) (ns : List ExpandedNode) → ns ≡ flat e → found_in number 0 ns ≡ returns_to number e
found-flat number e ns h = ap (found_in number 0) (h ∙ sym (append-nil (flat e))) ∙ found-all number e [] ∙ or-false (returns_to number e)
  where
    or-false : (t : Bool) → t || false ≡ t
    or-false true = refl
    or-false false = refl

-- a node with those behind it
from : (ns : List ExpandedNode) (i : ℕ) (n : ExpandedNode) → i < length ns → n ≡ get_or ns i n → drop i ns ≡ n ∷ drop (i + 1) ns
from ns i n h is = drop-cons ns i n h ∙ ap (λ m. m ∷ drop (suc i) ns) (sym is) ∙ ap (λ k. n ∷ drop k ns) (sym (add-one i))

-- the next is one
pub found_here : (number skipped : ℕ) (ns : List ExpandedNode) (i : ℕ) (n : ExpandedNode) (all : Bool) → i < length ns → n ≡ get_or ns i n → leaves_here number skipped n ≡ true
    → found_in number skipped (drop i ns) ≡ all → true ≡ all
found_here number skipped ns i n all h is t so_far =
    sym (ap (found_in number skipped) (from ns i n h is) ∙ ap (λ b. if b then true else found_in number (skipped_behind skipped n) (drop (i + 1) ns)) t) ∙ so_far

-- it is none
pub found_later : (number skipped behind : ℕ) (ns : List ExpandedNode) (i : ℕ) (n : ExpandedNode) (all : Bool) → i < length ns → n ≡ get_or ns i n
    → leaves_here number skipped n ≡ false → behind ≡ skipped_behind skipped n → found_in number skipped (drop i ns) ≡ all
    → found_in number behind (drop (i + 1) ns) ≡ all
found_later number skipped behind ns i n all h is t next so_far =
    ap (λ m. found_in number m (drop (i + 1) ns)) next
    ∙ sym (ap (found_in number skipped) (from ns i n h is) ∙ ap (λ b. if b then true else found_in number (skipped_behind skipped n) (drop (i + 1) ns)) t)
    ∙ so_far

-- as many forms as before
pub count-lowered : (gone : List ℕ) (e : Expansion) → count_of (lowered gone e) ≡ count_of e
count-lowered gone NoTrees = refl
count-lowered gone (Tree kind p under beside) = ap suc (count-lowered gone beside)

-- a body is one form in its block, and else as many as before
pub count_blocked : (number p : ℕ) (e : Expansion) (t : Bool) (count : ℕ) → t ≡ returns_to number e → t ≡ false → count ≡ count_of e → count ≡ count_of (blocked number p e)
count_blocked number p e t count says is many =
    many ∙ sym (count-lowered (number ∷ []) e) ∙ ap (λ b. count_of (if b then only (form (Block number) p e) else lowered (number ∷ []) e)) (sym is ∙ says)

-- none is left
pub found_end : (number skipped i : ℕ) (ns : List ExpandedNode) (e : Expansion) → length ns ≤ i → found_in number skipped (drop i ns) ≡ found_in number 0 ns → ns ≡ flat e
    → false ≡ returns_to number e
found_end number skipped i ns e h so_far is =
    sym (ap (found_in number skipped) (drop_of_length-le ns {i = i} h)) ∙ so_far ∙ found-flat number e ns is
