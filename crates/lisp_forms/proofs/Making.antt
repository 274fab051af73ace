-- To which implicit blocks something returns, as it is found from the last node on.
use Rattle.std.proofs.Common.{◌≡◌, ℕ, suc, ◌+◌, ◌-◌, List, [], ◌∷◌, ◌++◌, Bool, true, false, ◌||◌, ◌==◌, if◌then◌else◌, length, get_or, take, reverse, Option, Some, None, refl, ap, sym, ◌∙◌, arith, append_assoc, append-nil, length-append, get_or-append-add}
use Rattle.std.specs.List.{list_any}
use Rattle.lisp_base.specs.Forest.{NoTrees, Tree, count_of}
use Rattle.form_shapes.specs.declared.expanded.Expanded.{Expanded}
use Rattle.form_shapes.specs.declared.expanded.Expanded.TheVariants.{Form, InBlock, Lambda, Defun, Refused, RefusedFunction}
use Rattle.form_shapes.specs.declared.expanded.ExpandedNode.{ExpandedNode}
use Rattle.lisp_forms.specs.Blocks.{exit_of, is_function, is_made, is_return_to, is_that, returns_to}
use Rattle.lisp_forms.specs.Trees.{Expansion}
use Rattle.lisp_forms.specs.inside.Flat.{flat, node}
use Rattle.lisp_forms.specs.inside.Made.{Seen, bottom_of, made_of, made_seen, returns_seen, seen_node, seen_of, with_made, with_return}
use Rattle.lisp_forms.proofs.Lowering.{told, told_of}
use Rattle.std.proofs.Math.Seq.{drop-append_seam, take-append_seam}
use Rattle.std.proofs.lemmas.List.{reverse-append}
use Rattle.std.proofs.lemmas.List.Folds.{list_any-append}

-- the returns of a form, by those of what is under it
abbrev returns_in : Expanded → List ℕ → List ℕ
returns_in (Form kind) returns = with_return (exit_of kind) returns
returns_in (InBlock n turning) returns = returns
returns_in (Lambda parameters) returns = []
returns_in (Defun f parameters) returns = []
returns_in (Refused refusal) returns = returns
returns_in (RefusedFunction refusal) returns = []

-- the numbers of the blocks to which these return, from the last on
abbrev returns_of : Expansion → List ℕ
returns_of NoTrees = []
returns_of (Tree kind p under beside) = returns_of beside ++ returns_in kind (returns_of under)

-- for each of these, how many returns were seen before it, where so many were seen before all
abbrev ends_of : ℕ → Expansion → List ℕ
ends_of r NoTrees = []
ends_of r (Tree kind p under beside) = ends_of r beside ++ (r + length (returns_of beside)) ∷ []

-- these are seen
abbrev added : Expansion → Seen → Seen
added e s = record { ends = s.ends ++ ends_of (length s.returns) e; returns = s.returns ++ returns_of e; made = s.made ++ made_of e }

-- one for each
length-ends : (r : ℕ) (e : Expansion) → length (ends_of r e) ≡ count_of e
length-ends r NoTrees = refl
length-ends r (Tree kind p under beside) =
    let more : length (ends_of r beside) + 1 ≡ suc (count_of beside) = omega (arith, length-ends r beside) in
    length-append (ends_of r beside) ((r + length (returns_of beside)) ∷ []) ∙ more

-- before the last of these as many were seen as before all
first-end : (r : ℕ) (kind : Expanded) (p : ℕ) (under beside : Expansion) (more : List ℕ) → get_or (ends_of r (Tree kind p under beside) ++ more) 0 0 ≡ r
first-end r kind p under NoTrees more = omega arith
first-end r kind p under (Tree kind' p' under' beside) more =
    ap (λ xs. get_or xs 0 0) (append_assoc (ends_of r (Tree kind' p' under' beside)) ((r + length (returns_of (Tree kind' p' under' beside))) ∷ []) more)
    ∙ first-end r kind' p' under' beside ((r + length (returns_of (Tree kind' p' under' beside))) ∷ more)

-- how many returns were seen before what is under a form
bottom-is : (under : Expansion) (s : Seen) → bottom_of (count_of under) (added under s) ≡ length s.returns
bottom-is NoTrees s = ap length (append-nil s.returns)
bottom-is (Tree kind p under beside) s =
    let r : ℕ = length s.returns in
    let all : List ℕ = ends_of r (Tree kind p under beside) in
    let many : length all ≡ suc (count_of beside) = length-ends r (Tree kind p under beside) in
    let at : length (s.ends ++ all) - suc (count_of beside) ≡ length s.ends + 0 = omega (arith, length-append s.ends all, many) in
    ap (λ i. get_or (s.ends ++ all) i 0) at
    ∙ get_or-append-add s.ends all 0 0
    ∙ ap (λ xs. get_or xs 0 0) (sym (append-nil all))
    ∙ first-end r kind p under beside []

-- the ends of those under a form are taken away
ends-left : (under : Expansion) (s : Seen) → take (length (s.ends ++ ends_of (length s.returns) under) - count_of under) (s.ends ++ ends_of (length s.returns) under) ≡ s.ends
ends-left under s =
    let all : List ℕ = ends_of (length s.returns) under in
    let at : length (s.ends ++ all) - count_of under ≡ length s.ends = omega (arith, length-append s.ends all, length-ends (length s.returns) under) in
    ap (λ i. take i (s.ends ++ all)) at ∙ take-append_seam s.ends all

-- the returns after a form
returns-after : (exit : Option ℕ) (xs ys : List ℕ) → with_return exit (xs ++ ys) ≡ xs ++ with_return exit ys
returns-after None xs ys = refl
returns-after (Some b) xs ys = append_assoc xs ys (b ∷ [])

returns-seen : (kind : Expanded) (xs ys : List ℕ) → returns_seen kind (length xs) (xs ++ ys) ≡ xs ++ returns_in kind ys
returns-seen (Form kind) xs ys = returns-after (exit_of kind) xs ys
returns-seen (InBlock n turning) xs ys = refl
returns-seen (Lambda parameters) xs ys = take-append_seam xs ys ∙ sym (append-nil xs)
returns-seen (Defun f parameters) xs ys = take-append_seam xs ys ∙ sym (append-nil xs)
returns-seen (Refused refusal) xs ys = refl
returns-seen (RefusedFunction refusal) xs ys = take-append_seam xs ys ∙ sym (append-nil xs)

-- tests in another order
or_none : (a : Bool) → a || false ≡ a
or_none true = refl
or_none false = refl

or_turned : (a b : Bool) → a || b ≡ b || a
or_turned true true = refl
or_turned true false = refl
or_turned false true = refl
or_turned false false = refl

-- a form is among those that return to a block, or what is under it
returned-core : (n : ℕ) (exit : Option ℕ) (xs : List ℕ) → list_any (λ x. x == n) (with_return exit xs) ≡ is_that n exit || list_any (λ x. x == n) xs
returned-core n None xs = refl
returned-core n (Some b) xs =
    list_any-append (λ x. x == n) xs (b ∷ []) ∙ ap (λ t. list_any (λ x. x == n) xs || t) (or_none (b == n)) ∙ or_turned (list_any (λ x. x == n) xs) (b == n)

returned-form : (n : ℕ) (kind : Expanded) (xs : List ℕ) (inner : Bool) → list_any (λ x. x == n) xs ≡ inner
    → list_any (λ x. x == n) (returns_in kind xs) ≡ is_return_to n kind || (if is_function kind then false else inner)
returned-form n (Form kind) xs inner h = returned-core n (exit_of kind) xs ∙ ap (λ b. is_that n (exit_of kind) || b) h
returned-form n (InBlock m turning) xs inner h = h
returned-form n (Lambda parameters) xs inner h = refl
returned-form n (Defun f parameters) xs inner h = refl
returned-form n (Refused refusal) xs inner h = h
returned-form n (RefusedFunction refusal) xs inner h = refl

-- these return to a block where its number is among theirs
returned : (n : ℕ) (e : Expansion) → list_any (λ x. x == n) (returns_of e) ≡ returns_to n e
returned n NoTrees = refl
returned n (Tree kind p under beside) =
    list_any-append (λ x. x == n) (returns_of beside) (returns_in kind (returns_of under))
    ∙ ap (λ b. b || list_any (λ x. x == n) (returns_in kind (returns_of under))) (returned n beside)
    ∙ ap (λ b. returns_to n beside || b) (returned-form n kind (returns_of under) (returns_to n under) (returned n under))
    ∙ or_turned (returns_to n beside) (is_return_to n kind || (if is_function kind then false else returns_to n under))

-- whether the block of a form is made
made-seen : (kind : Expanded) (under : Expansion) (xs : List ℕ) (made others : List Bool)
    → made_seen kind (length xs) (xs ++ returns_of under) ((made ++ others) ++ made_of under) ≡ made ++ with_made kind under (others ++ made_of under)
made-seen (Form kind) under xs made others = append_assoc made others (made_of under)
made-seen (InBlock n turning) under xs made others =
    ap (λ ys. ((made ++ others) ++ made_of under) ++ list_any (λ x. x == n) ys ∷ []) (drop-append_seam xs (returns_of under))
    ∙ ap (λ b. ((made ++ others) ++ made_of under) ++ b ∷ []) (returned n under)
    ∙ ap (λ ms. ms ++ returns_to n under ∷ []) (append_assoc made others (made_of under))
    ∙ append_assoc made (others ++ made_of under) (returns_to n under ∷ [])
made-seen (Lambda parameters) under xs made others = append_assoc made others (made_of under)
made-seen (Defun f parameters) under xs made others = append_assoc made others (made_of under)
made-seen (Refused refusal) under xs made others = append_assoc made others (made_of under)
made-seen (RefusedFunction refusal) under xs made others = append_assoc made others (made_of under)

-- what is seen, by its parts
abbrev seen : List ℕ → List ℕ → List Bool → Seen
seen ends returns made = record { ends = ends; returns = returns; made = made }

-- a form is seen, after what is under it and beside it
form-seen : (kind : Expanded) (p : ℕ) (under beside : Expansion) (s : Seen)
    → seen_node (node kind p (count_of under)) (added under (added beside s)) ≡ added (Tree kind p under beside) s
form-seen kind p under beside s =
    let t : Seen = added beside s in
    let u : Seen = added under t in
    let r : ℕ = length s.returns in
    let bottom : bottom_of (count_of under) u ≡ length t.returns = bottom-is under t in
    let far : length t.returns ≡ r + length (returns_of beside) = length-append s.returns (returns_of beside) in
    ap (λ b. seen (take (length u.ends - count_of under) u.ends ++ b ∷ []) (returns_seen kind b u.returns) (made_seen kind b u.returns u.made)) bottom
    ∙ ap (λ xs. seen (xs ++ length t.returns ∷ []) (returns_seen kind (length t.returns) u.returns) (made_seen kind (length t.returns) u.returns u.made)) (ends-left under t)
    ∙ ap (λ xs. seen (t.ends ++ length t.returns ∷ []) xs (made_seen kind (length t.returns) u.returns u.made)) (returns-seen kind t.returns (returns_of under))
    ∙ ap (λ ms. seen (t.ends ++ length t.returns ∷ []) (t.returns ++ returns_in kind (returns_of under)) ms) (made-seen kind under t.returns s.made (made_of beside))
    ∙ ap (λ xs. seen xs (t.returns ++ returns_in kind (returns_of under)) (s.made ++ made_of (Tree kind p under beside)))
    (ap (λ n. t.ends ++ n ∷ []) far ∙ append_assoc s.ends (ends_of r beside) ((r + length (returns_of beside)) ∷ []))
    ∙ ap (λ xs. seen (s.ends ++ ends_of r (Tree kind p under beside)) xs (s.made ++ made_of (Tree kind p under beside)))
    (append_assoc s.returns (returns_of beside) (returns_in kind (returns_of under)))

-- all of these are seen
seen-all : (e : Expansion) (ns : List ExpandedNode) → seen_of (flat e ++ ns) ≡ added e (seen_of ns)
seen-all NoTrees ns =
    let s : Seen = seen_of ns in
    ap (λ xs. seen xs s.returns s.made) (sym (append-nil s.ends)) ∙ ap (λ xs. seen (s.ends ++ []) xs s.made) (sym (append-nil s.returns))
    ∙ ap (λ ms. seen (s.ends ++ []) (s.returns ++ []) ms) (sym (append-nil s.made))
seen-all (Tree kind p under beside) ns =
    ap (λ ms. seen_node (node kind p (count_of under)) (seen_of ms)) (append_assoc (flat under) (flat beside) ns)
    ∙ ap (seen_node (node kind p (count_of under))) (seen-all under (flat beside ++ ns) ∙ ap (added under) (seen-all beside ns))
    ∙ form-seen kind p under beside (seen_of ns)

-- it is told from the first on, where that is turned round
told-all : (kind : Expanded) (under : Expansion) (made : List Bool) → reverse (with_made kind under made) ≡ told kind (is_made kind under) (reverse made)
told-all (Form kind) under made = refl
told-all (InBlock n turning) under made = reverse-append made (returns_to n under ∷ [])
told-all (Lambda parameters) under made = refl
told-all (Defun f parameters) under made = refl
told-all (Refused refusal) under made = refl
told-all (RefusedFunction refusal) under made = refl

told_back : (e : Expansion) → reverse (made_of e) ≡ told_of e
told_back NoTrees = refl
told_back (Tree kind p under beside) =
    told-all kind under (made_of beside ++ made_of under)
    ∙ ap (told kind (is_made kind under)) (reverse-append (made_of beside) (made_of under) ∙ ap (λ ms. ms ++ reverse (made_of beside)) (told_back under) ∙ ap (λ ms. told_of under ++ ms) (told_back beside))

-- what is told of the blocks of these nodes
pub made_flat : (e : Expansion) (ns : List ExpandedNode) (made : List Bool) → ns ≡ flat e → made ≡ (seen_of ns).made → reverse made ≡ told_of e
made_flat e ns made is found =
    ap reverse (found ∙ ap (λ ms. (seen_of ms).made) (is ∙ sym (append-nil (flat e))) ∙ ap (λ (s : Seen). s.made) (seen-all e []))
    ∙ told_back e
