-- The pass over nodes leaves out just the implicit blocks that are not made.
use Rattle.std.proofs.Common.{◌≡◌, ℕ, suc, ◌+◌, ◌-◌, ◌<◌, ◌≤◌, List, [], ◌∷◌, ◌++◌, Bool, true, false, length, get_or, drop, reverse, refl, ap, sym, ◌∙◌, arith, append_assoc, append-nil, add-one, drop-cons}
use Rattle.std.proofs.Math.ListN.{drop_of_length-le}
use Rattle.lisp_base.specs.Forest.{NoTrees, Tree, count_of}
use Rattle.form_shapes.specs.declared.expanded.Expanded.{Expanded}
use Rattle.form_shapes.specs.declared.expanded.Expanded.TheVariants.{Form, InBlock, Lambda, Defun, Refused, RefusedFunction}
use Rattle.form_shapes.specs.declared.expanded.ExpandedNode.{ExpandedNode}
use Rattle.lisp_forms.specs.Blocks.{is_made, lowered, lowered_kind, not_made_under}
use Rattle.lisp_forms.specs.Trees.{Expansion}
use Rattle.lisp_forms.specs.inside.Flat.{flat, node}
use Rattle.lisp_forms.specs.inside.Lowering.{Frame, closed, entered, entered_in, gone_at, lowered_in, lowered_node, made_at, made_behind, outer_of}
use Rattle.lisp_forms.specs.declared.lowered.Outer.{Outer}
use Rattle.lisp_forms.proofs.Skipping.{count-lowered}

-- so many forms left where these blocks are not made
abbrev pub frame : ℕ → List ℕ → Frame
frame left gone = record { left = left; gone = gone }

-- whether a form has its block made, before others
abbrev pub told : Expanded → Bool → List Bool → List Bool
told (InBlock n turning) made others = made ∷ others
told _ made others = others

-- for each form of these with an implicit block, whether it is made
abbrev pub told_of : Expansion → List Bool
told_of NoTrees = []
told_of (Tree kind p under beside) = told kind (is_made kind under) (told_of under ++ told_of beside)

-- a form of which something is left stays
closed-left : (m : ℕ) (gone : List ℕ) (fs : List Frame) → closed (frame (suc m) gone ∷ fs) ≡ frame (suc m) gone ∷ fs
closed-left m gone [] = refl
closed-left m gone (f ∷ fs) = refl

-- one of which nothing is left does not matter
closed-none : (gone : List ℕ) (f : Frame) (fs : List Frame) (made : List Bool) (ns : List ExpandedNode)
    → lowered_in (frame 0 gone ∷ (f ∷ fs)) made ns ≡ lowered_in (f ∷ fs) made ns
closed-none gone f fs made [] = refl
closed-none gone f fs made (n ∷ ns) = refl

-- what follows the first node of a form
abbrev rest_of : (kind : Expanded) → (parts left : ℕ) → List ℕ → List Frame → Bool → List Bool → List ExpandedNode → List ExpandedNode
rest_of kind parts m gone fs made others ns = lowered_in (entered_in m gone fs kind parts made) others ns

-- the nodes of a form, where its first is begun
begun : (kind : Expanded) (p parts m : ℕ) (gone : List ℕ) (fs : List Frame) (made : Bool) (others : List Bool) (ns : List ExpandedNode)
    → lowered_in (frame (suc m) gone ∷ fs) (told kind made others) (node kind p parts ∷ ns)
    ≡ node (lowered_kind gone kind (made_at kind (told kind made others))) p parts
    ∷ rest_of kind parts m gone fs (made_at kind (told kind made others)) (made_behind kind (told kind made others)) ns
begun kind p parts m gone fs made others ns =
    let all : List Bool = told kind made others in
    let one : suc m - 1 ≡ m = omega arith in
    ap (λ gs. lowered_node (gone_at gs) (node kind p parts) (made_at kind all) ∷ lowered_in (entered gs (node kind p parts) (made_at kind all)) (made_behind kind all) ns)
    (closed-left m gone fs)
    ∙ ap (λ l. node (lowered_kind gone kind (made_at kind all)) p parts ∷ lowered_in (entered_in l gone fs kind parts (made_at kind all)) (made_behind kind all) ns) one

-- its block is made where that is told
made-at : (kind : Expanded) (under : Expansion) (others : List Bool) → made_at kind (told kind (is_made kind under) others) ≡ is_made kind under
made-at (Form kind) under others = refl
made-at (InBlock n turning) under others = refl
made-at (Lambda parameters) under others = refl
made-at (Defun f parameters) under others = refl
made-at (Refused refusal) under others = refl
made-at (RefusedFunction refusal) under others = refl

-- the others are told after it
made-behind : (kind : Expanded) (made : Bool) (others : List Bool) → made_behind kind (told kind made others) ≡ others
made-behind (Form kind) made others = refl
made-behind (InBlock n turning) made others = refl
made-behind (Lambda parameters) made others = refl
made-behind (Defun f parameters) made others = refl
made-behind (Refused refusal) made others = refl
made-behind (RefusedFunction refusal) made others = refl

-- what is told before others
told-append : (kind : Expanded) (made : Bool) (others more : List Bool) → told kind made others ++ more ≡ told kind made (others ++ more)
told-append (Form kind) made others more = refl
told-append (InBlock n turning) made others more = refl
told-append (Lambda parameters) made others more = refl
told-append (Defun f parameters) made others more = refl
told-append (Refused refusal) made others more = refl
told-append (RefusedFunction refusal) made others more = refl

-- these are written where these blocks are not made round them
abbrev IsLowered : Expansion → Type 0
IsLowered e =
    (k : ℕ) (gone : List ℕ) (fs : List Frame) (made : List Bool) (ns : List ExpandedNode)
    → lowered_in (frame (count_of e + k) gone ∷ fs) (told_of e ++ made) (flat e ++ ns) ≡ flat (lowered gone e) ++ lowered_in (frame k gone ∷ fs) made ns

-- what is under a form and beside it, where no other block is not made under it
rest-more : (under beside : Expansion) → IsLowered under → IsLowered beside
    → (k : ℕ) (gone : List ℕ) (fs : List Frame) (made : List Bool) (ns : List ExpandedNode)
    → lowered_in (frame (count_of under + (count_of beside + k)) gone ∷ fs) ((told_of under ++ told_of beside) ++ made) ((flat under ++ flat beside) ++ ns)
    ≡ (flat (lowered gone under) ++ flat (lowered gone beside)) ++ lowered_in (frame k gone ∷ fs) made ns
rest-more under beside first then k gone fs made ns =
    let now : List Frame = frame (count_of under + (count_of beside + k)) gone ∷ fs in
    ap (λ us. lowered_in now us ((flat under ++ flat beside) ++ ns)) (append_assoc (told_of under) (told_of beside) made)
    ∙ ap (lowered_in now (told_of under ++ (told_of beside ++ made))) (append_assoc (flat under) (flat beside) ns)
    ∙ first (count_of beside + k) gone fs (told_of beside ++ made) (flat beside ++ ns)
    ∙ ap (λ ms. flat (lowered gone under) ++ ms) (then k gone fs made ns)
    ∙ sym (append_assoc (flat (lowered gone under)) (flat (lowered gone beside)) (lowered_in (frame k gone ∷ fs) made ns))

-- and where under it these are not made
rest-other : (under beside : Expansion) → IsLowered under → IsLowered beside
    → (inner : List ℕ) (k : ℕ) (gone : List ℕ) (fs : List Frame) (made : List Bool) (ns : List ExpandedNode)
    → lowered_in (frame (count_of under) inner ∷ (frame (count_of beside + k) gone ∷ fs)) ((told_of under ++ told_of beside) ++ made) ((flat under ++ flat beside) ++ ns)
    ≡ (flat (lowered inner under) ++ flat (lowered gone beside)) ++ lowered_in (frame k gone ∷ fs) made ns
rest-other under beside first then inner k gone fs made ns =
    let outer : List Frame = frame (count_of beside + k) gone ∷ fs in
    let none : count_of under ≡ count_of under + 0 = omega arith in
    ap (λ us. lowered_in (frame (count_of under) inner ∷ outer) us ((flat under ++ flat beside) ++ ns)) (append_assoc (told_of under) (told_of beside) made)
    ∙ ap (lowered_in (frame (count_of under) inner ∷ outer) (told_of under ++ (told_of beside ++ made))) (append_assoc (flat under) (flat beside) ns)
    ∙ ap (λ m. lowered_in (frame m inner ∷ outer) (told_of under ++ (told_of beside ++ made)) (flat under ++ (flat beside ++ ns))) none
    ∙ first 0 inner outer (told_of beside ++ made) (flat beside ++ ns)
    ∙ ap (λ ms. flat (lowered inner under) ++ ms) (closed-none inner (frame (count_of beside + k) gone) fs (told_of beside ++ made) (flat beside ++ ns) ∙ then k gone fs made ns)
    ∙ sym (append_assoc (flat (lowered inner under)) (flat (lowered gone beside)) (lowered_in (frame k gone ∷ fs) made ns))

-- what follows the first node of a form
rest-written : (kind : Expanded) (made : Bool) (under beside : Expansion) → IsLowered under → IsLowered beside
    → (k : ℕ) (gone : List ℕ) (fs : List Frame) (others : List Bool) (ns : List ExpandedNode)
    → rest_of kind (count_of under) (count_of beside + k) gone fs made ((told_of under ++ told_of beside) ++ others) ((flat under ++ flat beside) ++ ns)
    ≡ (flat (lowered (not_made_under gone kind made) under) ++ flat (lowered gone beside)) ++ lowered_in (frame k gone ∷ fs) others ns
rest-written (Form kind) made under beside first then = rest-more under beside first then
rest-written (InBlock n turning) true under beside first then = rest-more under beside first then
rest-written (InBlock n turning) false under beside first then = λ k gone. rest-other under beside first then (n ∷ gone) k gone
rest-written (Lambda parameters) made under beside first then = rest-other under beside first then []
rest-written (Defun f parameters) made under beside first then = rest-other under beside first then []
rest-written (Refused refusal) made under beside first then = rest-more under beside first then
rest-written (RefusedFunction refusal) made under beside first then = rest-other under beside first then []

-- these are written
lowered-all : (e : Expansion) → IsLowered e
lowered-all NoTrees k gone fs made ns = let none : 0 + k ≡ k = omega arith in ap (λ m. lowered_in (frame m gone ∷ fs) made ns) none
lowered-all (Tree kind p under beside) k gone fs made ns =
    let more : suc (count_of beside) + k ≡ suc (count_of beside + k) = omega arith in
    let is : Bool = is_made kind under in
    let inner : List ℕ = not_made_under gone kind is in
    let others : List Bool = told_of under ++ told_of beside in
    let rests : List ExpandedNode = (flat under ++ flat beside) ++ ns in
    let written : List ExpandedNode = (flat (lowered inner under) ++ flat (lowered gone beside)) ++ lowered_in (frame k gone ∷ fs) made ns in
    ap (λ m. lowered_in (frame m gone ∷ fs) (told kind is others ++ made) (node kind p (count_of under) ∷ rests)) more
    ∙ ap (λ us. lowered_in (frame (suc (count_of beside + k)) gone ∷ fs) us (node kind p (count_of under) ∷ rests)) (told-append kind is others made)
    ∙ begun kind p (count_of under) (count_of beside + k) gone fs is (others ++ made) rests
    ∙ ap (λ b. node (lowered_kind gone kind b) p (count_of under) ∷ rest_of kind (count_of under) (count_of beside + k) gone fs b (made_behind kind (told kind is (others ++ made))) rests)
    (made-at kind under (others ++ made))
    ∙ ap (λ us. node (lowered_kind gone kind is) p (count_of under) ∷ rest_of kind (count_of under) (count_of beside + k) gone fs is us rests) (made-behind kind is (others ++ made))
    ∙ ap (λ ms. node (lowered_kind gone kind is) p (count_of under) ∷ ms) (rest-written kind is under beside (lowered-all under) (lowered-all beside) k gone fs made ns)
    ∙ ap (λ m. node (lowered_kind gone kind is) p m ∷ written) (sym (count-lowered inner under))

-- all nodes are written
lowered-flat : (e : Expansion) (count : ℕ) (gone : List ℕ) (made : List Bool) (ns : List ExpandedNode) → ns ≡ flat e → count ≡ count_of e → made ≡ told_of e
    → lowered_in (frame count gone ∷ []) made ns ≡ flat (lowered gone e)
lowered-flat e count gone made ns is many says =
    let all : count ≡ count_of e + 0 = omega (arith, many) in
    ap (λ m. lowered_in (frame m gone ∷ []) made ns) all
    ∙ ap (λ us. lowered_in (frame (count_of e + 0) gone ∷ []) us ns) (says ∙ sym (append-nil (told_of e)))
    ∙ ap (lowered_in (frame (count_of e + 0) gone ∷ []) (told_of e ++ [])) (is ∙ sym (append-nil (flat e)))
    ∙ lowered-all e 0 gone [] [] [] ∙ append-nil (flat (lowered gone e))

-- at first all are left
pub lowered_start : (e : Expansion) (count : ℕ) (gone : List ℕ) (outer : List Outer) (made : List Bool) (ns now : List ExpandedNode) → outer ≡ [] → now ≡ []
    → ns ≡ flat e → count ≡ count_of e → made ≡ told_of e → now ++ lowered_in (frame count gone ∷ outer_of gone (reverse outer)) made ns ≡ flat (lowered gone e)
lowered_start e count gone outer made ns now alone none is many says =
    ap (λ os. now ++ lowered_in (frame count gone ∷ outer_of gone (reverse os)) made ns) alone
    ∙ ap (λ ms. ms ++ lowered_in (frame count gone ∷ []) made ns) none
    ∙ lowered-flat e count gone made ns is many says

-- one more is written
pub lowered_next : (fs gs : List Frame) (us vs : List Bool) (ns : List ExpandedNode) (i : ℕ) (n : ExpandedNode) (made : Bool) (now all : List ExpandedNode) → i < length ns → n ≡ get_or ns i n
    → made ≡ made_at n.kind us → vs ≡ made_behind n.kind us → gs ≡ entered (closed fs) n made
    → now ++ lowered_in fs us (drop i ns) ≡ all
    → (now ++ lowered_node (gone_at (closed fs)) n made ∷ []) ++ lowered_in gs vs (drop (i + 1) ns) ≡ all
lowered_next fs gs us vs ns i n made now all h is says left next so_far =
    let split : drop i ns ≡ n ∷ drop (i + 1) ns = drop-cons ns i n h ∙ ap (λ m. m ∷ drop (suc i) ns) (sym is) ∙ ap (λ k. n ∷ drop k ns) (sym (add-one i)) in
    append_assoc now (lowered_node (gone_at (closed fs)) n made ∷ []) (lowered_in gs vs (drop (i + 1) ns))
    ∙ ap (λ hs. now ++ lowered_node (gone_at (closed fs)) n made ∷ lowered_in hs vs (drop (i + 1) ns)) next
    ∙ ap (λ ws. now ++ lowered_node (gone_at (closed fs)) n made ∷ lowered_in (entered (closed fs) n made) ws (drop (i + 1) ns)) left
    ∙ ap (λ b. now ++ lowered_node (gone_at (closed fs)) n b ∷ lowered_in (entered (closed fs) n b) (made_behind n.kind us) (drop (i + 1) ns)) says
    ∙ sym (ap (λ ms. now ++ lowered_in fs us ms) split)
    ∙ so_far

-- none is left
pub lowered_end : (fs : List Frame) (us : List Bool) (ns : List ExpandedNode) (i : ℕ) (now all : List ExpandedNode) → length ns ≤ i → now ++ lowered_in fs us (drop i ns) ≡ all → now ≡ all
lowered_end fs us ns i now all h so_far = sym (append-nil now) ∙ sym (ap (λ ms. now ++ lowered_in fs us ms) (drop_of_length-le ns {i = i} h)) ∙ so_far
