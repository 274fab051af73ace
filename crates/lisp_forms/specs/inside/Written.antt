-- What the code writes piece by piece.
use Rattle.std.specs.Prelude.{ℕ, zero, suc, ◌+◌, List, [], ◌∷◌, ◌++◌, Bool, true, false, Option, Some, None, if◌then◌else◌, nat_lt, length}
use Rattle.std.specs.List.{list_any}
use Rattle.lisp_base.specs.Forest.{NoTrees, Tree, count_of}
use Rattle.lisp_program.specs.declared.form.CoreKind.{CoreKind}
use Rattle.lisp_program.specs.declared.form.CoreKind.TheVariants as k
use Rattle.lisp_program.specs.declared.form.FormNode.{FormNode}
use Rattle.lisp_program.specs.declared.function.Service.TheVariants as service
use Rattle.lisp_data.specs.Data.{Data, NoData, Atom, Listed}
use Rattle.lisp_data.specs.declared.items.First.{First}
use Rattle.lisp_data.specs.declared.items.First.TheVariants.{Leaf as LeafFirst, List as ListFirst}
use Rattle.form_shapes.specs.declared.expanded.Expanded.{Expanded}
use Rattle.form_shapes.specs.declared.expanded.Expanded.TheVariants.{Form, InBlock}
use Rattle.form_shapes.specs.declared.expanded.ExpandedNode.{ExpandedNode}
use Rattle.form_shapes.specs.declared.keywords.Roles.TheVariants.{From}
use Rattle.form_shapes.specs.Bindings.{bound_in_list, opened_by}
use Rattle.form_shapes.specs.Scopes.{Scope, has, leaf_symbol}
use Rattle.lisp_forms.specs.declared.locks.Lock.{Lock}
use Rattle.lisp_forms.specs.Expansion.{behind_variable, by_roles, is_none}
use Rattle.lisp_forms.specs.inside.Flat.{flat, flat_one, node}
use Rattle.lisp_forms.specs.Program.{core_kind}
use Rattle.lisp_forms.specs.Blocks.{is_function, is_return_to}
use Rattle.lisp_forms.specs.Rows.{bind_kind, release_form}
use Rattle.lisp_forms.specs.Trees.{Expansion, Single, first, nil_form, progn_form}

-- what `or` and `cond` write for a form before what is done where its value is NIL
abbrev pub either_nodes : ℕ → ℕ → Single → List ExpandedNode
either_nodes x p a =
    node (Form k.Let) p 2 ∷ (flat_one a ++ (node (Form (k.BindLocal x 0)) p 1 ∷ (node (Form k.If) p 3 ∷ (node (Form (k.Local x)) p 0 ∷ (node (Form (k.Local x)) p 0 ∷ [])))))

-- what a clause of `cond` writes before the other clauses
abbrev pub clause_nodes : ℕ → ℕ → Expansion → List ExpandedNode
clause_nodes x p NoTrees = []
clause_nodes x p (Tree kind q under NoTrees) = either_nodes x p (record { kind = kind; place = q; under = under })
clause_nodes x p (Tree kind q under (Tree kind' q' under' beside)) =
    node (Form k.If) p 3
    ∷ (flat_one (record { kind = kind; place = q; under = under }) ++ flat_one (progn_form p (Tree kind' q' under' beside)))

-- the nodes of bindings of these variables, the last with so many forms under it
abbrev pub bind_nodes : Scope → ℕ → ℕ → List ℕ → List ExpandedNode
bind_nodes s p forms [] = []
bind_nodes s p forms (x ∷ []) = node (Form (bind_kind s s.depth x 0)) p forms ∷ []
bind_nodes s p forms (x ∷ (y ∷ ys)) = node (Form (bind_kind s s.depth x (length (y ∷ ys)))) p 1 ∷ bind_nodes (opened_by s x) p forms (y ∷ ys)

-- how many forms are under a binding of a `let*` with these others after it, where its body has so many
abbrev pub turn_parts : Data → ℕ → ℕ
turn_parts others forms = if is_none others then forms else 1

-- one `let` of a `let*` with this variable and value, with so many forms under its binding
abbrev pub turn : Scope → ℕ → ℕ → Option ℕ → Single → List ExpandedNode
turn s p forms None value = []
turn s p forms (Some x) value = node (Form k.Let) p 2 ∷ (flat_one value ++ (node (Form (bind_kind s s.depth x 0)) p forms ∷ []))

-- what a `let*` with these bindings has before its body, which has so many forms
abbrev pub turn_nodes : Scope → ℕ → ℕ → Data → List ExpandedNode
turn_nodes s p forms NoData = []
turn_nodes s p forms (Atom l q beside) =
    turn s p (turn_parts beside forms) (leaf_symbol l) (nil_form q) ++ turn_nodes (behind_variable s (leaf_symbol l)) p forms beside
turn_nodes s p forms (Listed q under beside) =
    turn s p (turn_parts beside forms) (bound_in_list under) (first q (by_roles s (From 1) 0 under))
    ++ turn_nodes (behind_variable s (bound_in_list under)) p forms beside

-- what an `and` of these writes before the constants NIL at its end
abbrev pub and_front : ℕ → Expansion → List ExpandedNode
and_front p NoTrees = []
and_front p (Tree kind q under NoTrees) = flat_one (record { kind = kind; place = q; under = under })
and_front p (Tree kind q under (Tree kind' q' under' beside)) =
    node (Form k.If) p 3 ∷ (flat_one (record { kind = kind; place = q; under = under }) ++ and_front p (Tree kind' q' under' beside))

-- how many forms a body of so many is, where these parameters are bound round it
abbrev pub special_parts : List ℕ → ℕ → List ℕ → ℕ
special_parts specials body xs = if list_any (has specials) xs then 1 else body

-- what binds the special ones of these parameters, of which the first has this number, round a body of so many forms
abbrev pub special_nodes : List ℕ → ℕ → ℕ → ℕ → List ℕ → List ExpandedNode
special_nodes specials p body i [] = []
special_nodes specials p body i (x ∷ xs) =
    if has specials x then
    node (Form k.Let) p 2 ∷ (node (Form (k.Local i)) p 0 ∷ (node (Form (k.BindSpecial x 0)) p (special_parts specials body xs) ∷ special_nodes specials p body (suc i) xs))
    else special_nodes specials p body (suc i) xs

-- what binds the variable of a `dotimes`, by a form of this kind, round a body of so many forms
abbrev pub turn_head : ℕ → (done : ℕ) → CoreKind → ℕ → List ExpandedNode
turn_head p done kind body = node (Form k.Let) p 2 ∷ (node (Form (k.Local done)) p 0 ∷ (node (Form kind) p body ∷ []))

-- the numbers of a lock where so many are open
abbrev pub lock_of : ℕ → Lock
lock_of g = record { mutex = g; grabbed = suc g; region = suc (suc g); inside = suc (suc (suc g)) }

-- what binds the hidden variables of a lock and begins its region, after the mutex
abbrev pub region_nodes : Lock → ℕ → List ExpandedNode
region_nodes l p =
    flat_one (nil_form p)
    ++ (node (Form (k.BindLocal l.mutex 1)) p 1
    ∷ (node (Form (k.BindLocal l.grabbed 0)) p 1
    ∷ (node (Form (k.WithoutInterrupts l.region)) p 1 ∷ (node (Form k.UnwindProtect) p 2 ∷ (node (Form k.If) p 3 ∷ [])))))

-- what grabs the mutex of a lock, before its operands, of which there are so many with the mutex
abbrev pub grab_nodes : Lock → Bool → Bool → ℕ → ℕ → List ExpandedNode
grab_nodes l waitp timeout operands p =
    node (Form (k.SetLocal l.grabbed)) p 1
    ∷ (node (Form (k.AllowWithInterrupts l.region)) p 1
    ∷ (node (Form (k.Serve (service.GrabMutex waitp timeout))) p operands ∷ (node (Form (k.Local l.mutex)) p 0 ∷ [])))

-- what a lock does where it has the mutex, and after that its cleanup
abbrev pub locked_nodes : Lock → ℕ → Expansion → List ExpandedNode
locked_nodes l p body =
    node (Form k.Progn) p 1
    ∷ (node (Form (k.AllowWithInterrupts l.region)) p 1
    ∷ (node (Form k.WithInterrupts) p (count_of body) ∷ (flat body ++ (flat_one (nil_form p) ++ flat_one (release_form l.mutex l.grabbed p)))))

-- the node of a form, which has no parts where it is a function
abbrev pub core_node : ExpandedNode → FormNode
core_node n = record { kind = core_kind n.kind n.place; place = n.place; parts = if is_function n.kind then 0 else n.parts }

-- the number after a variable of a `let`, which has this one: a special one has none
abbrev pub number_behind : List ℕ → ℕ → ℕ → ℕ
number_behind specials n x = if has specials x then n else n + 1

-- how many forms are under a binding with so many others under it, the last of which has this many
abbrev pub forms_under : ℕ → ℕ → ℕ
forms_under zero forms = forms
forms_under (suc above) forms = 1

-- what binds a parameter with this number, where it is special, round the other parameters and a body of so many forms
abbrev pub special_node : List ℕ → ℕ → ℕ → ℕ → ℕ → List ℕ → List ExpandedNode
special_node specials p body i x xs =
    if has specials x then
    node (Form k.Let) p 2 ∷ (node (Form (k.Local i)) p 0 ∷ (node (Form (k.BindSpecial x 0)) p (special_parts specials body xs) ∷ []))
    else []

-- how many of the forms after a node belong to a function, where so many of those from this node on do
abbrev pub skipped_behind : ℕ → ExpandedNode → ℕ
skipped_behind zero n = if is_function n.kind then n.parts else 0
skipped_behind (suc skipped) n = skipped + n.parts

-- a node returns to the block with this number, where so many of the forms from it on belong to a function
abbrev pub leaves_here : ℕ → ℕ → ExpandedNode → Bool
leaves_here number zero n = is_return_to number n.kind
leaves_here number (suc skipped) n = false

-- a clause is counted, and what is no list is not
abbrev pub one_list : First → ℕ
one_list (LeafFirst l p) = 0
one_list (ListFirst p under) = 1

-- no form is left to be written, and none is skipped
abbrev pub is_done : (skipped left : ℕ) → Bool
is_done (suc skipped) left = false
is_done zero (suc left) = false
is_done zero zero = true

-- the node of the block that a form has, before its own
abbrev pub block_node : Expanded → ℕ → List FormNode
block_node (InBlock n turning) p = (record { kind = k.Block n; place = p; parts = 1 }) ∷ []
block_node _ p = []

-- what is written for a node, where so many of the forms from it on belong to a function
abbrev pub core_here : ℕ → ExpandedNode → List FormNode
core_here zero n = block_node n.kind n.place ++ core_node n ∷ []
core_here (suc skipped) n = []

-- how many forms are left after a node
abbrev pub left_behind : (skipped left : ℕ) → ExpandedNode → ℕ
left_behind (suc skipped) left n = left
left_behind zero zero n = 0
left_behind zero (suc left) n = if is_function n.kind then left else left + n.parts

-- the first so many forms of these nodes, of which so many belong to a function at first, without the bodies of the functions in them
abbrev pub cores_in : (skipped left : ℕ) → List ExpandedNode → List FormNode
cores_in skipped left [] = []
cores_in skipped left (n ∷ ns) =
    if is_done skipped left then [] else core_here skipped n ++ cores_in (skipped_behind skipped n) (left_behind skipped left n) ns

-- the place of a node that is a function
abbrev pub place_here : ExpandedNode → List ℕ
place_here n = if is_function n.kind then n.place ∷ [] else []

-- one for a place before another
abbrev pub one_before : ℕ → ℕ → ℕ
one_before q p = if nat_lt p q then 1 else 0
