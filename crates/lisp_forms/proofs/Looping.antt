-- A `loop` and a `dotimes`.
use Rattle.std.proofs.Common.{◌≡◌, ℕ, suc, pos, ◌+◌, List, [], ◌∷◌, ◌++◌, Option, refl, ap, sym, ◌∙◌, add-one, append_assoc, append-nil}
use Rattle.lisp_base.specs.Writing.{Wrote}
use Rattle.lisp_base.proofs.Writing.{wrote_same}
use Rattle.lisp_base.specs.Forest.{count_of}
use Rattle.lisp_program.specs.declared.form.CoreKind.{CoreKind}
use Rattle.lisp_program.specs.declared.form.CoreKind.TheVariants.{BindLocal, While as WhileForm}
use Rattle.lisp_data.specs.Data.{Data, behind, count_of as data_in}
use Rattle.form_shapes.specs.declared.expanded.Expanded.TheVariants.{Form, InBlock}
use Rattle.form_shapes.specs.declared.expanded.Turning.TheVariants.{Let, While}
use Rattle.form_shapes.specs.declared.expanded.ExpandedNode.{ExpandedNode}
use Rattle.form_shapes.specs.declared.keywords.Roles.TheVariants.{From}
use Rattle.form_shapes.specs.declared.levels.Level.TheVariants.{Block}
use Rattle.form_shapes.specs.declared.scope.Opened.{Opened}
use Rattle.form_shapes.specs.Bindings.{after_declarations, opened_by}
use Rattle.form_shapes.specs.inside.Contexts.{with_opened}
use Rattle.form_shapes.specs.inside.One.{items_first}
use Rattle.form_shapes.specs.Scopes.{Scope, inside}
use Rattle.lisp_forms.specs.Expansion.{body_in, forms_in, within_first}
use Rattle.lisp_forms.specs.inside.Flat.{flat, flat_one, node}
use Rattle.lisp_forms.specs.Rows.{bind_kind, in_block, more_form, number_form, result_form, step_form, true_form, turn_form, turns_form, in_dotimes, in_turn, result_of}
use Rattle.lisp_forms.specs.Trees.{Expansion, Single, both, first, form, in_front, only, second, three}
use Rattle.lisp_forms.specs.inside.Written.{turn_head}
use Rattle.lisp_forms.proofs.Parts.{body-forms, count-forms, last_step, others-forms, roles-from_0, two_steps, within-items}

-- a `loop`
pub loop_written : (s : Scope) (o : Opened) (p name n : ℕ) (args body : Data) (old new : Option (List ExpandedNode))
    → with_opened s o ≡ inside s (Block name) → name ≡ 0 → body ≡ after_declarations s.names args → n ≡ data_in body
    → Wrote old new ((node (InBlock s.depth While) p (n + 1) ∷ flat_one (true_form p)) ++ flat (forms_in (with_opened s o) body))
    → Wrote old new (flat_one (in_block s.depth While p (in_front (true_form p) (body_in (inside s (Block 0)) 0 args))))
loop_written s o p name n args body old new opens nil begins many done =
    let t : Scope = with_opened s o in
    let fs : Expansion = forms_in t body in
    let same : fs ≡ body_in (inside s (Block 0)) 0 args =
    ap (forms_in t) begins ∙ sym (body-forms t 0 args) ∙ ap (λ u. body_in u 0 args) (opens ∙ ap (λ m. inside s (Block m)) nil) in
    let count : n + 1 ≡ suc (count_of fs) = add-one n ∙ ap suc (many ∙ sym (count-forms t body)) in
    wrote_same old new _ _ done
    (ap (λ m. (node (InBlock s.depth While) p m ∷ flat_one (true_form p)) ++ flat fs) count
    ∙ ap (λ e. flat_one (in_block s.depth While p (in_front (true_form p) e))) same)

-- the second in the list that is the first
second-within : (t : Scope) (p : ℕ) (args items rest : Data) → items ≡ items_first args → rest ≡ behind 1 items
    → first p (forms_in t rest) ≡ second p (within_first t (From 0) args)
second-within t p args items rest is behind =
    ap (λ d. first p (forms_in t d)) behind ∙ sym (ap (first p) (others-forms t items))
    ∙ ap (λ d. second p (forms_in t d)) is ∙ sym (ap (second p) (within-items t (From 0) args ∙ roles-from_0 t (items_first args)))

-- a node and three forms
three_nodes : (n : ExpandedNode) (a b c : Single) → ((n ∷ flat_one a) ++ flat_one b) ++ flat_one c ≡ n ∷ flat (three a b c)
three_nodes n a b c = rw (append_assoc, append-nil) refl

-- a `dotimes`
pub dotimes_written : (s : Scope) (o : Opened) (p name x : ℕ) (args items rest : Data) (body : Expansion) (result : Option Single) (old new : Option (List ExpandedNode))
    → with_opened s o ≡ inside s (Block name) → name ≡ 0 → items ≡ items_first args → rest ≡ behind 1 items
    → Wrote old new (((node (InBlock s.depth Let) p 3 ∷ flat_one (first p (forms_in (with_opened s o) rest))) ++ flat_one (number_form (pos 0) p)) ++ flat_one (turns_form s p x body result))
    → Wrote old new (flat_one (in_block s.depth Let p (three (second p (within_first (inside s (Block 0)) (From 0) args)) (number_form (pos 0) p) (turns_form s p x body result))))
dotimes_written s o p name x args items rest body result old new opens nil is behind done =
    let t : Scope = with_opened s o in
    let turns : Single = second p (within_first (inside s (Block 0)) (From 0) args) in
    let same : first p (forms_in t rest) ≡ turns =
    second-within t p args items rest is behind ∙ ap (λ u. second p (within_first u (From 0) args)) (opens ∙ ap (λ m. inside s (Block m)) nil) in
    let zero : Single = number_form (pos 0) p in
    let inner : Single = turns_form s p x body result in
    let head : ExpandedNode = node (InBlock s.depth Let) p 3 in
    wrote_same old new _ _ done
    (ap (λ a. ((head ∷ flat_one a) ++ flat_one zero) ++ flat_one inner) same ∙ three_nodes head turns zero inner)

-- what a `dotimes` does behind its number of turns, by the numbers of its variables
abbrev turns_of : ℕ → (limit done : ℕ) → CoreKind → Expansion → Option Single → Single
turns_of p limit done kind body result =
    form (BindLocal limit 1) p (only (form (BindLocal done 0) p
    (both (form WhileForm p (three (more_form p limit done) (turn_form p done kind body) (step_form p done))) (result_form p done kind result))))

-- its nodes in front of its result
abbrev turns_front : ℕ → (limit done k : ℕ) → CoreKind → List ExpandedNode → List ExpandedNode
turns_front p limit done k kind body =
    (node (Form (BindLocal limit 1)) p 1 ∷ []) ++ ((node (Form (BindLocal done 0)) p 2 ∷ []) ++ ((node (Form WhileForm) p 3 ∷ [])
    ++ (flat_one (more_form p limit done) ++ (turn_head p done kind k ++ (body ++ flat_one (step_form p done))))))

-- nothing stands behind the parts of a form
nothing_behind : (front body step result : List ExpandedNode) → front ++ ((body ++ step) ++ result) ≡ front ++ ((((body ++ []) ++ step) ++ (result ++ [])) ++ [])
nothing_behind front body step result =
    ap (λ ns. front ++ ns) (sym (append-nil (((body ++ []) ++ step) ++ (result ++ [])) ∙ ap (λ ns. (ns ++ step) ++ (result ++ [])) (append-nil body)
    ∙ ap (λ ns. (body ++ step) ++ ns) (append-nil result)))

flat-turns : (p limit done k : ℕ) (kind : CoreKind) (body : Expansion) (result : Option Single) → k ≡ count_of body
    → turns_front p limit done k kind (flat body) ++ flat_one (result_form p done kind result) ≡ flat_one (turns_of p limit done kind body result)
flat-turns p limit done k kind body result many =
    let front : List ExpandedNode =
    (node (Form (BindLocal limit 1)) p 1 ∷ []) ++ ((node (Form (BindLocal done 0)) p 2 ∷ []) ++ ((node (Form WhileForm) p 3 ∷ [])
    ++ (flat_one (more_form p limit done) ++ turn_head p done kind (count_of body)))) in
    ap (λ m. turns_front p limit done m kind (flat body) ++ flat_one (result_form p done kind result)) many
    ∙ nothing_behind front (flat body) (flat_one (step_form p done)) (flat_one (result_form p done kind result))

-- the numbers are those behind the block
turns-same : (s : Scope) (p x limit done : ℕ) (kind : CoreKind) (body b : Expansion) (result r : Option Single)
    → limit ≡ suc s.depth → done ≡ suc (suc s.depth) → kind ≡ bind_kind s (suc (suc (suc s.depth))) x 0 → body ≡ b → result ≡ r
    → flat_one (turns_of p limit done kind body result) ≡ flat_one (turns_form s p x b r)
turns-same s p x limit done kind body b result r h i j k l =
    let last : ℕ = suc (suc s.depth) in
    let bound : CoreKind = bind_kind s (suc last) x 0 in
    ap (λ n. flat_one (turns_of p n done kind body result)) h ∙ ap (λ n. flat_one (turns_of p (suc s.depth) n kind body result)) i
    ∙ ap (λ n. flat_one (turns_of p (suc s.depth) last n body result)) j ∙ ap (λ n. flat_one (turns_of p (suc s.depth) last bound n result)) k
    ∙ ap (λ n. flat_one (turns_of p (suc s.depth) last bound b n)) l

-- the turns of a `dotimes`
pub turns_written : (s : Scope) (o o' : Opened) (p x limit done k : ℕ) (kind : CoreKind) (args rest body : Data) (old a b c d e f g new : List ExpandedNode)
    → with_opened s o ≡ in_dotimes s → limit ≡ s.depth + 1 → done ≡ limit + 1 → kind ≡ bind_kind s o.depth x 0 → with_opened s o' ≡ opened_by (with_opened s o) x
    → rest ≡ behind 1 args → body ≡ after_declarations s.names rest → k ≡ data_in body
    → a ≡ old ++ node (Form (BindLocal limit 1)) p 1 ∷ [] → b ≡ a ++ node (Form (BindLocal done 0)) p 2 ∷ [] → c ≡ b ++ node (Form WhileForm) p 3 ∷ []
    → d ≡ c ++ flat_one (more_form p limit done) → e ≡ d ++ turn_head p done kind k → f ≡ e ++ flat (forms_in (with_opened s o') body) → g ≡ f ++ flat_one (step_form p done)
    → new ≡ g ++ flat_one (result_form p done kind (result_of (within_first (with_opened s o') (From 0) args)))
    → new ≡ old ++ flat_one (turns_form s p x (body_in (in_turn s x) 1 args) (result_of (within_first (in_turn s x) (From 0) args)))
turns_written s o o' p x limit done k kind args rest body old a b c d e f g new opens one two same inner behind begins many ha hb hc hd he hf hg h =
    let u : Scope = with_opened s o' in
    let fs : Expansion = forms_in u body in
    let now : u ≡ in_turn s x = inner ∙ ap (λ t. opened_by t x) opens in
    let under : fs ≡ body_in (in_turn s x) 1 args =
    ap (forms_in u) (begins ∙ ap (after_declarations s.names) behind) ∙ sym (body-forms u 1 args) ∙ ap (λ t. body_in t 1 args) now in
    let result : Option Single = result_of (within_first u (From 0) args) in
    let limit' : limit ≡ suc s.depth = one ∙ add-one s.depth in
    let done' : done ≡ suc (suc s.depth) = two ∙ add-one limit ∙ ap suc limit' in
    let kind' : kind ≡ bind_kind s (suc (suc (suc s.depth))) x 0 = same ∙ ap (λ t. bind_kind s t.depth x 0) opens in
    let front : g ≡ old ++ turns_front p limit done k kind (flat fs) =
    two_steps old a g _ _ ha (two_steps a b g _ _ hb (two_steps b c g _ _ hc (two_steps c d g _ _ hd (two_steps d e g _ _ he (two_steps e f g _ _ hf hg))))) in
    last_step old g new (turns_front p limit done k kind (flat fs)) (flat_one (result_form p done kind result)) _ front
    (flat-turns p limit done k kind fs result (many ∙ sym (count-forms u body))
    ∙ turns-same s p x limit done kind fs _ result _ limit' done' kind' under (ap (λ t. result_of (within_first t (From 0) args)) now)) h
