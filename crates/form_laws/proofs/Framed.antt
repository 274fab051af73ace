-- What stands for a form where a block is open, and the same without the block: the rows of loops, frames and locks, and each shape.
use Rattle.std.proofs.Common.{◌≡◌, inl, inr, ℕ, pos, suc, ◌<◌, List, Bool, true, false, Option, Some, None, if◌then◌else◌, refl, ap, sym, subst, arith}
use Rattle.lisp_base.specs.Forest.{NoTrees, Tree}
use Rattle.lisp_base.specs.declared.condition.Class.{Class}
use Rattle.lisp_base.specs.declared.value.Node.TheVariants.{Int as AnInt}
use Rattle.lisp_program.specs.declared.form.CoreKind.{CoreKind}
use Rattle.lisp_program.specs.declared.form.CoreKind.TheVariants as k
use Rattle.form_shapes.specs.declared.expanded.Expanded.{Expanded}
use Rattle.form_shapes.specs.declared.expanded.Expanded.TheVariants.{Form, InBlock, Lambda, Defun, Refused, RefusedFunction}
use Rattle.form_shapes.specs.declared.expanded.Turning.{Turning}
use Rattle.form_shapes.specs.declared.expanded.Turning.TheVariants.{While, Let}
use Rattle.form_shapes.specs.declared.keywords.Roles.TheVariants.{From, Values}
use Rattle.form_shapes.specs.declared.levels.Level.TheVariants.{Block, Region}
use Rattle.form_shapes.specs.declared.shape.Shape.{Shape}
use Rattle.form_shapes.specs.declared.shape.Shape.TheVariants as shape
use Rattle.form_shapes.specs.Scopes.{Scope, deeper, has, inside}
use Rattle.lisp_forms.specs.Parts.{Parts}
use Rattle.lisp_forms.specs.Rows
use Rattle.lisp_forms.specs.Trees.{Expansion, Single, in_front, only, both, three, leaf, form, others, second}
use Rattle.form_laws.proofs.Related.{like, moved, IsDeep, Related, RelatedOne, related-append, shift, shifted_core, shifted_kind}
use Rattle.form_laws.proofs.Without.{Without, bare, deeper_in, inside_in, outer}
use Rattle.form_laws.proofs.Alike.{AreShapes, IsDeepShape, IsFreeShape, shifted_shape}
use Rattle.form_laws.proofs.Rowed.{RelatedParts, bind-shifted, hidden, opened_by-all, related-and, related-change, related-constant, related-either, related-first, related-fold, related-let, related-let_star, related-local, related-nil, related-others, related-prog1, related-setq, related-twice, related-unless, related-when}

-- loops

related-in_block : (n : ℕ) (turning : Turning) (p : ℕ) (w : Without n) (f f' : Expansion) → Related n f f'
    → RelatedOne n (Rows.in_block (suc w.depth) turning p f) (Rows.in_block w.depth turning p f')
related-in_block n turning p w f f' h =
    let deep : n < suc w.depth = omega (arith, w.is_inside) in
    inr (ap (λ x. InBlock x turning) (hidden n w), deep, refl, h)

related-loop : (n : ℕ) (s : Scope) (p : ℕ) (w : Without n) (a b : Parts) → RelatedParts n s a b
    → RelatedOne n (Rows.loop_form (outer n s w) p a) (Rows.loop_form (bare n s w) p b)
related-loop n s p w a b r =
    let turn : Expansion → Expansion = λ f. in_front (Rows.true_form p) f in
    related-in_block n While p w (turn (a.body (inside (outer n s w) (Block 0)) 0)) (turn (b.body (inside (bare n s w) (Block 0)) 0))
    (like tt, r.body (inside_in n (Block 0) w) 0)

-- one form or none
abbrev Perhaps : ℕ → Option Single → Option Single → Type 0
Perhaps n None None = Unit {0}
Perhaps n None (Some b) = ⊥
Perhaps n (Some a) None = ⊥
Perhaps n (Some a) (Some b) = RelatedOne n a b

-- the first, where there is one
abbrev first_of_all : Expansion → Option Single
first_of_all NoTrees = None
first_of_all (Tree kind p under beside) = Some (record { kind = kind; place = p; under = under })

third : (f : Expansion) → Rows.result_of f ≡ first_of_all (others (others f))
third NoTrees = refl
third (Tree kind p under NoTrees) = refl
third (Tree kind p under (Tree kind' p' under' NoTrees)) = refl
third (Tree kind p under (Tree kind' p' under' (Tree kind'' p'' under'' beside))) = refl

perhaps-first : (n : ℕ) (f f' : Expansion) → Related n f f' → Perhaps n (first_of_all f) (first_of_all f')
perhaps-first n NoTrees NoTrees h = tt
perhaps-first n NoTrees (Tree kind q under beside) h = absurd h
perhaps-first n (Tree kind q under beside) NoTrees h = absurd h
perhaps-first n (Tree kind q under beside) (Tree kind' q' under' beside') h = h.0

perhaps-result : (n : ℕ) (f f' : Expansion) → Related n f f' → Perhaps n (Rows.result_of f) (Rows.result_of f')
perhaps-result n f f' h =
    subst (λ o. Perhaps n o (Rows.result_of f')) (sym (third f))
    (subst (λ o. Perhaps n (first_of_all (others (others f))) o) (sym (third f'))
    (perhaps-first n (others (others f)) (others (others f')) (related-others n (others f) (others f') (related-others n f f' h))))

-- the turns of a `dotimes`
related-turn : (n p done done' : ℕ) (kind kind' : CoreKind) (f f' : Expansion) → done' ≡ shift n done → kind' ≡ shifted_core n kind → Related n f f'
    → RelatedOne n (Rows.turn_form p done kind f) (Rows.turn_form p done' kind' f')
related-turn n p done done' kind kind' f f' e i h = like (related-local n p done done' e, (moved (ap Form i) h, tt))

related-result : (n p done done' : ℕ) (kind kind' : CoreKind) (o o' : Option Single) → done' ≡ shift n done → kind' ≡ shifted_core n kind → Perhaps n o o'
    → RelatedOne n (Rows.result_form p done kind o) (Rows.result_form p done' kind' o')
related-result n p done done' kind kind' None None e i h = related-nil n p
related-result n p done done' kind kind' None (Some b) e i h = absurd h
related-result n p done done' kind kind' (Some a) None e i h = absurd h
related-result n p done done' kind kind' (Some a) (Some b) e i h = related-turn n p done done' kind kind' (only a) (only b) e i (h, tt)

related-turns : (n : ℕ) (s : Scope) (p x : ℕ) (w : Without n) (f f' : Expansion) (o o' : Option Single) → Related n f f' → Perhaps n o o'
    → RelatedOne n (Rows.turns_form (outer n s w) p x f o) (Rows.turns_form (bare n s w) p x f' o')
related-turns n s p x w f f' o o' h i =
    let w1 : Without n = inside_in n (Block 0) w in
    let w2 : Without n = deeper_in n w1 in
    let w3 : Without n = deeper_in n w2 in
    let limit : RelatedOne n (Rows.local (suc w1.depth) p) (Rows.local w1.depth p) = related-local n p (suc w1.depth) w1.depth (hidden n w1) in
    let done : RelatedOne n (Rows.local (suc w2.depth) p) (Rows.local w2.depth p) = related-local n p (suc w2.depth) w2.depth (hidden n w2) in
    let kind : Rows.bind_kind (bare n s w) w3.depth x 0 ≡ shifted_core n (Rows.bind_kind (outer n s w) (suc w3.depth) x 0) =
    bind-shifted n s w (suc w3.depth) w3.depth x 0 (hidden n w3) in
    moved (ap (λ y. Form (k.BindLocal y 1)) (hidden n w1)) (
      moved (ap (λ y. Form (k.BindLocal y 0)) (hidden n w2)) (
        like (
          like (done, (limit, tt)),
          (
            related-turn n p (suc w2.depth) w2.depth _ _ f f' (hidden n w2) kind h,
            (moved (ap (λ y. Form (k.SetLocal y)) (hidden n w2)) (like (done, (related-constant n p (AnInt (pos 1)), tt)), tt), tt),
          ),
        ),
        (related-result n p (suc w2.depth) w2.depth _ _ o o' (hidden n w2) kind i, tt),
      ),
      tt,
    )

related-dotimes : (n : ℕ) (s : Scope) (p x : ℕ) (w : Without n) (a b : Parts) → RelatedParts n s a b
    → RelatedOne n (Rows.dotimes_form (outer n s w) p x a) (Rows.dotimes_form (bare n s w) p x b)
related-dotimes n s p x w a b r =
    let w3 : Without n = deeper_in n (deeper_in n (inside_in n (Block 0) w)) in
    let inner : Scope = Rows.in_turn (outer n s w) x in
    let inner' : Scope = Rows.in_turn (bare n s w) x in
    let result : Related n (a.within inner (From 0)) (b.within inner' (From 0)) =
    opened_by-all n s (λ u v. Related n (a.within u (From 0)) (b.within v (From 0))) (λ z. r.within z (From 0)) x w3 in
    let body : Related n (a.body inner 1) (b.body inner' 1) = opened_by-all n s (λ u v. Related n (a.body u 1) (b.body v 1)) (λ z. r.body z 1) x w3 in
    let limits : Related n (a.within (inside (outer n s w) (Block 0)) (From 0)) (b.within (inside (bare n s w) (Block 0)) (From 0)) = r.within (inside_in n (Block 0) w) (From 0) in
    related-in_block n Let p w
    (three (second p (a.within (inside (outer n s w) (Block 0)) (From 0))) (Rows.number_form (pos 0) p)
    (Rows.turns_form (outer n s w) p x (a.body inner 1) (Rows.result_of (a.within inner (From 0)))))
    (three (second p (b.within (inside (bare n s w) (Block 0)) (From 0))) (Rows.number_form (pos 0) p)
    (Rows.turns_form (bare n s w) p x (b.body inner' 1) (Rows.result_of (b.within inner' (From 0))))) (
      related-first n p _ _ (related-others n _ _ limits),
      (
        related-constant n p (AnInt (pos 0)),
        (related-turns n s p x w _ _ _ _ body (perhaps-result n _ _ result), tt),
      ),
    )

-- frames

related-local_form : (n p m m' : ℕ) (f f' : Expansion) → m' ≡ shift n m → Related n f f' → RelatedOne n (Rows.local_form m p f) (Rows.local_form m' p f')
related-local_form n p m m' f f' e h = moved (ap (λ y. Form (k.AllowWithInterrupts y)) e) (like h, tt)

pub related-clause : (n : ℕ) (s : Scope) (p : ℕ) (class : Class) (o : Option ℕ) (w : Without n) (f f' : Expansion) → Related n f f'
    → RelatedOne n (Rows.clause_form (outer n s w) (suc w.depth) p class o f) (Rows.clause_form (bare n s w) w.depth p class o f')
related-clause n s p class None w f f' h = like h
related-clause n s p class (Some x) w f f' h = moved (ap (λ y. Form (k.ClauseWith class y)) (hidden n w)) (by (has s.specials x))
  where
    by : (t : Bool) → Related n
        (if t then only (form k.Let p (both (Rows.local (suc w.depth) p) (form (k.BindSpecial x 0) p f))) else f)
        (if t then only (form k.Let p (both (Rows.local w.depth p) (form (k.BindSpecial x 0) p f'))) else f')
    by true = (like (related-local n p (suc w.depth) w.depth (hidden n w), (like h, tt)), tt)
    by false = h

-- locks

related-locked : (n : ℕ) (p : ℕ) (w1 w2 w3 : Without n) (mutex mutex' test test' : Single) (f f' : Expansion) → RelatedOne n mutex mutex' → RelatedOne n test test' → Related n f f'
    → RelatedOne n (Rows.locked (suc w1.depth) (suc w2.depth) (suc w3.depth) p mutex test f) (Rows.locked w1.depth w2.depth w3.depth p mutex' test' f')
related-locked n p w1 w2 w3 mutex mutex' test test' f f' h i j =
    let release : RelatedOne n (Rows.release_form (suc w1.depth) (suc w2.depth) p) (Rows.release_form w1.depth w2.depth p) =
    like (
      related-local n p (suc w2.depth) w2.depth (hidden n w2),
      (
        like (like (related-local n p (suc w1.depth) w1.depth (hidden n w1), (like tt, tt)), tt),
        (related-nil n p, tt),
      ),
    ) in
    like (
      h,
      (
        related-nil n p,
        (
          moved (ap (λ y. Form (k.BindLocal y 1)) (hidden n w1)) (
            moved (ap (λ y. Form (k.BindLocal y 0)) (hidden n w2)) (
              moved (ap (λ y. Form (k.WithoutInterrupts y)) (hidden n w3)) (
                like (
                  like (i, (like (related-local_form n p (suc w3.depth) w3.depth f f' (hidden n w3) j, tt), (related-nil n p, tt))),
                  (release, tt),
                ),
                tt,
              ),
              tt,
            ),
            tt,
          ),
          tt,
        ),
      ),
    )

related-grabbing : (n p : ℕ) (w1 w2 w3 : Without n) (waitp timeout : Bool) (f f' : Expansion) → Related n f f'
    → RelatedOne n (Rows.grabbing (suc w1.depth) (suc w2.depth) (suc w3.depth) p waitp timeout f) (Rows.grabbing w1.depth w2.depth w3.depth p waitp timeout f')
related-grabbing n p w1 w2 w3 waitp timeout f f' h =
    moved (ap (λ y. Form (k.SetLocal y)) (hidden n w2)) (moved (ap (λ y. Form (k.AllowWithInterrupts y)) (hidden n w3)) (like (related-local n p (suc w1.depth) w1.depth (hidden n w1), h), tt), tt)

related-mutex : (n : ℕ) (s : Scope) (p : ℕ) (waitp timeout : Bool) (w : Without n) (a b : Parts) → RelatedParts n s a b
    → RelatedOne n (Rows.mutex_form (outer n s w) p waitp timeout a) (Rows.mutex_form (bare n s w) p waitp timeout b)
related-mutex n s p waitp timeout w a b r =
    let w2 : Without n = deeper_in n w in
    let w3 : Without n = deeper_in n w2 in
    let w4 : Without n = deeper_in n w3 in
    let operands : Expansion = a.within (outer n s w4) (Values 1) in
    let operands' : Expansion = b.within (bare n s w4) (Values 1) in
    related-locked n p w w2 w3 _ _ (Rows.grabbing (suc w.depth) (suc w2.depth) (suc w3.depth) p waitp timeout operands)
    (Rows.grabbing w.depth w2.depth w3.depth p waitp timeout operands') _ _ (related-first n p _ _ (r.within w (From 0)))
    (related-grabbing n p w w2 w3 waitp timeout operands operands' (r.within w4 (Values 1))) (r.body w4 1)

related-lock : (n : ℕ) (s : Scope) (p : ℕ) (w : Without n) (a b : Parts) → RelatedParts n s a b
    → RelatedOne n (Rows.lock_form (outer n s w) p a) (Rows.lock_form (bare n s w) p b)
related-lock n s p w a b r =
    let w2 : Without n = deeper_in n w in
    let w3 : Without n = deeper_in n w2 in
    let w4 : Without n = deeper_in n w3 in
    let held : RelatedOne n (Rows.held_form (suc w.depth) p) (Rows.held_form w.depth p) = like (related-local n p (suc w.depth) w.depth (hidden n w), tt) in
    let grab : Single = Rows.grabbing (suc w.depth) (suc w2.depth) (suc w3.depth) p false false NoTrees in
    let grab' : Single = Rows.grabbing w.depth w2.depth w3.depth p false false NoTrees in
    related-locked n p w w2 w3 _ _ (Rows.either (suc w4.depth) p (Rows.held_form (suc w.depth) p) grab) (Rows.either w4.depth p (Rows.held_form w.depth p) grab') _ _
    (related-first n p _ _ (r.within w (From 0)))
    (related-either n p (suc w4.depth) w4.depth (Rows.held_form (suc w.depth) p) (Rows.held_form w.depth p) grab grab' (hidden n w4) held
    (related-grabbing n p w w2 w3 false false NoTrees NoTrees tt))
    (r.body w4 1)

-- timers

related-timeout : (n : ℕ) (s : Scope) (p : ℕ) (w : Without n) (a b : Parts) → RelatedParts n s a b
    → RelatedOne n (Rows.timeout_form (outer n s w) p a) (Rows.timeout_form (bare n s w) p b)
related-timeout n s p w a b r =
    let forms : Related n (a.forms (deeper (outer n s w))) (b.forms (deeper (bare n s w))) = r.forms (deeper_in n w) in
    let once : RelatedOne n (Rows.local (suc w.depth) p) (Rows.local w.depth p) = related-local n p (suc w.depth) w.depth (hidden n w) in
    like (
      like (like refl, tt),
      (
        moved (ap (λ x. Form (k.BindLocal x 0)) (hidden n w)) (
          like (once, (related-first n p _ _ forms, tt)),
          (like (like (related-others n _ _ forms), (like (once, tt), tt)), tt),
        ),
        tt,
      ),
    )

-- every shape

-- a list that returns to the block
related-free : (n : ℕ) (s : Scope) (p : ℕ) (a : Shape) (xs : List ℕ) (w : Without n) (parts : Parts) (other : Single) → IsFreeShape n a
    → RelatedOne n (Rows.list_form (outer n s w) p a xs parts) other
related-free n s p (shape.Over kind roles) xs w parts other h = inl h
related-free n s p (shape.OverNil kind roles) xs w parts other h = inl h
related-free n s p _ xs w parts other h = absurd h

-- a list with nothing under it
related-leaf : (n p : ℕ) (kind : Expanded) → IsDeep n kind → RelatedOne n (leaf kind p) (leaf (shifted_kind n kind) p)
related-leaf n p (Form kind) d = like tt
related-leaf n p (InBlock m turning) d = inr (refl, d, refl, tt)
related-leaf n p (Lambda parameters) d = like refl
related-leaf n p (Defun g parameters) d = like refl
related-leaf n p (Refused refusal) d = inl tt
related-leaf n p (RefusedFunction refusal) d = inl tt

-- any other list
related-shape : (n : ℕ) (s : Scope) (p : ℕ) (sh : Shape) (xs : List ℕ) (w : Without n) (a b : Parts) → IsDeepShape n sh → RelatedParts n s a b
    → RelatedOne n (Rows.list_form (outer n s w) p sh xs a) (Rows.list_form (bare n s w) p (shifted_shape n sh) xs b)
related-shape n s p (shape.Wrong refusal q) xs w a b d r = inl tt
related-shape n s p (shape.Leaf kind) xs w a b d r = related-leaf n p kind d
related-shape n s p (shape.Over kind roles) xs w a b d r = like (r.arguments roles)
related-shape n s p (shape.OverNil kind roles) xs w a b d r = like (related-append n _ _ _ _ (r.arguments roles) (related-nil n p, tt))
related-shape n s p shape.When xs w a b d r = related-when n s p w a b r
related-shape n s p shape.Unless xs w a b d r = related-unless n s p w a b r
related-shape n s p shape.Cond xs w a b d r = r.conds
related-shape n s p shape.And xs w a b d r = related-and n s p w a b r
related-shape n s p shape.Or xs w a b d r = r.ors
related-shape n s p shape.Prog1 xs w a b d r = related-prog1 n s p w a b r
related-shape n s p shape.Setq xs w a b d r = related-setq n s p w a b r
related-shape n s p (shape.Change target g) xs w a b d r = related-change n s p target g w a b r
related-shape n s p (shape.Fold g) xs w a b d r = related-fold n s p g w a b r
related-shape n s p (shape.Twice g) xs w a b d r = related-twice n s p g w a b r
related-shape n s p shape.Let xs w a b d r = related-let n s p xs w a b r
related-shape n s p shape.LetStar xs w a b d r = related-let_star n s p xs w a b r
related-shape n s p (shape.Body kind) xs w a b d r = like (r.body w 0)
related-shape n s p (shape.LocalInterrupts m) xs w a b d r = related-local_form n p m (shift n m) _ _ refl (r.body w 0)
related-shape n s p shape.Without xs w a b d r = moved (ap (λ y. Form (k.WithoutInterrupts y)) (hidden n w)) (r.body (inside_in n Region w) 0)
related-shape n s p (shape.Block c) xs w a b d r = moved (ap (λ y. Form (k.Block y)) (hidden n w)) (r.body (inside_in n (Block c) w) 1)
related-shape n s p shape.Catch xs w a b d r = like (related-first n p _ _ (r.forms w), r.body w 1)
related-shape n s p shape.Loop xs w a b d r = related-loop n s p w a b r
related-shape n s p (shape.Dotimes x) xs w a b d r = related-dotimes n s p x w a b r
related-shape n s p shape.IgnoreErrors xs w a b d r =
    like (like (r.forms w), (like (related-nil n p, tt), tt))
related-shape n s p shape.Handler xs w a b d r = like (related-first n p _ _ (r.forms w), r.clauses)
related-shape n s p (shape.Deadline seconds replaces) xs w a b d r = like (related-append n _ _ _ _ (r.within w (Values 0)) (r.body w 1))
related-shape n s p (shape.Mutex waitp timeout) xs w a b d r = related-mutex n s p waitp timeout w a b r
related-shape n s p shape.RecursiveLock xs w a b d r = related-lock n s p w a b r
related-shape n s p shape.Timeout xs w a b d r = related-timeout n s p w a b r
related-shape n s p shape.Terminate xs w a b d r = like (related-first n p _ _ (r.forms w), (like tt, tt))
related-shape n s p (shape.Defun g) xs w a b d r = inl tt

-- a list where the block is open, and the same list without the block
pub related-list : (n : ℕ) (s : Scope) (p : ℕ) (sh sh' : Shape) (xs : List ℕ) (w : Without n) (a b : Parts) → AreShapes n sh sh' → RelatedParts n s a b
    → RelatedOne n (Rows.list_form (outer n s w) p sh xs a) (Rows.list_form (bare n s w) p sh' xs b)
related-list n s p sh sh' xs w a b (inl h) r = related-free n s p sh xs w a _ h
related-list n s p sh sh' xs w a b (inr h) r =
    subst (λ z. RelatedOne n (Rows.list_form (outer n s w) p sh xs a) (Rows.list_form (bare n s w) p z xs b)) (sym h.0) (related-shape n s p sh xs w a b h.1 r)
