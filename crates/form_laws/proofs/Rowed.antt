-- What stands for a form where a block is open, and the same without the block: the rows of the table of forms.
use Rattle.std.proofs.Common.{◌≡◌, inl, ℕ, pos, suc, List, [], ◌∷◌, length, Bool, true, false, Option, Some, None, if◌then◌else◌, refl, ap}
use Rattle.lisp_base.specs.Forest.{NoTrees, Tree}
use Rattle.lisp_base.specs.declared.value.Node.{Node}
use Rattle.lisp_base.specs.declared.value.Node.TheVariants.{Int as AnInt}
use Rattle.lisp_base.specs.declared.refusal.Refusal.TheVariants.{BadForm}
use Rattle.lisp_base.specs.Value.{is_in_range}
use Rattle.lisp_program.specs.declared.form.CoreKind.TheVariants as k
use Rattle.lisp_program.specs.declared.function.Primitive.{Primitive}
use Rattle.form_shapes.specs.declared.expanded.Expanded.TheVariants.{Form, Refused}
use Rattle.form_shapes.specs.declared.keywords.Roles.{Roles}
use Rattle.form_shapes.specs.declared.levels.Level.TheVariants.{Variable}
use Rattle.form_shapes.specs.declared.scope.Target.{Target}
use Rattle.form_shapes.specs.declared.scope.Target.TheVariants.{Local, Special}
use Rattle.form_shapes.specs.Bindings.{opened, opened_by, received_by}
use Rattle.form_shapes.specs.Scopes.{Scope, constant, deeper, has, inside, set_kind}
use Rattle.lisp_forms.specs.Parts.{Parts}
use Rattle.lisp_forms.specs.Rows
use Rattle.lisp_forms.specs.Trees.{Expansion, Single, only, both, leaf, form, nil_form, first, others}
use Rattle.form_laws.proofs.Related.{like, moved, Related, RelatedOne, above, related-append, shift, shifted_core}
use Rattle.form_laws.proofs.Without.{Without, bare, deeper_in, inside_in, outer, shifted_target, shifted_targets}

-- The parts of a list where the block is open, and those of the same list without the block.
pub record RelatedParts (n : ℕ) (s : Scope) (a b : Parts) : Type 0 where
  pub arguments : (roles : Roles) → Related n (a.arguments roles) (b.arguments roles)
  pub body : (w : Without n) (m : ℕ) → Related n (a.body (outer n s w) m) (b.body (bare n s w) m)
  pub forms : (w : Without n) → Related n (a.forms (outer n s w)) (b.forms (bare n s w))
  pub within : (w : Without n) (roles : Roles) → Related n (a.within (outer n s w) roles) (b.within (bare n s w) roles)
  pub values : Related n a.values b.values
  pub values_in_turn : Related n a.values_in_turn b.values_in_turn
  pub pairs : Related n a.pairs b.pairs
  pub ors : RelatedOne n a.ors b.ors
  pub conds : RelatedOne n a.conds b.conds
  pub clauses : Related n a.clauses b.clauses

-- the number of the next level
pub hidden : (n : ℕ) (w : Without n) → w.depth ≡ shift n (suc w.depth)
hidden n w = above n w.depth w.is_inside

-- what holds inside a variable of a `let`
pub opened_by-all : (n : ℕ) (s : Scope) (P : Scope → Scope → Type 0) → ((w : Without n) → P (outer n s w) (bare n s w))
    → (x : ℕ) (w : Without n) → P (opened_by (outer n s w) x) (opened_by (bare n s w) x)
opened_by-all n s P h x w = by (has s.specials x)
  where
    by : (t : Bool) → P (if t then outer n s w else inside (outer n s w) (Variable x)) (if t then bare n s w else inside (bare n s w) (Variable x))
    by true = h w
    by false = h (inside_in n (Variable x) w)

-- inside a parameter
pub received_by-all : (n : ℕ) (s : Scope) (P : Scope → Scope → Type 0) → ((w : Without n) → P (outer n s w) (bare n s w))
    → (x : ℕ) (w : Without n) → P (received_by (outer n s w) x) (received_by (bare n s w) x)
received_by-all n s P h x w = by (has s.specials x)
  where
    by : (t : Bool) → P (if t then deeper (outer n s w) else inside (outer n s w) (Variable x)) (if t then deeper (bare n s w) else inside (bare n s w) (Variable x))
    by true = h (deeper_in n w)
    by false = h (inside_in n (Variable x) w)

-- and inside all variables of a `let`
pub opened-all : (n : ℕ) (s : Scope) (xs : List ℕ) (P : Scope → Scope → Type 0) → ((w : Without n) → P (outer n s w) (bare n s w))
    → (w : Without n) → P (opened (outer n s w) xs) (opened (bare n s w) xs)
opened-all n s [] P h w = h w
opened-all n s (x ∷ xs) P h w = opened_by-all n s (λ u v. P (opened u xs) (opened v xs)) (opened-all n s xs P h) x w

-- the first, and the others
pub related-first : (n p : ℕ) (f f' : Expansion) → Related n f f' → RelatedOne n (first p f) (first p f')
related-first n p NoTrees NoTrees h = like tt
related-first n p NoTrees (Tree kind q under beside) h = absurd h
related-first n p (Tree kind q under beside) NoTrees h = absurd h
related-first n p (Tree kind q under beside) (Tree kind' q' under' beside') h = h.0

pub related-others : (n : ℕ) (f f' : Expansion) → Related n f f' → Related n (others f) (others f')
related-others n NoTrees NoTrees h = tt
related-others n NoTrees (Tree kind q under beside) h = absurd h
related-others n (Tree kind q under beside) NoTrees h = absurd h
related-others n (Tree kind q under beside) (Tree kind' q' under' beside') h = h.1

-- NIL
pub related-nil : (n p : ℕ) → RelatedOne n (nil_form p) (nil_form p)
related-nil n p = like tt

-- a constant
pub related-constant : (n p : ℕ) (v : Node) → RelatedOne n (leaf (constant v) p) (leaf (constant v) p)
related-constant n p v = by (is_in_range v)
  where
    by : (t : Bool) → RelatedOne n (leaf (if t then Form (k.Constant v) else Refused BadForm) p) (leaf (if t then Form (k.Constant v) else Refused BadForm) p)
    by true = like tt
    by false = inl tt

-- a hidden variable, and a `let` of it
pub related-local : (n p g g' : ℕ) → g' ≡ shift n g → RelatedOne n (Rows.local g p) (Rows.local g' p)
related-local n p g g' e = moved (ap (λ x. Form (k.Local x)) e) tt

pub related-hidden : (n p g g' : ℕ) (a a' : Single) (f f' : Expansion) → g' ≡ shift n g → RelatedOne n a a' → Related n f f'
    → RelatedOne n (Rows.hidden_let g p a f) (Rows.hidden_let g' p a' f')
related-hidden n p g g' a a' f f' e h i = like (h, (moved (ap (λ x. Form (k.BindLocal x 0)) e) i, tt))

-- what a variable is bound by
pub bind-shifted : (n : ℕ) (s : Scope) (w : Without n) (g g' x over : ℕ) → g' ≡ shift n g
    → Rows.bind_kind (bare n s w) g' x over ≡ shifted_core n (Rows.bind_kind (outer n s w) g x over)
bind-shifted n s w g g' x over e = by (has s.specials x)
  where
    by : (t : Bool) → (if t then k.BindSpecial x over else k.BindLocal g' over) ≡ shifted_core n (if t then k.BindSpecial x over else k.BindLocal g over)
    by true = refl
    by false = ap (λ y. k.BindLocal y over) e

related-bind : (n : ℕ) (s : Scope) (p x over : ℕ) (f f' : Scope → Expansion) → ((w : Without n) → Related n (f (outer n s w)) (f' (bare n s w))) → (w : Without n)
    → RelatedOne n (Rows.bind_form (outer n s w) p (suc w.depth) x over (f (opened_by (outer n s w) x))) (Rows.bind_form (bare n s w) p w.depth x over (f' (opened_by (bare n s w) x)))
related-bind n s p x over f f' h w =
    moved (ap Form (bind-shifted n s w (suc w.depth) w.depth x over (hidden n w))) (opened_by-all n s (λ u v. Related n (f u) (f' v)) h x w)

-- `let`
related-binds : (n : ℕ) (s : Scope) (p : ℕ) (xs : List ℕ) (body body' : Expansion) → Related n body body' → (w : Without n)
    → Related n (Rows.binds (outer n s w) p xs body) (Rows.binds (bare n s w) p xs body')
related-binds n s p [] body body' h w = h
related-binds n s p (x ∷ xs) body body' h w =
    (related-bind n s p x (length xs) (λ u. Rows.binds u p xs body) (λ u. Rows.binds u p xs body') (related-binds n s p xs body body' h) w, tt)

related-let_of : (n : ℕ) (s : Scope) (p : ℕ) (xs : List ℕ) (values values' body body' : Expansion) → Related n values values' → Related n body body' → (w : Without n)
    → RelatedOne n (Rows.let_of (outer n s w) p xs values body) (Rows.let_of (bare n s w) p xs values' body')
related-let_of n s p [] values values' body body' h i w = like i
related-let_of n s p (x ∷ xs) values values' body body' h i w =
    like (related-append n values values' _ _ h (related-binds n s p (x ∷ xs) body body' i w))

pub related-let : (n : ℕ) (s : Scope) (p : ℕ) (xs : List ℕ) (w : Without n) (a b : Parts) → RelatedParts n s a b
    → RelatedOne n (Rows.let_form (outer n s w) p xs a) (Rows.let_form (bare n s w) p xs b)
related-let n s p xs w a b r =
    related-let_of n s p xs a.values b.values _ _ r.values (opened-all n s xs (λ u v. Related n (a.body u 1) (b.body v 1)) (λ z. r.body z 1) w) w

-- `let*`
related-nested : (n : ℕ) (s : Scope) (p : ℕ) (xs : List ℕ) (values values' body body' : Expansion) → Related n values values' → Related n body body' → (w : Without n)
    → Related n (Rows.nested (outer n s w) p xs values body) (Rows.nested (bare n s w) p xs values' body')
related-nested n s p [] values values' body body' h i w = i
related-nested n s p (x ∷ xs) values values' body body' h i w = (
  like (
    related-first n p values values' h,
    (
      related-bind n s p x 0 (λ u. Rows.nested u p xs (others values) body) (λ u. Rows.nested u p xs (others values') body')
          (related-nested n s p xs (others values) (others values') body body' (related-others n values values' h) i) w,
      tt,
    ),
  ),
  tt,
)

related-let_star_of : (n : ℕ) (s : Scope) (p : ℕ) (xs : List ℕ) (values values' body body' : Expansion) → Related n values values' → Related n body body' → (w : Without n)
    → RelatedOne n (Rows.let_star_of (outer n s w) p xs values body) (Rows.let_star_of (bare n s w) p xs values' body')
related-let_star_of n s p [] values values' body body' h i w = like i
related-let_star_of n s p (x ∷ xs) values values' body body' h i w = (related-nested n s p (x ∷ xs) values values' body body' h i w).0

pub related-let_star : (n : ℕ) (s : Scope) (p : ℕ) (xs : List ℕ) (w : Without n) (a b : Parts) → RelatedParts n s a b
    → RelatedOne n (Rows.let_star_form (outer n s w) p xs a) (Rows.let_star_form (bare n s w) p xs b)
related-let_star n s p xs w a b r =
    related-let_star_of n s p xs a.values_in_turn b.values_in_turn _ _ r.values_in_turn
    (opened-all n s xs (λ u v. Related n (a.body u 1) (b.body v 1)) (λ z. r.body z 1) w) w

-- conditions
pub related-when : (n : ℕ) (s : Scope) (p : ℕ) (w : Without n) (a b : Parts) → RelatedParts n s a b
    → RelatedOne n (Rows.when_form (outer n s w) p a) (Rows.when_form (bare n s w) p b)
related-when n s p w a b r =
    like (related-first n p _ _ (r.forms w), (like (related-others n _ _ (r.forms w)), (related-nil n p, tt)))

pub related-unless : (n : ℕ) (s : Scope) (p : ℕ) (w : Without n) (a b : Parts) → RelatedParts n s a b
    → RelatedOne n (Rows.unless_form (outer n s w) p a) (Rows.unless_form (bare n s w) p b)
related-unless n s p w a b r =
    like (related-first n p _ _ (r.forms w), (related-nil n p, (like (related-others n _ _ (r.forms w)), tt)))

pub related-either : (n p g g' : ℕ) (a a' rest rest' : Single) → g' ≡ shift n g → RelatedOne n a a' → RelatedOne n rest rest'
    → RelatedOne n (Rows.either g p a rest) (Rows.either g' p a' rest')
related-either n p g g' a a' rest rest' e h i =
    related-hidden n p g g' a a' (only (Rows.if_form p (Rows.local g p) (Rows.local g p) rest)) (only (Rows.if_form p (Rows.local g' p) (Rows.local g' p) rest')) e h
    (like (related-local n p g g' e, (related-local n p g g' e, (i, tt))), tt)

pub related-or : (n : ℕ) (s : Scope) (p : ℕ) (t : Bool) (a a' : Single) (rest rest' : Scope → Single) → RelatedOne n a a'
    → ((w : Without n) → RelatedOne n (rest (outer n s w)) (rest' (bare n s w))) → (w : Without n)
    → RelatedOne n (Rows.or_form (outer n s w) p t a rest) (Rows.or_form (bare n s w) p t a' rest')
related-or n s p true a a' rest rest' h i w = h
related-or n s p false a a' rest rest' h i w = related-either n p (suc w.depth) w.depth a a' _ _ (hidden n w) h (i (deeper_in n w))

related-and_of : (n p : ℕ) (f f' : Expansion) → Related n f f' → RelatedOne n (Rows.and_of p f) (Rows.and_of p f')
related-and_of n p NoTrees NoTrees h = like tt
related-and_of n p NoTrees (Tree kind q under beside) h = absurd h
related-and_of n p (Tree kind q under beside) NoTrees h = absurd h
related-and_of n p (Tree kind q under NoTrees) (Tree kind' q' under' NoTrees) h = h.0
related-and_of n p (Tree kind q under NoTrees) (Tree kind' q' under' (Tree l r f g)) h = absurd h.1
related-and_of n p (Tree kind q under (Tree l r f g)) (Tree kind' q' under' NoTrees) h = absurd h.1
related-and_of n p (Tree kind q under (Tree l r f g)) (Tree kind' q' under' (Tree l' r' f' g')) h =
    like (h.0, (related-and_of n p (Tree l r f g) (Tree l' r' f' g') h.1, (related-nil n p, tt)))

pub related-and : (n : ℕ) (s : Scope) (p : ℕ) (w : Without n) (a b : Parts) → RelatedParts n s a b
    → RelatedOne n (Rows.and_form (outer n s w) p a) (Rows.and_form (bare n s w) p b)
related-and n s p w a b r = related-and_of n p _ _ (r.forms w)

pub related-cond : (n : ℕ) (s : Scope) (p : ℕ) (f f' : Expansion) (rest rest' : Scope → Single) → Related n f f'
    → ((w : Without n) → RelatedOne n (rest (outer n s w)) (rest' (bare n s w))) → (w : Without n)
    → RelatedOne n (Rows.clause_of_cond (outer n s w) p f rest) (Rows.clause_of_cond (bare n s w) p f' rest')
related-cond n s p NoTrees NoTrees rest rest' h i w = i w
related-cond n s p NoTrees (Tree kind q under beside) rest rest' h i w = absurd h
related-cond n s p (Tree kind q under beside) NoTrees rest rest' h i w = absurd h
related-cond n s p (Tree kind q under NoTrees) (Tree kind' q' under' NoTrees) rest rest' h i w =
    related-either n p (suc w.depth) w.depth _ _ _ _ (hidden n w) h.0 (i (deeper_in n w))
related-cond n s p (Tree kind q under NoTrees) (Tree kind' q' under' (Tree l r f g)) rest rest' h i w = absurd h.1
related-cond n s p (Tree kind q under (Tree l r f g)) (Tree kind' q' under' NoTrees) rest rest' h i w = absurd h.1
related-cond n s p (Tree kind q under (Tree l r f g)) (Tree kind' q' under' (Tree l' r' f' g')) rest rest' h i w =
    like (h.0, (like h.1, (i w, tt)))

pub related-prog1 : (n : ℕ) (s : Scope) (p : ℕ) (w : Without n) (a b : Parts) → RelatedParts n s a b
    → RelatedOne n (Rows.prog1_form (outer n s w) p a) (Rows.prog1_form (bare n s w) p b)
related-prog1 n s p w a b r =
    related-hidden n p (suc w.depth) w.depth _ _ _ _ (hidden n w) (related-first n p _ _ (r.forms w))
    (related-append n _ _ _ _ (r.body (deeper_in n w) 1) (related-local n p (suc w.depth) w.depth (hidden n w), tt))

-- variables and functions
set-shifted : (n : ℕ) (target : Target) → set_kind (shifted_target n target) ≡ shifted_core n (set_kind target)
set-shifted n (Local x) = refl
set-shifted n (Special x) = refl

pub related-set : (n p : ℕ) (o : Option Target) (q : ℕ) (v v' : Single) → RelatedOne n v v'
    → RelatedOne n (Rows.set_form p o q v) (Rows.set_form p (shifted_targets n o) q v')
related-set n p None q v v' h = inl tt
related-set n p (Some target) q v v' h = moved (ap Form (set-shifted n target)) (h, tt)

related-as_one : (n p : ℕ) (f f' : Expansion) → Related n f f' → RelatedOne n (Rows.as_one p f) (Rows.as_one p f')
related-as_one n p NoTrees NoTrees h = related-nil n p
related-as_one n p NoTrees (Tree kind q under beside) h = absurd h
related-as_one n p (Tree kind q under beside) NoTrees h = absurd h
related-as_one n p (Tree kind q under NoTrees) (Tree kind' q' under' NoTrees) h = h.0
related-as_one n p (Tree kind q under NoTrees) (Tree kind' q' under' (Tree l r f g)) h = absurd h.1
related-as_one n p (Tree kind q under (Tree l r f g)) (Tree kind' q' under' NoTrees) h = absurd h.1
related-as_one n p (Tree kind q under (Tree l r f g)) (Tree kind' q' under' (Tree l' r' f' g')) h = like h

pub related-setq : (n : ℕ) (s : Scope) (p : ℕ) (w : Without n) (a b : Parts) → RelatedParts n s a b
    → RelatedOne n (Rows.setq_form (outer n s w) p a) (Rows.setq_form (bare n s w) p b)
related-setq n s p w a b r = related-as_one n p a.pairs b.pairs r.pairs

related-amount : (n p : ℕ) (f f' : Expansion) → Related n f f' → RelatedOne n (Rows.amount p f) (Rows.amount p f')
related-amount n p NoTrees NoTrees h = related-constant n p (AnInt (pos 1))
related-amount n p NoTrees (Tree kind q under beside) h = absurd h
related-amount n p (Tree kind q under beside) NoTrees h = absurd h
related-amount n p (Tree kind q under beside) (Tree kind' q' under' beside') h = h.0

pub related-change : (n : ℕ) (s : Scope) (p : ℕ) (target : Target) (g : Primitive) (w : Without n) (a b : Parts) → RelatedParts n s a b
    → RelatedOne n (Rows.change_form (outer n s w) p target g a) (Rows.change_form (bare n s w) p (shifted_target n target) g b)
related-change n s p target g w a b r =
    moved (ap Form (set-shifted n target)) (like (related-first n p _ _ (r.forms w), (related-amount n p _ _ (related-others n _ _ (r.forms w)), tt)), tt)

related-folded : (n p : ℕ) (g : Primitive) (f f' : Expansion) (sum sum' : Single) → RelatedOne n sum sum' → Related n f f'
    → RelatedOne n (Rows.folded p g sum f) (Rows.folded p g sum' f')
related-folded n p g NoTrees NoTrees sum sum' h i = h
related-folded n p g NoTrees (Tree kind q under beside) sum sum' h i = absurd i
related-folded n p g (Tree kind q under beside) NoTrees sum sum' h i = absurd i
related-folded n p g (Tree kind q under beside) (Tree kind' q' under' beside') sum sum' h i =
    related-folded n p g beside beside' _ _ (like (h, (i.0, tt))) i.1

related-fold_of : (n p : ℕ) (g : Primitive) (f f' : Expansion) → Related n f f' → RelatedOne n (Rows.fold_of p g f) (Rows.fold_of p g f')
related-fold_of n p g NoTrees NoTrees h = related-nil n p
related-fold_of n p g NoTrees (Tree kind q under beside) h = absurd h
related-fold_of n p g (Tree kind q under beside) NoTrees h = absurd h
related-fold_of n p g (Tree kind q under NoTrees) (Tree kind' q' under' NoTrees) h =
    like (related-constant n p (AnInt (Rows.unit_of g)), (h.0, tt))
related-fold_of n p g (Tree kind q under NoTrees) (Tree kind' q' under' (Tree l r d e)) h = absurd h.1
related-fold_of n p g (Tree kind q under (Tree l r d e)) (Tree kind' q' under' NoTrees) h = absurd h.1
related-fold_of n p g (Tree kind q under (Tree l r d e)) (Tree kind' q' under' (Tree l' r' d' e')) h =
    related-folded n p g (Tree l r d e) (Tree l' r' d' e') _ _ h.0 h.1

pub related-fold : (n : ℕ) (s : Scope) (p : ℕ) (g : Primitive) (w : Without n) (a b : Parts) → RelatedParts n s a b
    → RelatedOne n (Rows.fold_form (outer n s w) p g a) (Rows.fold_form (bare n s w) p g b)
related-fold n s p g w a b r = related-fold_of n p g _ _ (r.forms w)

pub related-twice : (n : ℕ) (s : Scope) (p : ℕ) (g : Primitive) (w : Without n) (a b : Parts) → RelatedParts n s a b
    → RelatedOne n (Rows.twice_form (outer n s w) p g a) (Rows.twice_form (bare n s w) p g b)
related-twice n s p g w a b r =
    let once : RelatedOne n (Rows.local (suc w.depth) p) (Rows.local w.depth p) = related-local n p (suc w.depth) w.depth (hidden n w) in
    let f : ℕ → Expansion = λ x. only (form (k.Apply g) p (both (Rows.local x p) (Rows.local x p))) in
    related-hidden n p (suc w.depth) w.depth _ _ (f (suc w.depth)) (f w.depth) (hidden n w) (related-first n p _ _ (r.forms w)) (like (once, (once, tt)), tt)
