-- Functions with their parameters and bodies, as the code writes them.
use Rattle.std.specs.List.{list_any}
use Rattle.std.proofs.Common.{◌≡◌, ℕ, zero, suc, ◌+◌, List, [], ◌∷◌, ◌++◌, Bool, true, false, ◌||◌, ◌&&◌, not, if◌then◌else◌, nat_lt, length, refl, ap, sym, ◌∙◌, arith, append-nil}
use Rattle.std.proofs.lemmas.Bool.Decides.{nat_tests}
use Rattle.lisp_base.specs.Forest.{count_of}
use Rattle.lisp_program.specs.declared.form.CoreKind.TheVariants.{BindSpecial, Let, Local}
use Rattle.lisp_data.specs.Data.{Data, NoData, Atom, Listed, behind, count_of as data_in}
use Rattle.form_shapes.specs.declared.expanded.Expanded.{Expanded}
use Rattle.form_shapes.specs.declared.expanded.Expanded.TheVariants.{Form}
use Rattle.form_shapes.specs.declared.expanded.ExpandedNode.{ExpandedNode}
use Rattle.form_shapes.specs.declared.levels.Level.TheVariants.{Variable}
use Rattle.form_shapes.specs.Bindings.{after_declarations, function_body_of, is_declaration, is_text, received, received_by}
use Rattle.form_shapes.specs.Seats.{scope_within}
use Rattle.form_shapes.specs.Scopes.{Scope, deeper, has, inside}
use Rattle.lisp_forms.specs.Expansion.{body_in, forms_in, function_body_in, is_none}
use Rattle.lisp_forms.specs.inside.Flat.{flat, flat_one, node}
use Rattle.lisp_forms.specs.Rows.{local, specials_bound}
use Rattle.lisp_forms.specs.Trees.{Expansion, Single, both, form, only}
use Rattle.lisp_forms.specs.inside.Written.{special_nodes, special_parts}
use Rattle.lisp_forms.proofs.Parts.{body-forms}

-- the forms of these or those
forms-either : (s : Scope) (t : Bool) (a : Expansion) (b c : Data) → a ≡ forms_in s b → (if t then a else forms_in s c) ≡ forms_in s (if t then b else c)
forms-either s true a b c h = h
forms-either s false a b c h = refl

-- two and more are more than one
two_more : (n : ℕ) → nat_lt 1 (suc (suc n)) ≡ true
two_more n = grind (arith, nat_tests)

-- something is behind the first
more_than_one : (d : Data) → nat_lt 1 (suc (data_in d)) ≡ not (is_none d)
more_than_one NoData = refl
more_than_one (Atom l p beside) = two_more (data_in beside)
more_than_one (Listed p under beside) = two_more (data_in beside)

-- the body of a function is the forms behind its string and its declarations
pub function-forms : (s : Scope) (n : ℕ) (d : Data) → function_body_in s n d ≡ forms_in s (function_body_of s.names (behind n d))
function-forms s zero NoData = refl
function-forms s (suc n) NoData = refl
function-forms s (suc n) (Atom l p beside) = function-forms s n beside
function-forms s (suc n) (Listed p under beside) = function-forms s n beside
function-forms s zero (Atom l p beside) =
    forms-either s (is_text l && not (is_none beside)) (body_in s zero beside) (after_declarations s.names beside) (Atom l p beside) (body-forms s zero beside)
    ∙ ap (λ t. forms_in s (if is_text l && t then after_declarations s.names beside else Atom l p beside)) (sym (more_than_one beside))
function-forms s zero (Listed p under beside) =
    forms-either s (is_declaration s.names under) (body_in s zero beside) (after_declarations s.names beside) (Listed p under beside) (body-forms s zero beside)

-- what a parameter leaves as it is, and the number that it takes
receives-names : (s : Scope) (x : ℕ) → (received_by s x).names ≡ s.names
receives-names s x = by (has s.specials x)
  where
    by : (t : Bool) → (if t then deeper s else inside s (Variable x)).names ≡ s.names
    by true = refl
    by false = refl

receives-depth : (s : Scope) (x : ℕ) → (received_by s x).depth ≡ suc s.depth
receives-depth s x = by (has s.specials x)
  where
    by : (t : Bool) → (if t then deeper s else inside s (Variable x)).depth ≡ suc s.depth
    by true = refl
    by false = refl

-- the same of all parameters
received-names : (s : Scope) (xs : List ℕ) → (received s xs).names ≡ s.names
received-names s [] = refl
received-names s (x ∷ xs) = received-names (received_by s x) xs ∙ receives-names s x

received-depth : (s : Scope) (xs : List ℕ) → (received s xs).depth ≡ s.depth + length xs
received-depth s [] = omega arith
received-depth s (x ∷ xs) = omega (arith, received-depth (received_by s x) xs, receives-depth s x)

pub within-names : (s : Scope) (xs : List ℕ) → (scope_within s xs).names ≡ s.names
within-names s xs = received-names (record s { levels = []; depth = 0 }) xs

pub within-depth : (s : Scope) (xs : List ℕ) → (scope_within s xs).depth ≡ length xs
within-depth s xs = omega (arith, received-depth (record s { levels = []; depth = 0 }) xs)

-- as many forms as the code counts
pub count-bound : (s : Scope) (p i : ℕ) (xs : List ℕ) (body : Expansion) → count_of (specials_bound s p i xs body) ≡ special_parts s.specials (count_of body) xs
count-bound s p i [] body = refl
count-bound s p i (x ∷ xs) body = by (has s.specials x) (count-bound s p (suc i) xs body)
  where
    by : (t : Bool) → count_of (specials_bound s p (suc i) xs body) ≡ special_parts s.specials (count_of body) xs
        → count_of (if t then only (form Let p (both (local i p) (form (BindSpecial x 0) p (specials_bound s p (suc i) xs body)))) else specials_bound s p (suc i) xs body)
        ≡ (if t || list_any (has s.specials) xs then 1 else count_of body)
    by true h = refl
    by false h = h

-- a binding of a special parameter, written flat
flat-special : (p i x m : ℕ) (inner : Expansion) (after : List ExpandedNode) → count_of inner ≡ m → flat inner ≡ after
    → flat (only (form Let p (both (local i p) (form (BindSpecial x 0) p inner)))) ≡ node (Form Let) p 2 ∷ (node (Form (Local i)) p 0 ∷ (node (Form (BindSpecial x 0)) p m ∷ after))
flat-special p i x m inner after many is =
    ap (λ ns. node (Form Let) p 2 ∷ (node (Form (Local i)) p 0 ∷ (node (Form (BindSpecial x 0)) p (count_of inner) ∷ ns))) (append-nil (flat inner ++ []) ∙ append-nil (flat inner) ∙ is)
    ∙ ap (λ k. node (Form Let) p 2 ∷ (node (Form (Local i)) p 0 ∷ (node (Form (BindSpecial x 0)) p k ∷ after))) many

-- a body with its special parameters, written flat
pub flat-bound : (s : Scope) (p i : ℕ) (xs : List ℕ) (body : Expansion)
    → flat (specials_bound s p i xs body) ≡ special_nodes s.specials p (count_of body) i xs ++ flat body
flat-bound s p i [] body = refl
flat-bound s p i (x ∷ xs) body = by (has s.specials x) (flat-bound s p (suc i) xs body)
  where
    by : (t : Bool) → flat (specials_bound s p (suc i) xs body) ≡ special_nodes s.specials p (count_of body) (suc i) xs ++ flat body
        → flat (if t then only (form Let p (both (local i p) (form (BindSpecial x 0) p (specials_bound s p (suc i) xs body)))) else specials_bound s p (suc i) xs body)
        ≡ (if t then node (Form Let) p 2 ∷ (node (Form (Local i)) p 0 ∷ (node (Form (BindSpecial x 0)) p (special_parts s.specials (count_of body) xs) ∷ special_nodes s.specials p (count_of body) (suc i) xs))
        else special_nodes s.specials p (count_of body) (suc i) xs)
        ++ flat body
    by true h =
        flat-special p i x (special_parts s.specials (count_of body) xs) (specials_bound s p (suc i) xs body)
        (special_nodes s.specials p (count_of body) (suc i) xs ++ flat body) (count-bound s p (suc i) xs body) h
    by false h = h

-- a function, written flat
pub flat-function : (s : Scope) (kind : Expanded) (p : ℕ) (xs : List ℕ) (body : Expansion) (f : Single)
    → f ≡ (record { kind = kind; place = p; under = specials_bound s p 0 xs body })
    → node kind p (special_parts s.specials (count_of body) xs) ∷ (special_nodes s.specials p (count_of body) 0 xs ++ flat body) ≡ flat_one f
flat-function s kind p xs body f h =
    ap (λ ns. node kind p (special_parts s.specials (count_of body) xs) ∷ ns) (sym (flat-bound s p 0 xs body))
    ∙ ap (λ m. node kind p m ∷ flat (specials_bound s p 0 xs body)) (sym (count-bound s p 0 xs body))
    ∙ ap flat_one (sym h)
