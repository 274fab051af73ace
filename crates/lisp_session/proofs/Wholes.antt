-- Data stand for one whole program, or are refused for one reason at one place.
use Rattle.std.proofs.Common.{◌≡◌, ℕ, inl, inr, ◌⊎◌, List, [], Option, Some, None, refl, ap, sym, ◌∙◌}
use Rattle.lisp_base.specs.declared.refusal.Refusal.{Refusal}
use Rattle.lisp_base.specs.declared.refusal.Refusal.TheVariants.{NotBuilt}
use Rattle.lisp_base.specs.declared.refusal.Refused.{Refused}
use Rattle.lisp_program.specs.Program.{Program}
use Rattle.lisp_data.specs.Data.{Data}
use Rattle.lisp_forms.specs.Program.{Expands, IsRefused, core_forms, expansion_of, functions_of, program_refusal, variables_from}

-- the data stand for some whole program
pub record IsWhole (names texts : List (List ℕ)) (ds : List Data) : Type 0 where
  pub whole : Program
  pub expands : Expands names texts ds whole

-- the data are refused for some reason at some place
pub record IsNoWhole (names texts : List (List ℕ)) (ds : List Data) : Type 0 where
  pub refusal : Refusal
  pub place : ℕ
  pub refused : IsRefused names texts ds refusal place

-- data are the one or the other
pub whole_or_refused : (names texts : List (List ℕ)) (ds : List Data) → IsWhole names texts ds ⊎ IsNoWhole names texts ds
whole_or_refused names texts ds = by (program_refusal (expansion_of names texts ds)) refl
  where
    by : (found : Option Refused) → program_refusal (expansion_of names texts ds) ≡ found → IsWhole names texts ds ⊎ IsNoWhole names texts ds
    by None e =
        inl
        (record {
          whole = record {
            forms = core_forms (expansion_of names texts ds);
            functions = functions_of (expansion_of names texts ds);
            specials = variables_from names [] ds;
          };
          expands = record { accepted = e; forms = refl; functions = refl; specials = refl };
        })
    by (Some f) e = inr (record { refusal = f.refusal; place = f.place; refused = e })

-- data stand for at most one whole program
pub one_whole : (names texts : List (List ℕ)) (ds : List Data) (p q : Program) → Expands names texts ds p → Expands names texts ds q → p ≡ q
one_whole names texts ds p q e f =
    ap (λ x. record { forms = x; functions = p.functions; specials = p.specials }) (e.forms ∙ sym f.forms)
    ∙ ap (λ x. record { forms = q.forms; functions = x; specials = p.specials }) (e.functions ∙ sym f.functions)
    ∙ ap (λ x. record { forms = q.forms; functions = q.functions; specials = x }) (e.specials ∙ sym f.specials)

-- what a refusal is; where there is none it does not matter
reason_of : Option Refused → Refusal
reason_of None = NotBuilt
reason_of (Some f) = f.refusal

-- its place
place_of : Option Refused → ℕ
place_of None = 0
place_of (Some f) = f.place

-- one thing that is found has one reason and place
found_once : (found : Option Refused) (m n : Refusal) (p q : ℕ) → found ≡ Some (record { refusal = m; place = p }) → found ≡ Some (record { refusal = n; place = q })
    → (m ≡ n) × (p ≡ q)
unfolding reason_of place_of
found_once found m n p q e f = (sym (ap reason_of e) ∙ ap reason_of f, sym (ap place_of e) ∙ ap place_of f)

-- data are refused for one reason at one place
pub once_refused : (names texts : List (List ℕ)) (ds : List Data) (m n : Refusal) (p q : ℕ) → IsRefused names texts ds m p → IsRefused names texts ds n q
    → (m ≡ n) × (p ≡ q)
once_refused names texts ds m n p q e f = found_once (program_refusal (expansion_of names texts ds)) m n p q e f

-- what is found is not nothing
found_some : (found : Option Refused) (f : Refused) → found ≡ None → found ≡ Some f → ⊥
found_some found f e h = let none : None ≡ Some f = sym e ∙ h in cc

-- no data are both
pub not_refused : (names texts : List (List ℕ)) (ds : List Data) (p : Program) (refusal : Refusal) (place : ℕ) → Expands names texts ds p
    → IsRefused names texts ds refusal place → ⊥
not_refused names texts ds p refusal place e found =
    found_some (program_refusal (expansion_of names texts ds)) (record { refusal = refusal; place = place }) e.accepted found
