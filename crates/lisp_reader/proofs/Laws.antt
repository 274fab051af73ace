-- A text has one reading or one refusal.
use Rattle.std.proofs.Common.{◌≡◌, ℕ, List, Option, Some, None, ap, sym, ◌∙◌, arith}
use Rattle.std.proofs.lemmas.Str.{utf8_valid_len-IsValidUpTo}
use Rattle.lisp_base.specs.declared.refusal.Refusal.{Refusal}
use Rattle.lisp_base.specs.declared.refusal.Refusal.TheVariants.{NotUtf8}
use Rattle.lisp_base.specs.declared.refusal.Refused.{Refused}
use Rattle.lisp_data.specs.Data.{data_of, each, written}
use Rattle.lisp_data.specs.inside.DataCode.{data_back}
use Rattle.lisp_reader.specs.Gathering.{Gathered, faulty}
use Rattle.lisp_reader.specs.Grammar.{Items, data_in, spelled}
use Rattle.lisp_reader.specs.Parts.{Part}
use Rattle.lisp_reader.specs.Reading.{too_long, not_utf8, in_reading, OneReading, OneRefusal, NeverBoth}
use Rattle.lisp_reader.specs.Tables.{Tables}
use Rattle.lisp_reader.proofs.Building.{nodes_built}

-- items that are spelled the same are the same data
same_data : (t : Tables) (is js : Items) (ps : List Part) → spelled is ≡ ps → spelled js ≡ ps → data_in t is ≡ data_in t js
same_data t is js ps h k =
    let nodes : written (data_in t is) ≡ written (data_in t js) = sym (nodes_built t is ps h) ∙ nodes_built t js ps k in
    sym (data_back (data_in t is)) ∙ ap data_of nodes ∙ data_back (data_in t js)

-- a text has at most one reading
pub one_reading : OneReading
one_reading bytes before after after' d e r s =
    let tables : after ≡ after' = r.tables ∙ sym s.tables in (
      tables,
      r.same ∙ ap (λ t. each (data_in t r.items)) tables ∙ ap each (same_data after' r.items s.items _ r.spells s.spells) ∙ sym s.same,
    )

-- a text that is read is not refused
pub never_both : NeverBoth
never_both bytes before after after' d refusal place r (too_long long m p same) = absurd (omega (arith, r.text.short, long))
never_both bytes before after after' d refusal place r (not_utf8 short broken m p same) = absurd (broken r.text.utf8)
never_both bytes before after after' d refusal place r (in_reading text h) =
    let e = sym r.readable ∙ ap (λ (g : Gathered). g.fault) h in absurd (cc)

-- the refusal of a fault; where there is none it does not matter
fault_refusal : Option Refused → Refusal
fault_refusal None = NotUtf8
fault_refusal (Some f) = f.refusal

-- its place
fault_place : Option Refused → ℕ
fault_place None = 0
fault_place (Some f) = f.place

-- the same fault has the same refusal, place and tables
same_fault : (m n : Refusal) (p q : ℕ) (t u : Tables) → faulty m p t ≡ faulty n q u → (m ≡ n) × (p ≡ q) × (t ≡ u)
unfolding fault_refusal fault_place
same_fault m n p q t u e =
    (ap (λ (g : Gathered). fault_refusal g.fault) e, ap (λ (g : Gathered). fault_place g.fault) e, ap (λ (g : Gathered). g.tables) e)

-- a text is refused for one reason at one place
pub one_refusal : OneRefusal
one_refusal bytes before after after' m n p q (too_long a1 a2 a3 a4) (too_long b1 b2 b3 b4) = (a2 ∙ sym b2, a3 ∙ sym b3, a4 ∙ sym b4)
one_refusal bytes before after after' m n p q (too_long a1 a2 a3 a4) (not_utf8 b1 b2 b3 b4 b5) = absurd (omega (arith, a1, b1))
one_refusal bytes before after after' m n p q (too_long a1 a2 a3 a4) (in_reading b1 b2) = absurd (omega (arith, a1, b1.short))
one_refusal bytes before after after' m n p q (not_utf8 a1 a2 a3 a4 a5) (too_long b1 b2 b3 b4) = absurd (omega (arith, a1, b1))
one_refusal bytes before after after' m n p q (not_utf8 a1 a2 a3 a4 a5) (not_utf8 b1 b2 b3 b4 b5) =
    (a3 ∙ sym b3, sym (utf8_valid_len-IsValidUpTo bytes p a4) ∙ utf8_valid_len-IsValidUpTo bytes q b4, a5 ∙ sym b5)
one_refusal bytes before after after' m n p q (not_utf8 a1 a2 a3 a4 a5) (in_reading b1 b2) = absurd (a2 b1.utf8)
one_refusal bytes before after after' m n p q (in_reading a1 a2) (too_long b1 b2 b3 b4) = absurd (omega (arith, b1, a1.short))
one_refusal bytes before after after' m n p q (in_reading a1 a2) (not_utf8 b1 b2 b3 b4 b5) = absurd (b2 a1.utf8)
one_refusal bytes before after after' m n p q (in_reading a1 a2) (in_reading b1 b2) = same_fault m n p q after after' (sym a2 ∙ b2)
