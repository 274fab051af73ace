-- Bytes are one program, or are refused for one reason at one place.
use Rattle.std.proofs.Common.{◌≡◌, ℕ, inl, inr, ◌⊎◌, List, Option, Some, None, refl, ap, subst, sym, ◌∙◌}
use Rattle.lisp_base.specs.declared.refusal.Refusal.{Refusal}
use Rattle.lisp_base.specs.declared.refusal.Refusal.TheVariants.{NotBuilt}
use Rattle.lisp_program.specs.Program.{Program}
use Rattle.lisp_data.specs.Data.{Data}
use Rattle.lisp_reader.specs.Reading.{IsReadable, IsRefusable, NeverBoth as NeverBothText, OneReading, OneRefusal as OneRefusalOfText, ReadOrRefused, Reads as ReadsData}
use Rattle.lisp_reader.specs.Tables.{Tables}
use Rattle.lisp_forms.specs.Program.{Expands, IsRefused as IsRefusedData}
use Rattle.plain_program.specs.Plain.{first_unbuilt, plain_program}
use Rattle.lisp_session.specs.Programs.{IsNoProgram, IsProgram, NeverBoth, OneProgram, OneRefusal, ProgramOrRefused, as_data, as_text, as_unbuilt, first_tables}
use Rattle.lisp_session.proofs.Wholes.{IsNoWhole, IsWhole, not_refused, once_refused, one_whole, whole_or_refused}

-- a whole program is a program, or a form of it is not run yet
whole_told : (bytes : List ℕ) (r : IsReadable bytes first_tables) → IsWhole r.after.symbols r.after.literals r.read → IsProgram bytes ⊎ IsNoProgram bytes
whole_told bytes r w = by (first_unbuilt w.whole.forms) refl
  where
    by : (found : Option ℕ) → first_unbuilt w.whole.forms ≡ found → IsProgram bytes ⊎ IsNoProgram bytes
    by None e =
        inl
        (record {
          tables = r.after;
          program = plain_program w.whole;
          reads = record { read = r.read; reads = r.reads; whole = w.whole; expands = w.expands; built = e; is = refl };
        })
    by (Some place) e = inr (record { refusal = NotBuilt; place = place; refused = as_unbuilt r.after r.read w.whole r.reads w.expands e refl })

-- what is read is a program, or something in it is refused
read_told : (bytes : List ℕ) → IsReadable bytes first_tables → IsProgram bytes ⊎ IsNoProgram bytes
read_told bytes r = by (whole_or_refused r.after.symbols r.after.literals r.read)
  where
    by : IsWhole r.after.symbols r.after.literals r.read ⊎ IsNoWhole r.after.symbols r.after.literals r.read → IsProgram bytes ⊎ IsNoProgram bytes
    by (inl w) = whole_told bytes r w
    by (inr n) = inr (record { refusal = n.refusal; place = n.place; refused = as_data r.after r.read r.reads n.refused })

-- all bytes are a program or are refused
pub program_or_refused : ReadOrRefused → ProgramOrRefused
program_or_refused told bytes = by (told bytes first_tables)
  where
    by : IsReadable bytes first_tables ⊎ IsRefusable bytes first_tables → IsProgram bytes ⊎ IsNoProgram bytes
    by (inl r) = read_told bytes r
    by (inr r) = inr (record { refusal = r.refusal; place = r.place; refused = as_text r.after r.refused })

-- what holds of one reading of these bytes holds of the other
same_read : OneReading → (bytes : List ℕ) (t u : Tables) (d e : List Data) (P : Tables → List Data → Type 0) → ReadsData bytes first_tables t d
    → ReadsData bytes first_tables u e → P u e → P t d
same_read one bytes t u d e P r s h =
    let same = one bytes first_tables t u d e r s in subst (λ x. P t x) (sym same.1) (subst (λ (x : Tables). P x e) (sym same.0) h)

-- the same bytes stand for the same whole program
same_whole : OneReading → (bytes : List ℕ) (t u : Tables) (d e : List Data) (p q : Program) → ReadsData bytes first_tables t d
    → ReadsData bytes first_tables u e → Expands t.symbols t.literals d p → Expands u.symbols u.literals e q → p ≡ q
same_whole one bytes t u d e p q r s x y =
    one_whole t.symbols t.literals d p q x (same_read one bytes t u d e (λ (v : Tables) f. Expands v.symbols v.literals f q) r s y)

-- bytes that stand for a whole program are not refused as data
whole_not_refused : OneReading → (bytes : List ℕ) (t u : Tables) (d e : List Data) (p : Program) (refusal : Refusal) (place : ℕ) → ReadsData bytes first_tables t d
    → ReadsData bytes first_tables u e → Expands t.symbols t.literals d p → IsRefusedData u.symbols u.literals e refusal place → ⊥
whole_not_refused one bytes t u d e p refusal place r s x found =
    not_refused t.symbols t.literals d p refusal place x
    (same_read one bytes t u d e (λ (v : Tables) f. IsRefusedData v.symbols v.literals f refusal place) r s found)

-- bytes are at most one program
pub one_program : OneReading → OneProgram
one_program one bytes t u p q r s =
    let same = one bytes first_tables t u r.read s.read r.reads s.reads in
    let whole : r.whole ≡ s.whole = same_whole one bytes t u r.read s.read r.whole s.whole r.reads s.reads r.expands s.expands in
    (same.0, r.is ∙ ap plain_program whole ∙ sym s.is)

-- the place that is found
place_in : Option ℕ → ℕ
place_in None = 0
place_in (Some p) = p

-- one thing that is found has one place
place_once : (found : Option ℕ) (p q : ℕ) → found ≡ Some p → found ≡ Some q → p ≡ q
unfolding place_in
place_once found p q e f = sym (ap place_in e) ∙ ap place_in f

-- what is found is not nothing
place_some : (found : Option ℕ) (p : ℕ) → found ≡ None → found ≡ Some p → ⊥
place_some found p e h = let none : None ≡ Some p = sym e ∙ h in cc

-- bytes are refused for one reason at one place
pub one_refusal : OneReading → OneRefusalOfText → NeverBothText → OneRefusal
one_refusal one only never bytes m n p q (as_text t a) (as_text u b) = let same = only bytes first_tables t u m n p q a b in (same.0, same.1)
one_refusal one only never bytes m n p q (as_text t a) (as_data u d r b) = absurd (never bytes first_tables u t d m p r a)
one_refusal one only never bytes m n p q (as_text t a) (as_unbuilt u d w r x b e) = absurd (never bytes first_tables u t d m p r a)
one_refusal one only never bytes m n p q (as_data t d r a) (as_text u b) = absurd (never bytes first_tables t u d n q r b)
one_refusal one only never bytes m n p q (as_unbuilt t d w r x a e) (as_text u b) = absurd (never bytes first_tables t u d n q r b)
one_refusal one only never bytes m n p q (as_data t d r a) (as_data u e s b) =
    once_refused t.symbols t.literals d m n p q a
    (same_read one bytes t u d e (λ (v : Tables) f. IsRefusedData v.symbols v.literals f n q) r s b)
one_refusal one only never bytes m n p q (as_data t d r a) (as_unbuilt u e w s x b k) =
    absurd (whole_not_refused one bytes u t e d w m p s r x a)
one_refusal one only never bytes m n p q (as_unbuilt t d w r x a k) (as_data u e s b) =
    absurd (whole_not_refused one bytes t u d e w n q r s x b)
one_refusal one only never bytes m n p q (as_unbuilt t d v r x a k) (as_unbuilt u e w s y b l) =
    let whole : v ≡ w = same_whole one bytes t u d e v w r s x y in
    (k ∙ sym l, place_once (first_unbuilt v.forms) p q a (ap (λ (z : Program). first_unbuilt z.forms) whole ∙ b))

-- no bytes are both a program and refused
pub never_both : OneReading → NeverBothText → NeverBoth
never_both one never bytes tables program refusal place r (as_text t refused) = never bytes first_tables tables t r.read refusal place r.reads refused
never_both one never bytes tables program refusal place r (as_data t d s found) =
    whole_not_refused one bytes tables t r.read d r.whole refusal place r.reads s r.expands found
never_both one never bytes tables program refusal place r (as_unbuilt t d w s x found e) =
    let whole : r.whole ≡ w = same_whole one bytes tables t r.read d r.whole w r.reads s r.expands x in
    place_some (first_unbuilt r.whole.forms) place r.built (ap (λ (z : Program). first_unbuilt z.forms) whole ∙ found)
