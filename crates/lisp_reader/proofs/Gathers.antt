-- How the parts of a text are gathered one by one.
use Rattle.std.specs.Result.{IfErr}
use Rattle.std.specs.Str.{IsUtf8}
use Rattle.std.proofs.Common.{◌≡◌, ℕ, ◌≤◌, Result, Ok, Err, IfOk, OnOk, Option, Some, None, inl, inr, map, List, [], ◌∷◌, ◌++◌, length, drop, refl, ap, sym, subst, ◌∙◌, append-nil, append_assoc}
use Rattle.std.proofs.lemmas.List.{drop_all}
use Rattle.lisp_base.specs.declared.refusal.Refusal.{Refusal}
use Rattle.lisp_base.specs.declared.refusal.Rejection.{Rejection}
use Rattle.lisp_base.specs.declared.refusal.Rejection.TheVariants.{Refused, Memory}
use Rattle.lisp_reader.specs.declared.gather.Mark.{Mark}
use Rattle.lisp_reader.specs.declared.opens.Opening.{Opening}
use Rattle.lisp_reader.specs.declared.scan.PartKind.{PartKind}
use Rattle.lisp_reader.specs.declared.scan.Scanned.TheVariants.{Found}
use Rattle.lisp_reader.specs.Gathering.{Gathered, HoldsFront, at_end, faulty, gathered, place_in, taken, unless_fault, with_part, with_parts}
use Rattle.lisp_reader.specs.inside.Marking.{IsEndRefusal, IsRefusalOf, RefusedPart, TookPart, faultless, mark_of, marks_from}
use Rattle.lisp_reader.specs.Parts.{Between, Part, parts_from, parts_of}
use Rattle.lisp_reader.specs.inside.Scanning.{IsScanned, part_of}
use Rattle.lisp_reader.specs.Tables.{Tables}
use Rattle.lisp_reader.proofs.Stays.{marks_stay}
use Rattle.lisp_reader.proofs.Used.{taken_uses}

-- So far at a place of a text: what is left decides what the text comes to, and its marks with those so far are all. The tables have what
-- the parts in front use.
pub record Goes (text : List ℕ) (at : ℕ) (first : Tables) (os : List Opening) (t : Tables) (marks : List Mark) : Type 0 where
  pub inside : at ≤ length text
  pub whole : IsUtf8 (drop at text)
  pub same : gathered os t (parts_from Between at (drop at text)) ≡ gathered [] first (parts_of text)
  pub all : marks ++ marks_from os t (parts_from Between at (drop at text)) ≡ marks_from [] first (parts_of text)
  pub used : List Part
  pub split : parts_of text ≡ used ++ parts_from Between at (drop at text)
  pub tables : t ≡ with_parts first used

-- one part more is used
with_more : (t : Tables) (used : List Part) (part : Part) → with_parts t (used ++ part ∷ []) ≡ with_part (with_parts t used) part
with_more t [] part = refl
with_more t (p ∷ ps) part = with_more (with_part t p) ps part

-- a part that is taken without a fault leaves what comes after it
after_part : (f : Option Refusal) (place : ℕ) (u : Tables) (later : Gathered) → f ≡ None → unless_fault f place u later ≡ later
after_part f place u later h = rw h refl

-- behind a part that was taken it goes on
pub goes_part : (text : List ℕ) (at next : ℕ) (kind : PartKind) (first : Tables) (os os' : List Opening) (t t' : Tables) (marks marks' : List Mark)
    → Goes text at first os t marks → IsScanned text at (Found kind next) → TookPart (part_of text at kind) os os' t t' marks marks'
    → Goes text next first os' t' marks'
goes_part text at next kind first os os' t t' marks marks' g h k =
    let part = part_of text at kind in
    let later = parts_from Between next (drop next text) in
    let x = taken os t part in
    record {
      inside = h.0.inside;
      whole = h.0.whole;
      same =
          rw (k.opens, k.tables)
          (sym (after_part x.fault (place_in part) x.tables (gathered x.opens x.tables later) k.fine) ∙ ap (gathered os t) (sym h.1) ∙ g.same);
      all =
          ap (λ ms. ms ++ marks_from os' t' later) k.marks ∙ append_assoc marks (mark_of t' part ∷ []) (marks_from os' t' later)
          ∙ rw (k.opens, k.tables) (ap (λ ps. marks ++ marks_from os t ps) (sym h.1)) ∙ g.all;
      used = g.used ++ part ∷ [];
      split = g.split ∙ ap (λ ps. g.used ++ ps) h.1 ∙ sym (append_assoc g.used (part ∷ []) later);
      tables = k.tables ∙ taken_uses os t part k.fine ∙ ap (λ (u : Tables). with_part u part) g.tables ∙ sym (with_more first g.used part);
    }

-- want of memory between parts comes behind a front of them
pub front_so_far : (text : List ℕ) (at : ℕ) (first : Tables) (os : List Opening) (t : Tables) (marks : List Mark) → Goes text at first os t marks
    → HoldsFront (parts_of text) first t
front_so_far text at first os t marks g =
    record { used = g.used; others = parts_from Between at (drop at text); split = g.split; tables = g.tables }

-- the front with a part that is used behind it
front_more : (text : List ℕ) (at : ℕ) (first : Tables) (os : List Opening) (t t' : Tables) (marks : List Mark) (part : Part) (later : List Part)
    → Goes text at first os t marks → parts_from Between at (drop at text) ≡ part ∷ later → t' ≡ with_part t part → HoldsFront (parts_of text) first t'
front_more text at first os t t' marks part later g h more =
    record {
      used = g.used ++ part ∷ [];
      others = later;
      split = g.split ∙ ap (λ ps. g.used ++ ps) h ∙ sym (append_assoc g.used (part ∷ []) later);
      tables = more ∙ ap (λ (u : Tables). with_part u part) g.tables ∙ sym (with_more first g.used part);
    }

-- the fault of a part ends what is gathered
at_fault : (f : Option Refusal) (place at : ℕ) (refusal : Refusal) (u v : Tables) (later : Gathered) → f ≡ Some refusal → at ≡ place → v ≡ u
    → unless_fault f place u later ≡ faulty refusal at v
at_fault f place at refusal u v later h p e = rw (h, p, e) refl

-- what is refused of a part is refused of the text
pub refused_part : (text : List ℕ) (at next : ℕ) (kind : PartKind) (first : Tables) (os : List Opening) (t t' : Tables) (marks : List Mark) (refusal : Rejection)
    → Goes text at first os t marks → IsScanned text at (Found kind next) → RefusedPart (part_of text at kind) os t t' refusal
    → IsRefusalOf (parts_of text) first t' refusal
refused_part text at next kind first os t t' marks (Refused refusal place) g h r =
    let part = part_of text at kind in
    let x = taken os t part in
    let later = gathered x.opens x.tables (parts_from Between next (drop next text)) in
    sym g.same ∙ ap (gathered os t) h.1 ∙ at_fault x.fault (place_in part) place refusal x.tables t' later r.0 r.1 r.2
refused_part text at next kind first os t t' marks Memory g h (inl same) =
    subst (HoldsFront (parts_of text) first) (sym same) (front_so_far text at first os t marks g)
refused_part text at next kind first os t t' marks Memory g h (inr more) =
    front_more text at first os t t' marks (part_of text at kind) (parts_from Between next (drop next text)) g h.1 more

-- at the end of a text nothing is left
pub goes_all : (text : List ℕ) (at : ℕ) (first : Tables) (os : List Opening) (t : Tables) (marks : List Mark) → length text ≤ at → Goes text at first os t marks
    → (at_end os t ≡ gathered [] first (parts_of text)) × (marks ≡ marks_from [] first (parts_of text))
goes_all text at first os t marks past g =
    let nothing : drop at text ≡ [] = drop_all at text past in (
      ap (λ (bs : List ℕ). gathered os t (parts_from Between at bs)) (sym nothing) ∙ g.same,
      sym (append-nil marks) ∙ ap (λ (bs : List ℕ). marks ++ marks_from os t (parts_from Between at bs)) (sym nothing) ∙ g.all,
    )

-- what is refused at the end is what the text comes to
pub refused_end : {A : Type 0} (text : List ℕ) (at : ℕ) (first : Tables) (os : List Opening) (t : Tables) (marks : List Mark) (result : Result A Rejection)
    → length text ≤ at → Goes text at first os t marks → IfErr result (IsEndRefusal os t)
    → IfErr result (IsRefusalOf (parts_of text) first t)
refused_end text at first os t marks (Ok m) past g h = tt
refused_end text at first os t marks (Err (Refused refusal place)) past g h = sym (goes_all text at first os t marks past g).0 ∙ h
refused_end text at first os t marks (Err Memory) past g h = absurd h

-- what is marked at the end are the marks of the text
pub marked_end : {A : Type 0} (text : List ℕ) (at : ℕ) (first : Tables) (os : List Opening) (t : Tables) (marks : List Mark) (result : Result A Rejection)
    (items : A → List Mark) → length text ≤ at → Goes text at first os t marks → OnOk result (at_end os t ≡ faultless t) → IfOk result (λ m. items m ≡ marks)
    → IfOk result (λ m. items m ≡ map (mark_of t) (parts_of text))
marked_end text at first os t marks (Ok m) items past g ends is =
    let all = goes_all text at first os t marks past g in is ∙ all.1 ∙ marks_stay [] first t (parts_of text) (sym all.0 ∙ ends)
marked_end text at first os t marks (Err r) items past g ends is = tt
