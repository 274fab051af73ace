-- What a source had and what a sink holds, over several calls, and texts that are sent page by page.
use Rattle.std.proofs.Common.{◌≡◌, ℕ, ◌+◌, ◌<◌, ◌≤◌, List, [], ◌∷◌, ◌++◌, Option, Some, None, Result, Ok, Err, IfErr, IsErrAnd, length, length-append, take, drop, refl, ap, sym, subst, ◌∙◌, append_assoc, append-nil, take-add, suc, IsSome, arith}
use Rattle.std.proofs.Math.Seq.{take-append-add, take-append_seam}
use Rattle.std.proofs.lemmas.List.{take-append-le}
use Rattle.std.specs.Io.KnownBytes.{Appends, Keeps, Consumes, IsAtEnd}
use Rattle.lisp_base.specs.Writing.{Wrote}
use Rattle.lisp_journal.specs.Lines.{WroteLine, WroteNothing}
use Rattle.lisp_reader.specs.Reading.{longest}
use Rattle.lisp_session.specs.Headline.{WereRead, WereTaken}
use Rattle.lisp_session.specs.inside.Ends.{IsSending, IsSpread, StopsPage, StopsReading, StopsRead, TurnedPage}
use Rattle.lisp_session.specs.Texts.{StopsWrite, StopsWriting, WroteWhole}
use Rattle.lisp_session.specs.declared.input.ReadFailure.{ReadFailure}
use Rattle.lisp_session.specs.declared.output.WriteFailure.{WriteFailure}

-- a piece is written after the pieces before it
pub wrote_more : (before now after : Option (List ℕ)) (text : List ℕ) (at n : ℕ)
    → Appends before now (take at text) → Appends now after (take n (drop at text)) → Appends before after (take (at + n) text)
wrote_more None now after text at n h k = tt
wrote_more (Some xs) None after text at n h k = absurd h
wrote_more (Some xs) (Some ys) None text at n h k = absurd k
wrote_more (Some xs) (Some ys) (Some zs) text at n h k = rw (k, h, take-add) (append_assoc xs (take at text) (take n (drop at text)))

-- the end was found after what was taken
pub read_to_end : (before now after : Option (List ℕ)) (text : List ℕ)
    → Consumes before now text → length text ≤ longest → Keeps now after → IsAtEnd now → WereRead before after text
read_to_end None now after text h few k e = record { taken = record { taken = tt; few = omega arith }; ended = λ _. tt }
read_to_end (Some xs) None after text h few k e = absurd h
read_to_end (Some xs) (Some ys) None text h few k e = absurd k
read_to_end (Some xs) (Some ys) (Some zs) text h few k e =
    record { taken = record { taken = h ∙ ap (λ t. text ++ t) (sym k); few = omega arith }; ended = λ _. ap (λ t. Some t) (k ∙ e) }

-- what a call left after what was taken before it
pub took_more : (before now after : Option (List ℕ)) (xs ys : List ℕ) → Consumes before now xs → Consumes now after ys → Consumes before after (xs ++ ys)
took_more None now after xs ys h k = tt
took_more (Some b) None after xs ys h k = absurd h
took_more (Some b) (Some n) None xs ys h k = absurd k
took_more (Some b) (Some n) (Some a) xs ys h k = rw (h, k) (sym (append_assoc xs ys a))

-- what is written, one text after another
pub wrote_both : (before now after : Option (List ℕ)) (xs ys : List ℕ) → Appends before now xs → Appends now after ys → Appends before after (xs ++ ys)
wrote_both None now after xs ys h k = tt
wrote_both (Some b) None after xs ys h k = absurd h
wrote_both (Some b) (Some n) None xs ys h k = absurd k
wrote_both (Some b) (Some n) (Some a) xs ys h k = rw (k, h) (append_assoc b xs ys)

-- the sink gained nothing
pub wrote_none : (held held' : Option (List ℕ)) → Keeps held held' → Appends held held' []
wrote_none None held' k = tt
wrote_none (Some xs) None k = absurd k
wrote_none (Some xs) (Some ys) k = k ∙ sym (append-nil xs)

-- and then it kept what it held
keeps_on : (before now after : Option (List ℕ)) (xs : List ℕ) → Appends before now xs → Keeps now after → Appends before after xs
keeps_on None now after xs h k = tt
keeps_on (Some b) None after xs h k = absurd h
keeps_on (Some b) (Some n) None xs h k = absurd k
keeps_on (Some b) (Some n) (Some a) xs h k = k ∙ h

-- the page, as what it holds
sent_spread : (whole written : List ℕ) (page : Option (List ℕ)) (left text : List ℕ) → IsSpread whole written page left → page ≡ Some text
    → whole ≡ written ++ (text ++ left)
sent_spread whole written None left text h e = absurd h
sent_spread whole written (Some t) left text h e = cc

-- a line came to the page
line_spread : (whole written left left' text line : List ℕ) (page : Option (List ℕ)) → IsSpread whole written page left → left ≡ line ++ left'
    → Wrote page (Some text) line → whole ≡ written ++ (text ++ left')
line_spread whole written left left' text line None h e w = absurd h
line_spread whole written left left' text line (Some before) h e w = rw (h, e, w) (ap (λ t. written ++ t) (sym (append_assoc before line left')))

-- the next line is on the page
pub sent_line : (held held' : Option (List ℕ)) (faults faults' : ℕ) (whole left left' : List ℕ) (page page' : Option (List ℕ))
    → IsSending held held' faults faults' whole page left → WroteLine left left' page page' → IsSome page'
    → IsSending held held' faults faults' whole page' left'
sent_line held held' faults faults' whole left left' page None s l some = cc
sent_line held held' faults faults' whole left left' page (Some text) s l some =
    record { written = s.written; spread = line_spread whole s.written left left' text l.line page s.spread l.is l.wrote; wrote = s.wrote }

-- it is, and the page was written
pub sent_page : (held now after : Option (List ℕ)) (faults faults' faults'' : ℕ) (whole left left' : List ℕ) (page page' page'' : Option (List ℕ))
    → IsSending held now faults faults' whole page left → WroteLine left left' page page' → TurnedPage now after faults' faults'' page' page''
    → IsSending held after faults faults'' whole page'' left'
sent_page held now after faults faults' faults'' whole left left' page page' page'' s l t =
    let wrote : Wrote page (Some t.text) l.line = subst (λ (x : Option (List ℕ)). Wrote page x l.line) t.was l.wrote in
    let spread : whole ≡ s.written ++ (t.text ++ left') = line_spread whole s.written left left' t.text l.line page s.spread l.is wrote in
    record {
      written = s.written ++ t.text;
      spread = subst (λ (x : Option (List ℕ)). IsSpread whole (s.written ++ t.text) x left') (sym t.is) (spread ∙ sym (append_assoc s.written t.text left'));
      wrote = record { sink = wrote_both held now after s.written t.text s.wrote.sink t.wrote.sink; kept = t.wrote.kept ∙ s.wrote.kept };
    }

-- a front of what is still to be written is a front of the whole, and shorter
front_stops : (held now after : Option (List ℕ)) (faults faults' faults'' : ℕ) (whole written text rest : List ℕ) (failure : WriteFailure)
    → whole ≡ written ++ (text ++ rest) → WroteWhole held now faults faults' written → StopsWriting now after faults' faults'' text failure
    → StopsWriting held after faults faults'' whole failure
front_stops held now after faults faults' faults'' whole written text rest failure e w s = record {
  why = why_kept failure s.why;
  count = length written + s.count;
  shorter = omega (arith, ap length e, length-append written (text ++ rest), length-append text rest, s.shorter);
  sink = subst (λ t. Appends held after t) (sym front) (wrote_both held now after written (take s.count text) w.sink s.sink);
}
  where
    why_kept : (failure : WriteFailure) → StopsWrite faults' faults'' failure → StopsWrite faults faults'' failure
    why_kept failure h = subst (λ n. StopsWrite n faults'' failure) w.kept h

    front : take (length written + s.count) whole ≡ written ++ take s.count text
    front =
        ap (λ t. take (length written + s.count) t) e ∙ take-append-add written (text ++ rest) s.count
        ∙ ap (λ t. written ++ t) (take-append-le s.count text rest (omega arith))

-- the page could not be written
pub stopped : (held now after : Option (List ℕ)) (faults faults' faults'' : ℕ) (whole left left' : List ℕ) (page page' : Option (List ℕ)) (failure : WriteFailure)
    → IsSending held now faults faults' whole page left → WroteLine left left' page page' → StopsPage now after faults' faults'' page' failure
    → StopsWriting held after faults faults'' whole failure
stopped held now after faults faults' faults'' whole left left' page None failure s l p = ran_out page s.spread
  where
    ran_out : (page : Option (List ℕ)) → IsSpread whole s.written page left → StopsWriting held after faults faults'' whole failure
    ran_out None h = absurd h
    ran_out (Some text) h = record {
      why = subst (λ (f : WriteFailure). StopsWrite faults faults'' f) (sym p.0) (p.2 ∙ s.wrote.kept);
      count = length s.written;
      shorter = omega (arith, ap length h, length-append s.written (text ++ left), length-append text left, l.shorter);
      sink = subst (λ t. Appends held after t) (sym (ap (λ t. take (length s.written) t) h ∙ take-append_seam s.written (text ++ left))) (keeps_on held now after s.written s.wrote.sink p.1);
    }
stopped held now after faults faults' faults'' whole left left' page (Some text) failure s l p =
    front_stops held now after faults faults' faults'' whole s.written text left' failure (line_spread whole s.written left left' text l.line page s.spread l.is l.wrote) s.wrote p

-- all is on the page, and that was written
pub sent_last : (held now after : Option (List ℕ)) (faults faults' faults'' : ℕ) (whole left left' : List ℕ) (page page' page'' : Option (List ℕ))
    → IsSending held now faults faults' whole page left → WroteNothing left left' page page' → TurnedPage now after faults' faults'' page' page''
    → WroteWhole held after faults faults'' whole
sent_last held now after faults faults' faults'' whole left left' page page' page'' s n t =
    let spread : whole ≡ s.written ++ (t.text ++ left) = sent_spread whole s.written page left t.text s.spread (sym n.kept ∙ t.was) in
    let all : whole ≡ s.written ++ t.text = spread ∙ ap (λ r. s.written ++ (t.text ++ r)) n.was ∙ ap (λ r. s.written ++ r) (append-nil t.text) in
    record { sink = subst (λ r. Appends held after r) (sym all) (wrote_both held now after s.written t.text s.wrote.sink t.wrote.sink); kept = t.wrote.kept ∙ s.wrote.kept }

-- all is on the page, and that could not be written
pub stopped_last : (held now after : Option (List ℕ)) (faults faults' faults'' : ℕ) (whole left left' : List ℕ) (page page' : Option (List ℕ)) (failure : WriteFailure)
    → IsSending held now faults faults' whole page left → WroteNothing left left' page page' → StopsPage now after faults' faults'' page' failure
    → StopsWriting held after faults faults'' whole failure
stopped_last held now after faults faults' faults'' whole left left' page None failure s n p = gone page s.spread (sym n.kept)
  where
    gone : (page : Option (List ℕ)) → IsSpread whole s.written page left → page ≡ None → StopsWriting held after faults faults'' whole failure
    gone None h e = absurd h
    gone (Some text) h e = cc
stopped_last held now after faults faults' faults'' whole left left' page (Some text) failure s n p =
    front_stops held now after faults faults' faults'' whole s.written text left failure (sent_spread whole s.written page left text s.spread (sym n.kept)) s.wrote p

-- the error that `?` passes on
pub passed_on : {T : Type 0} (result : Result T WriteFailure) (failure : WriteFailure) (P : WriteFailure → Type 0) → IsErrAnd result (λ e. e ≡ failure)
    → P failure → IfErr result P
passed_on (Ok x) failure P h p = tt
passed_on (Err e) failure P h p = rw h p

-- the last page could not be written
pub last_failed : {T : Type 0} (result : Result T WriteFailure) (held now after : Option (List ℕ)) (faults faults' faults'' : ℕ) (whole left left' : List ℕ) (page page' : Option (List ℕ))
    → IsSending held now faults faults' whole page left → WroteNothing left left' page page' → IfErr result (StopsPage now after faults' faults'' page')
    → IfErr result (StopsWriting held after faults faults'' whole)
last_failed (Ok x) held now after faults faults' faults'' whole left left' page page' s n p = tt
last_failed (Err failure) held now after faults faults' faults'' whole left left' page page' s n p =
    stopped_last held now after faults faults' faults'' whole left left' page page' failure s n p
