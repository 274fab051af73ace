-- Each text is read or refused.
use Rattle.std.specs.Str.{IsUtf8, IsValidUpTo, is_utf8}
use Rattle.std.proofs.Common.{◌≡◌, ℕ, zero, suc, ◌<◌, ◌≤◌, inl, inr, ◌⊎◌, Bool, true, false, true≢false, List, [], nat_lt, length, take, Option, Some, None, refl, ap, subst, sym, ◌∙◌, arith}
use Rattle.std.proofs.lemmas.Bool.Decides.{nat_tests}
use Rattle.std.proofs.lemmas.List.{take_all}
use Rattle.std.proofs.lemmas.Str.{IsUtf8-from_is_utf8, is_utf8-from_IsUtf8}
use Rattle.lisp_base.specs.declared.refusal.Refusal.TheVariants.{NotUtf8, TooLong}
use Rattle.lisp_base.specs.declared.refusal.Refused.{Refused}
use Rattle.lisp_data.specs.Data.{each}
use Rattle.lisp_reader.specs.Gathering.{gathered, with_parts}
use Rattle.lisp_reader.specs.Grammar.{data_in}
use Rattle.lisp_reader.specs.Parts.{parts_of}
use Rattle.lisp_reader.specs.Reading.{IsReadable, IsRefusable, IsText, ReadOrRefused, in_reading, longest, not_utf8, too_long}
use Rattle.lisp_reader.specs.Tables.{Tables}
use Rattle.lisp_reader.proofs.Spells.{spells_items}

-- the longest front that is UTF-8, among those of at most so many bytes
record Front (bs : List ℕ) (most : ℕ) : Type 0 where
  at : ℕ
  within : at ≤ most
  front : IsUtf8 (take at bs)
  longest : (m : ℕ) → at < m → ¬ IsUtf8 (take m bs)

-- one byte fewer
fewer : (bs : List ℕ) (k m : ℕ) → is_utf8 (take (suc k) bs) ≡ false → ((n : ℕ) → suc k < n → ¬ IsUtf8 (take n bs)) → k < m
    → ¬ IsUtf8 (take m bs)
fewer bs k m broken none above = by (nat_lt (suc k) m) refl
  where
    by : (b : Bool) → nat_lt (suc k) m ≡ b → ¬ IsUtf8 (take m bs)
    by true e = let more : suc k < m = grind (arith, nat_tests) in none m more
    by false e =
        let same : m ≡ suc k = grind (arith, nat_tests) in
        λ u. true≢false (sym (is_utf8-from_IsUtf8 (take (suc k) bs) (subst (λ n. IsUtf8 (take n bs)) same u)) ∙ broken)

-- there is such a front
front_of : (bs : List ℕ) (most : ℕ) → ((m : ℕ) → most < m → ¬ IsUtf8 (take m bs)) → Front bs most
front_of bs zero none = record { at = 0; within = omega arith; front = ([], (refl, refl)); longest = none }
front_of bs (suc k) none =
    by (is_utf8 (take (suc k) bs)) refl (λ broken. front_of bs k (λ m above. fewer bs k m broken none above))
  where
    by : (b : Bool) → is_utf8 (take (suc k) bs) ≡ b → (is_utf8 (take (suc k) bs) ≡ false → Front bs k) → Front bs (suc k)
    by true e less = record { at = suc k; within = omega arith; front = IsUtf8-from_is_utf8 (take (suc k) bs) e; longest = none }
    by false e less =
        let f = less e in record { at = f.at; within = omega (arith, f.within); front = f.front; longest = f.longest }

-- the first byte that belongs to no character
record Broken (bs : List ℕ) : Type 0 where
  at : ℕ
  valid : IsValidUpTo bs at

broken_at : (bs : List ℕ) → ¬ IsUtf8 bs → Broken bs
broken_at bs broken =
    let f : Front bs (length bs) = front_of bs (length bs) (λ m above u. broken (subst IsUtf8 (take_all m bs (omega arith)) u)) in
    let short : f.at < length bs = before f refl in
    record { at = f.at; valid = record { short = short; front = f.front; longest = f.longest } }
  where
    before : (f : Front bs (length bs)) → f.at ≡ f.at → f.at < length bs
    before f e = by (nat_lt f.at (length bs)) refl
      where
        by : (b : Bool) → nat_lt f.at (length bs) ≡ b → f.at < length bs
        by true t = grind (arith, nat_tests)
        by false t =
            let past : length bs ≤ f.at = grind (arith, nat_tests) in
            absurd (broken (subst IsUtf8 (take_all f.at bs past) f.front))

-- a text that is short enough and UTF-8 is read, or has a fault in the order of reading
text_told : (bytes : List ℕ) (before : Tables) → IsText bytes → IsReadable bytes before ⊎ IsRefusable bytes before
text_told bytes before text = by (gathered [] before (parts_of bytes)).fault refl
  where
    by : (f : Option Refused) → (gathered [] before (parts_of bytes)).fault ≡ f → IsReadable bytes before ⊎ IsRefusable bytes before
    by None e =
        let s = spells_items before (parts_of bytes) e in
        let after : Tables = with_parts before (parts_of bytes) in
        inl
        (record {
          after = after;
          read = each (data_in after s.items);
          reads = record { text = text; items = s.items; spells = s.spells; readable = e; tables = refl; same = refl };
        })
    by (Some f) e =
        let after : Tables = (gathered [] before (parts_of bytes)).tables in
        inr
        (record {
          after = after;
          refusal = f.refusal;
          place = f.place;
          refused = in_reading text (ap (λ x. record { fault = x; tables = after }) e);
        })

-- each text is read or refused
pub read_or_refused : ReadOrRefused
read_or_refused bytes before = by_length (nat_lt longest (length bytes)) refl
  where
    by_bytes : length bytes ≤ longest → (b : Bool) → is_utf8 bytes ≡ b → IsReadable bytes before ⊎ IsRefusable bytes before
    by_bytes short true e = text_told bytes before (record { short = short; utf8 = IsUtf8-from_is_utf8 bytes e })
    by_bytes short false e =
        let broken : ¬ IsUtf8 bytes = λ u. true≢false (sym (is_utf8-from_IsUtf8 bytes u) ∙ e) in
        let b = broken_at bytes broken in
        inr (record { after = before; refusal = NotUtf8; place = b.at; refused = not_utf8 short broken refl b.valid refl })

    by_length : (b : Bool) → nat_lt longest (length bytes) ≡ b → IsReadable bytes before ⊎ IsRefusable bytes before
    by_length true e =
        let long : longest < length bytes = grind (arith, nat_tests) in
        inr (record { after = before; refusal = TooLong; place = longest; refused = too_long long refl refl refl })
    by_length false e =
        let short : length bytes ≤ longest = grind (arith, nat_tests) in
        by_bytes short (is_utf8 bytes) refl
