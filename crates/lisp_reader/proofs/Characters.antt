-- Characters that are written byte by byte.
use Rattle.std.proofs.Common.{◌≡◌, ◌≢◌, ℕ, suc, ◌<◌, ◌≤◌, Option, List, [], ◌∷◌, ◌++◌, length, get_or, encode_utf8, encode_utf8_all, flat_map, refl, sym, arith, ⊎_elim, append-nil}
use Rattle.std.proofs.lemmas.Bool.{cases_lt}
use Rattle.std.proofs.lemmas.Bool.Decides.{nat_tests}
use Rattle.std.proofs.lemmas.Grind.{flat_map-append}
use Rattle.std.proofs.lemmas.Str.{encode_ascii, encodes-append, inside_one}
use Rattle.lisp_base.specs.Writing.{Wrote}
use Rattle.lisp_base.proofs.Writing.{wrote_both, wrote_same}
use Rattle.lisp_reader.specs.Printing.{escaped_byte}

-- bytes that are each written as they are
kept : (f : ℕ → List ℕ) (bs : List ℕ) → ((k : ℕ) → k < length bs → f (get_or bs k 0) ≡ get_or bs k 0 ∷ []) → flat_map f bs ≡ bs
kept f [] same = refl
kept f (b ∷ bs) same =
    let first : f b ≡ b ∷ [] = same 0 (omega arith) in
    rw (first, kept f bs (λ k h. same (suc k) (omega arith))) refl

-- the bytes of a character past ASCII are past ASCII
wide_bytes : (c k : ℕ) → 128 ≤ c → k < length (encode_utf8 c) → 128 ≤ get_or (encode_utf8 c) k 0
wide_bytes c k wide inside =
    ⊎_elim
    (λ small. let same : c ≡ get_or (encode_utf8 c) k 0 = inside_one c [] (encode_utf8 c) k (sym (append-nil (encode_utf8 c))) inside small in absurd (omega arith))
    (λ large. large)
    (cases_lt (get_or (encode_utf8 c) k 0) 128)

-- a character is written as it is where its byte is, or it is past ASCII, whose bytes are all written so
pub character_kept : (f : ℕ → List ℕ) (c : ℕ) → f c ≡ c ∷ [] → ((b : ℕ) → 128 ≤ b → f b ≡ b ∷ []) → flat_map f (encode_utf8 c) ≡ encode_utf8 c
character_kept f c same wide =
    ⊎_elim
    (λ small. rw (encode_ascii c small, same) refl)
    (λ large. kept f (encode_utf8 c) (λ k inside. wide _ (wide_bytes c k large inside)))
    (cases_lt c 128)

-- one character more
pub character_written : (f : ℕ → List ℕ) (old now new : Option (List ℕ)) (cs : List ℕ) (c : ℕ) → Wrote old now (flat_map f (encode_utf8_all cs)) → Wrote now new (flat_map f (encode_utf8 c))
    → Wrote old new (flat_map f (encode_utf8_all (cs ++ c ∷ [])))
character_written f old now new cs c is more =
    wrote_same old new (flat_map f (encode_utf8_all cs) ++ flat_map f (encode_utf8 c)) (flat_map f (encode_utf8_all (cs ++ c ∷ [])))
    (wrote_both old now new (flat_map f (encode_utf8_all cs)) (flat_map f (encode_utf8 c)) is more) (rw (encodes-append, append-nil, flat_map-append) refl)

-- any other character of a string than `"` and `\` is written as it is
pub character_plain : (c : ℕ) → c ≢ 34 → c ≢ 92 → flat_map escaped_byte (encode_utf8 c) ≡ encode_utf8 c
character_plain c quote back = character_kept escaped_byte c (plain c quote back) (λ b wide. plain b (omega arith) (omega arith))
  where
    plain : (b : ℕ) → b ≢ 34 → b ≢ 92 → escaped_byte b ≡ b ∷ []
    plain b quote back = grind (arith, nat_tests)
