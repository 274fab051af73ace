-- How a string literal falls out of a text.
use Rattle.std.specs.Str.{IsUtf8}
use Rattle.std.proofs.Common.{◌≡◌, ℕ, suc, ◌+◌, ◌<◌, ◌≤◌, Bool, true, false, not, List, [], ◌∷◌, ◌++◌, length, get_or, drop, refl, ap, subst, arith, ◌∙◌, add-one}
use Rattle.std.proofs.lemmas.List.{drop_more}
use Rattle.lisp_reader.specs.Parts.{Where', Between, Inside, Escaped, Literal, parts_from}
use Rattle.lisp_reader.specs.inside.Scanning.{GoesOn}
use Rattle.lisp_reader.proofs.Cut.{before_ascii, behind_ascii, cut_behind_ascii, without_ascii}

-- where a literal goes on, behind a `\` or not
abbrev pub going : Bool → ℕ → List ℕ → Where'
going true start so_far = Escaped start so_far
going false start so_far = Inside start so_far

-- a literal begins
pub literal_begins : (text : List ℕ) (at : ℕ) → at < length text → get_or text at 0 ≡ 34
    → parts_from Between at (drop at text) ≡ parts_from (Inside at []) (at + 1) (drop (at + 1) text)
literal_begins text at inside h = rw (drop_more text at 0 inside, h, add-one at) refl

-- a `\` that is not behind one is not
back_taken : (escaped : Bool) (start p b : ℕ) (so_far bs : List ℕ) → b ≡ 92 → escaped ≡ false
    → parts_from (going escaped start so_far) p (b ∷ bs) ≡ parts_from (Escaped start so_far) (suc p) bs
back_taken escaped start p b so_far bs h e = rw (h, e) refl

-- a `"` that is not behind a `\` ends the literal
end_taken : (escaped : Bool) (start p b : ℕ) (so_far bs : List ℕ) → b ≡ 34 → escaped ≡ false
    → parts_from (going escaped start so_far) p (b ∷ bs) ≡ Literal start so_far ∷ parts_from Between (suc p) bs
end_taken escaped start p b so_far bs h e = rw (h, e) refl

-- what is left of a text whole with what was taken, by its first byte
by_first : (items text : List ℕ) (p : ℕ) → p < length text → IsUtf8 (items ++ drop p text) → IsUtf8 (items ++ get_or text p 0 ∷ drop (p + 1) text)
by_first items text p inside whole = subst (λ (bs : List ℕ). IsUtf8 (items ++ bs)) (drop_more text p 0 inside) whole

-- the characters of a literal that ends are whole
pub characters_whole : (items text : List ℕ) (p : ℕ) → p < length text → get_or text p 0 ≡ 34 → IsUtf8 (items ++ drop p text) → IsUtf8 items
characters_whole items text p inside h whole =
    before_ascii items (drop (p + 1) text) (get_or text p 0) (omega arith) (by_first items text p inside whole)

-- a literal ends
pub literal_ends : (text items characters : List ℕ) (at p : ℕ) (escaped : Bool) → at < p → p < length text → get_or text p 0 ≡ 34 → escaped ≡ false
    → IsUtf8 (items ++ drop p text) → parts_from Between at (drop at text) ≡ parts_from (going escaped at items) p (drop p text) → characters ≡ items
    → GoesOn text at (p + 1) × (parts_from Between at (drop at text) ≡ Literal at characters ∷ parts_from Between (p + 1) (drop (p + 1) text))
literal_ends text items characters at p escaped further inside h e whole same is = (
  record {
    further = omega arith;
    inside = omega arith;
    whole = behind_ascii items (drop (p + 1) text) (get_or text p 0) (omega arith) (by_first items text p inside whole);
  },
  rw (is, add-one p)
      (same ∙ ap (parts_from (going escaped at items) p) (drop_more text p 0 inside) ∙ rw (add-one p) (end_taken escaped at p (get_or text p 0) items (drop (suc p) text) h e)),
)

-- a literal from its first character on
pub record Goes (text : List ℕ) (at p : ℕ) (escaped : Bool) (items : List ℕ) : Type 0 where
  pub further : at < p
  pub inside : p ≤ length text
  pub whole : IsUtf8 (items ++ drop p text)
  pub same : parts_from Between at (drop at text) ≡ parts_from (going escaped at items) p (drop p text)

-- a literal begins
pub goes_first : (text items : List ℕ) (at : ℕ) → at < length text → get_or text at 0 ≡ 34 → IsUtf8 (drop at text) → items ≡ []
    → Goes text at (at + 1) false items
goes_first text items at inside h whole is =
    rw is (record {
      further = omega arith;
      inside = omega arith;
      whole = cut_behind_ascii text at inside (omega arith) whole;
      same = literal_begins text at inside h;
    })

-- a `\` is left out
pub goes_behind_back : (text items : List ℕ) (at p : ℕ) (escaped escaped' : Bool) → p < length text → get_or text p 0 ≡ 92 → escaped' ≡ not escaped → escaped' ≡ true
    → Goes text at p escaped items → Goes text at (p + 1) escaped' items
goes_behind_back text items at p true escaped' inside h is back goes = cc
goes_behind_back text items at p false escaped' inside h is back goes =
    rw is (record {
      further = omega (arith, goes.further);
      inside = omega arith;
      whole = without_ascii items (drop (p + 1) text) (get_or text p 0) (omega arith) (by_first items text p inside goes.whole);
      same = goes.same ∙ ap (parts_from (Inside at items) p) (drop_more text p 0 inside) ∙ rw (add-one p) (back_taken false at p (get_or text p 0) items (drop (suc p) text) h refl);
    })
