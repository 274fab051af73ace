-- What valid code says of the instruction at a position.
use Rattle.std.proofs.Common.{◌≡◌, ◌<◌, ◌+◌, ℕ, zero, suc, List, [], ◌∷◌, length, get_or, ap, sym, subst, ◌∙◌, arith}
use Rattle.std.proofs.lemmas.List.{get_or_default}
use Rattle.lisp_code.specs.Parts.{Parts}
use Rattle.lisp_code.specs.Validity.{AreFine, IsFine, IsValid}
use Rattle.lisp_code.specs.declared.instr.Instr.{Instr}
use Rattle.lisp_code.specs.declared.instr.Instr.TheVariants.{Leave}

-- the instruction that is k positions on is as it should be
pub fine_on : (p : Parts) (begin : ℕ) (hs : List ℕ) (is : List Instr) (k at : ℕ) → at ≡ k + begin → AreFine p begin hs is → k < length is → IsFine p at (get_or hs k 0) (get_or is k Leave)
fine_on p begin hs [] k at e fine inside = absurd (omega arith)
fine_on p begin [] (i ∷ is) k at e fine inside = absurd fine
fine_on p begin (h ∷ hs) (i ∷ is) zero at e fine inside = let same : at ≡ begin = omega arith in rw same fine.0
fine_on p begin (h ∷ hs) (i ∷ is) (suc k) at e fine inside =
    fine_on p (suc begin) hs is k at (omega arith) fine.1 (omega arith)

-- so is each, in whole code
pub fine_at : (p : Parts) (at : ℕ) → AreFine p 0 p.heights p.instrs → at < length p.instrs → IsFine p at (get_or p.heights at 0) (get_or p.instrs at Leave)
fine_at p at fine inside = fine_on p 0 p.heights p.instrs at at (omega arith) fine inside

-- the instruction that is read there
pub fine_read : (p : Parts) (is : List Instr) (at : ℕ) (i : Instr) → IsValid p → is ≡ p.instrs → at < length p.instrs → i ≡ get_or is at i → IsFine p at (get_or p.heights at 0) i
fine_read p is at i valid same inside e =
    let here : get_or p.instrs at Leave ≡ i = get_or_default p.instrs at Leave i inside ∙ (ap (λ xs. get_or xs at i) (sym same) ∙ sym e) in
    subst (λ x. IsFine p at (get_or p.heights at 0) x) here (fine_at p at valid.instructions inside)
