-- The line that is written for a program that is refused.
use Rattle.std.specs.Prelude.{ℕ, List, ◌++◌, codes}
use Rattle.std.specs.Fmt.{decimal}
use Rattle.lisp_base.specs.Refusals.{refusal_name, refusal_number}
use Rattle.lisp_base.specs.declared.refusal.Refusal.{Refusal}

-- the number of the refusal, its name, and the place
abbrev pub refusal_line : Refusal → ℕ → List ℕ
refusal_line refusal place =
    codes "refused " ++ decimal (refusal_number refusal) ++ codes " " ++ refusal_name refusal ++ codes " at " ++ decimal place ++ codes "\n"

-- the line for words that are not accepted
abbrev pub words_line : List ℕ
words_line = codes "refused words\n"
