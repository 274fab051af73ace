use Rattle.std.proofs.Common.{◌≡◌, ◌≢◌, ℕ, [], ◌∷◌, arith}
use Rattle.std.proofs.lemmas.Bool.Decides.{nat_tests}
use Rattle.lisp_reader.proofs.Characters.{character_kept}
use Rattle.lisp_journal.specs.Line.{line_byte}
use Rattle.lisp_journal.proofs.line.push_character.Goals as goal

-- any other byte than a newline is written as it is
plain : (b : ℕ) → b ≢ 10 → line_byte b ≡ b ∷ []
plain b other = grind (arith, nat_tests)

pub returns-in_default : goal.returns-in_default
returns-in_default c =
    rw (character_kept line_byte c.args.character (plain c.args.character (omega arith)) (λ b wide. plain b (omega arith))) c.push.ensures
