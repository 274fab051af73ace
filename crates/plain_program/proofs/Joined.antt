-- The steps of points behind points.
use Rattle.std.proofs.Common.{◌≡◌, ◌∷◌, ◌++◌, length, refl, ap, sym, ◌∙◌, append_assoc}
use Rattle.plain_program.specs.Points.{Points, Done, Do, Ask, Test, Enter, joined}
use Rattle.plain_program.specs.declared.steps.Step.TheVariants.{Act, Ask as AskStep, Test as TestStep, Enter as EnterStep, Leave as LeaveStep}
use Rattle.plain_program.specs.inside.Steps.{steps_of}

pub steps_of-joined : (a b : Points) → steps_of (joined a b) ≡ steps_of a ++ steps_of b
steps_of-joined Done b = refl
steps_of-joined (Do act p after) b = ap (λ s. Act act ∷ s) (steps_of-joined after b)
steps_of-joined (Ask q p after) b = ap (λ s. AskStep q ∷ s) (steps_of-joined after b)
steps_of-joined (Test v p value after) b =
    ap (λ s. TestStep v (length (steps_of value)) ∷ (steps_of value ++ s)) (steps_of-joined after b)
    ∙ ap (λ s. TestStep v (length (steps_of value)) ∷ s) (sym (append_assoc (steps_of value) (steps_of after) (steps_of b)))
steps_of-joined (Enter o p body after) b =
    ap (λ s. EnterStep o p ∷ (steps_of body ++ LeaveStep ∷ s)) (steps_of-joined after b)
    ∙ ap (λ s. EnterStep o p ∷ s) (sym (append_assoc (steps_of body) (LeaveStep ∷ steps_of after) (steps_of b)))
