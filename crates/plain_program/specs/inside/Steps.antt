-- The points of a stretch as steps.
use Rattle.std.specs.Prelude.{List, [], ◌∷◌, ◌++◌, length}
use Rattle.plain_program.specs.Points.{Points, Done, Do, Ask, Test, Enter}
use Rattle.plain_program.specs.declared.steps.Step.{Step}
use Rattle.plain_program.specs.declared.steps.Step.TheVariants.{Act, Ask as AskStep, Test as TestStep, Enter as EnterStep, Leave as LeaveStep}

-- the points of a stretch as steps, one after the other; those of a frame end with the step that leaves it
abbrev pub steps_of : Points → List Step
steps_of Done = []
steps_of (Do act place after) = Act act ∷ steps_of after
steps_of (Ask question place after) = AskStep question ∷ steps_of after
steps_of (Test symbol place value after) = TestStep symbol (length (steps_of value)) ∷ (steps_of value ++ steps_of after)
steps_of (Enter opening place body after) = EnterStep opening place ∷ (steps_of body ++ LeaveStep ∷ steps_of after)
