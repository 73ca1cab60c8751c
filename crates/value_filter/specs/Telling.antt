-- How a filter's steps are told on a box, one by one.
use Rattle.std.specs.Prelude.{ℕ, ◌<◌, List, [], ◌∷◌}
use Rattle.value_filter.specs.declared.box_answers.BoxAnswer.{BoxAnswer}
use Rattle.value_filter.specs.declared.steps.Step.{Step}
use Rattle.value_filter.specs.declared.steps.Step.TheVariants.{Test, Not, And, Or}
use Rattle.value_filter.specs.declared.steps.TheConstants.{PENDING}
use Rattle.value_filter.specs.Expressions.{Expression}
use Rattle.value_filter.specs.Boxes.{Interval, IsAnswer}

-- whether so many pending answers have room for the step, and enough for it
abbrev pub HasRoom : Step → ℕ → Type 0
HasRoom (Test atom) pending = pending < PENDING
HasRoom Not pending = 0 < pending
HasRoom And pending = 1 < pending
HasRoom Or pending = 1 < pending

-- the answers are those of the expressions, one for each
abbrev pub AreAnswers : List Expression → Interval → Interval → List BoxAnswer → Type 0
AreAnswers [] times values [] = Unit {0}
AreAnswers (f ∷ fs) times values (answer ∷ answers) = IsAnswer f times values answer × AreAnswers fs times values answers
AreAnswers _ times values _ = ⊥
