-- A filter's steps in postfix order, and the expression whose steps they are.
use Rattle.std.specs.Prelude.{◌≡◌, List, [], ◌∷◌, ◌++◌, length, nat_lt, Option, Some, None, if◌then◌else◌, option_and_then, unwrap_or, pos}
use Rattle.value_filter.specs.declared.atoms.Subject.TheVariants.{Time}
use Rattle.value_filter.specs.declared.atoms.Comparison.TheVariants.{Less}
use Rattle.value_filter.specs.declared.steps.Step.{Step}
use Rattle.value_filter.specs.declared.steps.Step.TheVariants.{Test, Not, And, Or}
use Rattle.value_filter.specs.declared.steps.TheConstants.{PENDING}
use Rattle.value_filter.specs.Expressions.{Expression, Compare, Negate, Both, Either}

-- the steps of an expression: first those of its parts, then its own
abbrev pub postfix : Expression → List Step
postfix (Compare atom) = Test atom ∷ []
postfix (Negate f) = postfix f ++ Not ∷ []
postfix (Both f g) = postfix f ++ (postfix g ++ And ∷ [])
postfix (Either f g) = postfix f ++ (postfix g ++ Or ∷ [])

-- the expressions that are pending after a step, the last one first, where no more than PENDING are
unfoldable pub after_step : Step → List Expression → Option (List Expression)
after_step (Test atom) pending = if nat_lt (length pending) PENDING then Some (Compare atom ∷ pending) else None
after_step Not (f ∷ pending) = Some (Negate f ∷ pending)
after_step And (g ∷ (f ∷ pending)) = Some (Both f g ∷ pending)
after_step Or (g ∷ (f ∷ pending)) = Some (Either f g ∷ pending)
after_step _ _ = None

-- the one expression that is left after the steps
abbrev pub rebuilt : List Step → List Expression → Option Expression
rebuilt [] (f ∷ []) = Some f
rebuilt [] _ = None
rebuilt (step ∷ steps) pending = option_and_then (rebuilt steps) (after_step step pending)

-- the expression whose steps these are
abbrev pub expression_of : List Step → Expression
expression_of steps = unwrap_or (rebuilt steps []) (Compare (record { subject = Time; comparison = Less; number = pos 0 }))

-- the steps are those of an expression
abbrev pub AreOfExpression : List Step → Type 0
AreOfExpression steps = (f : Expression) × (rebuilt steps [] ≡ Some f)
