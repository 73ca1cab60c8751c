use Rattle.value_filter.proofs.Everywhere.{everywhere}
use Rattle.value_filter.specs.declared.box_answers.BoxAnswer.TheVariants.{All, Nothing}
use Rattle.value_filter.proofs.laws.answers_hold_everywhere.Goals as goal

pub returns-clause-all : goal.returns-clause-all
returns-clause-all c = λ f times values is t v in_times in_values. everywhere f times values All t v is in_times in_values

pub returns-clause-nothing : goal.returns-clause-nothing
returns-clause-nothing c = λ f times values is t v in_times in_values. everywhere f times values Nothing t v is in_times in_values
