-- The answer All, as `==` tests it.
use Rattle.std.proofs.Common.{◌≡◌, refl}
use denote.Enum.Bare.{sameb}
use Rattle.value_filter.specs.contracts.box_answers.BoxAnswer.{the_type}
use Rattle.value_filter.specs.declared.box_answers.BoxAnswer.{BoxAnswer}
use Rattle.value_filter.specs.declared.box_answers.BoxAnswer.TheVariants.{All, Nothing, Mixed}
use Rattle.value_filter.proofs.Everywhere.{is_all}

pub is_all-eq : (a : BoxAnswer) → sameb the_type a All ≡ is_all a
is_all-eq All = refl
is_all-eq Nothing = refl
is_all-eq Mixed = refl
