use Rattle.std.proofs.Common.{ap, ◌∙◌}
use Rattle.coefficient_cache.proofs.Kept.{some_pair}
use Rattle.coefficient_cache.proofs.Unmoved.{same-pair}
use Rattle.coefficient_cache.proofs.pair_list.is_put.Goals as goal

pub returns-in-Some : goal.returns-in-Some
returns-in-Some c = λ is. c.in-Some.is ∙ ap some_pair
    (same-pair c.in-Some.held c.args.key c.in-Some.value c.args.coef c.is_pair.result is c.is_pair.ensures)
