use Rattle.std.proofs.Common.{◌++◌, ap}
use Rattle.coefficient_cache.specs.Pairs.{in_series}
use Rattle.coefficient_cache.specs.Views.{to_send, renewed}
use Rattle.coefficient_cache.proofs.Given.{sent-and-held, looked-up}
use Rattle.coefficient_cache.proofs.laws.both_ends_keep_one_list.Goals as goal

pub returns-clause-looked_up : goal.returns-clause-looked_up
returns-clause-looked_up _ pairs series needed distinct =
    looked-up (in_series series (to_send pairs series needed) ++ pairs) series needed (sent-and-held pairs series needed distinct)

pub returns-clause-renewed : goal.returns-clause-renewed
returns-clause-renewed _ capacity pairs series needed distinct =
    ap (λ l. renewed capacity pairs (in_series series l))
    (looked-up (in_series series (to_send pairs series needed) ++ pairs) series needed (sent-and-held pairs series needed distinct))
