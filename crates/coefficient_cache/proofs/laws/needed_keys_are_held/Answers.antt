use Rattle.coefficient_cache.specs.Pairs.{in_series}
use Rattle.coefficient_cache.specs.Views.{renewed}
use Rattle.coefficient_cache.proofs.Given.{needed-held, nothing-to-send}
use Rattle.coefficient_cache.proofs.laws.needed_keys_are_held.Goals as goal

pub returns-clause-given : goal.returns-clause-given
returns-clause-given _ = needed-held

pub returns-clause-nothing_to_send : goal.returns-clause-nothing_to_send
returns-clause-nothing_to_send _ capacity pairs series needed distinct fits =
    nothing-to-send (renewed capacity pairs (in_series series needed)) series needed
    (needed-held capacity pairs series needed distinct fits)
