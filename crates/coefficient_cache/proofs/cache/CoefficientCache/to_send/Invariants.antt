use Rattle.std.proofs.Common.{◌≡◌, take}
use Rattle.coefficient_cache.specs.Views.{to_send}
use Rattle.coefficient_cache.proofs.cache.CoefficientCache.to_send.Given as goal

abbrev pub invariant-loop-key : goal.invariant-loop-key
invariant-loop-key l = l.sent.items ≡ to_send l.self.pairs l.series (take l.key-index l.needed)
