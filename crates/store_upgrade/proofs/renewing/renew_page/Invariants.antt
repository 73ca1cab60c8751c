use Rattle.std.proofs.Common.{◌≡◌}
use Rattle.store_upgrade.specs.Upgraded.{with_levels}
use Rattle.store_upgrade.proofs.renewing.renew_page.Given as goal

abbrev pub invariant-loop-number : goal.invariant-loop-number
invariant-loop-number l = l.page ≡ with_levels l.initial.page l.number
