use Rattle.std.proofs.Common.{◌<◌, ℕ}
use Rattle.store_upgrade.specs.OldStores.{HasOldRecord}
use Rattle.store_upgrade.proofs.old_pages.is_old_page.Given as goal

abbrev pub invariant-loop-number : goal.invariant-loop-number
invariant-loop-number l = (i : ℕ) → i < l.number → HasOldRecord l.page i
