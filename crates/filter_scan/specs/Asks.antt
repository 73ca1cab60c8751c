-- How many keys a scan asks.
use Rattle.std.specs.Prelude.{ℕ, zero, suc, ◌+◌, ◌-◌, max, min}
use Rattle.om3_coeff.specs.declared.key.Key.{Key}
use Rattle.om3_coeff.specs.Keys.{first_slot, end_slot}
use Rattle.om3_coeff.specs.Walks.{most_cut}
use Rattle.filter_scan.specs.declared.scans.Scan.{Scan}

-- The most keys at or below one that are asked for so many of its slots: one less than the slots, and
-- the keys that an end of the slots cuts.
abbrev pub asks_of : ℕ → ℕ → ℕ
asks_of zero cut = 0
asks_of (suc n) cut = cut + n

-- the most keys at or below k that a scan asks
unfoldable pub most_asks : Scan → Key → ℕ
most_asks s k = asks_of (min s.end (end_slot k) - max s.from (first_slot k)) (most_cut s.from s.end k)
