-- Counts of 64 bits, which stay at their last value.
use Rattle.std.specs.Prelude.{ℕ, ◌≡◌, ◌+◌, ◌-◌, ◌^◌, ◌<◌, ◌≤◌, ◌⊎◌, nat_lt, if◌then◌else◌}

-- one more, unless the count stands at its last value
abbrev pub counted : ℕ → ℕ
counted count = if nat_lt count (2 ^ 64 - 1) then count + 1 else count

-- the count has risen by one, or stood at its last value and stays there
abbrev pub HasRisen : ℕ → ℕ → Type 0
HasRisen before now = (now ≡ before + 1) ⊎ ((2 ^ 64 - 1 ≤ before) × (now ≡ before))

-- the count has risen, or stands at its last value and couldn't
abbrev pub HasGrown : ℕ → ℕ → Type 0
HasGrown before now = (before < now) ⊎ (2 ^ 64 - 1 ≤ now)
