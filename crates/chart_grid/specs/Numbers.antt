use Rattle.std.specs.Prelude.{ℕ, ℤ, pos, negsuc, ◌*ℤ◌, ◌+ℤ◌, ◌-ℤ◌, ◌/◌, ◌≤ℤ◌, ◌<ℤ◌, unsigned_abs}

-- how far two numbers are apart
abbrev pub distance : ℤ → ℤ → ℕ
distance a b = unsigned_abs (b -ℤ a)

-- a / n, rounded towards minus infinity
abbrev pub floor_div : ℤ → ℕ → ℤ
floor_div (pos a) n = pos (a / n)
floor_div (negsuc a) n = negsuc (a / n)

-- q is a / n rounded towards minus infinity: the only number with q * n ≤ a < (q + 1) * n
pub record IsFloor (a : ℤ) (n : ℕ) (q : ℤ) : Type 0 where
  pub reached : (q *ℤ pos n) ≤ℤ a
  pub next : a <ℤ ((q +ℤ pos 1) *ℤ pos n)
