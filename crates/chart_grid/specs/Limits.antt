use Rattle.std.specs.Prelude.{ℕ, ℤ, ◌<◌, ◌≤◌, ◌<ℤ◌, ◌≤ℤ◌, ◌⊎◌, unsigned_abs}
use Rattle.whole_number.specs.declared.limits.TheConstants.{GREATEST_TIME}
use Rattle.whole_number.specs.Range.{IsTime}

-- the times from t0 to below t1 are a window
pub record IsWindow (t0 t1 : ℤ) : Type 0 where
  pub rising : t0 <ℤ t1
  pub from_size : IsTime t0
  pub to_size : IsTime t1

-- they are none: no time is between the ends, or an end is too far from 0
abbrev pub IsBadWindow : ℤ → ℤ → Type 0
IsBadWindow t0 t1 =
    (t1 ≤ℤ t0) ⊎ ((GREATEST_TIME < unsigned_abs t0) ⊎ (GREATEST_TIME < unsigned_abs t1))

-- a number of columns or rows of pixels that a canvas may have
pub record IsSide (n : ℕ) : Type 0 where
  pub some : 0 < n
  pub most : n ≤ 4096

abbrev pub IsBadSide : ℕ → Type 0
IsBadSide n = (n < 1) ⊎ (4096 < n)
