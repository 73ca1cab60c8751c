-- No window, side or range is both good and bad.
use Rattle.std.proofs.Common.{ℕ, ℤ, ◌⊎◌, inl, inr, arith}
use Rattle.std.proofs.lemmas.Int.{ints}
use Rattle.chart_grid.specs.Limits.{IsWindow, IsSide, IsBadWindow, IsBadSide}
use Rattle.request_lines.specs.declared.ranges.RangeWord.{RangeWord}
use Rattle.request_lines.specs.declared.ranges.RangeWord.TheVariants as word
use Rattle.chart_service.specs.Viewing.{IsGoodRange, IsBadRange}

-- what is in range isn't out of it
pub no_window : (t0 t1 : ℤ) → IsWindow t0 t1 → IsBadWindow t0 t1 → ⊥
no_window t0 t1 is (inl turned) = let up = is.rising in grind (arith, ints)
no_window t0 t1 is (inr (inl far)) = absurd (omega (arith, is.from_size, far))
no_window t0 t1 is (inr (inr far)) = absurd (omega (arith, is.to_size, far))

pub no_side : (n : ℕ) → IsSide n → IsBadSide n → ⊥
no_side n is (inl none) = absurd (omega (arith, is.some, none))
no_side n is (inr many) = absurd (omega (arith, is.most, many))

pub no_sides : (w h : ℕ) → IsSide w → IsSide h → (IsBadSide w ⊎ IsBadSide h) → ⊥
no_sides w h wide high (inl bad) = no_side w wide bad
no_sides w h wide high (inr bad) = no_side h high bad

pub no_range : (r : RangeWord) → IsGoodRange r → IsBadRange r → ⊥
no_range word.Auto good bad = bad
no_range (word.Fixed lo hi) good (inl turned) = let up = good.0 in grind (arith, ints)
no_range (word.Fixed lo hi) good (inr (inl far)) = absurd (omega (arith, good.1, far))
no_range (word.Fixed lo hi) good (inr (inr far)) = absurd (omega (arith, good.2, far))
