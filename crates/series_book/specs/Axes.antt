-- What a refusal needs to know of a series.
use Rattle.std.specs.Prelude.{◌≡◌, ℤ, List, length, Option, Result, Ok, Err, MatchOption}
use Rattle.series_book.specs.declared.axis.Axis.{Axis}
use Rattle.series_book.specs.declared.one_series.Series.{Series}
use Rattle.series_book.specs.declared.refusals.Refusal.{Refusal}

-- the axis is that of the series
pub record IsAxisOf (series : Series) (axis : Axis) : Type 0 where
  pub start : axis.start ≡ series.start
  pub step : axis.step ≡ series.step
  pub slots : axis.slots ≡ length series.slots

-- the edit gives these slots where nothing is refused, and is refused so where something is
abbrev pub IsRefusalOf : Result (List (Option ℤ)) Refusal → List (Option ℤ) → Option Refusal → Type 0
IsRefusalOf edited slots found = MatchOption found (edited ≡ Ok slots) (λ refusal. edited ≡ Err refusal)
