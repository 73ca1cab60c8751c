-- The points of a sum of two series, in the words of their times.
use Rattle.std.specs.Prelude.{ℕ, ℤ, pos, ◌≡◌, ◌+ℤ◌, ◌*ℤ◌, ◌↔◌, List, Option, Contains}
use Rattle.chart_grid.specs.declared.axis.Axis.{Axis}
use Rattle.chart_grid.specs.declared.grid.Grid.{Grid}
use Rattle.chart_grid.specs.Projection.{InWindow}
use Rattle.chart_grid.specs.Slots.{slot_time}
use Rattle.m4_groups.specs.Points.{AreInOrder}
use Rattle.om3_coeff.specs.Spans.{Holds}
use Rattle.plain_chart.specs.declared.sample.Sample.{Sample}
use Rattle.plain_chart.specs.Samples.{sample_points}

-- Both series have one step, and slot i of x has the time of slot i + d of y. Where there is such a d, the two are on one grid.
pub record IsShift (x y : Axis) (d : ℤ) : Type 0 where
  pub step : y.step ≡ x.step
  pub start : x.start ≡ y.start +ℤ d *ℤ pos x.step

-- the series with these slots stores the value v at the time t
pub record StoresAt (axis : Axis) (slots : List (Option ℤ)) (t v : ℤ) : Type 0 where
  pub slot : ℕ
  pub time : slot_time axis slot ≡ t
  pub holds : Holds slots slot v

-- both series store a value at the time t, and v is a times the one and b times the other
pub record IsSumAt (a b : ℤ) (x y : Axis) (xs ys : List (Option ℤ)) (t v : ℤ) : Type 0 where
  pub one : ℤ
  pub other : ℤ
  pub first : StoresAt x xs t one
  pub second : StoresAt y ys t other
  pub is : v ≡ a *ℤ one +ℤ b *ℤ other

-- The samples of the sum in a window: one for each time of the window at which both series store a value, in order of time.
pub record AreSumSamples (g : Grid) (a b : ℤ) (x y : Axis) (xs ys : List (Option ℤ)) (samples : List Sample) : Type 0 where
  pub order : AreInOrder g (sample_points samples)
  pub each : (t v : ℤ) → Contains samples (record { time = t; value = v }) ↔ (InWindow g t × IsSumAt a b x y xs ys t v)
