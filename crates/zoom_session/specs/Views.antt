-- The view that a session was answered last.
use Rattle.std.specs.Prelude.{◌≤ℤ◌, ⊤}
use Rattle.whole_number.specs.Range.{IsValue}
use Rattle.zoom_session.specs.declared.view_spec.RangeSpec.{RangeSpec}
use Rattle.zoom_session.specs.declared.view_spec.RangeSpec.TheVariants.{Auto, Fixed}

-- the ends of a fixed range are in order, and at most 10^18 in size
abbrev pub IsRangeSpec : RangeSpec → Type 0
IsRangeSpec Auto = ⊤
IsRangeSpec (Fixed lo hi) = (lo ≤ℤ hi) × IsValue lo × IsValue hi
