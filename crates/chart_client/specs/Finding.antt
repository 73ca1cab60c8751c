-- Why a view's wanted keys aren't found.
use Rattle.std.specs.Prelude.{ℤ, ⊤, if◌then◌else◌}
use Rattle.chart_grid.specs.declared.axis.Axis.{Axis}
use Rattle.chart_grid.specs.declared.grid.Grid.{Grid}
use Rattle.coefficient_cache.specs.Caches.{Cache}
use Rattle.chart_frames.specs.declared.frame.ViewFrame.{ViewFrame}
use Rattle.view_keys.specs.Wanted.{Seen}
use Rattle.chart_client.specs.declared.errors.ClientError.{ClientError}
use Rattle.chart_client.specs.declared.errors.ClientError.TheVariants.{Missing, BadCoefficient, UnknownSession, NoMemory}
use Rattle.chart_client.specs.declared.failure.Failure.{Failure}
use Rattle.chart_client.specs.Holdings.{axis_of, seen_by}
use Rattle.chart_client.specs.Failing.{IsMissing, IsMisfit, IsFirstFailing}

-- the error names the first wanted key that fails, and how it does
abbrev pub IsErrorOf : Seen → Axis → Grid → ℤ → ℤ → ClientError → Type 0
IsErrorOf seen axis grid lo hi (Missing key) = IsFirstFailing seen axis grid lo hi key × IsMissing seen key
IsErrorOf seen axis grid lo hi (BadCoefficient key) = IsFirstFailing seen axis grid lo hi key × IsMisfit seen axis.slots key
IsErrorOf seen axis grid lo hi (UnknownSession number) = ⊥
IsErrorOf seen axis grid lo hi NoMemory = ⊥

-- the same for a view; want of memory is free
abbrev pub FindsNone : ViewFrame → Cache → Grid → ClientError → Type 0
FindsNone view cache grid (Missing key) = IsErrorOf (seen_by view cache) (axis_of view) grid view.lo view.hi (Missing key)
FindsNone view cache grid (BadCoefficient key) = IsErrorOf (seen_by view cache) (axis_of view) grid view.lo view.hi (BadCoefficient key)
FindsNone view cache grid (UnknownSession number) = ⊥
FindsNone view cache grid NoMemory = ⊤

-- the error of a failure
abbrev pub error_of : Failure → ClientError
error_of f = if f.is_missing then Missing f.key else BadCoefficient f.key
