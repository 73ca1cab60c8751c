-- What a session is answered for a sum of two series of a book.
use Rattle.std.specs.Prelude.{◌≡◌, ◌<◌, ℕ, List, length, Option, Result, Ok, Err, ⊤}
use Rattle.block_disk.specs.Counts.{HasRisen}
use Rattle.block_disk.specs.View.{View}
use Rattle.chart_frames.specs.declared.frame.Frame.{Frame}
use Rattle.chart_frames.specs.declared.frame.Frame.TheVariants.{Refused, Rows}
use Rattle.chart_frames.specs.declared.frame.RowsFrame.{RowsFrame}
use Rattle.chart_grid.specs.declared.grid.Grid.{Grid}
use Rattle.chart_service.specs.declared.failure.ServiceError.{ServiceError}
use Rattle.chart_service.specs.declared.failure.ServiceError.TheVariants.{DiskFault, Damaged, NoMemory}
use Rattle.derive_command.specs.Answers.{AreOnOneGrid, IsGridOf, IsRefused, asked_range, number_of}
use Rattle.derive_command.specs.declared.derive_refusal.DeriveRefusal.{DeriveRefusal}
use Rattle.derive_command.specs.declared.derive_refusal.DeriveRefusal.TheVariants.{TooLarge}
use Rattle.derive_command.specs.declared.request.Request.{Request}
use Rattle.m4_groups.specs.declared.row.Row.{Row}
use Rattle.plain_chart.specs.Samples.{kept, values_of}
use Rattle.plain_chart.specs.declared.sample.Sample.{Sample}
use Rattle.plain_chart.specs.declared.value_range.ValueRange.{ValueRange}
use Rattle.series_book.specs.declared.one_series.Series.{Series}
use Rattle.series_pair.specs.Derived.{AreSumRows, ShowsRange}
use Rattle.series_pair.specs.declared.sum_error.SumError.{SumError}
use Rattle.series_pair.specs.declared.sum_error.SumError.TheVariants as sum
use Rattle.series_pair.specs.Damage.{IsBadForChart}

-- the frame of a refusal: it has the number that `derive` gives it, and carries no others
abbrev pub refused : DeriveRefusal → Frame
refused why = Refused (number_of why) 0 0

-- whatever the pages are, it refuses, or tells rows in the session
abbrev pub MayTellRows : ℕ → Frame → Type 0
MayTellRows session (Refused number a b) = ⊤
MayTellRows session (Rows rows) = rows.session ≡ session
MayTellRows session frame = ⊥

-- a frame of rows
abbrev pub SumRows : RowsFrame → Frame
SumRows frame = Rows frame

-- the frame's fields are those of these rows on a grid, over the range of these samples or the one that is asked for
pub record ShowsRows (session : ℕ) (g : Grid) (asked : Option ValueRange) (samples : List Sample) (rows : List Row)
    (frame : RowsFrame) : Type 0 where
  pub range : ValueRange
  pub shows : ShowsRange asked (values_of samples) range
  pub is : frame ≡ record { session = session; w = g.w; h = g.h; lo = range.lo; hi = range.hi; count = length rows; rows = rows }

-- the frame has the rows of a times the first series and b times the second
pub record HasSumRows (book : List Series) (r : Request) (session : ℕ) (frame : RowsFrame) : Type 0 where
  pub series : AreOnOneGrid book r
  pub grid : Grid
  pub grid_is : IsGridOf r grid
  pub rows : List Row
  pub are : AreSumRows book series.x series.y r.a r.b grid rows
  pub fields : ShowsRows session grid (asked_range r.range) (kept grid are.axis are.sums) rows frame

-- the frame is a refusal that stands against the request
pub record RefusesSum (book : List Series) (r : Request) (frame : Frame) : Type 0 where
  pub why : DeriveRefusal
  pub refused_for : IsRefused book r why
  pub frame_is : frame ≡ refused why

-- the frame answers the request for the session
abbrev pub AnswersSum : List Series → Request → ℕ → Frame → Type 0
AnswersSum book r session (Rows frame) = HasSumRows book r session frame
AnswersSum book r session frame = RefusesSum book r frame

-- what is answered where the rows weren't found
abbrev pub error_reply : SumError → Result Frame ServiceError
error_reply (sum.TooLarge time) = Ok (refused TooLarge)
error_reply sum.DiskFault = Err DiskFault
error_reply (sum.Damaged page) = Err (Damaged page)
error_reply sum.NoMemory = Err NoMemory

-- why there was no answer, whatever the pages are
abbrev pub IsSumCause : ServiceError → Type 0 → ℕ → View → View → Type 0
IsSumCause DiskFault told total old new = HasRisen old.faults new.faults
IsSumCause (Damaged page) told total old new = (page < total) × (told → IsBadForChart new.size new.image page)
IsSumCause NoMemory told total old new = ⊤
