-- What the host answers of a book: its series, and the stored values of a window.
use Rattle.std.specs.Prelude.{ℕ, ℤ, pos, ◌-◌, ◌*◌, ◌+ℤ◌, ◌≤◌, nat_lt, if◌then◌else◌, List, map, length, All, Option, None, Some}
use Rattle.om3_coeff.specs.declared.span.Span.{Span}
use Rattle.om3_coeff.specs.Spans.{span_over}
use Rattle.chart_frames.specs.declared.reports.CatalogFrame.{CatalogFrame}
use Rattle.chart_frames.specs.declared.reports.ListedSeries.{ListedSeries}
use Rattle.chart_frames.specs.declared.reports.ValuesFrame.{ValuesFrame}
use Rattle.chart_frames.specs.declared.reports.Run.{Run}
use Rattle.retention.specs.Sweeps.{slots_before}
use Rattle.series_book.specs.declared.one_series.Series.{Series}
use Rattle.series_book.specs.Pages.{pages_of}
use Rattle.series_store.specs.Windows.{runs_from, stored, window, piece_end}
use Rattle.series_store.specs.declared.slot_run.SlotRun.{SlotRun}

-- 1 where a series has a stored value, and its least and greatest one; 0 where it has none
abbrev pub has_of : Option Span → ℕ
has_of None = 0
has_of (Some s) = 1

abbrev pub least_of : Option Span → ℤ
least_of None = pos 0
least_of (Some s) = s.min

abbrev pub greatest_of : Option Span → ℤ
greatest_of None = pos 0
greatest_of (Some s) = s.max

-- the least and the greatest stored value of a series
abbrev pub values_span : Series → Option Span
values_span series = span_over series.slots 0 (length series.slots)

-- what a catalog says of a series
abbrev pub listed : Series → ListedSeries
listed series = record {
  name = series.name;
  scale = series.scale;
  start = series.start;
  step = series.step;
  slots = length series.slots;
  has = has_of (values_span series);
  rmin = least_of (values_span series);
  rmax = greatest_of (values_span series);
}

-- the catalog of a book in so many pages
abbrev pub catalog_of : ℕ → List Series → CatalogFrame
catalog_of total book = record { total = total; used = pages_of book; series = map listed book }

-- a run by its first slot and the number of its slots
abbrev pub run_in : SlotRun → Run
run_in run = record { first = run.first; count = run.end - run.first }

-- each run ends behind where it begins
abbrev pub AreInOrder : List SlotRun → Type 0
AreInOrder runs = All (λ run. run.first ≤ run.end) runs

-- the time from which to ask on, where slots from `end` on are left of those below `to`
abbrev pub time_left : ℤ → ℕ → ℕ → ℕ → ℤ
time_left start step end to = if nat_lt end to then start +ℤ pos (end * step) else pos 0

-- the first piece of the slots from `from` on and below `to` of the series of an id, which ends here
abbrev pub piece_frame : ℕ → Series → ℕ → ℕ → ℕ → ValuesFrame
piece_frame id series from to end = record {
  series = id;
  more = nat_lt end to;
  next = time_left series.start series.step end to;
  runs = map run_in (runs_from from (window series.slots from end));
  values = stored (window series.slots from end);
}

-- the first piece of the slots from a time on and before another
abbrev pub values_of : ℕ → Series → ℤ → ℤ → ValuesFrame
values_of id series t0 t1 =
    let from = slots_before series t0 in
    let to = slots_before series t1 in
    piece_frame id series from to (piece_end from to)
