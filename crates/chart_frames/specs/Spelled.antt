-- The bytes of the parts of a frame, each in front of what follows it.
use Rattle.std.specs.Prelude.{ℕ, ℤ, ◌+◌, ◌*◌, List, [], ◌∷◌, ◌++◌, length}
use Rattle.om3_coeff.specs.declared.key.Key.{Key}
use Rattle.om3_coeff.specs.declared.coef.Coef.{Coef}
use Rattle.m4_groups.specs.declared.row.Row.{Row}
use Rattle.chart_frames.specs.declared.frame.Frame.{Frame}
use Rattle.chart_frames.specs.declared.frame.Frame.TheVariants.{Done, Refused, Opened, Closed, View, Rows, Live}
use Rattle.chart_frames.specs.declared.frame.Frame.TheVariants as frames
use Rattle.chart_frames.specs.declared.frame.ViewFrame.{ViewFrame}
use Rattle.chart_frames.specs.declared.frame.RowsFrame.{RowsFrame}
use Rattle.chart_frames.specs.declared.reports.ListedSeries.{ListedSeries}
use Rattle.chart_frames.specs.declared.reports.Run.{Run}
use Rattle.chart_frames.specs.declared.reports.Report.{Report}
use Rattle.chart_frames.specs.declared.reports.Report.TheVariants.{Catalog, Values, Swept}
use Rattle.chart_frames.specs.Format.{number_bytes}
use Rattle.chart_frames.specs.Frames.{unsigned, key_number, flags_of, number_of_flag, name_number}

-- the eight bytes of a signed number
abbrev pub signed_bytes : ℤ → List ℕ
signed_bytes z = number_bytes 8 (unsigned z)

-- the length and the kind of a frame, and what follows
abbrev pub framed : ℕ → ℕ → List ℕ → List ℕ
framed length kind tail = number_bytes 4 length ++ (number_bytes 1 kind ++ tail)

-- two signed numbers, and what follows
abbrev pub two_before : ℤ → ℤ → List ℕ → List ℕ
two_before low high tail = signed_bytes low ++ (signed_bytes high ++ tail)

-- where a view is shown, and what follows
unfoldable pub place_before : ViewFrame → List ℕ → List ℕ
place_before v tail =
    number_bytes 4 v.session ++ (number_bytes 2 v.series ++ (number_bytes 2 v.w ++ (number_bytes 2 v.h ++ two_before v.t0 v.t1 tail)))

-- what is shown of a view up to the number of coefficients, and what follows
unfoldable pub source_before : ViewFrame → List ℕ → List ℕ
source_before v tail =
    two_before v.lo v.hi (signed_bytes v.start ++ (number_bytes 4 v.step ++ (number_bytes 8 v.slots
    ++ (number_bytes 1 v.has ++ two_before v.rmin v.rmax (number_bytes 4 v.count ++ tail)))))

-- the fields of a view behind the kind, up to the number of coefficients, and what follows
abbrev pub view_before : ViewFrame → List ℕ → List ℕ
view_before v tail = place_before v (source_before v tail)

-- the fields behind the kind, up to the number of rows, and what follows
unfoldable pub rows_before : RowsFrame → List ℕ → List ℕ
rows_before r tail =
    number_bytes 4 r.session ++ (number_bytes 2 r.w ++ (number_bytes 2 r.h ++ two_before r.lo r.hi (number_bytes 2 r.count ++ tail)))

-- one coefficient, and what follows
unfoldable pub coef_before : Key × Coef → List ℕ → List ℕ
coef_before e tail = number_bytes 8 (key_number e.0) ++ (number_bytes 1 (flags_of e.1) ++ two_before e.1.dmin e.1.dmax tail)

-- coefficients, and what follows
abbrev pub coefs_before : List (Key × Coef) → List ℕ → List ℕ
coefs_before [] tail = tail
coefs_before (e ∷ es) tail = coef_before e (coefs_before es tail)

-- one row, and what follows
unfoldable pub row_before : Row → List ℕ → List ℕ
row_before r tail = number_bytes 2 r.column ++ two_before r.first r.least (two_before r.greatest r.last tail)

-- rows, and what follows
abbrev pub rows_all_before : List Row → List ℕ → List ℕ
rows_all_before [] tail = tail
rows_all_before (r ∷ rs) tail = row_before r (rows_all_before rs tail)

-- a name in its length and 31 bytes, and what follows
unfoldable pub name_before : List ℕ → List ℕ → List ℕ
name_before name tail = number_bytes 1 (length name) ++ (number_bytes 31 (name_number name) ++ tail)

-- what a catalog says of a series behind its name, and what follows
unfoldable pub facts_before : ℕ → ℤ → ℕ → ℕ → ℕ → ℤ → ℤ → List ℕ → List ℕ
facts_before scale start step slots has rmin rmax tail =
    number_bytes 1 scale ++ (signed_bytes start ++ (number_bytes 4
    step ++ (number_bytes 8 slots ++ (number_bytes 1 has ++ two_before rmin rmax tail))))

-- what a catalog says of a series, and what follows
abbrev pub listed_before : ListedSeries → List ℕ → List ℕ
listed_before s tail = name_before s.name (facts_before s.scale s.start s.step s.slots s.has s.rmin s.rmax tail)

abbrev pub series_before : List ListedSeries → List ℕ → List ℕ
series_before [] tail = tail
series_before (s ∷ ss) tail = listed_before s (series_before ss tail)

-- the fields of a catalog behind the kind, up to the number of series, and what follows
unfoldable pub catalog_before : ℕ → ℕ → ℕ → List ℕ → List ℕ
catalog_before total used count tail = number_bytes 4 total ++ (number_bytes 4 used ++ (number_bytes 2 count ++ tail))

-- one run, and what follows
unfoldable pub run_before : Run → List ℕ → List ℕ
run_before r tail = number_bytes 8 r.first ++ (number_bytes 8 r.count ++ tail)

abbrev pub runs_before : List Run → List ℕ → List ℕ
runs_before [] tail = tail
runs_before (r ∷ rs) tail = run_before r (runs_before rs tail)

-- stored values, and what follows
abbrev pub values_before : List ℤ → List ℕ → List ℕ
values_before [] tail = tail
values_before (v ∷ vs) tail = signed_bytes v ++ values_before vs tail

-- the series and where more values are, and what follows
unfoldable pub asked_before : ℕ → ℕ → ℤ → List ℕ → List ℕ
asked_before series more next tail = number_bytes 2 series ++ (number_bytes 1 more ++ (signed_bytes next ++ tail))

-- the numbers of runs and of values, and what follows
unfoldable pub counts_before : ℕ → ℕ → List ℕ → List ℕ
counts_before runs values tail = number_bytes 2 runs ++ (number_bytes 2 values ++ tail)

-- a report, and what follows
abbrev pub report_before : Report → List ℕ → List ℕ
report_before (Catalog c) tail = framed (11 + 70 * length c.series) 8
    (catalog_before c.total c.used (length c.series) (series_before c.series tail))
report_before (Values v) tail =
    framed (16 + (16 * length v.runs + 8 * length v.values)) 9
    (asked_before v.series (number_of_flag v.more) v.next
    (counts_before (length v.runs) (length v.values) (runs_before v.runs (values_before v.values tail))))
report_before (Swept clears used more) tail =
    framed 8 10 (number_bytes 2 clears ++ (number_bytes 4 used ++ (number_bytes 1 (number_of_flag more) ++ tail)))

-- a frame, and what follows
abbrev pub frame_before : Frame → List ℕ → List ℕ
frame_before (Done slots) tail = framed 9 1 (number_bytes 8 slots ++ tail)
frame_before (Refused number a b) tail = framed 18 2 (number_bytes 1 number ++ (number_bytes 8 a ++ (number_bytes 8 b ++ tail)))
frame_before (Opened session cache) tail = framed 9 3 (number_bytes 4 session ++ (number_bytes 4 cache ++ tail))
frame_before (Closed session) tail = framed 5 4 (number_bytes 4 session ++ tail)
frame_before (View v) tail = framed (84 + 25 * v.count) 5 (view_before v (coefs_before v.coefs tail))
frame_before (Rows r) tail = framed (27 + 34 * r.count) 6 (rows_before r (rows_all_before r.rows tail))
frame_before (Live session on) tail = framed 6 7 (number_bytes 4 session ++ (number_bytes 1 (number_of_flag on) ++ tail))
frame_before (frames.Report r) tail = report_before r tail
