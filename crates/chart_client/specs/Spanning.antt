-- The least and the greatest value of each column of a picture.
use Rattle.std.specs.Prelude.{ℕ, ℤ, ◌≡◌, ◌==◌, ⊤, if◌then◌else◌, List, [], ◌∷◌, Option, None, Some}
use Rattle.om3_coeff.specs.declared.span.Span.{Span}
use Rattle.chart_grid.specs.declared.grid.Grid.{Grid}
use Rattle.chart_grid.specs.Projection.{HasCanvas}
use Rattle.m4_groups.specs.declared.row.Row.{Row}
use Rattle.m4_groups.specs.Points.{AreInOrder, spots, values_in}
use Rattle.m4_groups.specs.Rows.{AreRowsOf}
use Rattle.needed_nodes.specs.Answers.{IsSpanOfValues, points_of}
use Rattle.chart_frames.specs.declared.frame.Frame.{Frame}
use Rattle.chart_frames.specs.declared.frame.Frame.TheVariants.{Done, Refused, Opened, Closed, View, Rows, Live, Report}
use Rattle.chart_frames.specs.declared.frame.ViewFrame.{ViewFrame}
use Rattle.chart_frames.specs.declared.frame.RowsFrame.{RowsFrame}
use Rattle.chart_client.specs.declared.holding.Holding.{Holding}
use Rattle.chart_client.specs.Holdings.{holding_of, axis_of}
use Rattle.chart_client.specs.Agreeing.{IsGridOf, Agrees}

-- a row's least and greatest value
abbrev pub row_span : Row → Span
row_span r = record { min = r.least; max = r.greatest }

-- those of the first row of column x, or nothing where no row is of it
abbrev pub span_in : List Row → ℕ → Option Span
span_in [] x = None
span_in (r ∷ rows) x = if r.column == x then Some (row_span r) else span_in rows x

-- For each column the rows have the least and the greatest value of the points in it, or nothing where none is.
abbrev pub SpanColumns : Grid → List (ℤ × ℤ) → List Row → Type 0
SpanColumns grid points rows = (x : ℕ) → IsSpanOfValues (values_in x (spots grid points)) (span_in rows x)

-- They do so for the points that a view keeps of each list of slots that agrees with its frame and the client's list.
abbrev pub SpanView : ViewFrame → List Holding → List Row → Type 0
SpanView view old rows = (holding : Holding) (grid : Grid) (list : List (Option ℤ))
    → holding_of view.session old ≡ Some holding → IsGridOf view grid → Agrees view holding.cache grid list
    → SpanColumns grid (points_of (axis_of view) grid list) rows

-- They do so for each list of points with the rows of this frame on its canvas, in whatever window.
abbrev pub SpanRowsFrame : RowsFrame → List Row → Type 0
SpanRowsFrame frame rows = (grid : Grid) (points : List (ℤ × ℤ))
    → HasCanvas grid frame.w frame.h → AreInOrder grid points → AreRowsOf grid points frame.rows → SpanColumns grid points rows

-- They do so for the picture of a frame.
abbrev pub SpanPicture : Frame → List Holding → List Row → Type 0
SpanPicture (Done slots) old rows = ⊤
SpanPicture (Refused number a b) old rows = ⊤
SpanPicture (Opened number size) old rows = ⊤
SpanPicture (Closed number) old rows = ⊤
SpanPicture (View view) old rows = SpanView view old rows
SpanPicture (Rows frame) old rows = SpanRowsFrame frame rows
SpanPicture (Live number on) old rows = ⊤
SpanPicture (Report report) old rows = ⊤
