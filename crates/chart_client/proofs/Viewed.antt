-- What a view that is drawn shows.
use Rattle.std.proofs.Common.{ℕ, ℤ, ◌≡◌, ◌<◌, List, refl, sym, ◌∙◌, ap, subst, arith}
use Rattle.std.proofs.Math.ListN.{set}
use Rattle.std.specs.Prelude.{Option, Some, Result, Ok, Err, IfErr, IsErrAnd}
use Rattle.line_raster.specs.Canvas.{Canvas}
use Rattle.om3_coeff.specs.declared.key.Key.{Key}
use Rattle.om3_coeff.specs.declared.coef.Coef.{Coef}
use Rattle.chart_grid.specs.declared.axis.Axis.{Axis}
use Rattle.chart_grid.specs.declared.grid.Grid.{Grid}
use Rattle.chart_grid.specs.Projection.{HasCanvas}
use Rattle.coefficient_cache.specs.Caches.{Cache}
use Rattle.plain_chart.specs.declared.value_range.ValueRange.{ValueRange}
use Rattle.plain_chart.specs.Samples.{kept}
use Rattle.plain_chart.specs.Chart.{places}
use Rattle.needed_nodes.specs.Answers.{AreDrawnAs, points_of}
use Rattle.m4_groups.specs.declared.row.Row.{Row}
use Rattle.m4_groups.specs.Points.{AreInOrder, pixels}
use Rattle.m4_groups.specs.Rows.{AreRowsOf}
use Rattle.m4_groups.specs.Heights.{HaveSameHeights}
use Rattle.view_keys.specs.Wanted.{IsWanted}
use Rattle.view_keys.specs.Listed.{IsListOf}
use Rattle.chart_frames.specs.declared.frame.Frame.TheVariants.{View}
use Rattle.chart_frames.specs.declared.frame.ViewFrame.{ViewFrame}
use Rattle.chart_frames.specs.Frames.{FitsView}
use Rattle.chart_client.specs.declared.holding.Holding.{Holding}
use Rattle.chart_client.specs.Holdings.{told_by, axis_of, seen_by, with_cache}
use Rattle.chart_client.specs.Agreeing.{IsGridOf, Agrees}
use Rattle.chart_client.specs.Failing.{NoneFails}
use Rattle.chart_client.specs.Drawing.{DrawsPoints}
use Rattle.chart_client.specs.declared.errors.ClientError.{ClientError}
use Rattle.chart_client.specs.declared.errors.ClientError.TheVariants as client
use Rattle.chart_client.specs.Finding.{FindsNone}
use Rattle.chart_client.specs.Accepting.{Accepts, Rejects, viewed}
use Rattle.chart_client.proofs.Places.{IsAt, held_at, replaced}
use Rattle.chart_client.proofs.Drawn.{chart_drawn}

-- what was found of a view, and the picture of its rows
pub record IsDrawn (view : ViewFrame) (cache : Cache) (grid : Grid) (es : List (Key × Coef)) (rows : List Row)
    (drawing : Canvas) : Type 0 where
  pub fits : FitsView view
  pub grid_is : IsGridOf view grid
  pub usable : NoneFails (seen_by view cache) (axis_of view) grid view.lo view.hi
  pub wanted : IsListOf (IsWanted (seen_by view cache) (axis_of view) grid view.lo view.hi) (told_by view cache) es
  pub shown : (list : List (Option ℤ)) → Agrees view cache grid list
      → AreDrawnAs grid view.lo view.hi (points_of (axis_of view) grid list) rows
  pub wide : drawing.w ≡ view.w
  pub high : drawing.h ≡ view.h
  pub draws : (g : Grid) (points : List (ℤ × ℤ)) (of : List Row) → HasCanvas g view.w view.h → AreInOrder g points → AreRowsOf g points of
      → HaveSameHeights view.lo view.hi view.h rows of → DrawsPoints g view.lo view.hi points drawing

-- the law that points are the samples
pub record PointsAreSamples : Type 0 where
  pub order : (list : List (Option ℤ)) (axis : Axis) (grid : Grid) → 0 < axis.step → AreInOrder grid (points_of axis grid list)
  pub placed : (list : List (Option ℤ)) (axis : Axis) (grid : Grid) (range : ValueRange)
      → pixels grid range.lo range.hi (points_of axis grid list) ≡ places grid range (kept grid axis list)

-- the view is accepted
pub view_accepted : (view : ViewFrame) (old new : List Holding) (place : ℕ) (h : Holding) (grid : Grid) (es : List (Key × Coef))
    (rows : List Row) (drawing : Canvas) (cache : Cache)
    → PointsAreSamples → IsAt view.session old place h → IsDrawn view h.cache grid es rows drawing → cache ≡ viewed view h.cache es
    → new ≡ set old place (record { number = h.number; cache = cache }) → Accepts (View view) (Some drawing) old new
view_accepted view old new place h grid es rows drawing cache law at drawn renewed is =
    let some : 0 < view.step = omega (arith, drawn.fits.head.source.axis.least) in
    let range : ValueRange = record { lo = view.lo; hi = view.hi } in (
      h,
      held_at view.session old place h at,
      record {
        grid = grid;
        grid_is = drawn.grid_is;
        usable = drawn.usable;
        wide = drawn.wide;
        high = drawn.high;
        draws = λ list agrees.
            let points : List (ℤ × ℤ) = points_of (axis_of view) grid list in
            chart_drawn grid range (kept grid (axis_of view) list) points drawing view.w view.h drawn.grid_is.canvas drawn.wide drawn.high
            (law.placed list (axis_of view) grid range)
            (let alike : AreDrawnAs grid view.lo view.hi points rows = drawn.shown list agrees in
            drawn.draws grid points alike.of drawn.grid_is.canvas (law.order list (axis_of view) grid some) alike.exact
            (subst (λ (n : ℕ). HaveSameHeights view.lo view.hi n rows alike.of) drawn.grid_is.canvas.rows alike.heights));
        wanted = es;
        all_wanted = drawn.wanted;
        holdings = is ∙ replaced view.session old place h cache at ∙ ap (λ (c : Cache). with_cache view.session c old) renewed;
      },
    )

-- an error that a call passes on
pub err_as : {T E : Type 0} (r : Result T E) (Q : E → Type 0) (e : E) → IsErrAnd r (λ x. x ≡ e) → Q e → IfErr r Q
err_as (Ok v) Q e is holds = tt
err_as (Err x) Q e is holds = subst Q (sym is) holds

-- the view isn't accepted
pub view_rejected : (view : ViewFrame) (old : List Holding) (place : ℕ) (h : Holding) (grid : Grid) (e : ClientError)
    → IsAt view.session old place h → IsGridOf view grid → FindsNone view h.cache grid e → Rejects (View view) e old
view_rejected view old place h grid (client.Missing key) at is none =
    record {
      view = view;
      is = refl;
      holding = h;
      open_is = held_at view.session old place h at;
      grid = grid;
      grid_is = is;
      first = none.0;
      how = none.1;
    }
view_rejected view old place h grid (client.BadCoefficient key) at is none =
    record {
      view = view;
      is = refl;
      holding = h;
      open_is = held_at view.session old place h at;
      grid = grid;
      grid_is = is;
      first = none.0;
      how = none.1;
    }
view_rejected view old place h grid (client.UnknownSession number) at is none = absurd none
view_rejected view old place h grid client.NoMemory at is none = tt
