-- How far the frame at the front of some bytes was read.
use Rattle.std.specs.Prelude.{ℕ, ◌≡◌, ◌+◌, ◌*◌, ◌≤◌, List, length}
use Rattle.om3_coeff.specs.declared.key.Key.{Key}
use Rattle.om3_coeff.specs.declared.coef.Coef.{Coef}
use Rattle.m4_groups.specs.declared.row.Row.{Row}
use Rattle.chart_frames.specs.declared.frame.Frame.{Frame}
use Rattle.chart_frames.specs.declared.frame.Frame.TheVariants as frames
use Rattle.chart_frames.specs.declared.frame.ViewFrame.{ViewFrame}
use Rattle.chart_frames.specs.declared.frame.RowsFrame.{RowsFrame}
use Rattle.chart_frames.specs.declared.opening.Opening.{Opening}
use Rattle.chart_frames.specs.declared.opening.Opening.TheVariants as openings
use Rattle.chart_frames.specs.declared.place.Place.{Place}
use Rattle.chart_frames.specs.declared.place.Place.TheVariants as places
use Rattle.chart_frames.specs.Frames.{Fits, FitsViewHead, FitsRowsHead, FitCoefs, FitRows}
use Rattle.chart_frames.specs.Spelled.{framed, view_before, coefs_before, rows_before, rows_all_before, frame_before}

-- a frame without items, or one up to its items, and what follows
abbrev pub Opens : List ℕ → Opening → List ℕ → Type 0
Opens bytes (openings.Whole f) rest = Fits f × (bytes ≡ frame_before f rest)
Opens bytes (openings.View v) rest = FitsViewHead v × (bytes ≡ framed (84 + 25 * v.count) 5 (view_before v rest))
Opens bytes (openings.Rows r) rest = FitsRowsHead r × (bytes ≡ framed (27 + 34 * r.count) 6 (rows_before r rest))

-- the bytes begin with this view, up to these first coefficients of it
pub record ViewReached (bytes : List ℕ) (v : ViewFrame) (coefs : List (Key × Coef)) : Type 0 where
  pub head : FitsViewHead v
  pub fits : FitCoefs v.slots coefs
  pub room : length coefs ≤ v.count
  pub rest : List ℕ
  pub begins : bytes ≡ framed (84 + 25 * v.count) 5 (view_before v (coefs_before coefs rest))

-- the bytes begin with these rows, up to these first ones
pub record RowsReached (bytes : List ℕ) (r : RowsFrame) (rows : List Row) : Type 0 where
  pub head : FitsRowsHead r
  pub fits : FitRows r.w rows
  pub room : length rows ≤ r.count
  pub rest : List ℕ
  pub begins : bytes ≡ framed (27 + 34 * r.count) 6 (rows_before r (rows_all_before rows rest))

-- the bytes begin with this view, of which these are all coefficients, and so many bytes follow it
pub record IsWhole (bytes : List ℕ) (v : ViewFrame) (coefs : List (Key × Coef)) (left : ℕ) : Type 0 where
  pub count : length coefs ≡ v.count
  pub rest : List ℕ
  pub begins : bytes ≡ framed (84 + 25 * v.count) 5 (view_before v (coefs_before coefs rest))
  pub left_is : length rest ≡ left

-- the bytes begin with these rows, of which these are all, and so many bytes follow them
pub record AreAll (bytes : List ℕ) (r : RowsFrame) (rows : List Row) (left : ℕ) : Type 0 where
  pub count : length rows ≡ r.count
  pub rest : List ℕ
  pub begins : bytes ≡ framed (27 + 34 * r.count) 6 (rows_before r (rows_all_before rows rest))
  pub left_is : length rest ≡ left

-- the view with these coefficients
abbrev pub view_frame : ViewFrame → List (Key × Coef) → Frame
view_frame v coefs = frames.View (record v { coefs = coefs })

-- the frame with these rows
abbrev pub rows_frame : RowsFrame → List Row → Frame
rows_frame r rows = frames.Rows (record r { rows = rows })

-- what is known of the bytes
abbrev pub Reached : List ℕ → Place → Type 0
Reached bytes places.Start = Unit {0}
Reached bytes (places.View v coefs) = ViewReached bytes v coefs.items
Reached bytes (places.Rows r rows) = RowsReached bytes r rows.items

-- the bytes begin with the frame, and so many follow it
pub record Leaves (bytes : List ℕ) (f : Frame) (left : ℕ) : Type 0 where
  pub fits : Fits f
  pub rest : List ℕ
  pub begins : bytes ≡ frame_before f rest
  pub left_is : length rest ≡ left
