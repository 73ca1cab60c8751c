-- What the calls of this crate answer.
use Rattle.std.specs.Prelude.{ℕ, ℤ, ◌≡◌, ◌+◌, ◌*◌, ◌≤ℤ◌, List, [], map, Option, None, Some, ⊤}
use Rattle.chart_grid.specs.declared.axis.Axis.{Axis}
use Rattle.chart_grid.specs.declared.grid.Grid.{Grid}
use Rattle.om3_coeff.specs.declared.key.Key.{Key}
use Rattle.om3_coeff.specs.declared.span.Span.{Span}
use Rattle.om3_coeff.specs.declared.coef.Coef.{Coef}
use Rattle.om3_coeff.specs.declared.errors.NodeError.{NodeError}
use Rattle.om3_coeff.specs.declared.errors.NodeError.TheVariants.{DiskFault, Damaged, Missing, BadCoefficient}
use Rattle.om3_coeff.specs.Keys.{height, IsNode}
use Rattle.om3_coeff.specs.Coefs.{parts}
use Rattle.om3_coeff.specs.View.{NodesView, AgreesOn, HasCause}
use Rattle.m4_groups.specs.declared.row.Row.{Row}
use Rattle.m4_groups.specs.Rows.{AreRowsOf}
use Rattle.m4_groups.specs.Heights.{HaveSameHeights, IsDrawable}
use Rattle.plain_chart.specs.Samples.{kept, Spans, sample_points}
use Rattle.view_keys.specs.Needed.{IsNeeded}
use Rattle.view_keys.specs.Wanted.{Seen, IsWanted}
use Rattle.needed_nodes.specs.declared.scan_of.ScanOf.{ScanOf}
use Rattle.needed_nodes.specs.declared.scan_of.ScanOf.TheVariants.{Node, NoMemory}

-- what nodes show of a series
abbrev pub seen_of : NodesView → Seen
seen_of view = record { root = view.root; told = view.told }

-- the nodes agree with a list of slots for a view over the range lo to hi: on all keys that it needs
abbrev pub AgreesForView : NodesView → Axis → Grid → ℤ → ℤ → List (Option ℤ) → Type 0
AgreesForView view axis grid lo hi list = AgreesOn (IsNeeded list axis grid lo hi) view list

-- the coefficient splits some span
pub record CanSplit (c : Coef) : Type 0 where
  pub span : Span
  pub halves : Option Span × Option Span
  pub split : parts span c ≡ Some halves

-- a key of the tree over n slots that has a coefficient, with one that splits
pub record IsEntry (n : ℕ) (e : Key × Coef) : Type 0 where
  pub node : IsNode (height n) e.0
  pub good : CanSplit e.1

-- the most keys that a view of w columns needs of a series of n slots
abbrev pub most_needed : ℕ → ℕ → ℕ
most_needed w n = (3 * w + 1) * height n

-- the most blocks that their asks read
abbrev pub most_reads : ℕ → ℕ → ℕ
most_reads w n = (4 * w + 2) * height n

-- a key that the error names is of this kind
abbrev pub NamesOf : (Key → Type 0) → NodeError → Type 0
NamesOf Kind DiskFault = ⊤
NamesOf Kind (Damaged page) = ⊤
NamesOf Kind (Missing key) = Kind key
NamesOf Kind (BadCoefficient key) = Kind key

-- An error is one that an ask of the nodes gave; where they tell their coefficients, a key that it names
-- is one that the view wants. Want of memory is free.
abbrev pub IsCauseFor : NodesView → NodesView → Axis → Grid → ℤ → ℤ → ScanOf → Type 0
IsCauseFor old new axis grid lo hi (Node e) = HasCause old new e × (old.tells → NamesOf (IsWanted (seen_of old) axis grid lo hi) e)
IsCauseFor old new axis grid lo hi NoMemory = ⊤

-- a row that a canvas of w columns can show, whose first and last value lie from the least to the greatest
pub record IsShownRow (w : ℕ) (r : Row) : Type 0 where
  pub drawable : IsDrawable w r
  pub first_low : r.least ≤ℤ r.first
  pub first_high : r.first ≤ℤ r.greatest
  pub last_low : r.least ≤ℤ r.last
  pub last_high : r.last ≤ℤ r.greatest

-- a row's column, and its least and greatest value
pub record Extent : Type 0 where
  pub column : ℕ
  pub least : ℤ
  pub greatest : ℤ

abbrev pub extent_of : Row → Extent
extent_of r = record { column = r.column; least = r.least; greatest = r.greatest }

-- The rows have the columns, the least and the greatest values of the rows of the points, and over the range
-- lo to hi each of their values has the height of the points' one. So both are drawn alike.
pub record AreDrawnAs (grid : Grid) (lo hi : ℤ) (points : List (ℤ × ℤ)) (rows : List Row) : Type 0 where
  pub of : List Row
  pub exact : AreRowsOf grid points of
  pub extents : map extent_of rows ≡ map extent_of of
  pub heights : HaveSameHeights lo hi grid.h rows of

-- the points that a view keeps of a list of slots: the times and the values of the stored slots in its
-- window, in order of time
abbrev pub points_of : Axis → Grid → List (Option ℤ) → List (ℤ × ℤ)
points_of axis grid list = sample_points (kept grid axis list)

-- the span has the least and the greatest of the values, or is nothing where there is none
abbrev pub IsSpanOfValues : List ℤ → Option Span → Type 0
IsSpanOfValues values None = values ≡ []
IsSpanOfValues values (Some s) = Spans values (record { lo = s.min; hi = s.max })
