-- What the walks to the ends of a window's columns find: keys, and the rows of the columns.
use Rattle.std.specs.Prelude.{ℕ, ℤ, suc, ◌≡◌, ◌*◌, ◌<◌, ◌⊎◌, List, [], ◌∷◌, ◌++◌, All, Contains, unwrap_or, Option, None, Some}
use Rattle.om3_coeff.specs.declared.key.Key.{Key}
use Rattle.om3_coeff.specs.declared.span.Span.{Span}
use Rattle.om3_coeff.specs.declared.coef.Coef.{Coef}
use Rattle.om3_coeff.specs.Keys.{end_slot, height, top_key}
use Rattle.om3_coeff.specs.Spans.{Holds}
use Rattle.om3_coeff.specs.View.{NodesView}
use Rattle.m4_groups.specs.declared.row.Row.{Row}
use Rattle.m4_groups.specs.Rows.{columns_of, AreRising}
use Rattle.view_keys.specs.Wanted.{Seen, IsClearBefore, IsClearBehind}
use Rattle.needed_nodes.specs.declared.window.Window.{Window}
use Rattle.needed_nodes.specs.declared.ends.EndValues.{EndValues}
use Rattle.needed_nodes.specs.Ranks.{rank, IsInside}
use Rattle.needed_nodes.specs.Serving.{ServesList}
use Rattle.needed_nodes.specs.Gathering.{Gathered}
use Rattle.needed_nodes.specs.Blocks.{IsSpanBelow}
use Rattle.needed_nodes.specs.Ends.{IsUnevenBy, HoldsAs, AreAmong}
use Rattle.needed_nodes.specs.Answers.{IsShownRow}

-- the end of the range of the top key
abbrev pub top_end : Window → ℕ
top_end w = end_slot (top_key w.axis.slots)

-- the key isn't flat, and may hold the first or the last stored slot of column c: all slots of the
-- column before it, or all behind it, are clear
abbrev pub MayHoldEnd : Window → ℕ → Seen → Key → Type 0
MayHoldEnd w c S k = IsUnevenBy S w k × (IsClearBefore S w.axis w.grid c k ⊎ IsClearBehind S w.axis w.grid c k)

-- it is such a key of its column
pub record IsEndKey (w : Window) (S : Seen) (k : Key) : Type 0 where
  pub column : ℕ
  pub inside : IsInside w column k
  pub clear : MayHoldEnd w column S k

-- it lies within a column below n
pub record IsInColumns (w : Window) (n : ℕ) (k : Key) : Type 0 where
  pub column : ℕ
  pub below : column < n
  pub inside : IsInside w column k

-- v has the height of the first value that the list stores in column c
abbrev pub IsFirstOf : List (Option ℤ) → Window → ℕ → Option ℤ → Type 0
IsFirstOf list w c None = ⊥
IsFirstOf list w c (Some v) = (i : ℕ) × (rank w i ≡ suc c) × HoldsAs list w i v
    × ((j : ℕ) (u : ℤ) → rank w j ≡ suc c → j < i → Holds list j u → ⊥)

-- it has that of the last one
abbrev pub IsLastOf : List (Option ℤ) → Window → ℕ → Option ℤ → Type 0
IsLastOf list w c None = ⊥
IsLastOf list w c (Some v) = (i : ℕ) × (rank w i ≡ suc c) × HoldsAs list w i v
    × ((j : ℕ) (u : ℤ) → rank w j ≡ suc c → i < j → Holds list j u → ⊥)

-- What was found of the ends of column c, whose blocks have the span s.
pub record HasEnds (view : NodesView) (w : Window) (c : ℕ) (s : Span) (keys more : List (Key × Coef)) (values : EndValues) : Type 0 where
  pub gathered : Gathered view w (IsInside w c) (MayHoldEnd w c) (2 * height w.axis.slots) keys more
  pub among : AreAmong (Some s) values
  pub first : (list : List (Option ℤ)) → ServesList view w list → IsFirstOf list w c values.first
  pub last : (list : List (Option ℤ)) → ServesList view w list → IsLastOf list w c values.last

-- the row of a column by the span of its blocks and by what was found of its ends
abbrev pub row_by : ℕ → Span → EndValues → Row
row_by c s values = record {
  column = c;
  first = unwrap_or values.first s.min;
  least = s.min;
  greatest = s.max;
  last = unwrap_or values.last s.min;
}

-- the row has the least and the greatest value that the list stores in its column, and values of the
-- heights of the first and of the last one
pub record IsRowOf (list : List (Option ℤ)) (w : Window) (r : Row) : Type 0 where
  pub first : IsFirstOf list w r.column (Some r.first)
  pub span : IsSpanBelow list w w.end r.column (record { min = r.least; max = r.greatest })
  pub last : IsLastOf list w r.column (Some r.last)

-- the list stores nothing in column c
abbrev pub IsEmptyColumn : List (Option ℤ) → Window → ℕ → Type 0
IsEmptyColumn list w c = (i : ℕ) (v : ℤ) → rank w i ≡ suc c → Holds list i v → ⊥

-- column c got no row, since nothing is stored there
pub record HasNoRow (view : NodesView) (w : Window) (c : ℕ) (rows later : List Row) : Type 0 where
  pub is : later ≡ rows
  pub empty : (list : List (Option ℤ)) → ServesList view w list → IsEmptyColumn list w c

-- it got its row
pub record HasRow (view : NodesView) (w : Window) (c : ℕ) (rows later : List Row) : Type 0 where
  pub row : Row
  pub is : later ≡ rows ++ row ∷ []
  pub column : row.column ≡ c
  pub shown : IsShownRow w.grid.w row
  pub of_list : (list : List (Option ℤ)) → ServesList view w list → IsRowOf list w row

-- what was found of column c
pub record HasColumn (view : NodesView) (w : Window) (c : ℕ) (keys more : List (Key × Coef)) (rows later : List Row) : Type 0 where
  pub gathered : Gathered view w (IsInside w c) (MayHoldEnd w c) (2 * height w.axis.slots) keys more
  pub row : HasNoRow view w c rows later ⊎ HasRow view w c rows later

-- What was found of the columns below n.
pub record HasColumns (view : NodesView) (w : Window) (n : ℕ) (keys more : List (Key × Coef)) (rows : List Row) : Type 0 where
  pub gathered : Gathered view w (IsInColumns w n) (IsEndKey w) (n * (2 * height w.axis.slots)) keys more
  pub rising : AreRising rows
  pub shown : All (IsShownRow w.grid.w) rows
  pub below : All (λ r. r.column < n) rows
  pub each : (list : List (Option ℤ)) → ServesList view w list → All (IsRowOf list w) rows
  pub every : (list : List (Option ℤ)) → ServesList view w list → (c i : ℕ) (v : ℤ) → c < n → rank w i ≡ suc c → Holds list i v
      → Contains (columns_of rows) c
