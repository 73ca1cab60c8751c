-- Frames: the numbers of their fields, their one spelling, and the rules that their fields meet.
use Rattle.std.specs.Prelude.{ℕ, ℤ, pos, ◌≡◌, ◌+◌, ◌-◌, ◌*◌, ◌^◌, ◌<◌, ◌≤◌, ◌≤ℤ◌, ◌<ℤ◌, ◌⊎◌, Bool, false, ◌&&◌, ◌||◌, IsTrue, List, [], ◌∷◌}
use Rattle.std.specs.Prelude.{◌++◌, length, replicate, All, AllPairs, if◌then◌else◌}
use Rattle.std.specs.Int.{w64, cast_unsigned}
use Rattle.om3_coeff.specs.declared.key.Key.{Key}
use Rattle.om3_coeff.specs.declared.coef.Coef.{Coef}
use Rattle.om3_coeff.specs.Keys.{height, IsNode}
use Rattle.series_book.specs.Names.{is_name}
use Rattle.m4_groups.specs.declared.row.Row.{Row}
use Rattle.m4_groups.specs.Rows.{AreRising}
use Rattle.whole_number.specs.Range.{IsValue, IsTime}
use Rattle.whole_number.specs.SlotTimes.{EndsInTime}
use Rattle.chart_frames.specs.declared.limits.TheConstants.{MOST_SLOTS}
use Rattle.series_book.specs.declared.refusal_numbers.TheConstants.{SUM_TOO_LARGE}
use Rattle.chart_frames.specs.declared.frame.Frame.{Frame}
use Rattle.chart_frames.specs.declared.frame.Frame.TheVariants.{Done, Refused, Opened, Closed, View, Rows, Live}
use Rattle.chart_frames.specs.declared.frame.Frame.TheVariants as frames
use Rattle.chart_frames.specs.declared.frame.ViewFrame.{ViewFrame}
use Rattle.chart_frames.specs.declared.frame.RowsFrame.{RowsFrame}
use Rattle.chart_frames.specs.declared.reports.ListedSeries.{ListedSeries}
use Rattle.chart_frames.specs.declared.reports.CatalogFrame.{CatalogFrame}
use Rattle.chart_frames.specs.declared.reports.Run.{Run}
use Rattle.chart_frames.specs.declared.reports.ValuesFrame.{ValuesFrame}
use Rattle.chart_frames.specs.declared.reports.Report.{Report}
use Rattle.chart_frames.specs.declared.reports.Report.TheVariants.{Catalog, Values, Swept}
use Rattle.chart_frames.specs.Format.{number_in, spell}
use Rattle.chart_frames.specs.Fields.{names_first, names_second, lesser, frame_fields}

-- a signed number as the number that its eight bytes spell
abbrev pub unsigned : ℤ → ℕ
unsigned z = cast_unsigned w64 z

-- ---- numbers

abbrev pub key_number : Key → ℕ
key_number k = k.level * 2 ^ 40 + k.index

-- 1 where the left half has a value, 2 where the right one has, and 3 where both have
abbrev pub flags_of : Coef → ℕ
flags_of c = (if c.left then 1 else 0) + (if c.right then 2 else 0)

abbrev pub coefs_numbers : List (Key × Coef) → List ℕ
coefs_numbers [] = []
coefs_numbers (e ∷ es) = key_number e.0 ∷ (flags_of e.1 ∷ (unsigned e.1.dmin ∷ (unsigned e.1.dmax ∷ coefs_numbers es)))

abbrev pub all_rows_numbers : List Row → List ℕ
all_rows_numbers [] = []
all_rows_numbers (r ∷ rs) =
    r.column ∷ (unsigned r.first ∷ (unsigned r.least ∷ (unsigned r.greatest ∷ (unsigned r.last ∷ all_rows_numbers rs))))

-- the numbers of a view's fields, with these coefficients
abbrev pub view_numbers : ViewFrame → List (Key × Coef) → List ℕ
view_numbers v coefs =
    (84 + 25 * v.count) ∷ (5 ∷ (v.session ∷ (v.series ∷ (v.w ∷ (v.h ∷ (unsigned v.t0 ∷ (unsigned v.t1 ∷ (unsigned v.lo ∷ (unsigned v.hi
    ∷ (unsigned v.start ∷ (v.step ∷ (v.slots ∷ (v.has ∷ (unsigned v.rmin ∷ (unsigned v.rmax ∷ (v.count ∷ coefs_numbers coefs))))))))))))))))

-- the numbers of the fields of a frame of rows, with these rows
abbrev pub rows_numbers : RowsFrame → List Row → List ℕ
rows_numbers r rows =
    (27 + 34 * r.count) ∷ (6 ∷ (r.session ∷ (r.w ∷ (r.h ∷ (unsigned r.lo ∷ (unsigned r.hi ∷ (r.count ∷ all_rows_numbers rows)))))))

-- 1 where it is so
abbrev pub number_of_flag : Bool → ℕ
number_of_flag on = if on then 1 else 0

-- the number that 31 bytes spell: a name, and 0 behind it
abbrev pub name_number : List ℕ → ℕ
name_number name = number_in 31 (name ++ replicate (31 - length name) 0)

abbrev pub listed_numbers : ListedSeries → List ℕ → List ℕ
listed_numbers s tail =
    length s.name ∷ (name_number s.name ∷ (s.scale ∷ (unsigned
    s.start ∷ (s.step ∷ (s.slots ∷ (s.has ∷ (unsigned s.rmin ∷ (unsigned s.rmax ∷ tail))))))))

abbrev pub series_numbers : List ListedSeries → List ℕ
series_numbers [] = []
series_numbers (s ∷ ss) = listed_numbers s (series_numbers ss)

abbrev pub runs_numbers : List Run → List ℕ → List ℕ
runs_numbers [] tail = tail
runs_numbers (r ∷ rs) tail = r.first ∷ (r.count ∷ runs_numbers rs tail)

abbrev pub values_numbers : List ℤ → List ℕ
values_numbers [] = []
values_numbers (v ∷ vs) = unsigned v ∷ values_numbers vs

-- the numbers of a report's fields
abbrev pub report_numbers : Report → List ℕ
report_numbers (Catalog c) = (11 + 70 * length c.series) ∷ (8 ∷ (c.total ∷ (c.used ∷ (length c.series ∷ series_numbers c.series))))
report_numbers (Values v) =
    (16 + (16 * length v.runs + 8 * length v.values)) ∷ (9 ∷ (v.series ∷ (number_of_flag v.more ∷ (unsigned v.next
    ∷ (length v.runs ∷ (length v.values ∷ runs_numbers v.runs (values_numbers v.values)))))))
report_numbers (Swept clears used more) = 8 ∷ (10 ∷ (clears ∷ (used ∷ (number_of_flag more ∷ []))))

-- the numbers of a frame's fields, in their order
abbrev pub numbers_of : Frame → List ℕ
numbers_of (Done slots) = 9 ∷ (1 ∷ (slots ∷ []))
numbers_of (Refused number a b) = 18 ∷ (2 ∷ (number ∷ (a ∷ (b ∷ []))))
numbers_of (Opened session cache) = 9 ∷ (3 ∷ (session ∷ (cache ∷ [])))
numbers_of (Closed session) = 5 ∷ (4 ∷ (session ∷ []))
numbers_of (View v) = view_numbers v v.coefs
numbers_of (Rows r) = rows_numbers r r.rows
numbers_of (Live session on) = 6 ∷ (7 ∷ (session ∷ (number_of_flag on ∷ [])))
numbers_of (frames.Report r) = report_numbers r

-- the bytes of a frame: each field's number by its size
abbrev pub spelling : Frame → List ℕ
spelling f = spell frame_fields (numbers_of f)

-- ---- rules

pub record IsSession (session : ℕ) : Type 0 where
  pub low : 1 ≤ session
  pub high : session < 2 ^ 32

-- a width or a height of a canvas
pub record IsSide (n : ℕ) : Type 0 where
  pub low : 1 ≤ n
  pub high : n ≤ 4096

-- a window has its first end below its second one
pub record IsWindow (t0 t1 : ℤ) : Type 0 where
  pub from : IsTime t0
  pub to : IsTime t1
  pub forward : t0 <ℤ t1

-- a range of values
pub record IsRange (lo hi : ℤ) : Type 0 where
  pub low : IsValue lo
  pub high : IsValue hi
  pub ordered : lo ≤ℤ hi

-- start, step and number of slots of a series, the last of which stands at a time
pub record IsAxis (start : ℤ) (step slots : ℕ) : Type 0 where
  pub first : IsValue start
  pub least : 1 ≤ step
  pub most : step ≤ 2 ^ 31
  pub limit : slots ≤ MOST_SLOTS
  pub last : EndsInTime start step slots

-- The least and the greatest stored value, where one is stored; without slots none is.
pub record IsStored (slots has : ℕ) (rmin rmax : ℤ) : Type 0 where
  pub flag : has ≤ 1
  pub somewhere : has ≡ 1 → 1 ≤ slots
  pub range : IsRange rmin rmax
  pub none_least : has ≡ 0 → rmin ≡ pos 0
  pub none_greatest : has ≡ 0 → rmax ≡ pos 0

-- some half has a value, and a difference that isn't 0 stands only where both have
pub record IsCoef (c : Coef) : Type 0 where
  pub some : IsTrue (c.left || c.right)
  pub least : IsTime c.dmin
  pub greatest : IsTime c.dmax
  pub single_least : (c.left && c.right) ≡ false → c.dmin ≡ pos 0
  pub single_greatest : (c.left && c.right) ≡ false → c.dmax ≡ pos 0

-- a coefficient of the tree over so many slots
pub record FitsCoef (slots : ℕ) (e : Key × Coef) : Type 0 where
  pub key : IsNode (height slots) e.0
  pub coef : IsCoef e.1

-- falling levels, and within a level rising indices
abbrev pub Precedes : Key × Coef → Key × Coef → Type 0
Precedes a b = (b.0.level < a.0.level) ⊎ ((b.0.level ≡ a.0.level) × (a.0.index < b.0.index))

pub record FitCoefs (slots : ℕ) (coefs : List (Key × Coef)) : Type 0 where
  pub each : All (FitsCoef slots) coefs
  pub order : AllPairs Precedes coefs

-- where a view is shown
pub record FitsPlace (session series w h : ℕ) (t0 t1 : ℤ) : Type 0 where
  pub named : IsSession session
  pub known : series < 512
  pub width : IsSide w
  pub height : IsSide h
  pub window : IsWindow t0 t1

-- what is shown of it
pub record FitsSource (lo hi start : ℤ) (step slots has : ℕ) (rmin rmax : ℤ) : Type 0 where
  pub range : IsRange lo hi
  pub axis : IsAxis start step slots
  pub stored : IsStored slots has rmin rmax

-- what is so of a view's fields before its coefficients
pub record FitsViewHead (v : ViewFrame) : Type 0 where
  pub place : FitsPlace v.session v.series v.w v.h v.t0 v.t1
  pub source : FitsSource v.lo v.hi v.start v.step v.slots v.has v.rmin v.rmax
  pub most : v.count ≤ 131072

pub record FitsView (v : ViewFrame) : Type 0 where
  pub head : FitsViewHead v
  pub count : v.count ≡ length v.coefs
  pub coefs : FitCoefs v.slots v.coefs

-- the least of four values lies at or below the first and the last one, and the greatest at or above them
pub record AreOrdered (first least greatest last : ℤ) : Type 0 where
  pub least_first : least ≤ℤ first
  pub first_greatest : first ≤ℤ greatest
  pub least_last : least ≤ℤ last
  pub last_greatest : last ≤ℤ greatest

-- a row on a canvas of w columns
pub record FitsRow (w : ℕ) (r : Row) : Type 0 where
  pub column : r.column < w
  pub first : IsValue r.first
  pub least : IsValue r.least
  pub greatest : IsValue r.greatest
  pub last : IsValue r.last
  pub order : AreOrdered r.first r.least r.greatest r.last

pub record FitRows (w : ℕ) (rows : List Row) : Type 0 where
  pub each : All (FitsRow w) rows
  pub order : AreRising rows

-- what is so of the fields before the rows
pub record FitsRowsHead (r : RowsFrame) : Type 0 where
  pub session : IsSession r.session
  pub width : IsSide r.w
  pub height : IsSide r.h
  pub range : IsRange r.lo r.hi
  pub most : r.count ≤ r.w

pub record FitsRows (r : RowsFrame) : Type 0 where
  pub head : FitsRowsHead r
  pub count : r.count ≡ length r.rows
  pub rows : FitRows r.w r.rows

-- a refusal's number; it tells numbers more only where it names them
pub record FitsRefused (number a b : ℕ) : Type 0 where
  pub low : 1 ≤ number
  pub high : number ≤ SUM_TOO_LARGE
  pub first : a < 2 ^ 64
  pub second : b < 2 ^ 64
  pub no_first : names_first number ≡ false → a ≡ 0
  pub no_second : names_second number ≡ false → b ≡ 0

pub record FitsOpened (session cache : ℕ) : Type 0 where
  pub named : IsSession session
  pub low : 1 ≤ cache
  pub high : cache ≤ 131072

-- a series' scale and slots, and its least and greatest stored value
pub record FitFacts (scale : ℕ) (start : ℤ) (step slots has : ℕ) (rmin rmax : ℤ) : Type 0 where
  pub decimals : scale ≤ 9
  pub axis : IsAxis start step slots
  pub stored : IsStored slots has rmin rmax

-- what a catalog says of one series
pub record FitsListed (s : ListedSeries) : Type 0 where
  pub named : IsTrue (is_name s.name)
  pub facts : FitFacts s.scale s.start s.step s.slots s.has s.rmin s.rmax

pub record FitsCatalog (c : CatalogFrame) : Type 0 where
  pub pages : c.total < 2 ^ 32
  pub full : c.used < 2 ^ 32
  pub most : length c.series ≤ 512
  pub series : All FitsListed c.series

-- a run has a slot, begins at `from` or later, ends at the limit or before, and has at most so many values
pub record FitsRun (from limit left : ℕ) (r : Run) : Type 0 where
  pub behind : from ≤ r.first
  pub some : 1 ≤ r.count
  pub before : r.first + r.count ≤ limit
  pub room : r.count ≤ left

-- Runs of so many values together. A slot without a value stands between two of them, and no run ends
-- more than 4,096 slots behind the first slot of another one.
abbrev pub FitRuns : ℕ → ℕ → ℕ → List Run → Type 0
FitRuns from limit left [] = left ≡ 0
FitRuns from limit left (r ∷ rs) = FitsRun from limit left r
    × FitRuns (r.first + r.count + 1) (lesser limit (r.first + 4096)) (left - r.count) rs

-- the time from which to ask on is 0 where no value is left
pub record FitsValues (v : ValuesFrame) : Type 0 where
  pub known : v.series < 512
  pub next : IsTime v.next
  pub none_left : v.more ≡ false → v.next ≡ pos 0
  pub most : length v.values ≤ 4096
  pub runs : FitRuns 0 MOST_SLOTS (length v.values) v.runs
  pub values : All IsValue v.values

pub record FitsSwept (clears used : ℕ) : Type 0 where
  pub most : clears ≤ 64
  pub full : used < 2 ^ 32

abbrev pub FitsReport : Report → Type 0
FitsReport (Catalog c) = FitsCatalog c
FitsReport (Values v) = FitsValues v
FitsReport (Swept clears used more) = FitsSwept clears used

-- the fields meet their rules
abbrev pub Fits : Frame → Type 0
Fits (Done slots) = slots ≤ MOST_SLOTS
Fits (Refused number a b) = FitsRefused number a b
Fits (Opened session cache) = FitsOpened session cache
Fits (Closed session) = IsSession session
Fits (View v) = FitsView v
Fits (Rows r) = FitsRows r
Fits (Live session on) = IsSession session
Fits (frames.Report r) = FitsReport r
