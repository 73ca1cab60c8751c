-- What a request is answered by the records of a catalog, whatever the pages of the trees are.
use Rattle.std.specs.Prelude.{◌≡◌, ◌⊎◌, ◌<◌, ℕ, ℤ, List, Some, slice_get}
use Rattle.block_disk.specs.View.{Image, View, Honest}
use Rattle.chart_grid.specs.Limits.{IsWindow, IsSide, IsBadWindow, IsBadSide}
use Rattle.chart_grid.specs.declared.axis.Axis.{Axis}
use Rattle.chart_grid.specs.declared.grid.Grid.{Grid}
use Rattle.chart_service.specs.Viewing.{IsBadRange}
use Rattle.derived_chart.specs.Points.{IsShift}
use Rattle.line_raster.specs.Canvas.{Canvas}
use Rattle.page_space.specs.declared.superblock.Superblock.{Superblock}
use Rattle.pbm_writer.specs.Picture.{picture}
use Rattle.series_catalog.specs.declared.stored_series.StoredSeries.{StoredSeries}
use Rattle.series_pair.specs.Derived.{times_of}
use Rattle.series_store.specs.Asking.{LacksName}
use Rattle.store_commands.specs.Lacking.{LacksRecord}
use Rattle.store_commands.specs.Sides.{Side}
use Rattle.stored_book.specs.Damage.{IsDamagedOnWay, SaysNumbers}
use Rattle.stored_book.specs.Records.{entry}
use Rattle.stored_book.specs.Standing.{book_pages}
use Rattle.derive_command.specs.Answers.{Answering, IsGridOf}
use Rattle.derive_command.specs.declared.derive_refusal.DeriveRefusal.{DeriveRefusal}
use Rattle.derive_command.specs.declared.derive_refusal.DeriveRefusal.TheVariants.{UnknownSeries, NotOneGrid, BadWindow, BadCanvas}
use Rattle.derive_command.specs.declared.derive_refusal.DeriveRefusal.TheVariants.{BadRange, TooLarge}
use Rattle.derive_command.specs.declared.request.Request.{Request}

-- ---- what a catalog says of names

-- it has no series of a name; and two names are of series on one grid, or on no common one
pub record SaidOfNames : Type 1 where
  pub lacks : List ℕ → Type 0
  pub on_grid : List ℕ → List ℕ → Type 0
  pub off_grid : List ℕ → List ℕ → Type 0

-- the request names series on one grid, and its window, canvas and range are good
pub record IsDrawable (OnGrid : List ℕ → List ℕ → Type 0) (r : Request) : Type 0 where
  pub named : OnGrid r.first r.second
  pub grid : Grid
  pub grid_is : IsGridOf r grid

-- the text is a picture of the size that the request asks for
pub record IsPicture (OnGrid : List ℕ → List ℕ → Type 0) (r : Request) (text : List ℕ) : Type 0 where
  pub drawable : IsDrawable OnGrid r
  pub canvas : Canvas
  pub width : canvas.w ≡ r.w
  pub height : canvas.h ≡ r.h
  pub text_is : text ≡ picture canvas

-- Why a request is refused: the first of these that applies. Which sums are too large isn't told by a catalog.
abbrev pub IsRefusedBy : SaidOfNames → Request → DeriveRefusal → Type 0
IsRefusedBy c r UnknownSeries = c.lacks r.first ⊎ c.lacks r.second
IsRefusedBy c r NotOneGrid = c.off_grid r.first r.second
IsRefusedBy c r BadWindow = c.on_grid r.first r.second × IsBadWindow r.t0 r.t1
IsRefusedBy c r BadCanvas = c.on_grid r.first r.second × IsWindow r.t0 r.t1 × (IsBadSide r.w ⊎ IsBadSide r.h)
IsRefusedBy c r BadRange = c.on_grid r.first r.second × IsWindow r.t0 r.t1 × IsSide r.w × IsSide r.h × IsBadRange r.range
IsRefusedBy c r TooLarge = IsDrawable c.on_grid r

-- A page is called damaged for a request that no other reason stands against. It is so of the two names.
abbrev pub by_catalog : SaidOfNames → (List ℕ → List ℕ → ℕ → Type 0) → Answering
by_catalog c IsDamaged = record {
  answers = IsPicture c.on_grid;
  refuses = IsRefusedBy c;
  damages = λ r page. IsDrawable c.on_grid r × IsDamaged r.first r.second page;
}

-- ---- two records

-- the times of the slots of a series, as the record of this id tells them
abbrev pub times_at : Image → ℕ → Axis
times_at image id = record { start = (entry image id).start; step = (entry image id).step; slots = (entry image id).slots }

abbrev pub AreOnGrid : Axis → Axis → Type 0
AreOnGrid one other = (d : ℤ) × IsShift one other d

abbrev pub AreOffGrid : Axis → Axis → Type 0
AreOffGrid one other = (d : ℤ) → IsShift one other d → ⊥

-- series of the catalog have these names, and their times are so
pub record HasTwoIn (AreSo : Axis → Axis → Type 0) (catalog : List StoredSeries) (first second : List ℕ) : Type 0 where
  pub x : ℕ
  pub y : ℕ
  pub one : StoredSeries
  pub other : StoredSeries
  pub x_at : slice_get catalog x ≡ Some one
  pub y_at : slice_get catalog y ≡ Some other
  pub x_named : one.name ≡ first
  pub y_named : other.name ≡ second
  pub so : AreSo (times_of one) (times_of other)

-- records that page 0 counts have these names, and the times that they tell are so
pub record HasTwo (AreSo : Axis → Axis → Type 0) (image : Image) (first second : List ℕ) (s : Superblock) : Type 0 where
  pub x : ℕ
  pub y : ℕ
  pub x_there : x < s.series
  pub y_there : y < s.series
  pub x_named : (entry image x).name ≡ first
  pub y_named : (entry image y).name ≡ second
  pub so : AreSo (times_at image x) (times_at image y)

-- the page is damaged on the way to a key of the tree that the record of one of these names names
pub record IsDamagedOf (image : Image) (first second : List ℕ) (page : ℕ) (s : Superblock) : Type 0 where
  pub low : page < s.total
  pub on_way : IsDamagedOnWay image s page
  pub named : ((entry image on_way.id).name ≡ first) ⊎ ((entry image on_way.id).name ≡ second)

abbrev pub IsBadOf : ℕ → Image → List ℕ → List ℕ → ℕ → Type 0
IsBadOf count image first second page = SaysNumbers count image (IsDamagedOf image first second page)

-- ---- catalogs

-- the one that was read
abbrev pub in_memory : List StoredSeries → SaidOfNames
in_memory catalog = record { lacks = LacksName catalog; on_grid = HasTwoIn AreOnGrid catalog; off_grid = HasTwoIn AreOffGrid catalog }

-- over these pages, which are as they are told where reads give so
abbrev pub by_memory : List StoredSeries → Side → Answering
by_memory catalog at =
    by_catalog (in_memory catalog) (λ first second page. (page < at.total)
    × (at.told → IsBadOf at.view.size at.view.image first second page))

-- what page 0 and the records of a disk say, where reads give what a crash may leave
abbrev pub SaysTwo : (Axis → Axis → Type 0) → ℕ → View → List ℕ → List ℕ → Type 0
SaysTwo AreSo count disk first second =
    Honest disk → SaysNumbers count (book_pages count disk.image) (HasTwo AreSo (book_pages count disk.image) first second)

abbrev pub on_disk : ℕ → View → SaidOfNames
on_disk count disk = record {
  lacks = LacksRecord count disk;
  on_grid = SaysTwo AreOnGrid count disk;
  off_grid = SaysTwo AreOffGrid count disk;
}

-- over the pages of the disk, which are so many
abbrev pub by_disk : ℕ → View → Answering
by_disk count disk =
    by_catalog (on_disk count disk) (λ first second page. (page < count)
    × (Honest disk → IsBadOf count (book_pages count disk.image) first second page))
